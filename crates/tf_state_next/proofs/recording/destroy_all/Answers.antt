use Rattle.std.proofs.Common.{◌≡◌, ◌∷◌, ◌++◌, List, [], map, sym, ap, subst, ◌∙◌, arith}
use Rattle.std.proofs.lemmas.List.{map-append}
use Rattle.tf_state_next.proofs.Changing.{empty}
use Rattle.tf_state_next.proofs.OneByOne.{destroyed_joined, none_destroyed}
use Rattle.tf_state_next.proofs.Pending.{pending_fewer}
use Rattle.tf_state_next.specs.Events.{destroy_of, object_of}
use Rattle.tf_state_next.specs.Recorded.{AreDestroyed}
use Rattle.tf_state_next.specs.declared.events.Destroy.{Destroy}
use Rattle.tf_state_data.specs.Resource.{resource_of}
use Rattle.tf_state_next.proofs.recording.destroy_all.Goals as goal

pub loop-event-preserved : goal.loop-event-preserved
loop-event-preserved c =
    let all : map destroy_of c.loop-event.destroys.items ≡ map destroy_of c.pop.new.self.items ++ destroy_of c.in-Some.event ∷ [] =
    ap (map destroy_of) c.in-Some.ensures.items ∙ map-append destroy_of c.pop.new.self.items (c.in-Some.event ∷ []) in
    pending_fewer AreDestroyed object_of (map destroy_of c.pop.new.self.items) (destroy_of c.in-Some.event) (map destroy_of c.loop-event.destroys.items) (map destroy_of c.args.destroys.items)
    c.loop-event.resources c.destroy.new.resources c.args.resources.now destroyed_joined all c.destroy.ensures.recorded c.destroy.ensures.recorded.heads c.destroy.ensures.room c.loop-event.invariant

-- none is left
pub returns-clause-recorded : goal.returns-clause-recorded
returns-clause-recorded c =
    let none : c.loop-event.destroys.items ≡ [] = empty c.loop-event.destroys.items (omega (arith, c.in_default.ensures.cases)) in
    let now = map resource_of c.loop-event.resources in
    c.loop-event.invariant.recorded now (subst (λ (ds : List Destroy). AreDestroyed (map destroy_of ds) now now) (sym none) (none_destroyed now))
