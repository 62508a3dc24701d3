use Rattle.std.proofs.Common.{List, length, map, sym, ap, ◌∙◌, subst}
use Rattle.tf_state_next.proofs.Changing.{written}
use Rattle.tf_state_next.specs.Events.{events_of}
use Rattle.tf_state_next.specs.Recorded.{IsRecorded}
use Rattle.tf_state_data.specs.Resource.{resource_of}
use Rattle.tf_state_data.specs.declared.resource.Resource.{Resource}
use Rattle.tf_state_next.proofs.whole.recorded.Goals as goal

pub returns : goal.returns
returns c =
    let first = c.deref_mut.ensures.value in
    let last = written c.args.resources.items c.record_all.new.resources c.args.resources.len (c.record_all.auto.resources ∙ ap length first) c.args.resources.ok.0 in
    subst (λ (rs : List Resource). IsRecorded (events_of c.args.events) (map resource_of c.args.resources.items) (map resource_of rs)) (sym last)
    (subst (λ (rs : List Resource). IsRecorded (events_of c.args.events) (map resource_of rs) (map resource_of c.record_all.new.resources)) first c.record_all.ensures)
