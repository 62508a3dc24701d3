use Rattle.std.proofs.Common.{◌≡◌, ◌++◌, ◌∷◌, ◌∙◌, sym, ap, ap₂, subst, map, arith}
use Rattle.std.specs.List.{AllByRecursion}
use Rattle.std.specs.Vec.Iter.{into_iter_items}
use Rattle.tf_state_next.specs.Events.{apply_of, destroy_of}
use Rattle.tf_walk_action.specs.ResultViews.{result_or_skipped, action_results_of}
use Rattle.tf_walk_report.specs.ActionReport.{AreJudged, told_in}
use Rattle.tf_walk_report.specs.Change.{MayBeStored, applies_in, change_at, changes_in, destroys_in}
use Rattle.tf_walk_report.specs.Diagnostics.{diagnostic_of, diagnostics_at}
use Rattle.tf_walk_buffers.specs.BuffersHead.{buffers_head}
use Rattle.tf_walk_report.proofs.Gathered.{applies-more, destroys-more, told-more, paired-more, one-less, one-more}
use Rattle.tf_walk_report.proofs.additions.report_actions.Goals as goal

pub loop-room-preserved : goal.loop-room-preserved
loop-room-preserved g c =
    let ms = map (λ b. (goal.Provider-dyn g (b.vtable, b.value)).meaning b.value) c.args.providers.now in
    let old = c.loop-room in
    let rooms = into_iter_items c.next.new.self in
    let results = into_iter_items c.next-in-loop-room.new.self in
    let steps = rw c.in-Some.is at c.next.ensures.steps in
    let rooms_are : into_iter_items old.room-iterator ≡ c.in-Some.room ∷ rooms = steps.0 in
    let results_are : into_iter_items old.ends ≡ c.in-Some-next.ended ∷ results = c.in-Some-next.ensures.items in
    let h = buffers_head c.in-Some.room in
    let d = result_or_skipped c.in-Some-next.ended in
    let left = changes_in ms (map buffers_head rooms) (action_results_of results) in
    let reported = c.report_action-diagnostic.ensures in
    let diagnostic = c.report_action-diagnostic.result in
    let judged : AreJudged ms (map (λ x. x.op) (map buffers_head (c.in-Some.room ∷ rooms))) (action_results_of (c.in-Some-next.ended ∷ results)) =
    subst (λ xs. AreJudged ms (map (λ x. x.op) (map buffers_head xs)) (action_results_of (c.in-Some-next.ended ∷ results))) rooms_are
    (subst (λ ys. AreJudged ms (map (λ x. x.op) (map buffers_head (into_iter_items old.room-iterator))) (action_results_of ys)) results_are old.invariant.judged) in
    let fewer = one-less (into_iter_items old.ends) results c.in-Some-next.ended results_are in
    let diagnostics = one-more old.diagnostics.items c.add.new.items.items diagnostic c.add.ensures.items in
    record {
      judged = judged.1;
      paired = paired-more (into_iter_items old.room-iterator) rooms (into_iter_items old.ends) results c.in-Some.room c.in-Some-next.ended rooms_are results_are old.invariant.paired;
      applies =
          ap (λ xs. xs ++ applies_in left) reported.added.applies
          ∙ (applies-more (map apply_of old.events.applies.items) (change_at ms h d) left
          ∙ (sym (ap₂ (λ xs ys. map apply_of old.events.applies.items ++ applies_in (changes_in ms (map buffers_head xs) (action_results_of ys))) rooms_are results_are) ∙ old.invariant.applies));
      destroys =
          ap (λ xs. xs ++ destroys_in left) reported.added.destroys
          ∙ (destroys-more (map destroy_of old.events.destroys.items) (change_at ms h d) left
          ∙ (sym (ap₂ (λ xs ys. map destroy_of old.events.destroys.items ++ destroys_in (changes_in ms (map buffers_head xs) (action_results_of ys))) rooms_are results_are) ∙ old.invariant.destroys));
      metadata_updates = reported.added.metadata_updates ∙ old.invariant.metadata_updates;
      tells =
          ap (λ xs. map diagnostic_of xs ++ told_in (map buffers_head rooms) (action_results_of results)) c.add.ensures.items
          ∙ (told-more old.diagnostics.items diagnostic (diagnostics_at h.place h.op d) (told_in (map buffers_head rooms) (action_results_of results)) reported.told
          ∙ (sym (ap₂ (λ xs ys. map diagnostic_of old.diagnostics.items ++ told_in (map buffers_head xs) (action_results_of ys)) rooms_are results_are) ∙ old.invariant.tells));
      room_for_applies = omega (arith, fewer, reported.added.few_applies, old.invariant.room_for_applies, reported.added.applies_room);
      room_for_destroys = omega (arith, fewer, reported.added.few_destroys, old.invariant.room_for_destroys, reported.added.destroys_room);
      room_for_diagnostics = omega (arith, fewer, diagnostics, old.invariant.room_for_diagnostics, c.add.ensures.capacity);
      capacity = omega (arith, old.invariant.capacity, c.add.ensures.capacity);
      stored = λ rest.
          old.invariant.stored
          (subst (λ xs. AllByRecursion MayBeStored (changes_in ms (map buffers_head xs) (action_results_of (into_iter_items old.ends)))) (sym rooms_are)
          (subst (λ ys. AllByRecursion MayBeStored (changes_in ms (map buffers_head (c.in-Some.room ∷ rooms)) (action_results_of ys))) (sym results_are) (reported.stored, rest)));
      few = omega (arith, fewer, diagnostics, old.invariant.few);
    }
