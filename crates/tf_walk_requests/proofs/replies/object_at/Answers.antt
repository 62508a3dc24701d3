-- the object in the entry at the place, if there is one
use Rattle.std.proofs.Common.{◌≡◌, ◌∙◌, ap, map, subst, sym}
use Rattle.std.specs.Prelude.{IfOk}
use Rattle.tf_provider_log.specs.LogEntry.{log_entry_of}
use Rattle.tf_value_data.specs.Tree.{Tree, tree_of}
use Rattle.tf_walk_action.proofs.Calling.{slice_get-map}
use Rattle.tf_walk_requests.proofs.Finding.{past}
use Rattle.tf_walk_requests.specs.Stages.{object_in}
use Rattle.tf_walk_requests.proofs.replies.object_at.Goals as goal

pub returns-then-place-entries : goal.returns-then-place-entries
returns-then-place-entries c = c.no_object.ensures ∙ sym (ap object_in (past log_entry_of c.args.entries.now c.args.place c.if-place-entries.true))

pub returns-in-Answered : goal.returns-in-Answered
returns-in-Answered c =
    let at = slice_get-map log_entry_of c.args.entries.now c.args.place c.index-entries-place.result c.if-place-entries.false c.index-entries-place.is in
    subst (λ (t : Tree). IfOk c.object_of.result (λ value. tree_of value ≡ t)) (sym (ap object_in (rw c.in-Answered.is at at))) c.object_of.ensures

pub returns-in-Begun : goal.returns-in-Begun
returns-in-Begun c =
    let at = slice_get-map log_entry_of c.args.entries.now c.args.place c.index-entries-place.result c.if-place-entries.false c.index-entries-place.is in
    c.no_object-in-Begun.ensures ∙ sym (ap object_in (rw c.in-Begun.is at at))
