use Rattle.std.proofs.Common.{◌≡◌, true, Ok, refl, ap, ◌∙◌}
use Rattle.tf_value_data.specs.Tree.{tree_of, entries_view, put}
use Rattle.tf_value_data.specs.Stored.{may_be_planned}
use Rattle.tf_value_data.proofs.Views.{entries_view-insert_entry}
use Rattle.tf_plan_object.proofs.Within.{put_within}
use Rattle.tf_plan_object.proofs.object.add_value.Goals as goal

pub returns-in_ok-insert-in-Ok-clause-adds : goal.returns-in_ok-insert-in-Ok-clause-adds
returns-in_ok-insert-in-Ok-clause-adds c = λ planned h.
    let is : planned ≡ Ok (tree_of c.in-Ok.value) = rw c.in-Ok.is at h in
    let old = c.args.tried.object.entries in
    let inserted : entries_view c.insert.new.self.entries ≡ put c.args.name.now (tree_of c.in-Ok.value) (entries_view old) =
    ap entries_view c.in_ok-insert-in-Ok.ensures.entries
    ∙ (entries_view-insert_entry old c.in_ok-from_str-in-Ok.field-0 c.in-Ok.value ∙ ap (λ k. put k (tree_of c.in-Ok.value) (entries_view old)) c.in_ok-from_str-in-Ok.ensures.ok) in
    rw is (inserted, refl)

pub returns-in_ok-insert-in-Ok-clause-within : goal.returns-in_ok-insert-in-Ok-clause-within
returns-in_ok-insert-in-Ok-clause-within c = λ h g.
    let old = c.args.tried.object.entries in
    let value : may_be_planned (tree_of c.in-Ok.value) ≡ true = rw c.in-Ok.is at h in
    let inserted : entries_view c.insert.new.self.entries ≡ put c.args.name.now (tree_of c.in-Ok.value) (entries_view old) =
    ap entries_view c.in_ok-insert-in-Ok.ensures.entries
    ∙ (entries_view-insert_entry old c.in_ok-from_str-in-Ok.field-0 c.in-Ok.value ∙ ap (λ k. put k (tree_of c.in-Ok.value) (entries_view old)) c.in_ok-from_str-in-Ok.ensures.ok) in
    rw inserted (put_within c.args.name.now (tree_of c.in-Ok.value) (entries_view old) value g)
