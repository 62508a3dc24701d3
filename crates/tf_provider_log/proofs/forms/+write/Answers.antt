use Rattle.std.proofs.Common.{◌≡◌, List, [], ◌∷◌, ◌++◌, string_bytes, sym, ap, ◌∙◌, subst, append_assoc}
use Rattle.std.proofs.lemmas.List.{append-nil}
use Rattle.std.specs.List.Sorted.{IsStrictlySortedBy}
use Rattle.std.specs.Map.{keys_of}
use Rattle.std.specs.String.{string_cmp}
use Rattle.serde_json.specs.View.{members_view}
use Rattle.serde_json.proofs.Views.{members_view-insert_entry}
use Rattle.tf_value_data.specs.Tree.{AreHeldEntries, tree_of, entries_view}
use Rattle.tf_value_data.proofs.Views.{Entry}
use Rattle.tf_value_json.proofs.JsonForms.{put_last}
use Rattle.tf_provider_log.specs.Form.{value_form}
use Rattle.tf_provider_log.proofs.Written.{written_members, written_members-is, written_all_items}
use Rattle.tf_provider_log.proofs.forms.+write.Goals as goal

pub members_form-loop-key-preserved : goal.members_form-loop-key-preserved
members_form-loop-key-preserved t c =
    let l = c.loop-key in
    let inv = l.invariant.done in
    let done = inv.0 in
    let e : Entry = (c.in-Some.key.now, c.in-Some.value.now) in
    let left = c.next.new.self in
    let all : c.args.entries.now.entries ≡ done ++ e ∷ left = inv.1 ∙ ap (λ es. done ++ es) c.in-Some.ensures.steps in
    let last = put_last (λ v. value_form (tree_of v)) done e left (subst (λ es. IsStrictlySortedBy string_cmp (keys_of es)) all c.iter-key-items.ensures.ordered) in
    let named : string_bytes c.in_ok-name.name ≡ string_bytes e.0 = c.in_ok-name.ensures.cases in
    let next : (now : List Entry) × (c.args.entries.now.entries ≡ now ++ left) × (members_view c.insert.new.self.entries ≡ written_members now) = (
      done ++ e ∷ [],
      all ∙ sym (append_assoc done (e ∷ []) left),
      ap members_view c.in_ok-insert.ensures.entries ∙ members_view-insert_entry l.object.entries c.in_ok-name.name c.in_ok-value_form.field-0 ∙ rw (named, c.in_ok-value_form.ensures.value, inv.2) last,
    ) in record {
      held = λ h. l.invariant.held (subst (λ es. AreHeldEntries (entries_view es)) (sym c.in-Some.ensures.steps) (c.in_ok-value_form.ensures.held, h));
      done = next;
    }

pub members_form-returns-clause-value : goal.members_form-returns-clause-value
members_form-returns-clause-value t c =
    let l = c.loop-key in
    let inv = l.invariant.done in
    let done = inv.0 in
    let all : c.args.entries.now.entries ≡ done = inv.1 ∙ ap (λ es. done ++ es) c.in-None.ensures.steps.0 ∙ append-nil done in
    inv.2 ∙ rw (← all) (written_members-is c.args.entries.now.entries)

pub items_form-returns-clause-value : goal.items_form-returns-clause-value
items_form-returns-clause-value t c =
    written_all_items c.args.items.now.items c.loop-item.item-index _ (rw (← c.deref-item-items.ensures.value) c.loop-item-test.false) (rw (← c.deref-item-items.ensures.value) c.loop-item.invariant.done)
