use Rattle.std.proofs.Common.{◌≡◌, List, ◌++◌, take, drop, map}
use Rattle.serde_json.specs.View.{view, members_view}
use Rattle.tf_provider_log.specs.Form.{value_form}
use Rattle.tf_value_data.specs.Tree.{AreHeld, AreHeldEntries, tree_of, items_view, entries_view}
use Rattle.tf_value_data.proofs.Views.{Entry}
use Rattle.tf_provider_log.proofs.Written.{written_members}
use Rattle.tf_provider_log.proofs.forms.+write.Given as goal

abbrev pub invariant-items_form-loop-item : goal.invariant-items_form-loop-item
invariant-items_form-loop-item l = record {
  held : AreHeld (items_view (drop l.item-index l.item-items)) → AreHeld (items_view l.item-items);
  done : map view l.array.items ≡ map (λ v. value_form (tree_of v)) (take l.item-index l.item-items);
}

abbrev pub invariant-members_form-loop-key : goal.invariant-members_form-loop-key
invariant-members_form-loop-key l = record {
  held : AreHeldEntries (entries_view l.key-iterator) → AreHeldEntries (entries_view l.entries.entries);
  done : (done : List Entry) × (l.entries.entries ≡ done ++ l.key-iterator) × (members_view l.object.entries ≡ written_members done);
}
