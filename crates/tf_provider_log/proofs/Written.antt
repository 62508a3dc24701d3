-- Values beside the forms that they are written as.
use Rattle.std.proofs.Common.{◌≡◌, ℕ, ◌≤◌, List, length, take, [], ◌∷◌, map as each, refl, ap, ◌∙◌}
use Rattle.std.proofs.lemmas.List.{take_all}
use Rattle.serde_json.specs.Data as json
use Rattle.serde_json.specs.View.{view, items_view as json_items, items_of as json_items_of}
use Rattle.serde_json.specs.declared.value.Value.{Value as Json}
use Rattle.tf_value_data.specs.Tree.{tree_of, items_view, entries_view}
use Rattle.tf_value_data.specs.declared.value.Value.{Value}
use Rattle.tf_value_json.proofs.JsonForms.{listed}
use Rattle.tf_value_data.proofs.Views.{Entry}
use Rattle.tf_provider_log.specs.Form.{value_form, items_form, members_form}

written_items-is : (vs : List Value) → json_items_of (each (λ v. value_form (tree_of v)) vs) ≡ items_form (items_view vs)
written_items-is [] = refl
written_items-is (v ∷ vs) = rw (written_items-is vs)

-- all items were written
pub written_all_items : (vs : List Value) (n : ℕ) (js : List Json) → length vs ≤ n → each view js ≡ each (λ v. value_form (tree_of v)) (take n vs) → json_items js ≡ items_form (items_view vs)
written_all_items vs n js all is = ap json_items_of is ∙ rw (take_all n vs all) (written_items-is vs)

-- the members that the entries of a `BTreeMap<String, Value>` are written as
abbrev pub written_members : List Entry → json.Members
written_members = listed (λ v. value_form (tree_of v))

pub written_members-is : (es : List Entry) → written_members es ≡ members_form (entries_view es)
written_members-is [] = refl
written_members-is (e ∷ es) = rw (written_members-is es)
