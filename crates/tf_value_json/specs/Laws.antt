-- Laws of all values and their JSON forms.
use Rattle.std.specs.Prelude.{◌≡◌, ◌↔◌, true, Some, None}
use Rattle.serde_json.specs.Data.{Data}
use Rattle.tf_value_data.specs.Tree.{Tree, IsHeld}
use Rattle.tf_value_data.specs.Known.{known}
use Rattle.tf_value_data.specs.Sets.{has_no_set, with_lists}
use Rattle.tf_value_json.specs.Json.{IsJson, value_data, value_from}

-- A value has at most one JSON form.
abbrev pub FormIsOne : Type 0
FormIsOne = (t : Tree) (d e : Data) → IsJson t d → IsJson t e → d ≡ e

-- A JSON tree is the form of at most one value without sets.
abbrev pub ValueOfFormIsOne : Type 0
ValueOfFormIsOne = (t u : Tree) (d : Data) → has_no_set t ≡ true → has_no_set u ≡ true → IsJson t d → IsJson u d → t ≡ u

-- A value with a JSON form is known.
abbrev pub FormedIsKnown : Type 0
FormedIsKnown = (t : Tree) (d : Data) → IsJson t d → known t ≡ true

-- A known value has a JSON form, `value_data` of it.
abbrev pub KnownHasForm : Type 0
KnownHasForm = (t : Tree) → IsHeld t → known t ≡ true → IsJson t (value_data t)

-- `value_from` returns the value without sets whose form a JSON tree is.
abbrev pub ReadsForms : Type 0
ReadsForms = (t : Tree) (d : Data) → (value_from d ≡ Some t) ↔ (IsJson t d × (has_no_set t ≡ true))

-- `value_from` returns `None` exactly if a JSON tree is no value's form.
abbrev pub ReadsFormsAlone : Type 0
ReadsFormsAlone = (d : Data) → (value_from d ≡ None) ↔ ((t : Tree) → ¬ IsJson t d)

-- The JSON form of a known value reads as that value, with a list for each set.
abbrev pub FormReadsBack : Type 0
FormReadsBack = (t : Tree) → IsHeld t → known t ≡ true → value_from (value_data t) ≡ Some (with_lists t)

-- A list in place of a set doesn't change the JSON form.
abbrev pub ListsHaveTheForm : Type 0
ListsHaveTheForm = (t : Tree) → value_data (with_lists t) ≡ value_data t
