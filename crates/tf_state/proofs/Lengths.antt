-- As many items and members are sent as a list or a map has.
use Rattle.std.proofs.Common.{◌≡◌, suc, List, [], ◌∷◌, String, Global, length, map, refl, ap}
use Rattle.serde_json.specs.Data.{Data}
use Rattle.serde_json.specs.Events.{items_len, members_len}
use Rattle.serde_json.specs.View.{items_of as json_items_of}
use Rattle.tf_state_data.specs.State.{outputs_of}
use Rattle.tf_state_data.specs.declared.object.Object.{Object}
use Rattle.tf_state.specs.Text.{outputs_data}
use Rattle.tf_state.specs.Types.{item_types, entry_types}
use Rattle.tf_value_data.specs.Tree.{items_view, entries_view}
use Rattle.tf_value_data.specs.declared.value.Value.{Value}
use Rattle.tf_value_data.proofs.Views.{Entry}

pub items_len-map : {A B : Type 0} (f : B → Data) (g : A → B) (xs : List A) → items_len (json_items_of (map f (map g xs))) ≡ length xs
items_len-map f g [] = refl
items_len-map f g (x ∷ xs) = ap suc (items_len-map f g xs)

pub items_len-each : {B : Type 0} (f : B → Data) (xs : List B) → items_len (json_items_of (map f xs)) ≡ length xs
items_len-each f [] = refl
items_len-each f (x ∷ xs) = ap suc (items_len-each f xs)

pub outputs_len : (es : List (String Global × Object)) → members_len (outputs_data (outputs_of es)) ≡ length es
outputs_len [] = refl
outputs_len (e ∷ es) = ap suc (outputs_len es)

pub item_types-len : (vs : List Value) → items_len (item_types (items_view vs)) ≡ length vs
item_types-len [] = refl
item_types-len (v ∷ vs) = ap suc (item_types-len vs)

pub entry_types-len : (es : List Entry) → members_len (entry_types (entries_view es)) ≡ length es
entry_types-len [] = refl
entry_types-len (e ∷ es) = ap suc (entry_types-len es)
