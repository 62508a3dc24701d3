-- What a type makes of the values of a list or a map, one by one.
use Rattle.std.proofs.Common.{◌≡◌, List, [], ◌∷◌, String, Global, map, refl, ap}
use Rattle.tf_config_data.specs.declared.variable.Element.{Element}
use Rattle.tf_value_data.proofs.Views.{shown}
use Rattle.tf_value_data.specs.Tree.{Tree, item, entry, items_of, tree_of, items_view, entries_view}
use Rattle.tf_value_data.specs.declared.value.Value.{Value}
use Rattle.tf_config_json.specs.Types.{element_as, items_as, entries_as}
use Rattle.std.specs.Prelude.{string_bytes}

abbrev pub made_of : Element → Value → Tree
made_of e v = element_as e (tree_of v)

pub items_as-each : (e : Element) (vs : List Value) → items_of (map (made_of e) vs) ≡ items_as e (items_view vs)
items_as-each e [] = refl
items_as-each e (v ∷ vs) = ap (item (made_of e v)) (items_as-each e vs)

pub entries_as-shown : (e : Element) (es : List (String Global × Value)) → shown (made_of e) es ≡ entries_as e (entries_view es)
entries_as-shown e [] = refl
entries_as-shown e (x ∷ es) = ap (entry (string_bytes x.0) (made_of e x.1)) (entries_as-shown e es)
