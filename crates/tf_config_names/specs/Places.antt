-- The places of names, by the two texts around their dots.
use Rattle.std.specs.Prelude.{ℕ, Bool, Option, None, Some, option_and_then, if◌then◌else◌, List, [], ◌∷◌, map, string_bytes, String}
use Rattle.std.specs.Str.{bytes_eq}
use Rattle.tf_expr_syntax.specs.TemplateNames.{Pair}
use Rattle.std.specs.BTreeMap.{BTreeMap, get_by_text}
use Rattle.std.specs.declared.alloc.Global.{Global}

-- the entry under a text, the first if there is more than one
abbrev pub under : {A : Type 0} → List (List ℕ × A) → List ℕ → Option A
under [] text = None
under (e ∷ es) text = if bytes_eq text e.0 then Some e.1 else under es text

-- the places of names: under the text before the dot, and then under the one after it
abbrev pub PlacesView : Type 0
PlacesView = List (List ℕ × List (List ℕ × ℕ))

-- the place of a name, or `None` if it has no place
abbrev pub found_in : PlacesView → Pair → Option ℕ
found_in places pair = option_and_then (λ names. under names pair.1) (under places pair.0)

-- the entries of a map of maps as plain data
abbrev pub places_view : List (String Global × BTreeMap (String Global) ℕ) → PlacesView
places_view entries = map (λ e. (string_bytes e.0, map (λ f. (string_bytes f.0, f.1)) e.1.entries)) entries

-- the place of a name in a map of maps, or `None` if it has no place
abbrev pub found_in_maps : BTreeMap (String Global) (BTreeMap (String Global) ℕ) → Pair → Option ℕ
found_in_maps by_first pair = option_and_then (λ names. get_by_text names pair.1) (get_by_text by_first pair.0)
