-- How a plan's text shows a value.
use Rattle.std.specs.Prelude.{ℕ, Bool, true, false, if◌then◌else◌, List, [], ◌∷◌, ◌++◌, codes}
use Rattle.std.specs.Fmt.{signed_decimal}
use Rattle.json.specs.Print.{quoted}
use Rattle.serde_json.specs.Written.{comma_if}
use Rattle.tf_value_data.specs.Tree.{Tree, null, boolean, whole, text, list, map, set, unknown, Items, no_items, item, Entries, no_entries, entry}

-- the texts of a set, written as those of an array
abbrev pub shown_texts : Bool → List (List ℕ) → List ℕ
shown_texts later [] = 93 ∷ []
shown_texts later (s ∷ ss) = comma_if later ++ (quoted s ++ shown_texts true ss)

-- A value's compact JSON text, with `(known after apply)` for each part that isn't known yet. The texts of items and
-- entries end with the closing bracket.
abbrev mutual
  pub shown : Tree → List ℕ
  shown null = codes "null"
  shown (boolean b) = if b then codes "true" else codes "false"
  shown (whole z) = signed_decimal z
  shown (text s) = quoted s
  shown (list ts) = 91 ∷ shown_items false ts
  shown (map es) = 123 ∷ shown_entries false es
  shown (set ss) = 91 ∷ shown_texts false ss
  shown unknown = codes "(known after apply)"

  pub shown_items : Bool → Items → List ℕ
  shown_items later no_items = 93 ∷ []
  shown_items later (item t ts) = comma_if later ++ (shown t ++ shown_items true ts)

  pub shown_entries : Bool → Entries → List ℕ
  shown_entries later no_entries = 125 ∷ []
  shown_entries later (entry k t es) = comma_if later ++ (quoted k ++ 58 ∷ (shown t ++ shown_entries true es))
