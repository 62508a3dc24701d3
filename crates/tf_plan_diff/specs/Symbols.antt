-- The symbols of changes, with colours or without.
use Rattle.std.specs.Prelude.{ℕ, List, [], ◌∷◌, ◌++◌, codes}
use Rattle.tf_plan_changes.specs.Changes.{KindView, create_it, update_it, replace_it, replace_late, destroy_it}
use Rattle.tf_plan_diff.specs.declared.headings.Colours.{Colours}
use Rattle.tf_plan_diff.specs.declared.headings.Colours.TheVariants.{Plain, Ansi}

-- `+/-` if the new object is created before the old one is destroyed
abbrev pub plain_symbol : KindView → List ℕ
plain_symbol create_it = codes "+"
plain_symbol update_it = codes "~"
plain_symbol (replace_it names) = codes "-/+"
plain_symbol (replace_late names) = codes "+/-"
plain_symbol destroy_it = codes "-"

-- a text between the escape sequences that begin a colour, by its digits, and end it
abbrev pub painted : List ℕ → List ℕ → List ℕ
painted digits text = 27 ∷ (codes "[" ++ digits ++ codes "m" ++ text ++ 27 ∷ codes "[0m")

abbrev pub green_plus : List ℕ
green_plus = painted (codes "32") (codes "+")

abbrev pub red_minus : List ℕ
red_minus = painted (codes "31") (codes "-")

-- a created object is green, a changed one yellow, a destroyed one red
abbrev pub ansi_symbol : KindView → List ℕ
ansi_symbol create_it = green_plus
ansi_symbol update_it = painted (codes "33") (codes "~")
ansi_symbol (replace_it names) = red_minus ++ codes "/" ++ green_plus
ansi_symbol (replace_late names) = green_plus ++ codes "/" ++ red_minus
ansi_symbol destroy_it = red_minus

abbrev pub symbol : Colours → KindView → List ℕ
symbol Plain kind = plain_symbol kind
symbol Ansi kind = ansi_symbol kind
