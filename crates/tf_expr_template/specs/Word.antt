-- The meaning of digits and names.
use Rattle.std.specs.Prelude.{ℕ, ◌+◌, ◌-◌, ◌*◌, List, [], ◌∷◌, if◌then◌else◌, codes, bytes_eq}
use Rattle.tf_expr_template.specs.declared.word.Keyword.{Keyword}
use Rattle.tf_expr_template.specs.declared.word.Keyword.TheVariants.{True, False, Null, Free}

-- the number that digits spell, after digits that spell n
abbrev pub decimal_from : ℕ → List ℕ → ℕ
decimal_from n [] = n
decimal_from n (d ∷ ds) = decimal_from (n * 10 + (d - 48)) ds

unfoldable pub decimal : List ℕ → ℕ
decimal ds = decimal_from 0 ds

-- `true`, `false` and `null` are values, and each other name is free
unfoldable pub keyword : List ℕ → Keyword
keyword w =
    if bytes_eq w (codes "true") then True
    else (if bytes_eq w (codes "false") then False else (if bytes_eq w (codes "null") then Null else Free))
