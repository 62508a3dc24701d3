-- What a name is.
use Rattle.std.specs.Prelude.{ℕ, Bool, false, ◌||◌, ◌&&◌, ◌==◌, nat_le, List, [], ◌∷◌}
use Rattle.std.specs.List.{list_all}

-- an ASCII letter
abbrev pub is_letter : ℕ → Bool
is_letter c = (nat_le 65 c && nat_le c 90) || (nat_le 97 c && nat_le c 122)

-- a name begins with an ASCII letter or `_`
abbrev pub starts_name : ℕ → Bool
starts_name c = (c == 95) || is_letter c

-- after its first byte a name has ASCII letters, digits, `_` and `-`
abbrev pub continues_name : ℕ → Bool
continues_name c = starts_name c || (nat_le 48 c && nat_le c 57) || (c == 45)

-- a text that is a name
abbrev pub is_name : List ℕ → Bool
is_name [] = false
is_name (c ∷ cs) = starts_name c && list_all continues_name cs
