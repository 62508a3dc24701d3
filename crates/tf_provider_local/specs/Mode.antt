-- Permissions, named by a text.
use Rattle.std.specs.Prelude.{ℕ, ◌+◌, ◌-◌, ◌*◌, Bool, ◌&&◌, nat_le, nat_eq, List, [], ◌∷◌, Option, Some, None, if◌then◌else◌}

-- the digits 0 to 7
abbrev pub is_octal : ℕ → Bool
is_octal byte = nat_le 48 byte && nat_le byte 55

-- the bits that three octal digits name: the owner's, the group's and the others'
abbrev pub mode_by : ℕ → ℕ → ℕ → Option ℕ
mode_by owner group others =
    if is_octal owner && is_octal group && is_octal others then Some ((owner - 48) * 64 + (group - 48) * 8 + (others - 48)) else None

-- A text names permissions by three octal digits, with or without a 0 before them.
abbrev pub mode_of : List ℕ → Option ℕ
mode_of (owner ∷ group ∷ others ∷ []) = mode_by owner group others
mode_of (first ∷ owner ∷ group ∷ others ∷ []) = if nat_eq first 48 then mode_by owner group others else None
mode_of _ = None
