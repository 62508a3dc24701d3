-- The bytes that JSON writes as they are.
use Rattle.std.specs.Prelude.{ℕ, Bool, not, ◌&&◌, ◌==◌, nat_le}

-- a byte is written as it is between quotes: it isn't a control character, a quote or a backslash
abbrev pub is_plain : ℕ → Bool
is_plain byte = nat_le 32 byte && (not (byte == 34) && not (byte == 92))
