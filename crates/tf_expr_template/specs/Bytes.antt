-- Kinds of bytes.
use Rattle.std.specs.Prelude.{ℕ, Bool, not, ◌||◌, ◌&&◌, ◌==◌, nat_le}

-- what may be between tokens: spaces, tabs, line feeds and carriage returns
abbrev pub is_space : ℕ → Bool
is_space b = (b == 32) || (b == 9) || (b == 10) || (b == 13)

abbrev pub is_digit : ℕ → Bool
is_digit b = nat_le 48 b && nat_le b 57

-- a byte that means itself in each literal, whatever follows: not `$`, `%`, `"`, `\` or a line feed
abbrev pub is_plain : ℕ → Bool
is_plain b = not ((b == 36) || (b == 37) || (b == 34) || (b == 92) || (b == 10))
