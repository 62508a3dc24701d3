-- Texts without characters that change how a terminal shows other text.
use Rattle.std.specs.Prelude.{ℕ, Bool, ◌&&◌, ◌||◌, ◌==◌, ◌+◌, ◌/◌, ◌%◌, nat_le, nat_lt, if◌then◌else◌, List, [], ◌∷◌, ◌++◌, chars, codes}
use Rattle.std.specs.List.{flat_map}
use Rattle.std.specs.Str.{encode_utf8_all}

abbrev pub is_between : ℕ → ℕ → ℕ → Bool
is_between low high c = nat_le low c && nat_le c high

-- a control character: below U+0020, or U+007F to U+009F
abbrev pub is_control : ℕ → Bool
is_control c = nat_le c 31 || is_between 127 159 c

-- a mark that sets the direction of text: U+061C, U+200E, U+200F, U+202A to U+202E, or U+2066 to U+2069
abbrev pub is_mark : ℕ → Bool
is_mark c = (c == 1564) || (is_between 8206 8207 c || (is_between 8234 8238 c || is_between 8294 8297 c))

abbrev pub is_unsafe : ℕ → Bool
is_unsafe c = is_control c || is_mark c

abbrev pub hex_digit : ℕ → ℕ
hex_digit n = if nat_lt n 10 then 48 + n else 87 + n

-- `\u` and the four hexadecimal digits of a code
abbrev pub escape_of : ℕ → List ℕ
escape_of c = 92 ∷ 117 ∷ hex_digit (c / 4096 % 16) ∷ hex_digit (c / 256 % 16) ∷ hex_digit (c / 16 % 16) ∷ hex_digit (c % 16) ∷ []

abbrev pub safe_char : ℕ → List ℕ
safe_char c = if is_unsafe c then escape_of c else c ∷ []

abbrev pub safe_chars : List ℕ → List ℕ
safe_chars cs = flat_map safe_char cs

-- a text, escaped character by character
abbrev pub safe : List ℕ → List ℕ
safe text = encode_utf8_all (safe_chars (chars text))

abbrev pub line : List ℕ → List ℕ
line text = safe text ++ 10 ∷ []
