-- How a text is written between quotes in DOT.
use Rattle.std.specs.Prelude.{◌==◌, ℕ, if◌then◌else◌, List, [], ◌∷◌, chars, codes}
use Rattle.std.specs.List.{flat_map}
use Rattle.std.specs.Str.{encode_utf8_all}

-- A quote would end the text, and a backslash would change what comes after it, so each is written with a backslash
-- before it. An ampersand would begin an HTML entity, and is written as the entity `&amp;`.
abbrev pub escaped_char : ℕ → List ℕ
escaped_char c =
    if c == 34 then 92 ∷ 34 ∷ []
    else (if c == 92 then 92 ∷ 92 ∷ [] else (if c == 38 then codes "&amp;" else c ∷ []))

abbrev pub escaped_chars : List ℕ → List ℕ
escaped_chars cs = flat_map escaped_char cs

-- a text, escaped character by character
abbrev pub escaped : List ℕ → List ℕ
escaped text = encode_utf8_all (escaped_chars (chars text))
