-- Literal text of templates, piece by piece.
use Rattle.std.specs.Prelude.{◌≡◌, ℕ, if◌then◌else◌, ◌&&◌, ◌==◌, List, [], ◌∷◌, ◌++◌, Bool, drop, slice_index}

-- A piece of a literal: the bytes that it means, and what follows them; or the beginning of an interpolation, and
-- what follows it; or the end of the template, and what follows it; or text that is not allowed here.
pub data Piece : Type 0 where
  stands : List ℕ → List ℕ → Piece
  opens : List ℕ → Piece
  closes : List ℕ → Piece
  wrong : Piece

-- the escape of a backslash and the byte c, before s
unfoldable pub escape : ℕ → List ℕ → Piece
escape c s =
    if c == 34 then stands (34 ∷ []) s
    else (if c == 92 then stands (92 ∷ []) s
    else (if c == 110 then stands (10 ∷ []) s
    else (if c == 114 then stands (13 ∷ []) s
    else (if c == 116 then stands (9 ∷ []) s
    else wrong))))

-- the piece that begins with the byte b, before s
unfoldable pub begun : Bool → ℕ → List ℕ → Piece
begun quoted b s =
    if b == 36 then
    (if slice_index s 0 == 123 then opens (drop 1 s)
    else (if (slice_index s 0 == 36) && (slice_index s 1 == 123) then stands (36 ∷ 123 ∷ []) (drop 2 s) else stands (36 ∷ []) s))
    else (if b == 37 then
    (if slice_index s 0 == 123 then wrong
    else (if (slice_index s 0 == 37) && (slice_index s 1 == 123) then stands (37 ∷ 123 ∷ []) (drop 2 s) else stands (37 ∷ []) s))
    else (if quoted && (b == 34) then closes s
    else (if quoted && (b == 92) then escape (slice_index s 0) (drop 1 s)
    else (if quoted && (b == 10) then wrong
    else stands (b ∷ []) s))))

-- The piece at the front of a text, within quotes or not: `$${` means `${`, `${` opens an interpolation, `%%{` means
-- `%{`, and `%{` is not allowed. Within quotes a quote ends the template, a backslash begins an escape, and a line
-- feed and the end of the text are not allowed. Each other byte means itself. Past the end of the text a byte counts
-- as 0.
abbrev pub piece : Bool → List ℕ → Piece
piece quoted [] = if quoted then wrong else closes []
piece quoted (b ∷ s) = begun quoted b s

-- The text at the front of s means these bytes, and p follows. It may end at any piece.
pub data Literal (quoted : Bool) : List ℕ → List ℕ → List ℕ → Type 0 where
  nothing : {s : List ℕ} → Literal quoted [] s s
  more : {bytes text s r p : List ℕ} → piece quoted s ≡ stands bytes r → Literal quoted text r p → Literal quoted (bytes ++ text) s p
