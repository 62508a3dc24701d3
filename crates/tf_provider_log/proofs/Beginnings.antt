-- A log that was cut reads as what stands whole in it.
use Rattle.std.proofs.Common.{◌≡◌, ◌++◌, ◌+◌, ◌<◌, ◌≤◌, ◌⊎◌, inl, inr, ℕ, suc, List, ◌∷◌, [], length, take, Some, All, refl, sym, ap, subst, ◌∙◌, append_assoc, append-nil, length-append, arith}
use Rattle.std.proofs.lemmas.Bool.{cases_lt}
use Rattle.std.proofs.lemmas.List.Elements.{All-head, All-tail, All-cons}
use Rattle.std.specs.Prelude.{Ok}
use Rattle.tf_provider_log.specs.LogEntry.{LogEntryView, HeaderView}
use Rattle.tf_provider_log.specs.Laws.{joined, AreLines, HoldsWhole, ReadsAsFar}
use Rattle.tf_provider_log.specs.Line.{IsInLine, IsHeaderLine, lines_from, lines_of, entry_in, header_in, header_fault}
use Rattle.tf_provider_log.specs.Log.{entry_then, entries_in, header_then, log_in}
use Rattle.tf_provider_log.proofs.Lined.{goes_on}

-- ---- lists

first_is : (x y : ℕ) (xs ys : List ℕ) → x ∷ xs ≡ y ∷ ys → x ≡ y
first_is x y xs ys e = cc

rest_is : (x y : ℕ) (xs ys : List ℕ) → x ∷ xs ≡ y ∷ ys → xs ≡ ys
rest_is x y xs ys e = cc

-- a text that stands before others, where bytes begin with all of it
behind_text : (text bytes rest more : List ℕ) → bytes ++ rest ≡ text ++ more → length text ≤ length bytes → (behind : List ℕ) × (bytes ≡ text ++ behind) × (behind ++ rest ≡ more)
behind_text [] bytes rest more e l = (bytes, refl, e)
behind_text (x ∷ text) [] rest more e l = absurd (omega arith)
behind_text (x ∷ text) (b ∷ bytes) rest more e l =
    let found = behind_text text bytes rest more (rest_is b x (bytes ++ rest) (text ++ more) e) (omega arith) in
    (found.0, (let first = first_is b x (bytes ++ rest) (text ++ more) e in let others = found.1 in cc), found.2)

-- ---- lines

-- a line and its end
line_first : (so_far line more : List ℕ) → All IsInLine line → lines_from so_far (line ++ 10 ∷ more) ≡ (so_far ++ line) ∷ lines_of more
line_first so_far [] more h = ap (λ whole. whole ∷ lines_of more) (sym (append-nil so_far))
line_first so_far (b ∷ line) more h =
    goes_on so_far b (line ++ 10 ∷ more) (All-head IsInLine b line h) ∙ line_first (so_far ++ b ∷ []) line more (All-tail IsInLine b line h)
    ∙ ap (λ whole. whole ∷ lines_of more) (append_assoc so_far (b ∷ []) line)

-- bytes without an end
no_line : (so_far bytes : List ℕ) → All IsInLine bytes → lines_from so_far bytes ≡ []
no_line so_far [] h = refl
no_line so_far (b ∷ bytes) h = goes_on so_far b bytes (All-head IsInLine b bytes h) ∙ no_line (so_far ++ b ∷ []) bytes (All-tail IsInLine b bytes h)

-- less than a line and its end
within_line : (line bytes rest more : List ℕ) → bytes ++ rest ≡ line ++ more → length bytes ≤ length line → All IsInLine line → All IsInLine bytes
within_line line [] rest more e l h = λ k d less. absurd (omega arith)
within_line [] (b ∷ bytes) rest more e l h = absurd (omega arith)
within_line (x ∷ line) (b ∷ bytes) rest more e l h =
    let first : b ≡ x = first_is b x (bytes ++ rest) (line ++ more) e in
    All-cons IsInLine b bytes (subst IsInLine (sym first) (All-head IsInLine x line h))
    (within_line line bytes rest more (rest_is b x (bytes ++ rest) (line ++ more) e) (omega arith) (All-tail IsInLine x line h))

-- the end of a line, with what follows it
text_then : (line text more : List ℕ) → text ≡ line ++ 10 ∷ [] → text ++ more ≡ line ++ 10 ∷ more
text_then line text more is = ap (λ t. t ++ more) is ∙ append_assoc line (10 ∷ []) more

length_text : (line text : List ℕ) → text ≡ line ++ 10 ∷ [] → length text ≡ length line + 1
length_text line text is = ap length is ∙ length-append line (10 ∷ [])

-- bytes that are less than a text have no line
torn_lines : (line text bytes rest more : List ℕ) → text ≡ line ++ 10 ∷ [] → All IsInLine line → bytes ++ rest ≡ text ++ more → length bytes < length text → lines_of bytes ≡ []
torn_lines line text bytes rest more is h e l =
    let long = length_text line text is in
    no_line [] bytes (within_line line bytes rest (10 ∷ more) (e ∙ text_then line text more is) (omega arith) h)

whole_lines : (line text bytes behind : List ℕ) → text ≡ line ++ 10 ∷ [] → All IsInLine line → bytes ≡ text ++ behind → lines_of bytes ≡ line ∷ lines_of behind
whole_lines line text bytes behind is h e = ap lines_of (e ∙ text_then line text behind is) ∙ line_first [] line behind h

-- ---- entries

abbrev EntriesReadAsFar : ℕ → List LogEntryView → List (List ℕ) → List ℕ → Type 0
EntriesReadAsFar number entries texts bytes = (n : ℕ) × HoldsWhole texts n bytes × (entries_in number (lines_of bytes) ≡ Ok (take n entries))

empty : (bytes rest : List ℕ) → bytes ++ rest ≡ [] → bytes ≡ []
empty [] rest e = refl
empty (b ∷ bytes) rest e = absurd (cc)

entry_more : (number : ℕ) (entry : LogEntryView) (line : List ℕ) (lines told : List (List ℕ)) (entries : List LogEntryView) → told ≡ line ∷ lines → entry_in line ≡ Some entry → entries_in (number + 1) lines ≡ Ok entries → entries_in number told ≡ Ok (entry ∷ entries)
entry_more number entry line lines told entries is tells read =
    ap (λ all. entries_in number all) is ∙ ap (λ o. entry_then o number (entries_in (number + 1) lines)) tells ∙ ap (λ more. entry_then (Some entry) number more) read

entries_read : (number : ℕ) (entries : List LogEntryView) (texts : List (List ℕ)) (bytes rest : List ℕ) → AreLines entries texts → bytes ++ rest ≡ joined texts → EntriesReadAsFar number entries texts bytes
entries_read number [] [] bytes rest h e =
    let none = empty bytes rest e in
    (0, record { within = omega arith; torn = bytes; is_bytes = refl; is_torn = none }, ap (λ all. entries_in number (lines_of all)) none)
entries_read number (entry ∷ entries) (text ∷ texts) bytes rest h e =
    at (cases_lt (length bytes) (length text)) (λ behind k. entries_read (number + 1) entries texts behind rest h.1 k)
  where
    at : (length bytes < length text) ⊎ (length text ≤ length bytes) → ((behind : List ℕ) → behind ++ rest ≡ joined texts → EntriesReadAsFar (number + 1) entries texts behind)
        → EntriesReadAsFar number (entry ∷ entries) (text ∷ texts) bytes
    at (inl short) later = (
      0,
      record { within = omega arith; torn = bytes; is_bytes = refl; is_torn = short },
      ap (λ lines. entries_in number lines) (torn_lines h.0.line text bytes rest (joined texts) h.0.is_text h.0.in_line e short),
    )
    at (inr long) later =
        let found = behind_text text bytes rest (joined texts) e long in
        let more = later found.0 found.2 in
        let lines = whole_lines h.0.line text bytes found.0 h.0.is_text h.0.in_line found.1 in (
          suc more.0,
          record {
            within = (let within = more.1.within in omega arith);
            torn = more.1.torn;
            is_bytes = found.1 ∙ ap (λ behind. text ++ behind) more.1.is_bytes ∙ sym (append_assoc text (joined (take more.0 texts)) more.1.torn);
            is_torn = more.1.is_torn;
          },
          entry_more number entry h.0.line (lines_of found.0) (lines_of bytes) (take more.0 entries) lines h.0.tells more.2,
        )
entries_read number [] (text ∷ texts) bytes rest h e = absurd h
entries_read number (entry ∷ entries) [] bytes rest h e = absurd h

header_more : (header : HeaderView) (line : List ℕ) (lines told : List (List ℕ)) (entries : List LogEntryView) → told ≡ line ∷ lines → header_in line ≡ Some header → entries_in 2 lines ≡ Ok entries → log_in told ≡ Ok (Some record { header = header; entries = entries })
header_more header line lines told entries is tells read =
    ap log_in is ∙ ap (λ o. header_then o (header_fault line) (entries_in 2 lines)) tells ∙ ap (λ more. header_then (Some header) (header_fault line) more) read

pub beginnings_read : (header : HeaderView) (written : List ℕ) (entries : List LogEntryView) (texts : List (List ℕ)) (bytes rest : List ℕ) → IsHeaderLine header written → AreLines entries texts → bytes ++ rest ≡ written ++ joined texts
    → ((length bytes < length written) × (lines_of bytes ≡ [])) ⊎ ReadsAsFar header written entries texts bytes
beginnings_read header written entries texts bytes rest first h e = at (cases_lt (length bytes) (length written))
  where
    at : (length bytes < length written) ⊎ (length written ≤ length bytes) → ((length bytes < length written) × (lines_of bytes ≡ [])) ⊎ ReadsAsFar header written entries texts bytes
    at (inl short) = inl (short, torn_lines first.line written bytes rest (joined texts) first.is_text first.in_line e short)
    at (inr long) =
        let found = behind_text written bytes rest (joined texts) e long in
        let more = entries_read 2 entries texts found.0 rest h found.2 in
        let lines = whole_lines first.line written bytes found.0 first.is_text first.in_line found.1 in
        inr record {
          n = more.0;
          behind = found.0;
          is_bytes = found.1;
          whole = more.1;
          reads = header_more header first.line (lines_of found.0) (lines_of bytes) (take more.0 entries) lines first.tells more.2;
        }
