-- How lines are found, and what they tell one after another.
use Rattle.std.proofs.Common.{◌≡◌, ◌++◌, ◌+◌, ◌<◌, ◌≤◌, ℕ, List, ◌∷◌, [], length, get_or, take, drop, Bool, true, false, cond, Option, Some, None, IsUtf8, refl, sym, ap, ◌∙◌, append_assoc, append-nil, arith}
use Rattle.std.proofs.lemmas.Bool.{ne_eqb}
use Rattle.std.proofs.lemmas.List.{drop_more, take_more}
use Rattle.std.proofs.lemmas.Str.{IsUtf8-from_is_utf8, is_utf8-from_IsUtf8}
use Rattle.std.specs.Prelude.{Result, Ok, Err}
use Rattle.std.specs.Str.{is_utf8}
use Rattle.serde_json.specs.Data as json
use Rattle.serde_json.specs.Read.{read}
use Rattle.serde_json.specs.View.{items_view}
use Rattle.serde_json.specs.declared.value.Value.{Value as Json}
use Rattle.tf_provider_log.specs.LogEntry.{LogEntryView}
use Rattle.tf_provider_log.specs.From.{option_from}
use Rattle.tf_provider_log.specs.Line.{lines_from, lines_of, tree_in, entry_in}
use Rattle.tf_provider_log.specs.Log.{entry_then, entries_in}
use Rattle.tf_provider_log.specs.declared.fault.LineFault.{LineFault}
use Rattle.tf_provider_log.specs.declared.fault.LineFault.TheVariants.{NotAnEntry}

-- ---- lines

pub goes_on : (line : List ℕ) (byte : ℕ) (bytes : List ℕ) → (byte ≡ 10 → ⊥) → lines_from line (byte ∷ bytes) ≡ lines_from (line ++ byte ∷ []) bytes
goes_on line byte bytes h = rw (ne_eqb byte 10 h) refl

ends_at : (line : List ℕ) (byte : ℕ) (bytes : List ℕ) → byte ≡ 10 → lines_from line (byte ∷ bytes) ≡ line ∷ lines_of bytes
ends_at line byte bytes e = rw e refl

pub line_goes_on : (bytes : List ℕ) (i : ℕ) → i < length bytes → (get_or bytes i 0 ≡ 10 → ⊥) → lines_from (take i bytes) (drop i bytes) ≡ lines_from (take (i + 1) bytes) (drop (i + 1) bytes)
line_goes_on bytes i l h =
    ap (λ rest. lines_from (take i bytes) rest) (drop_more bytes i 0 l) ∙ goes_on (take i bytes) (get_or bytes i 0) (drop (i + 1) bytes) h
    ∙ ap (λ line. lines_from line (drop (i + 1) bytes)) (sym (take_more bytes i 0 l))

pub line_ends : (bytes : List ℕ) (i : ℕ) → i < length bytes → get_or bytes i 0 ≡ 10 → lines_from (take i bytes) (drop i bytes) ≡ take i bytes ∷ lines_of (drop (i + 1) bytes)
line_ends bytes i l e = ap (λ rest. lines_from (take i bytes) rest) (drop_more bytes i 0 l) ∙ ends_at (take i bytes) (get_or bytes i 0) (drop (i + 1) bytes) e

-- ---- the tree of a line

tree_if : (test : Bool) (o p : Option json.Data) → test ≡ true → o ≡ p → cond test o None ≡ p
tree_if true o p e h = h
tree_if false o p e h = absurd (cc)

pub tree_read : (line : List ℕ) (d : json.Data) → IsUtf8 line → read line ≡ Some d → tree_in line ≡ Some d
tree_read line d utf8 h = tree_if (is_utf8 line) (read line) (Some d) (is_utf8-from_IsUtf8 line utf8) h

no_tree : (test : Bool) (o : Option json.Data) → (test ≡ true → o ≡ None) → cond test o None ≡ None
no_tree true o h = h refl
no_tree false o h = refl

pub tree_refused : (line : List ℕ) → (IsUtf8 line → read line ≡ None) → tree_in line ≡ None
tree_refused line h = no_tree (is_utf8 line) (read line) (λ e. h (IsUtf8-from_is_utf8 line e))

-- ---- arrays of more than one item

pub many_items : (js : List Json) → 2 ≤ length js → option_from (Some (json.array (items_view js))) ≡ None
many_items [] l = absurd (omega arith)
many_items (a ∷ []) l = absurd (omega arith)
many_items (a ∷ b ∷ js) l = refl

-- ---- entries

-- entries, before those that further lines tell
abbrev pub onto : List LogEntryView → Result (List LogEntryView) (ℕ × LineFault) → Result (List LogEntryView) (ℕ × LineFault)
onto es (Ok more) = Ok (es ++ more)
onto es (Err fault) = Err fault

onto_then : (es : List LogEntryView) (e : LogEntryView) (number : ℕ) (told : Result (List LogEntryView) (ℕ × LineFault)) → onto es (entry_then (Some e) number told) ≡ onto (es ++ e ∷ []) told
onto_then es e number (Ok more) = ap (λ all. Ok all) (sym (append_assoc es (e ∷ []) more))
onto_then es e number (Err fault) = refl

pub nothing_before : (told : Result (List LogEntryView) (ℕ × LineFault)) → told ≡ onto [] told
nothing_before (Ok more) = refl
nothing_before (Err fault) = refl

-- a line more that tells an entry
pub told_more : (all : Result (List LogEntryView) (ℕ × LineFault)) (es : List LogEntryView) (e : LogEntryView) (number : ℕ) (lines : List (List ℕ)) (line : List ℕ) (rest : List (List ℕ))
    → all ≡ onto es (entries_in number lines) → lines ≡ line ∷ rest → Some e ≡ entry_in line → all ≡ onto (es ++ e ∷ []) (entries_in (number + 1) rest)
told_more all es e number lines line rest h is tells =
    h ∙ ap (λ ls. onto es (entries_in number ls)) is ∙ ap (λ o. onto es (entry_then o number (entries_in (number + 1) rest))) (sym tells)
    ∙ onto_then es e number (entries_in (number + 1) rest)

-- a line that tells none
pub told_fault : (all : Result (List LogEntryView) (ℕ × LineFault)) (es : List LogEntryView) (number : ℕ) (lines : List (List ℕ)) (line : List ℕ) (rest : List (List ℕ))
    → all ≡ onto es (entries_in number lines) → lines ≡ line ∷ rest → None ≡ entry_in line → all ≡ Err (number, NotAnEntry)
told_fault all es number lines line rest h is tells =
    h ∙ ap (λ ls. onto es (entries_in number ls)) is ∙ ap (λ o. onto es (entry_then o number (entries_in (number + 1) rest))) (sym tells)

-- no line more
pub told_all : (all : Result (List LogEntryView) (ℕ × LineFault)) (es : List LogEntryView) (number : ℕ) (lines : List (List ℕ)) → all ≡ onto es (entries_in number lines) → lines ≡ [] → all ≡ Ok es
told_all all es number lines h is = h ∙ ap (λ ls. onto es (entries_in number ls)) is ∙ ap (λ whole. Ok whole) (append-nil es)
