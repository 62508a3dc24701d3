-- The text of a JSON tree is one line.
use Rattle.std.proofs.Common.{◌≡◌, ◌++◌, ◌≤◌, ◌<◌, ◌+◌, ◌/◌, ◌%◌, ◌^◌, ◌==◌, ◌||◌, ℕ, suc, pos, negsuc, List, ◌∷◌, [], Bool, true, false, cond, nat_lt, decimal, Some, None, All, IsUtf8, refl, sym, subst, arith}
use Rattle.std.proofs.lemmas.Bool.{eqb-true}
use Rattle.std.proofs.lemmas.Fmt.{decimal_by_steps}
use Rattle.std.proofs.lemmas.List.Elements.{All-cons, All-append}
use Rattle.std.proofs.lemmas.Str.{is_utf8-from_IsUtf8}
use Rattle.std.specs.Char.{digit_char}
use Rattle.std.specs.Str.{is_utf8}
use Rattle.json.specs.Print.{escape_byte, escape_letter, escape, quoted}
use Rattle.serde_json.specs.Data as json
use Rattle.serde_json.specs.Read.{read, max_depth}
use Rattle.serde_json.specs.Written.{has_float, items_have_float, members_have_float, comma_if, number_text, compact_text, items_text, members_text}
use Rattle.tf_provider_log.specs.Line.{IsInLine}
use Rattle.tf_provider_log.specs.Text.{IsSimple, AreSimple, AreSimpleMembers, IsTreeLine}

abbrev AreInLine : List ℕ → Type 0
AreInLine bytes = All IsInLine bytes

nothing : AreInLine []
nothing k d l = absurd (omega arith)

before : (byte : ℕ) (bytes : List ℕ) → IsInLine byte → AreInLine bytes → AreInLine (byte ∷ bytes)
before byte bytes h rest = All-cons IsInLine byte bytes h rest

both : (a b : List ℕ) → AreInLine a → AreInLine b → AreInLine (a ++ b)
both a b h g = All-append IsInLine a b h g

one : (byte : ℕ) → IsInLine byte → AreInLine (byte ∷ [])
one byte h = before byte [] h nothing

two : (a b : ℕ) → IsInLine a → IsInLine b → AreInLine (a ∷ b ∷ [])
two a b h g = before a (b ∷ []) h (one b g)

either : (test : Bool) (a b : List ℕ) → AreInLine a → AreInLine b → AreInLine (cond test a b)
either true a b h g = h
either false a b h g = g

picked : (test : Bool) (a b : ℕ) → IsInLine a → IsInLine b → IsInLine (cond test a b)
picked true a b h g = h
picked false a b h g = g

-- ---- numbers

decimal_in_line : (n : ℕ) → n < 2 ^ 64 → AreInLine (decimal n)
decimal_in_line n h =
    decimal_by_steps (λ _ digits. AreInLine digits) (λ k l. one (48 + k) (λ e. omega arith)) (λ k digits l so_far. both digits ((48 + k % 10) ∷ []) so_far (one (48 + k % 10) (λ e. omega arith))) n h

number_in_line : (n : json.Num) → IsSimple (json.number n) → AreInLine (number_text n)
number_in_line (json.unsigned n) h = decimal_in_line n h
number_in_line (json.negative (pos n)) h = absurd h
number_in_line (json.negative (negsuc n)) h = before 45 (decimal (suc n)) (λ e. omega arith) (decimal_in_line (suc n) h)
number_in_line (json.float x) h = absurd h

-- ---- texts

letter_in_line : (x : ℕ) → IsInLine x → IsInLine (escape_letter x)
letter_in_line x h =
    picked ((x == 34) || (x == 92)) _ _ h
    (picked (x == 8) _ _ (λ e. omega arith)
    (picked (x == 12) _ _ (λ e. omega arith)
    (picked (x == 10) _ _ (λ e. omega arith)
    (picked (x == 13) _ _ (λ e. omega arith)
    (picked (x == 9) _ _ (λ e. omega arith) (λ e. omega arith))))))

digit_in_line : (d : ℕ) → IsInLine (digit_char d)
digit_in_line d = picked (nat_lt d 10) (48 + d) (87 + d) (λ e. omega arith) (λ e. omega arith)

six : (a b : ℕ) → IsInLine a → IsInLine b → AreInLine (92 ∷ 117 ∷ 48 ∷ 48 ∷ a ∷ b ∷ [])
six a b h g =
    before 92 (117 ∷ 48 ∷ 48 ∷ a ∷ b ∷ []) (λ e. omega arith)
    (before 117 (48 ∷ 48 ∷ a ∷ b ∷ []) (λ e. omega arith)
    (before 48 (48 ∷ a ∷ b ∷ []) (λ e. omega arith)
    (before 48 (a ∷ b ∷ []) (λ e. omega arith)
    (two a b h g))))

escaped_at : (b : Bool) (x : ℕ) → (x == 10) ≡ b → AreInLine (escape_byte x)
unfolding escape_byte
escaped_at true x e = let is : x ≡ 10 = eqb-true x 10 e in rw is (two 92 110 (λ e. omega arith) (λ e. omega arith))
escaped_at false x e =
    let here : IsInLine x = λ is. let no : (x == 10) ≡ true = rw is refl in absurd (cc) in
    either (nat_lt 0 (escape_letter x)) (92 ∷ escape_letter x ∷ []) (cond (nat_lt x 32) (92 ∷ 117 ∷ 48 ∷ 48 ∷ digit_char (x / 16) ∷ digit_char (x % 16) ∷ []) (x ∷ []))
    (two 92 (escape_letter x) (λ e. omega arith) (letter_in_line x here))
    (either (nat_lt x 32) (92 ∷ 117 ∷ 48 ∷ 48 ∷ digit_char (x / 16) ∷ digit_char (x % 16) ∷ []) (x ∷ [])
    (six (digit_char (x / 16)) (digit_char (x % 16)) (digit_in_line (x / 16)) (digit_in_line (x % 16)))
    (one x here))

escaped : (s : List ℕ) → AreInLine (escape s)
escaped [] = nothing
escaped (x ∷ s) = both (escape_byte x) (escape s) (escaped_at (x == 10) x refl) (escaped s)

quoted_in_line : (s : List ℕ) → AreInLine (quoted s)
quoted_in_line s = before 34 (escape s ++ 34 ∷ []) (λ e. omega arith) (both (escape s) (34 ∷ []) (escaped s) (one 34 (λ e. omega arith)))

-- ---- trees

comma : (later : Bool) → AreInLine (comma_if later)
comma true = one 44 (λ e. omega arith)
comma false = nothing

mutual
  text_in_line : (d : json.Data) → IsSimple d → AreInLine (compact_text d)
  text_in_line json.null h = before 110 (117 ∷ 108 ∷ 108 ∷ []) (λ e. omega arith) (before 117 (108 ∷ 108 ∷ []) (λ e. omega arith) (two 108 108 (λ e. omega arith) (λ e. omega arith)))
  text_in_line (json.boolean true) h = before 116 (114 ∷ 117 ∷ 101 ∷ []) (λ e. omega arith) (before 114 (117 ∷ 101 ∷ []) (λ e. omega arith) (two 117 101 (λ e. omega arith) (λ e. omega arith)))
  text_in_line (json.boolean false) h = before 102 (97 ∷ 108 ∷ 115 ∷ 101 ∷ []) (λ e. omega arith) (before 97 (108 ∷ 115 ∷ 101 ∷ []) (λ e. omega arith) (before 108 (115 ∷ 101 ∷ []) (λ e. omega arith) (two 115 101 (λ e. omega arith) (λ e. omega arith))))
  text_in_line (json.number n) h = number_in_line n h
  text_in_line (json.string s) h = quoted_in_line s
  text_in_line (json.array ds) h = before 91 (items_text false ds) (λ e. omega arith) (items_in_line false ds h)
  text_in_line (json.object ms) h = before 123 (members_text false ms) (λ e. omega arith) (members_in_line false ms h)

  items_in_line : (later : Bool) (ds : json.Items) → AreSimple ds → AreInLine (items_text later ds)
  items_in_line later json.no_items h = one 93 (λ e. omega arith)
  items_in_line later (json.item d ds) h = both (comma_if later) (compact_text d ++ items_text true ds) (comma later) (both (compact_text d) (items_text true ds) (text_in_line d h.0) (items_in_line true ds h.1))

  members_in_line : (later : Bool) (ms : json.Members) → AreSimpleMembers ms → AreInLine (members_text later ms)
  members_in_line later json.no_members h = one 125 (λ e. omega arith)
  members_in_line later (json.member k d ms) h =
      both (comma_if later) (quoted k ++ 58 ∷ (compact_text d ++ members_text true ms)) (comma later)
      (both (quoted k) (58 ∷ (compact_text d ++ members_text true ms)) (quoted_in_line k)
      (before 58 (compact_text d ++ members_text true ms) (λ e. omega arith) (both (compact_text d) (members_text true ms) (text_in_line d h.0) (members_in_line true ms h.1))))

or_neither : (a b : Bool) → a ≡ false → b ≡ false → (a || b) ≡ false
or_neither a b e f = rw (e, f) refl

mutual
  no_float : (d : json.Data) → IsSimple d → has_float d ≡ false
  no_float json.null h = refl
  no_float (json.boolean b) h = refl
  no_float (json.number (json.unsigned n)) h = refl
  no_float (json.number (json.negative z)) h = refl
  no_float (json.number (json.float x)) h = absurd h
  no_float (json.string s) h = refl
  no_float (json.array ds) h = no_float_items ds h
  no_float (json.object ms) h = no_float_members ms h

  no_float_items : (ds : json.Items) → AreSimple ds → items_have_float ds ≡ false
  no_float_items json.no_items h = refl
  no_float_items (json.item d ds) h = or_neither (has_float d) (items_have_float ds) (no_float d h.0) (no_float_items ds h.1)

  no_float_members : (ms : json.Members) → AreSimpleMembers ms → members_have_float ms ≡ false
  no_float_members json.no_members h = refl
  no_float_members (json.member k d ms) h = or_neither (has_float d) (members_have_float ms) (no_float d h.0) (no_float_members ms h.1)

read_if : (test : Bool) (o : json.Data) (line : List ℕ) → test ≡ true → read line ≡ Some o → cond test (read line) None ≡ Some o
read_if true o line e h = h
read_if false o line e h = absurd (cc)

-- what is printed of a tree, and a newline, is its line
pub tree_line : (d : json.Data) (line text : List ℕ) → IsUtf8 line → (has_float d ≡ false → line ≡ compact_text d) → (json.depth d ≤ max_depth → read line ≡ Some d) → text ≡ line ++ 10 ∷ [] → IsSimple d → json.depth d ≤ max_depth → IsTreeLine d text
tree_line d line text utf8 printed back ends simple shallow = record {
  line = line;
  in_line = subst AreInLine (sym (printed (no_float d simple))) (text_in_line d simple);
  reads = read_if (is_utf8 line) d line (is_utf8-from_IsUtf8 line utf8) (back shallow);
  is_text = ends;
}
