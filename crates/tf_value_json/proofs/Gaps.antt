-- The gaps of the pretty layout, and a newline at its end, change no token.
use Rattle.std.proofs.Common.{◌≡◌, ℕ, zero, suc, ◌*◌, Bool, true, false, cond, ◌&&◌, List, [], ◌∷◌, ◌++◌, replicate, refl, sym, ap, ap₂, ◌∙◌, append_assoc, inl, inr}
use Rattle.json.specs.Token.{Token, begin_object, end_object, begin_array, end_array, key, string, number, boolean, null, bad}
use Rattle.json.specs.Word.{ends_word, word}
use Rattle.json.specs.Lex.{token, comma, colon, string_token, lex, between, fresh, punctuate, tokens}
use Rattle.json.specs.Print.{escape, quoted, token_text, begins, ends, separator, print_from, IsPrintable, ArePrintable}
use Rattle.json.specs.Layout.{Last, nothing, bracket, name, value, is_value, line, gap, depth_at, step, pretty_from, pretty}
use Rattle.json.specs.Spaced.{IsGap}
use Rattle.json.proofs.Printed.Strings.{content-escape, lex-escape}
use Rattle.json.proofs.Printed.Numbers.{lex-number, in_word-ended}
use Rattle.json.proofs.Printed.Tokens.{tokens-print}

lex-quoted : (s r : List ℕ) → lex between (quoted s ++ r) ≡ token (string s) ∷ lex between r
unfolding lex
lex-quoted s r =
    let e = append_assoc (escape s) (34 ∷ []) r in
    ap (λ l. lex between (34 ∷ l)) e ∙ ap₂ (λ o l. token (string_token o) ∷ l) (content-escape s r) (lex-escape s r)

-- what is lexed behind a token doesn't change with what is lexed the same
same_behind : (t : Token) (r u : List ℕ) → IsPrintable t → (ends t ≡ true → ends_word r ≡ true) → (ends t ≡ true → ends_word u ≡ true) → lex between r ≡ lex between u
    → lex between (token_text t ++ r) ≡ lex between (token_text t ++ u)
unfolding lex word
same_behind begin_object r u h e f same = ap (λ l. token begin_object ∷ l) same
same_behind end_object r u h e f same = ap (λ l. token end_object ∷ l) same
same_behind begin_array r u h e f same = ap (λ l. token begin_array ∷ l) same
same_behind end_array r u h e f same = ap (λ l. token end_array ∷ l) same
same_behind (key s) r u h e f same =
    ap (lex between) (append_assoc (quoted s) (58 ∷ []) r) ∙ lex-quoted s (58 ∷ r) ∙ ap (λ l. token (string s) ∷ colon ∷ l) same
    ∙ sym (ap (lex between) (append_assoc (quoted s) (58 ∷ []) u) ∙ lex-quoted s (58 ∷ u))
same_behind (string s) r u h e f same = lex-quoted s r ∙ ap (λ l. token (string s) ∷ l) same ∙ sym (lex-quoted s u)
same_behind (number s) r u h e f same = lex-number s r h (e refl) ∙ ap (λ l. token (number s) ∷ l) same ∙ sym (lex-number s u h (f refl))
same_behind (boolean true) r u h e f same =
    ap₂ (λ b l. token (cond b (boolean true) bad) ∷ l) (e refl) (in_word-ended r (e refl)) ∙ ap (λ l. token (boolean true) ∷ l) same
    ∙ sym (ap₂ (λ b l. token (cond b (boolean true) bad) ∷ l) (f refl) (in_word-ended u (f refl)))
same_behind (boolean false) r u h e f same =
    ap₂ (λ b l. token (cond b (boolean false) bad) ∷ l) (e refl) (in_word-ended r (e refl)) ∙ ap (λ l. token (boolean false) ∷ l) same
    ∙ sym (ap₂ (λ b l. token (cond b (boolean false) bad) ∷ l) (f refl) (in_word-ended u (f refl)))
same_behind null r u h e f same =
    ap₂ (λ b l. token (cond b null bad) ∷ l) (e refl) (in_word-ended r (e refl)) ∙ ap (λ l. token null ∷ l) same
    ∙ sym (ap₂ (λ b l. token (cond b null bad) ∷ l) (f refl) (in_word-ended u (f refl)))
same_behind bad r u h e f same = absurd h

same_behind_comma : (b : Bool) (r u : List ℕ) → lex between r ≡ lex between u → lex between (cond b (44 ∷ []) [] ++ r) ≡ lex between (cond b (44 ∷ []) [] ++ u)
unfolding lex
same_behind_comma true r u same = ap (λ l. comma ∷ l) same
same_behind_comma false r u same = same

lex-gap : (g r : List ℕ) → IsGap g → lex between (g ++ r) ≡ lex between r
unfolding lex
lex-gap [] r h = refl
lex-gap (x ∷ g) r (inl e, h) = rw e (lex-gap g r h)
lex-gap (x ∷ g) r (inr e, h) = rw e (lex-gap g r h)

gap_ends : (g r : List ℕ) → IsGap g → ends_word r ≡ true → ends_word (g ++ r) ≡ true
gap_ends [] r h e = e
gap_ends (x ∷ g) r (inl is, h) e = rw is
gap_ends (x ∷ g) r (inr is, h) e = rw is

spaces : (n : ℕ) → IsGap (replicate n 32)
spaces zero = tt
spaces (suc n) = (inl refl, spaces n)

line-gap : (depth : ℕ) → IsGap (line depth)
line-gap depth = (inr refl, spaces (2 * depth))

gap-gap : (l : Last) (opens : Bool) (depth : ℕ) → IsGap (gap l opens depth)
gap-gap nothing opens depth = tt
gap-gap bracket true depth = line-gap depth
gap-gap bracket false depth = tt
gap-gap name opens depth = (inl refl, tt)
gap-gap value opens depth = line-gap depth

-- a token ends a value exactly where a value is then the last
ends_is_value : (s : Last × ℕ) (t : Token) → ends t ≡ is_value (step s t).0
ends_is_value s begin_object = refl
ends_is_value s end_object = refl
ends_is_value s begin_array = refl
ends_is_value s end_array = refl
ends_is_value s (key k) = refl
ends_is_value s (string k) = refl
ends_is_value s (number k) = refl
ends_is_value s (boolean b) = refl
ends_is_value s null = refl
ends_is_value s bad = refl

abbrev newline : List ℕ
newline = 10 ∷ []

-- a word ends before what follows a value
after_value_ends : (l : Last) (depth : ℕ) (ts : List Token) → is_value l ≡ true → ends_word (pretty_from (l, depth) ts ++ newline) ≡ true
unfolding pretty_from
after_value_ends nothing depth ts e = absurd (cc)
after_value_ends bracket depth ts e = absurd (cc)
after_value_ends name depth ts e = absurd (cc)
after_value_ends value depth [] e = refl
after_value_ends value depth (begin_object ∷ ts) e = refl
after_value_ends value depth (end_object ∷ ts) e = refl
after_value_ends value depth (begin_array ∷ ts) e = refl
after_value_ends value depth (end_array ∷ ts) e = refl
after_value_ends value depth (key k ∷ ts) e = refl
after_value_ends value depth (string k ∷ ts) e = refl
after_value_ends value depth (number k ∷ ts) e = refl
after_value_ends value depth (boolean b ∷ ts) e = refl
after_value_ends value depth (null ∷ ts) e = refl
after_value_ends value depth (bad ∷ ts) e = refl

printed_ends : (ts : List Token) → ends_word (print_from true ts) ≡ true
unfolding print_from
printed_ends [] = refl
printed_ends (begin_object ∷ ts) = refl
printed_ends (end_object ∷ ts) = refl
printed_ends (begin_array ∷ ts) = refl
printed_ends (end_array ∷ ts) = refl
printed_ends (key k ∷ ts) = refl
printed_ends (string k ∷ ts) = refl
printed_ends (number k ∷ ts) = refl
printed_ends (boolean b ∷ ts) = refl
printed_ends (null ∷ ts) = refl
printed_ends (bad ∷ ts) = refl

regrouped : (a g t r e : List ℕ) → ((a ++ (g ++ t)) ++ r) ++ e ≡ a ++ (g ++ (t ++ (r ++ e)))
regrouped a g t r e = simp append_assoc

-- the pretty text and a newline are lexed as the text without spaces
lex-pretty : (s : Last × ℕ) (ts : List Token) → ArePrintable ts → lex between (pretty_from s ts ++ newline) ≡ lex between (print_from (is_value s.0) ts)
unfolding lex pretty_from print_from ArePrintable
lex-pretty s [] h = refl
lex-pretty s (t ∷ ts) h =
    let after = step s t in
    let c = is_value s.0 in
    let g = gap s.0 (begins t) (depth_at s.1 t) in
    let rest = pretty_from after ts ++ newline in
    let same : lex between rest ≡ lex between (print_from (ends t) ts) = lex-pretty after ts h.1 ∙ ap (λ b. lex between (print_from b ts)) (sym (ends_is_value s t)) in
    ap (lex between) (regrouped (separator c t) g (token_text t) (pretty_from after ts) newline)
    ∙ same_behind_comma (c && begins t) (g ++ (token_text t ++ rest)) (token_text t ++ print_from (ends t) ts)
    (lex-gap g (token_text t ++ rest) (gap-gap s.0 (begins t) (depth_at s.1 t))
    ∙ same_behind t rest (print_from (ends t) ts) h.0 (λ e. after_value_ends after.0 after.1 ts (sym (ends_is_value s t) ∙ e)) (λ e. ap (λ b. ends_word (print_from b ts)) e ∙ printed_ends ts) same)

-- the tokens of the pretty text with a newline
pub tokens-pretty : (ts : List Token) → ArePrintable ts → tokens (pretty ts ++ newline) ≡ ts
tokens-pretty ts h = ap (punctuate fresh) (lex-pretty (nothing, 0) ts h) ∙ tokens-print ts h
