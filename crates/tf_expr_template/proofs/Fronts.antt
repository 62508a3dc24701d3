-- The token at the front of a text that was written.
use Rattle.std.proofs.Common.{◌≡◌, ℕ, ◌+◌, ◌<◌, ◌^◌, Bool, true, false, cond, ◌&&◌, ◌==◌, List, [], ◌∷◌, ◌++◌, length, get_or, take, drop, refl, sym, subst, ap, inl, inr, true≢false, ◌∙◌, arith, rules, one-add, if◌then◌else◌}
use Rattle.std.proofs.Math.Seq.{take-append_seam, drop-append_seam}
use Rattle.std.proofs.lemmas.Bool.{cases_Bool}
use Rattle.std.proofs.lemmas.Bool.Decides.{nat_tests}
use Rattle.std.proofs.lemmas.Fmt.{decimal_nonempty, digits_decimal, digits_value-decimal}
use Rattle.std.proofs.lemmas.Str.Parse.{IsNumeralModel, numerals_by_fold}
use Rattle.std.specs.Fmt.{decimal as digits}
use Rattle.std.specs.List.{prefix_len, list_all}
use Rattle.std.specs.Prelude.{codes}
use Rattle.tf_config_address.specs.Name.{starts_name, continues_name, is_name}
use Rattle.tf_expr_template.specs.Bytes.{is_space, is_digit}
use Rattle.tf_expr_template.specs.Canonical.{sign_text, truth_text}
use Rattle.tf_expr_template.specs.Reads.{begins}
use Rattle.tf_expr_template.specs.Spelling.{Takes, TakesName, truth_word}
use Rattle.tf_expr_template.specs.Token.{sign, front, trimmed, token_kind, token_word, after_token}
use Rattle.tf_expr_template.specs.Word.{decimal, decimal_from, keyword}
use Rattle.tf_expr_template.specs.declared.token.TokenKind.{TokenKind}
use Rattle.tf_expr_template.specs.declared.token.TokenKind.TheVariants.{Name, Number, Quote, Bang, Binary, Question, Colon, OpenParen, CloseParen, OpenBracket, CloseBracket, CloseBrace, Comma, Dot, Wrong}
use Rattle.tf_expr_syntax.specs.declared.operator.Operator.{Operator}
use Rattle.tf_expr_syntax.specs.declared.operator.Operator.TheVariants.{Or, Equal, NotEqual, Subtract}
use Rattle.tf_expr_template.specs.declared.word.Keyword.TheVariants.{Null}

pub both_true : (x y : Bool) → (x && y) ≡ true → (x ≡ true) × (y ≡ true)
both_true true true h = (refl, refl)
both_true true false h = absurd (cc)
both_true false y h = absurd (cc)

trimmed-at : (b : ℕ) (s : List ℕ) → is_space b ≡ false → trimmed (b ∷ s) ≡ b ∷ s
unfolding trimmed
trimmed-at b s h = ap (λ x. drop (cond x (1 + prefix_len is_space s) 0) (b ∷ s)) h

trimmed-space : (s : List ℕ) → trimmed (32 ∷ s) ≡ trimmed s
unfolding trimmed
trimmed-space s = ap (λ n. drop n (32 ∷ s)) (one-add (prefix_len is_space s))

-- a token behind a space
pub takes_spaced : (k : TokenKind) (s rest : List ℕ) → Takes k s rest → Takes k (32 ∷ s) rest
unfolding token_kind after_token
takes_spaced k s rest h = record {
  kind_is = ap (λ x. (front x).0) (trimmed-space s) ∙ h.kind_is;
  after_is = ap (λ x. drop (front x).1 x) (trimmed-space s) ∙ h.after_is;
}

pub takes_name_spaced : (name s rest : List ℕ) → TakesName name s rest → TakesName name (32 ∷ s) rest
unfolding token_kind token_word after_token
takes_name_spaced name s rest h = record {
  kind_is = ap (λ x. (front x).0) (trimmed-space s) ∙ h.kind_is;
  word_is = ap (λ x. take (front x).1 x) (trimmed-space s) ∙ h.word_is;
  after_is = ap (λ x. drop (front x).1 x) (trimmed-space s) ∙ h.after_is;
}

pub word_spaced : (s : List ℕ) → token_word (32 ∷ s) ≡ token_word s
unfolding token_word
word_spaced s = ap (λ x. take (front x).1 x) (trimmed-space s)

-- the run of bytes that pass a test
run_len : (p : ℕ → Bool) (xs rest : List ℕ) → list_all p xs ≡ true → p (get_or rest 0 0) ≡ false → prefix_len p (xs ++ rest) ≡ length xs
run_len p [] [] h e = refl
run_len p [] (b ∷ rest) h e = ap (λ x. cond x (1 + prefix_len p rest) 0) e
run_len p (x ∷ xs) rest h e =
    let both = both_true (p x) (list_all p xs) h in
    ap (λ y. cond y (1 + prefix_len p (xs ++ rest)) 0) both.0 ∙ ap (λ n. 1 + n) (run_len p xs rest both.1 e) ∙ one-add (length xs)

-- a token of this kind and these bytes
record Fronts (k : TokenKind) (a rest : List ℕ) : Type 0 where
  kind_is : token_kind (a ++ rest) ≡ k
  word_is : token_word (a ++ rest) ≡ a
  after_is : after_token (a ++ rest) ≡ rest

fronts : (k : TokenKind) (a rest : List ℕ) → trimmed (a ++ rest) ≡ a ++ rest → front (a ++ rest) ≡ (k, length a) → Fronts k a rest
unfolding token_kind token_word after_token
fronts k a rest t f = record {
  kind_is = ap (λ x. (front x).0) t ∙ ap (λ x. x.0) f;
  word_is = ap (λ x. take (front x).1 x) t ∙ ap (λ x. take x.1 (a ++ rest)) f ∙ take-append_seam a rest;
  after_is = ap (λ x. drop (front x).1 x) t ∙ ap (λ x. drop x.1 (a ++ rest)) f ∙ drop-append_seam a rest;
}

name_not_space : (c : ℕ) → starts_name c ≡ true → is_space c ≡ false
name_not_space c h = grind (arith, nat_tests)

digit_not_space : (c : ℕ) → is_digit c ≡ true → is_space c ≡ false
digit_not_space c h = grind (arith, nat_tests)

digit_not_name : (c : ℕ) → is_digit c ≡ true → starts_name c ≡ false
digit_not_name c h = grind (arith, nat_tests)

pub name_goes_on : (c : ℕ) → starts_name c ≡ true → continues_name c ≡ true
name_goes_on c h = grind (arith, nat_tests)

pub no_digit : (c : ℕ) → continues_name c ≡ false → is_digit c ≡ false
no_digit c h = grind (arith, nat_tests)

pub front-name : (c : ℕ) (s : List ℕ) → starts_name c ≡ true → front (c ∷ s) ≡ (Name, prefix_len continues_name (c ∷ s))
unfolding front
front-name c s h =
    let at : Bool → TokenKind × ℕ = λ x. if x then (Name, prefix_len continues_name (c ∷ s)) else (if is_digit c then (Number, prefix_len is_digit (c ∷ s)) else sign c (get_or s 0 0)) in
    ap at h

pub front-digit : (c : ℕ) (s : List ℕ) → is_digit c ≡ true → front (c ∷ s) ≡ (Number, prefix_len is_digit (c ∷ s))
unfolding front
front-digit c s h =
    let at : Bool → Bool → TokenKind × ℕ = λ x y. if x then (Name, prefix_len continues_name (c ∷ s)) else (if y then (Number, prefix_len is_digit (c ∷ s)) else sign c (get_or s 0 0)) in
    ap (λ x. at x (is_digit c)) (digit_not_name c h) ∙ ap (λ y. at false y) h

fronts_name : (a rest : List ℕ) → is_name a ≡ true → continues_name (get_or rest 0 0) ≡ false → Fronts Name a rest
fronts_name [] rest h e = absurd (cc)
fronts_name (c ∷ cs) rest h e =
    let both = both_true (starts_name c) (list_all continues_name cs) h in
    let all : list_all continues_name (c ∷ cs) ≡ true = ap (λ x. x && list_all continues_name cs) (name_goes_on c both.0) ∙ both.1 in
    let pair : ℕ → TokenKind × ℕ = λ n. (Name, n) in
    fronts Name (c ∷ cs) rest (trimmed-at c (cs ++ rest) (name_not_space c both.0))
    (front-name c (cs ++ rest) both.0 ∙ ap pair (run_len continues_name (c ∷ cs) rest all e))

pub takes_name : (a rest : List ℕ) → is_name a ≡ true → continues_name (get_or rest 0 0) ≡ false → TakesName a (a ++ rest) rest
takes_name a rest h e = let f = fronts_name a rest h e in record { kind_is = f.kind_is; word_is = f.word_is; after_is = f.after_is }

-- a keyword
pub record TakesKeyword (a rest : List ℕ) : Type 0 where
  pub takes : Takes Name (a ++ rest) rest
  pub word_is : keyword (token_word (a ++ rest)) ≡ keyword a

pub takes_keyword : (a rest : List ℕ) → is_name a ≡ true → continues_name (get_or rest 0 0) ≡ false → TakesKeyword a rest
takes_keyword a rest h e =
    let f = fronts_name a rest h e in
    record { takes = record { kind_is = f.kind_is; after_is = f.after_is }; word_is = ap keyword f.word_is }

pub truth_name : (b : Bool) → is_name (truth_text b) ≡ true
truth_name true = refl
truth_name false = refl

pub truth_keyword : (b : Bool) → keyword (truth_text b) ≡ truth_word b
unfolding keyword
truth_keyword true = refl
truth_keyword false = refl

pub null_keyword : keyword (codes "null") ≡ Null
unfolding keyword
null_keyword = refl

-- a number
own : IsNumeralModel (λ ds. list_all is_digit ds ≡ true) (decimal_from 0)
own = numerals_by_fold (λ ds. list_all is_digit ds ≡ true) (search (rules, nat_tests)) decimal_from (search rules)

fronts_digits : (ds rest : List ℕ) → list_all is_digit ds ≡ true → 0 < length ds → is_digit (get_or rest 0 0) ≡ false → Fronts Number ds rest
fronts_digits [] rest h n e = absurd (omega arith)
fronts_digits (c ∷ cs) rest h n e =
    let both = both_true (is_digit c) (list_all is_digit cs) h in
    let pair : ℕ → TokenKind × ℕ = λ m. (Number, m) in
    fronts Number (c ∷ cs) rest (trimmed-at c (cs ++ rest) (digit_not_space c both.0))
    (front-digit c (cs ++ rest) both.0 ∙ ap pair (run_len is_digit (c ∷ cs) rest h e))

pub record TakesNumber (n : ℕ) (rest : List ℕ) : Type 0 where
  pub takes : Takes Number (digits n ++ rest) rest
  pub value_is : decimal (token_word (digits n ++ rest)) ≡ n

pub takes_number : (n : ℕ) (rest : List ℕ) → n < 2 ^ 64 → continues_name (get_or rest 0 0) ≡ false → TakesNumber n rest
unfolding decimal
takes_number n rest h e =
    let f = fronts_digits (digits n) rest (digits_decimal own n h) (decimal_nonempty n h) (no_digit (get_or rest 0 0) e) in
    record { takes = record { kind_is = f.kind_is; after_is = f.after_is }; value_is = ap decimal f.word_is ∙ digits_value-decimal own n h }

-- the byte of a sign of one byte, whatever follows it
abbrev pub sign_byte : TokenKind → ℕ
sign_byte Quote = 34
sign_byte OpenParen = 40
sign_byte CloseParen = 41
sign_byte Comma = 44
sign_byte (Binary Subtract) = 45
sign_byte Dot = 46
sign_byte Colon = 58
sign_byte Question = 63
sign_byte OpenBracket = 91
sign_byte CloseBracket = 93
sign_byte CloseBrace = 125
sign_byte _ = 0

abbrev pub IsOneByte : TokenKind → Type 0
IsOneByte (Binary Subtract) = Unit {0}
IsOneByte (Binary op) = ⊥
IsOneByte Name = ⊥
IsOneByte Number = ⊥
IsOneByte Bang = ⊥
IsOneByte Wrong = ⊥
IsOneByte _ = Unit {0}

pub takes_byte : (k : TokenKind) (s : List ℕ) → IsOneByte k → Takes k (sign_byte k ∷ s) s
unfolding token_kind after_token front sign trimmed
takes_byte (Binary Subtract) s h = record { kind_is = refl; after_is = refl }
takes_byte (Binary op) s h = absurd h
takes_byte Name s h = absurd h
takes_byte Number s h = absurd h
takes_byte Bang s h = absurd h
takes_byte Wrong s h = absurd h
takes_byte k s h = record { kind_is = refl; after_is = refl }

pub takes_question : (s : List ℕ) → Takes Question (32 ∷ 63 ∷ s) s
takes_question s = takes_spaced Question (63 ∷ s) s (takes_byte Question s tt)

pub takes_colon : (s : List ℕ) → Takes Colon (32 ∷ 58 ∷ s) s
takes_colon s = takes_spaced Colon (58 ∷ s) s (takes_byte Colon s tt)

-- an operator between spaces, without the first of them
abbrev behind : Operator → List ℕ → List ℕ
behind op s = drop 1 (sign_text op ++ s)

sign_behind : (op : Operator) (s : List ℕ) → Takes (Binary op) (behind op s) (32 ∷ s)
unfolding token_kind after_token front sign trimmed
sign_behind Or s = record { kind_is = refl; after_is = refl }
sign_behind op s = record { kind_is = refl; after_is = refl }

starts_spaced : (op : Operator) (s : List ℕ) → sign_text op ++ s ≡ 32 ∷ behind op s
starts_spaced Or s = refl
starts_spaced op s = refl

pub sign_first : (op : Operator) (s : List ℕ) → get_or (sign_text op ++ s) 0 0 ≡ 32
sign_first op s = ap (λ x. get_or x 0 0) (starts_spaced op s)

pub takes_sign : (op : Operator) (s : List ℕ) → Takes (Binary op) (sign_text op ++ s) (32 ∷ s)
takes_sign op s = subst (λ x. Takes (Binary op) x (32 ∷ s)) (sym (starts_spaced op s)) (takes_spaced (Binary op) (behind op s) (32 ∷ s) (sign_behind op s))

-- what begins with `=` begins no expression
abbrev sign_equal : Bool → TokenKind × ℕ
sign_equal y = if y then (Binary Equal, 2) else (Wrong, 0)

equal_kind : (y : Bool) → begins (sign_equal y).0 ≡ false
equal_kind true = refl
equal_kind false = refl

equal_begins : (s : List ℕ) → begins (token_kind (61 ∷ s)) ≡ false
unfolding token_kind front sign trimmed
equal_begins s = equal_kind (get_or s 0 0 == 61)

pub not_equal_first : (s : List ℕ) → begins (token_kind s) ≡ true → (get_or s 0 0 == 61) ≡ false
not_equal_first [] h = refl
not_equal_first (b ∷ s) h = elim (cases_Bool (b == 61)) [
  | inl e ↦
      let is : b ≡ 61 = grind (arith, nat_tests) in
      absurd (true≢false (sym h ∙ ap (λ x. begins (token_kind (x ∷ s))) is ∙ equal_begins s))
  | inr e ↦ e
]

-- `!` in front of an expression
pub takes_bang : (s : List ℕ) → begins (token_kind s) ≡ true → Takes Bang (33 ∷ s) s
unfolding token_kind after_token front sign trimmed
takes_bang s h =
    let at : Bool → TokenKind × ℕ = λ y. if y then (Binary NotEqual, 2) else (Bang, 1) in
    let is = not_equal_first s h in
    record { kind_is = ap (λ y. (at y).0) is; after_is = ap (λ y. drop (at y).1 (33 ∷ s)) is }
