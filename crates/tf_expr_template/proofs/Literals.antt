-- Literal text that was written reads back.
use Rattle.std.proofs.Common.{◌≡◌, ◌≢◌, ◌⊎◌, inl, inr, ℕ, Bool, true, false, if◌then◌else◌, ◌||◌, ◌&&◌, ◌==◌, List, [], ◌∷◌, ◌++◌, get_or, refl, sym, subst, ◌∙◌, arith, true≢false}
use Rattle.std.proofs.lemmas.Bool.{cases_Bool, cases_eq}
use Rattle.std.proofs.lemmas.Bool.Decides.{nat_tests}
use Rattle.tf_expr_template.specs.Canonical.{byte_text, literal_text, last_byte}
use Rattle.tf_expr_template.specs.Literal.{stands, piece, begun, escape, Literal, nothing, more}

-- what follows a `$` or a `%` gives it no other meaning
abbrev Quiet : ℕ → List ℕ → Type 0
Quiet c r = (get_or r 0 0 ≢ 123) × (get_or r 0 0 ≡ c → get_or r 1 0 ≢ 123)

dollar_alone : (within : Bool) (r : List ℕ) → Quiet 36 r → piece within (36 ∷ r) ≡ stands (36 ∷ []) r
unfolding begun
dollar_alone within r q = let a = q.0 in let b = q.1 in grind (arith, nat_tests)

percent_alone : (within : Bool) (r : List ℕ) → Quiet 37 r → piece within (37 ∷ r) ≡ stands (37 ∷ []) r
unfolding begun
percent_alone within r q = let a = q.0 in let b = q.1 in grind (arith, nat_tests)

outside : (b : ℕ) (r : List ℕ) → b ≢ 36 → b ≢ 37 → piece false (b ∷ r) ≡ stands (b ∷ []) r
unfolding begun
outside b r d p = grind (arith, nat_tests)

inside : (b : ℕ) (r : List ℕ) → b ≢ 36 → b ≢ 37 → b ≢ 34 → b ≢ 92 → b ≢ 10 → piece true (b ∷ r) ≡ stands (b ∷ []) r
unfolding begun
inside b r d p q e n = grind (arith, nat_tests)

escaped_quote : (r : List ℕ) → piece true (92 ∷ 34 ∷ r) ≡ stands (34 ∷ []) r
unfolding begun escape
escaped_quote r = refl

escaped_backslash : (r : List ℕ) → piece true (92 ∷ 92 ∷ r) ≡ stands (92 ∷ []) r
unfolding begun escape
escaped_backslash r = refl

escaped_line : (r : List ℕ) → piece true (92 ∷ 110 ∷ r) ≡ stands (10 ∷ []) r
unfolding begun escape
escaped_line r = refl

doubled_dollar : (within : Bool) (r : List ℕ) → piece within (36 ∷ 36 ∷ 123 ∷ r) ≡ stands (36 ∷ 123 ∷ []) r
unfolding begun
doubled_dollar within r = refl

doubled_percent : (within : Bool) (r : List ℕ) → piece within (37 ∷ 37 ∷ 123 ∷ r) ≡ stands (37 ∷ 123 ∷ []) r
unfolding begun
doubled_percent within r = refl

-- whether a byte is doubled in front of another
abbrev braced : ℕ → ℕ → Bool
braced b n = ((b == 36) || (b == 37)) && (n == 123)

-- how a byte is written, by the tests on it
abbrev pub chosen : Bool → Bool → Bool → ℕ → List ℕ
chosen x y z b = if x then b ∷ b ∷ [] else (if y then 92 ∷ b ∷ [] else (if z then 92 ∷ 110 ∷ [] else b ∷ []))

chosen_first : (x y z : Bool) (b : ℕ) (r : List ℕ) → (get_or (chosen x y z b ++ r) 0 0 ≡ b) ⊎ (get_or (chosen x y z b ++ r) 0 0 ≡ 92)
chosen_first true y z b r = inl refl
chosen_first false true z b r = inr refl
chosen_first false false true b r = inr refl
chosen_first false false false b r = inl refl

escape_is_no_brace : {n : ℕ} → n ≡ 92 → n ≡ 123 → ⊥
escape_is_no_brace e f = omega arith

-- only a brace is written with a brace in front
brace_first : (within : Bool) (text rest : List ℕ) → get_or rest 0 0 ≢ 123 → get_or (literal_text within text rest) 0 0 ≡ 123 → get_or text 0 0 ≡ 123
brace_first within [] rest q h = absurd (q h)
brace_first within (b ∷ text) rest q h =
    elim (chosen_first (braced b (get_or text 0 0)) (within && ((b == 34) || (b == 92))) (within && (b == 10)) b (literal_text within text rest)) [
      | inl e ↦ sym e ∙ h
      | inr e ↦ absurd (escape_is_no_brace e h)
    ]

record Second (x : Bool) (b c : ℕ) (r : List ℕ) : Type 0 where
  same : b ≡ c
  bare : x ≡ false
  brace : get_or r 0 0 ≡ 123

second : (x y z : Bool) (b c : ℕ) (r : List ℕ) → c ≢ 92 → c ≢ 123 → get_or (chosen x y z b ++ r) 0 0 ≡ c → get_or (chosen x y z b ++ r) 1 0 ≡ 123 → Second x b c r
second true y z b c r m n h k = absurd (n (sym h ∙ k))
second false true z b c r m n h k = absurd (m (sym h))
second false false true b c r m n h k = absurd (m (sym h))
second false false false b c r m n h k = record { same = h; bare = refl; brace = k }

braced_dollar : (b n : ℕ) → b ≡ 36 → n ≡ 123 → braced b n ≡ true
braced_dollar b n e f = grind (arith, nat_tests)

braced_percent : (b n : ℕ) → b ≡ 37 → n ≡ 123 → braced b n ≡ true
braced_percent b n e f = grind (arith, nat_tests)

bare_end : (b : ℕ) → braced b 0 ≡ false
bare_end b = grind (arith, nat_tests)

-- written text that begins with another byte than a brace is quiet
module _ (c : ℕ) (not_escape : c ≢ 92) (not_brace : c ≢ 123) (doubles : (b n : ℕ) → b ≡ c → n ≡ 123 → braced b n ≡ true) where
  quiet : (within : Bool) (b : ℕ) (text rest : List ℕ) → get_or rest 0 0 ≢ 123 → b ≢ 123 → Quiet c (literal_text within (b ∷ text) rest)
  quiet within b text rest q n = (
    λ h. n (brace_first within (b ∷ text) rest q h),
    λ h k.
        let s = second (braced b (get_or text 0 0)) (within && ((b == 34) || (b == 92))) (within && (b == 10)) b c (literal_text within text rest) not_escape not_brace h k in
        true≢false (sym (doubles b (get_or text 0 0) s.same (brace_first within text rest q s.brace)) ∙ s.bare),
  )

stands_outside : (b : ℕ) (r : List ℕ) → (b ≡ 36 → Quiet 36 r) → (b ≡ 37 → Quiet 37 r) → piece false (b ∷ r) ≡ stands (b ∷ []) r
stands_outside b r d p = elim (cases_eq b 36) [
  | inl e ↦ subst (λ x. piece false (x ∷ r) ≡ stands (x ∷ []) r) (sym e) (dollar_alone false r (d e))
  | inr m ↦ elim (cases_eq b 37) [
    | inl e ↦ subst (λ x. piece false (x ∷ r) ≡ stands (x ∷ []) r) (sym e) (percent_alone false r (p e))
    | inr n ↦ outside b r m n
  ]
]

stands_inside : (b : ℕ) (r : List ℕ) → (b ≡ 36 → Quiet 36 r) → (b ≡ 37 → Quiet 37 r) → b ≢ 34 → b ≢ 92 → b ≢ 10 → piece true (b ∷ r) ≡ stands (b ∷ []) r
stands_inside b r d p u v w = elim (cases_eq b 36) [
  | inl e ↦ subst (λ x. piece true (x ∷ r) ≡ stands (x ∷ []) r) (sym e) (dollar_alone true r (d e))
  | inr m ↦ elim (cases_eq b 37) [
    | inl e ↦ subst (λ x. piece true (x ∷ r) ≡ stands (x ∷ []) r) (sym e) (percent_alone true r (p e))
    | inr n ↦ inside b r m n u v w
  ]
]

not_escaped : (b : ℕ) → b ≢ 34 → b ≢ 92 → ((b == 34) || (b == 92)) ≡ false
not_escaped b u v = grind (arith, nat_tests)

not_line : (b : ℕ) → b ≢ 10 → (b == 10) ≡ false
not_line b u = grind (arith, nat_tests)

-- one byte more in front, written for itself or escaped
after_byte : (within : Bool) (b n : ℕ) (text r rest : List ℕ) → braced b n ≡ false → (b ≡ 36 → Quiet 36 r) → (b ≡ 37 → Quiet 37 r) → Literal within text r rest
    → Literal within (b ∷ text) (byte_text within b n ++ r) rest
after_byte false b n text r rest e d p h =
    subst (λ x. Literal false (b ∷ text) (chosen x false false b ++ r) rest) (sym e)
    (more {bytes = b ∷ []} {text = text} {s = b ∷ r} {r = r} {p = rest} (stands_outside b r d p) h)
after_byte true b n text r rest e d p h =
    let at : ℕ → Type 0 = λ b. Literal true (b ∷ text) (chosen false ((b == 34) || (b == 92)) (b == 10) b ++ r) rest in
    let whole : at b = elim (cases_eq b 34) [
      | inl f ↦ subst at (sym f) (more {bytes = 34 ∷ []} {text = text} {s = 92 ∷ 34 ∷ r} {r = r} {p = rest} (escaped_quote r) h)
      | inr u ↦ elim (cases_eq b 92) [
        | inl f ↦ subst at (sym f) (more {bytes = 92 ∷ []} {text = text} {s = 92 ∷ 92 ∷ r} {r = r} {p = rest} (escaped_backslash r) h)
        | inr v ↦ elim (cases_eq b 10) [
          | inl f ↦ subst at (sym f) (more {bytes = 10 ∷ []} {text = text} {s = 92 ∷ 110 ∷ r} {r = r} {p = rest} (escaped_line r) h)
          | inr w ↦
              subst (λ y. Literal true (b ∷ text) (chosen false y (b == 10) b ++ r) rest) (sym (not_escaped b u v))
              (subst (λ z. Literal true (b ∷ text) (chosen false false z b ++ r) rest) (sym (not_line b w))
              (more {bytes = b ∷ []} {text = text} {s = b ∷ r} {r = r} {p = rest} (stands_inside b r d p u v w) h))
        ]
      ]
    ] in
    subst (λ x. Literal true (b ∷ text) (chosen x ((b == 34) || (b == 92)) (b == 10) b ++ r) rest) (sym e) whole

plain_brace : (within : Bool) (n : ℕ) (r : List ℕ) → byte_text within 123 n ++ r ≡ 123 ∷ r
plain_brace false n r = refl
plain_brace true n r = refl

braced_is : (b n : ℕ) → braced b n ≡ true → ((b ≡ 36) ⊎ (b ≡ 37)) × (n ≡ 123)
braced_is b n h =
    let e : n ≡ 123 = grind (arith, nat_tests) in
    (elim (cases_eq b 36) [ inl f ↦ inl f | inr f ↦ inr (grind (arith, nat_tests)) ], e)

bare_dollar : (b n : ℕ) → braced b n ≡ false → b ≡ 36 → n ≢ 123
bare_dollar b n h e f = true≢false (sym (braced_dollar b n e f) ∙ h)

bare_percent : (b n : ℕ) → braced b n ≡ false → b ≡ 37 → n ≢ 123
bare_percent b n h e f = true≢false (sym (braced_percent b n e f) ∙ h)

-- a byte before another one, by what follows both
join : (within : Bool) (b c : ℕ) (text rest : List ℕ) → get_or rest 0 0 ≢ 123 → Literal within (c ∷ text) (literal_text within (c ∷ text) rest) rest
    → Literal within text (literal_text within text rest) rest → Literal within (b ∷ c ∷ text) (literal_text within (b ∷ c ∷ text) rest) rest
join within b c text rest q h k = elim (cases_Bool (braced b c)) [
  | inl e ↦
      let is = braced_is b c e in
      let r = literal_text within text rest in
      let at : ℕ → Type 0 = λ b. Literal within (b ∷ 123 ∷ text) (byte_text within b 123 ++ 123 ∷ r) rest in
      let whole : at b = elim is.0 [
        | inl f ↦ subst at (sym f) (more {bytes = 36 ∷ 123 ∷ []} {text = text} {s = 36 ∷ 36 ∷ 123 ∷ r} {r = r} {p = rest} (doubled_dollar within r) k)
        | inr f ↦ subst at (sym f) (more {bytes = 37 ∷ 123 ∷ []} {text = text} {s = 37 ∷ 37 ∷ 123 ∷ r} {r = r} {p = rest} (doubled_percent within r) k)
      ] in
      subst (λ c. Literal within (b ∷ c ∷ text) (byte_text within b c ++ (byte_text within c (get_or text 0 0) ++ r)) rest) (sym is.1)
      (subst (λ s. Literal within (b ∷ 123 ∷ text) (byte_text within b 123 ++ s) rest) (sym (plain_brace within (get_or text 0 0) r)) whole)
  | inr e ↦
      after_byte within b c (c ∷ text) (literal_text within (c ∷ text) rest) rest e
      (λ f. quiet 36 (λ x. omega arith) (λ x. omega arith) braced_dollar within c text rest q (bare_dollar b c e f))
      (λ f. quiet 37 (λ x. omega arith) (λ x. omega arith) braced_percent within c text rest q (bare_percent b c e f)) h
]

last_tail : (c : ℕ) (text : List ℕ) → last_byte text ≡ 36 → last_byte (c ∷ text) ≡ 36
last_tail c [] h = absurd (omega arith)
last_tail c (b ∷ text) h = h

-- Literal text in front of what is neither a brace nor a `%`, and no `$` if the text ends in one.
pub literal_reads : (within : Bool) (text rest : List ℕ) → get_or rest 0 0 ≢ 123 → get_or rest 0 0 ≢ 37 → (last_byte text ≡ 36 → get_or rest 0 0 ≢ 36)
    → Literal within text (literal_text within text rest) rest
literal_reads within [] rest q p d = nothing
literal_reads within (b ∷ []) rest q p d =
    after_byte within b 0 [] rest rest (bare_end b) (λ e. (q, λ f. absurd (d e f))) (λ e. (q, λ f. absurd (p f))) nothing
literal_reads within (b ∷ c ∷ text) rest q p d =
    join within b c text rest q (literal_reads within (c ∷ text) rest q p d) (literal_reads within text rest q p (λ e. d (last_tail c text e)))
