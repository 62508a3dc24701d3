-- What is spelled is writable.
use Rattle.std.proofs.Common.{◌≡◌, ◌≢◌, inl, inr, ℕ, suc, ◌+◌, ◌<◌, Bool, true, false, cond, if◌then◌else◌, ◌&&◌, ◌==◌, List, [], ◌∷◌, ◌++◌, length, get_or, take, drop, refl, sym, subst, ap, ◌∙◌, arith, one-add, true≢false}
use Rattle.std.proofs.lemmas.Bool.{cases_Bool}
use Rattle.std.proofs.lemmas.Bool.Decides.{nat_tests}
use Rattle.std.proofs.lemmas.List.{append-nil, length-append}
use Rattle.std.specs.List.{prefix_len, list_all}
use Rattle.tf_config_address.specs.Name.{starts_name, continues_name, is_name}
use Rattle.tf_expr_template.specs.Bytes.{is_digit}
use Rattle.tf_expr_template.specs.Canonical.{IsWritable, AreWritable, ArePartsWritable, IsWritableTemplate, last_byte}
use Rattle.tf_expr_template.specs.Literal.{Piece, stands, opens, closes, wrong, piece, begun, escape, Literal, nothing, more}
use Rattle.tf_expr_template.specs.Spelling.{Spells, SpellsList, SpellsParts, SpellsTemplate, TakesName}
use Rattle.tf_expr_template.specs.Token.{sign, front, trimmed, token_kind, token_word}
use Rattle.tf_expr_syntax.specs.TemplateTree.{Tree, number, truth, null, quoted, reference, call, group, listed, attribute, index, unary, binary, conditional, Trees, no_trees, tree, Parts, no_parts, part, Woven}
use Rattle.tf_expr_template.specs.declared.token.TokenKind.{TokenKind}
use Rattle.tf_expr_template.specs.declared.token.TokenKind.TheVariants.{Name, Number}
use Rattle.tf_expr_template.proofs.Fronts.{front-name, front-digit, name_goes_on}

-- names
sign_no_name : (a b : ℕ) → (sign a b).0 ≡ Name → ⊥
unfolding sign
sign_no_name a b h = grind (arith, nat_tests)

front-sign : (c : ℕ) (s : List ℕ) → starts_name c ≡ false → is_digit c ≡ false → front (c ∷ s) ≡ sign c (get_or s 0 0)
unfolding front
front-sign c s e f =
    let at : Bool → Bool → TokenKind × ℕ = λ x y. if x then (Name, prefix_len continues_name (c ∷ s)) else (if y then (Number, prefix_len is_digit (c ∷ s)) else sign c (get_or s 0 0)) in
    ap (λ x. at x (is_digit c)) e ∙ ap (λ y. at false y) f

run_passes : (p : ℕ → Bool) (s : List ℕ) → list_all p (take (prefix_len p s) s) ≡ true
run_passes p [] = refl
run_passes p (x ∷ xs) = elim (cases_Bool (p x)) [
  | inl e ↦
      let len : prefix_len p (x ∷ xs) ≡ suc (prefix_len p xs) = ap (λ y. cond y (1 + prefix_len p xs) 0) e ∙ one-add (prefix_len p xs) in
      subst (λ n. list_all p (take n (x ∷ xs)) ≡ true) (sym len) (ap (λ y. y && list_all p (take (prefix_len p xs) xs)) e ∙ run_passes p xs)
  | inr e ↦ subst (λ n. list_all p (take n (x ∷ xs)) ≡ true) (sym (ap (λ y. cond y (1 + prefix_len p xs) 0) e)) refl
]

front_word : (t : List ℕ) → (front t).0 ≡ Name → is_name (take (front t).1 t) ≡ true
unfolding front sign
front_word [] h = absurd (cc)
front_word (c ∷ cs) h = elim (cases_Bool (starts_name c)) [
  | inl e ↦
      let n = prefix_len continues_name cs in
      let len : prefix_len continues_name (c ∷ cs) ≡ suc n = ap (λ y. cond y (1 + n) 0) (name_goes_on c e) ∙ one-add n in
      subst (λ x. is_name (take x.1 (c ∷ cs)) ≡ true) (sym (front-name c cs e))
      (subst (λ m. is_name (take m (c ∷ cs)) ≡ true) (sym len) (ap (λ y. y && list_all continues_name (take n cs)) e ∙ run_passes continues_name cs))
  | inr e ↦ elim (cases_Bool (is_digit c)) [
    | inl f ↦ let k : Name ≡ Number = sym h ∙ ap (λ x. x.0) (front-digit c cs f) in absurd (cc)
    | inr f ↦ absurd (sign_no_name c (get_or cs 0 0) (sym (ap (λ x. x.0) (front-sign c cs e f)) ∙ h))
  ]
]

word_is_name : (s : List ℕ) → token_kind s ≡ Name → is_name (token_word s) ≡ true
unfolding token_kind token_word
word_is_name s h = front_word (trimmed s) h

named : (a s rest : List ℕ) → TakesName a s rest → is_name a ≡ true
named a s rest h = ap is_name (sym h.word_is) ∙ word_is_name s h.kind_is

-- literal text
pub pick : (P : Piece → Type 0) (x : Bool) (p q : Piece) → (x ≡ true → P p) → (x ≡ false → P q) → P (if x then p else q)
pick P true p q f g = f refl
pick P false p q f g = g refl

-- what is true where an interpolation begins
abbrev OnOpening : Bool → Piece → Type 0
OnOpening x (stands bytes r) = Unit {0}
OnOpening x (opens r) = x ≡ true
OnOpening x (closes r) = Unit {0}
OnOpening x wrong = Unit {0}

escape_opening : (x : Bool) (c : ℕ) (s : List ℕ) → OnOpening x (escape c s)
unfolding escape
escape_opening x c s =
    pick (OnOpening x) (c == 34) _ _ (λ e. tt) (λ e. pick (OnOpening x) (c == 92) _ _ (λ f. tt) (λ f. pick (OnOpening x) (c == 110) _ _ (λ g. tt)
    (λ g. pick (OnOpening x) (c == 114) _ _ (λ h. tt) (λ h. pick (OnOpening x) (c == 116) _ _ (λ i. tt) (λ i. tt)))))

begun_opening : (within : Bool) (b : ℕ) (s : List ℕ) → OnOpening ((b == 36) && (get_or s 0 0 == 123)) (begun within b s)
unfolding begun
begun_opening within b s =
    let P : Piece → Type 0 = OnOpening ((b == 36) && (get_or s 0 0 == 123)) in
    pick P (b == 36) _ _
    (λ e. pick P (get_or s 0 0 == 123) _ _ (λ f. ap (λ x. x && (get_or s 0 0 == 123)) e ∙ f) (λ f. pick P ((get_or s 0 0 == 36) && (get_or s 1 0 == 123)) _ _ (λ g. tt) (λ g. tt)))
    (λ d. pick P (b == 37) _ _
    (λ e. pick P (get_or s 0 0 == 123) _ _ (λ f. tt) (λ f. pick P ((get_or s 0 0 == 37) && (get_or s 1 0 == 123)) _ _ (λ g. tt) (λ g. tt)))
    (λ e. pick P (within && (b == 34)) _ _ (λ f. tt)
    (λ f. pick P (within && (b == 92)) _ _ (λ g. escape_opening ((b == 36) && (get_or s 0 0 == 123)) (get_or s 0 0) (drop 1 s))
    (λ g. pick P (within && (b == 10)) _ _ (λ h. tt) (λ h. tt)))))

opens_first : (within : Bool) (s q : List ℕ) → piece within s ≡ opens q → ((get_or s 0 0 == 36) && (get_or s 1 0 == 123)) ≡ true
opens_first true [] q h = absurd (cc)
opens_first false [] q h = absurd (cc)
opens_first within (b ∷ s) q h = subst (OnOpening ((b == 36) && (get_or s 0 0 == 123))) h (begun_opening within b s)

-- bytes that stand for themselves or are escaped: some, and in front of an interpolation the last is no `$`
abbrev IsSolid : Piece → Type 0
IsSolid (stands bytes r) = (0 < length bytes) × (last_byte bytes ≡ 36 → (within : Bool) (q : List ℕ) → piece within r ≡ opens q → ⊥)
IsSolid (opens r) = Unit {0}
IsSolid (closes r) = Unit {0}
IsSolid wrong = Unit {0}

other : (bytes r : List ℕ) → 0 < length bytes → last_byte bytes ≢ 36 → IsSolid (stands bytes r)
other bytes r n h = (n, λ e. absurd (h e))

dollar_solid : (s : List ℕ) → ((get_or s 0 0 == 36) && (get_or s 1 0 == 123)) ≡ false → IsSolid (stands (36 ∷ []) s)
dollar_solid s h = (omega arith, λ e within q k. true≢false (sym (opens_first within s q k) ∙ h))

escape_solid : (c : ℕ) (s : List ℕ) → IsSolid (escape c s)
unfolding escape
escape_solid c s =
    pick IsSolid (c == 34) _ _ (λ e. other (34 ∷ []) s (omega arith) (λ h. omega arith))
    (λ e. pick IsSolid (c == 92) _ _ (λ f. other (92 ∷ []) s (omega arith) (λ h. omega arith))
    (λ f. pick IsSolid (c == 110) _ _ (λ g. other (10 ∷ []) s (omega arith) (λ h. omega arith))
    (λ g. pick IsSolid (c == 114) _ _ (λ i. other (13 ∷ []) s (omega arith) (λ h. omega arith))
    (λ i. pick IsSolid (c == 116) _ _ (λ j. other (9 ∷ []) s (omega arith) (λ h. omega arith)) (λ j. tt)))))

not_dollar : (b : ℕ) → (b == 36) ≡ false → b ≢ 36
not_dollar b h e = grind (arith, nat_tests)

begun_solid : (within : Bool) (b : ℕ) (s : List ℕ) → IsSolid (begun within b s)
unfolding begun
begun_solid within b s =
    pick IsSolid (b == 36) _ _
    (λ e. pick IsSolid (get_or s 0 0 == 123) _ _ (λ f. tt) (λ f. pick IsSolid ((get_or s 0 0 == 36) && (get_or s 1 0 == 123)) _ _ (λ g. other (36 ∷ 123 ∷ []) (drop 2 s) (omega arith) (λ h. omega arith)) (λ g. dollar_solid s g)))
    (λ d. pick IsSolid (b == 37) _ _
    (λ e. pick IsSolid (get_or s 0 0 == 123) _ _ (λ f. tt) (λ f. pick IsSolid ((get_or s 0 0 == 37) && (get_or s 1 0 == 123)) _ _ (λ g. other (37 ∷ 123 ∷ []) (drop 2 s) (omega arith) (λ h. omega arith)) (λ g. other (37 ∷ []) s (omega arith) (λ h. omega arith))))
    (λ e. pick IsSolid (within && (b == 34)) _ _ (λ f. tt)
    (λ f. pick IsSolid (within && (b == 92)) _ _ (λ g. escape_solid (get_or s 0 0) (drop 1 s))
    (λ g. pick IsSolid (within && (b == 10)) _ _ (λ h. tt) (λ h. other (b ∷ []) s (omega arith) (not_dollar b d))))))

piece_solid : (within : Bool) (s : List ℕ) → IsSolid (piece within s)
piece_solid true [] = tt
piece_solid false [] = tt
piece_solid within (b ∷ s) = begun_solid within b s

solid : (within : Bool) (s bytes r : List ℕ) → piece within s ≡ stands bytes r → IsSolid (stands bytes r)
solid within s bytes r e = subst IsSolid e (piece_solid within s)

last-append : (a : List ℕ) (b : ℕ) (text : List ℕ) → last_byte (a ++ (b ∷ text)) ≡ last_byte (b ∷ text)
last-append [] b text = refl
last-append (x ∷ []) b text = refl
last-append (x ∷ y ∷ a) b text = last-append (y ∷ a) b text

-- no text ends here with bytes that stand for nothing
empty_stays : (within : Bool) (text s p : List ℕ) → Literal within text s p → length text ≡ 0 → s ≡ p
empty_stays within _ s _ nothing n = refl
empty_stays within _ s p (more {bytes} {text} {r = m} e h) n =
    let some = (solid within s bytes m e).0 in
    absurd (omega (arith, length-append bytes text))

no_dollar : (within : Bool) (text s p q : List ℕ) → Literal within text s p → piece within p ≡ opens q → last_byte text ≢ 36
no_dollar within _ s _ q nothing k = λ h. omega arith
no_dollar within _ s p q (more {bytes} {text = []} {r = m} e h) k =
    let place = empty_stays within [] m p h refl in
    λ d. (solid within s bytes m e).1 (ap last_byte (sym (append-nil bytes)) ∙ d) within q (ap (piece within) place ∙ k)
no_dollar within _ s p q (more {bytes} {text = b ∷ text} {r = m} e h) k =
    λ d. no_dollar within (b ∷ text) m p q h k (sym (last-append bytes b text) ∙ d)

mutual
  tree_writable : (t : Tree) (s rest : List ℕ) → Spells t s rest → IsWritable t
  tree_writable (number n) s rest h = h.2
  tree_writable (truth b) s rest h = tt
  tree_writable null s rest h = tt
  tree_writable (quoted ps last) s rest h = parts_writable ps true last h.0 rest h.2
  tree_writable (reference a b) s rest h = ((named a s h.1.0 h.1.2, h.0), named b h.1.1 rest h.1.4)
  tree_writable (call f ts) s rest h = ((named f s h.1.0 h.1.2, h.0), list_writable ts _ h.1.1 rest h.1.4)
  tree_writable (group t) s rest h = tree_writable t h.0 h.1 h.3
  tree_writable (listed ts) s rest h = list_writable ts _ h.0 rest h.2
  tree_writable (attribute t name) s rest h = (tree_writable t s h.0 h.1, named name h.2.0 rest h.2.2, h.2.3)
  tree_writable (index t i) s rest h = (tree_writable t s h.0 h.1, tree_writable i h.2.0 h.2.1 h.2.3, h.2.5)
  tree_writable (unary op t) s rest h = (tree_writable t h.0 rest h.2, h.3)
  tree_writable (binary op a b) s rest h = (tree_writable a s h.0 h.1, tree_writable b h.2.0 rest h.2.2, h.2.3, h.2.4)
  tree_writable (conditional c a b) s rest h = (tree_writable c s h.0 h.1, tree_writable a h.2.0 h.2.1 h.2.4, tree_writable b h.2.2 rest h.2.6, h.2.7)

  list_writable : (ts : Trees) (close : TokenKind) (s rest : List ℕ) → SpellsList close ts s rest → AreWritable ts
  list_writable no_trees close s rest h = tt
  list_writable (tree t no_trees) close s rest h = (tree_writable t s h.0 h.1, tt)
  list_writable (tree t (tree u us)) close s rest h = (tree_writable t s h.0 h.1, elim h.2 [ inl a ↦ absurd a.0 | inr a ↦ list_writable (tree u us) close a.0 rest a.2 ])

  parts_writable : (ps : Parts) (within : Bool) (last s rest : List ℕ) → SpellsParts within ps last s rest → ArePartsWritable ps
  parts_writable no_parts within last s rest h = tt
  parts_writable (part text t ps) within last s rest h =
      (no_dollar within text s h.0 h.1 h.4 h.5, tree_writable t h.1 h.2 h.6, parts_writable ps within last h.3 rest h.8)

pub spelled_writable : (w : Woven) (text : List ℕ) → SpellsTemplate w text → IsWritableTemplate w
spelled_writable w text h = parts_writable w.0 false w.1 text [] h
