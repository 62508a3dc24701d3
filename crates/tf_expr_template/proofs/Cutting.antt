-- The texts of a tree are UTF-8 where a text that spells it is.
use Rattle.std.proofs.Common.{◌≡◌, inl, inr, ℕ, ◌<◌, ◌≤◌, Bool, true, false, cond, nat_lt, if◌then◌else◌, ◌&&◌, ◌==◌, List, [], ◌∷◌, ◌++◌, length, get_or, drop, refl, sym, subst, ap, ◌∙◌, arith}
use Rattle.std.proofs.lemmas.Bool.{cases_lt}
use Rattle.std.proofs.lemmas.Bool.Decides.{nat_tests}
use Rattle.std.proofs.lemmas.Str.{IsUtf8-append, IsUtf8-nil, IsUtf8-encode, IsUtf8-drop, encode_ascii}
use Rattle.std.specs.Char.{encode_utf8}
use Rattle.std.specs.List.{prefix_len}
use Rattle.std.specs.Prelude.{encode_utf8_all}
use Rattle.std.specs.Str.{IsUtf8, IsCharBoundary, all_scalars}
use Rattle.tf_config_address.specs.Name.{starts_name, continues_name}
use Rattle.tf_expr_template.specs.Bytes.{is_space, is_digit}
use Rattle.tf_expr_template.specs.Canonical.{HasTexts, HaveTexts, PartsHaveTexts, TemplateHasTexts}
use Rattle.tf_expr_template.specs.Literal.{Piece, stands, opens, closes, wrong, piece, begun, escape, Literal, nothing, more}
use Rattle.tf_expr_template.specs.Spelling.{Spells, SpellsList, SpellsParts, SpellsTemplate, Takes, TakesName}
use Rattle.tf_expr_template.specs.Token.{sign, front, trimmed, after_token}
use Rattle.tf_expr_syntax.specs.TemplateTree.{Tree, number, truth, null, quoted, reference, call, group, listed, attribute, index, unary, binary, conditional, Trees, no_trees, tree, Parts, no_parts, part, Woven}
use Rattle.tf_expr_template.specs.declared.token.TokenKind.{TokenKind}
use Rattle.tf_expr_template.proofs.Cuts.{after_one, after_run, after_sign, within_text, space_is_ascii, digit_is_ascii, name_is_ascii}
use Rattle.tf_expr_template.proofs.Fronts.{both_true}
use Rattle.tf_expr_template.proofs.Pieces.{IsEnd, at_opens, at_closes}
use Rattle.tf_expr_template.proofs.Utf8.{AllHigh, encode_high, cons_ascii}
use Rattle.tf_expr_template.proofs.Writables.{pick}

-- tokens
sign_most : (a b : ℕ) → (sign a b).1 ≤ 2
unfolding sign
sign_most a b = grind (arith, nat_tests)

sign_one : (a b : ℕ) → 0 < (sign a b).1 → (0 < a) × (a < 128)
unfolding sign
sign_one a b h = (grind (arith, nat_tests), grind (arith, nat_tests))

sign_two : (a b : ℕ) → 1 < (sign a b).1 → (0 < b) × (b < 128)
unfolding sign
sign_two a b h = (grind (arith, nat_tests), grind (arith, nat_tests))

pick_cut : (t : List ℕ) (x : Bool) (a b : TokenKind × ℕ) → IsCharBoundary t a.1 → IsCharBoundary t b.1 → IsCharBoundary t (if x then a else b).1
pick_cut t true a b h k = h
pick_cut t false a b h k = k

front_cut : (t : List ℕ) → IsUtf8 t → IsCharBoundary t (front t).1
unfolding front
front_cut t u =
    pick_cut t (starts_name (get_or t 0 0)) _ _ (after_run continues_name name_is_ascii t u (prefix_len continues_name t) refl)
    (pick_cut t (is_digit (get_or t 0 0)) _ _ (after_run is_digit digit_is_ascii t u (prefix_len is_digit t) refl)
    (after_sign t (sign (get_or t 0 0) (get_or t 1 0)).1 u (sign_most (get_or t 0 0) (get_or t 1 0)) (sign_one (get_or t 0 0) (get_or t 1 0)) (sign_two (get_or t 0 0) (get_or t 1 0))))

trimmed_utf8 : (s : List ℕ) → IsUtf8 s → IsUtf8 (trimmed s)
unfolding trimmed
trimmed_utf8 s u = IsUtf8-drop s (prefix_len is_space s) u (after_run is_space space_is_ascii s u (prefix_len is_space s) refl)

after_utf8 : (s : List ℕ) → IsUtf8 s → IsUtf8 (after_token s)
unfolding after_token
after_utf8 s u = let v = trimmed_utf8 s u in IsUtf8-drop (trimmed s) (front (trimmed s)).1 v (front_cut (trimmed s) v)

takes_utf8 : (k : TokenKind) (s rest : List ℕ) → Takes k s rest → IsUtf8 s → IsUtf8 rest
takes_utf8 k s rest h u = subst IsUtf8 h.after_is (after_utf8 s u)

name_utf8 : (name s rest : List ℕ) → TakesName name s rest → IsUtf8 s → IsUtf8 rest
name_utf8 name s rest h u = subst IsUtf8 h.after_is (after_utf8 s u)

-- literal text
is_byte : (a k : ℕ) → (a == k) ≡ true → a ≡ k
is_byte a k h = grind (arith, nat_tests)

drop_one : (s : List ℕ) (k : ℕ) → IsUtf8 s → (get_or s 0 0 == k) ≡ true → 0 < k → k < 128 → IsUtf8 (drop 1 s)
drop_one s k u e some low =
    let is : get_or s 0 0 ≡ k = is_byte (get_or s 0 0) k e in
    IsUtf8-drop s 1 u (after_one s 0 u (within_text s 0 (omega arith)) (omega arith))

drop_two : (s : List ℕ) (k m : ℕ) → IsUtf8 s → ((get_or s 0 0 == k) && (get_or s 1 0 == m)) ≡ true → 0 < m → m < 128 → IsUtf8 (drop 2 s)
drop_two s k m u e some low =
    let is : get_or s 1 0 ≡ m = is_byte (get_or s 1 0) m (both_true (get_or s 0 0 == k) (get_or s 1 0 == m) e).1 in
    IsUtf8-drop s 2 u (after_one s 1 u (within_text s 1 (omega arith)) (omega arith))

abbrev IsCut : Piece → Type 0
IsCut (stands bytes r) = IsUtf8 bytes × IsUtf8 r
IsCut (opens r) = IsUtf8 r
IsCut (closes r) = IsUtf8 r
IsCut wrong = Unit {0}

one_byte : (b : ℕ) → b < 128 → IsUtf8 (b ∷ [])
one_byte b h = cons_ascii b [] h IsUtf8-nil

escape_cut : (s : List ℕ) → IsUtf8 s → IsCut (escape (get_or s 0 0) (drop 1 s))
unfolding escape
escape_cut s u =
    let c = get_or s 0 0 in
    pick IsCut (get_or s 0 0 == 34) _ _ (λ e. (one_byte 34 (omega arith), drop_one s 34 u e (omega arith) (omega arith)))
    (λ e. pick IsCut (get_or s 0 0 == 92) _ _ (λ f. (one_byte 92 (omega arith), drop_one s 92 u f (omega arith) (omega arith)))
    (λ f. pick IsCut (get_or s 0 0 == 110) _ _ (λ g. (one_byte 10 (omega arith), drop_one s 110 u g (omega arith) (omega arith)))
    (λ g. pick IsCut (get_or s 0 0 == 114) _ _ (λ h. (one_byte 13 (omega arith), drop_one s 114 u h (omega arith) (omega arith)))
    (λ h. pick IsCut (get_or s 0 0 == 116) _ _ (λ i. (one_byte 9 (omega arith), drop_one s 116 u i (omega arith) (omega arith))) (λ i. tt)))))

two_bytes : (b : ℕ) → b < 128 → IsUtf8 (b ∷ 123 ∷ [])
two_bytes b h = cons_ascii b (123 ∷ []) h (one_byte 123 (omega arith))

begun_cut : (within : Bool) (b : ℕ) (s : List ℕ) → b < 128 → IsUtf8 s → IsCut (begun within b s)
unfolding begun
begun_cut within b s low u =
    pick IsCut (b == 36) _ _
    (λ e. pick IsCut (get_or s 0 0 == 123) _ _ (λ f. drop_one s 123 u f (omega arith) (omega arith))
    (λ f. pick IsCut ((get_or s 0 0 == 36) && (get_or s 1 0 == 123)) _ _ (λ g. (two_bytes 36 (omega arith), drop_two s 36 123 u g (omega arith) (omega arith))) (λ g. (one_byte 36 (omega arith), u))))
    (λ d. pick IsCut (b == 37) _ _
    (λ e. pick IsCut (get_or s 0 0 == 123) _ _ (λ f. tt)
    (λ f. pick IsCut ((get_or s 0 0 == 37) && (get_or s 1 0 == 123)) _ _ (λ g. (two_bytes 37 (omega arith), drop_two s 37 123 u g (omega arith) (omega arith))) (λ g. (one_byte 37 (omega arith), u))))
    (λ e. pick IsCut (within && (b == 34)) _ _ (λ f. u)
    (λ f. pick IsCut (within && (b == 92)) _ _ (λ g. escape_cut s u)
    (λ g. pick IsCut (within && (b == 10)) _ _ (λ h. tt) (λ h. (one_byte b low, u))))))

piece_high : (within : Bool) (b : ℕ) (s : List ℕ) → 128 ≤ b → piece within (b ∷ s) ≡ stands (b ∷ []) s
unfolding begun
piece_high true b s h = grind (arith, nat_tests)
piece_high false b s h = grind (arith, nat_tests)

pick_some : (x : Bool) (a b : List ℕ) → 0 < length a → 0 < length b → 0 < length (cond x a b)
pick_some true a b h k = h
pick_some false a b h k = k

encode_some : (c : ℕ) → 0 < length (encode_utf8 c)
unfolding encode_utf8
encode_some c = pick_some (nat_lt c 128) _ _ (omega arith) (pick_some (nat_lt c 2048) _ _ (omega arith) (pick_some (nat_lt c 65536) _ _ (omega arith) (omega arith)))

-- a text by its first character
data Lead : List ℕ → Type 0 where
  ended : Lead []
  low : (c : ℕ) (s : List ℕ) → c < 128 → IsUtf8 s → Lead (c ∷ s)
  high : (b : ℕ) (hs s : List ℕ) → AllHigh (b ∷ hs) → IsUtf8 (b ∷ hs) → IsUtf8 s → Lead (b ∷ (hs ++ s))

lead_high : (a s : List ℕ) → 0 < length a → AllHigh a → IsUtf8 a → IsUtf8 s → Lead (a ++ s)
lead_high [] s n h u v = absurd (omega arith)
lead_high (b ∷ hs) s n h u v = high b hs s h u v

lead : (s : List ℕ) → IsUtf8 s → Lead s
lead s u = subst Lead u.1.1 (go u.0 u.1.0)
  where
    go : (cs : List ℕ) → all_scalars cs ≡ true → Lead (encode_utf8_all cs)
    go [] h = ended
    go (c ∷ cs) h =
        let both = both_true _ (all_scalars cs) h in
        let others : IsUtf8 (encode_utf8_all cs) = (cs, (both.1, refl)) in
        elim (cases_lt c 128) [
          | inl small ↦ subst (λ x. Lead (x ++ encode_utf8_all cs)) (sym (encode_ascii c small)) (low c (encode_utf8_all cs) small others)
          | inr large ↦ lead_high (encode_utf8 c) (encode_utf8_all cs) (encode_some c) (encode_high c large) (IsUtf8-encode c both.0) others
        ]

-- Literal text behind the rest of a character: that rest, and then UTF-8 up to where the literal ends.
record Stays (hs text p : List ℕ) : Type 0 where
  others : List ℕ
  is : text ≡ hs ++ others
  others_utf8 : IsUtf8 others
  after_utf8 : IsUtf8 p

not_end : (within : Bool) (b : ℕ) (hs s x : List ℕ) → x ≡ b ∷ (hs ++ s) → 128 ≤ b → IsEnd (piece within x) → ⊥
not_end within b hs s x e h i = subst IsEnd (ap (piece within) e ∙ piece_high within b (hs ++ s) h) i

record Peeled (bytes m : List ℕ) (b : ℕ) (r : List ℕ) : Type 0 where
  bytes_are : bytes ≡ b ∷ []
  rest_is : m ≡ r

peel : (within : Bool) (b : ℕ) (r x bytes m : List ℕ) → x ≡ b ∷ r → 128 ≤ b → piece within x ≡ stands bytes m → Peeled bytes m b r
peel within b r x bytes m e h k =
    let both : stands bytes m ≡ stands (b ∷ []) r = sym k ∙ ap (piece within) e ∙ piece_high within b r h in
    record { bytes_are = cc; rest_is = cc }

no_stands : (within : Bool) (s bytes m : List ℕ) → s ≡ [] → piece within s ≡ stands bytes m → ⊥
no_stands true s bytes m e k = let f : wrong ≡ stands bytes m = ap (piece true) (sym e) ∙ k in absurd (cc)
no_stands false s bytes m e k = let f : closes [] ≡ stands bytes m = ap (piece false) (sym e) ∙ k in absurd (cc)

-- one piece more, by the character that it begins with
one_more : (within : Bool) (text s p bytes m : List ℕ) → piece within s ≡ stands bytes m
    → ((hs t : List ℕ) → m ≡ hs ++ t → AllHigh hs → IsUtf8 t → Stays hs text p) → (x : List ℕ) → s ≡ x → Lead x → Stays [] (bytes ++ text) p
one_more within text s p bytes m k go _ f ended = absurd (no_stands within s bytes m f k)
one_more within text s p bytes m k go _ f (low c t small v) =
    let cut : IsCut (stands bytes m) = subst IsCut (ap (piece within) (sym f) ∙ k) (begun_cut within c t small v) in
    let g = go [] m refl tt cut.1 in
    record { others = bytes ++ g.others; is = ap (λ x. bytes ++ x) g.is; others_utf8 = IsUtf8-append bytes g.others cut.0 g.others_utf8; after_utf8 = g.after_utf8 }
one_more within text s p bytes m k go _ f (high b hs t all v w) =
    let q = peel within b (hs ++ t) s bytes m f all.0 k in
    let g = go hs t q.rest_is all.1 w in
    record {
      others = b ∷ (hs ++ g.others);
      is = ap (λ x. x ++ text) q.bytes_are ∙ ap (λ x. b ∷ x) g.is;
      others_utf8 = IsUtf8-append (b ∷ hs) g.others v g.others_utf8;
      after_utf8 = g.after_utf8;
    }

literal_stays : (within : Bool) (text s p : List ℕ) → Literal within text s p → IsEnd (piece within p) → (hs others : List ℕ) → s ≡ hs ++ others → AllHigh hs → IsUtf8 others → Stays hs text p
literal_stays within _ s _ nothing i [] others e h u = record { others = []; is = refl; others_utf8 = IsUtf8-nil; after_utf8 = subst IsUtf8 (sym e) u }
literal_stays within _ s _ nothing i (b ∷ hs) others e h u = absurd (not_end within b hs others s e h.0 i)
literal_stays within _ s p (more {bytes} {text} {r = m} k l) i (b ∷ hs) others e h u =
    let f = peel within b (hs ++ others) s bytes m e h.0 k in
    let g = literal_stays within text m p l i hs others f.rest_is h.1 u in
    record {
      others = g.others;
      is = ap (λ x. x ++ text) f.bytes_are ∙ ap (λ x. b ∷ x) g.is;
      others_utf8 = g.others_utf8;
      after_utf8 = g.after_utf8;
    }
literal_stays within _ s p (more {bytes} {text} {r = m} k l) i [] others e h u =
    one_more within text s p bytes m k (λ hs t f g v. literal_stays within text m p l i hs t f g v) others e (lead others u)

record LiteralTexts (text p : List ℕ) : Type 0 where
  text_utf8 : IsUtf8 text
  after_utf8 : IsUtf8 p

literal_texts : (within : Bool) (text s p : List ℕ) → Literal within text s p → IsEnd (piece within p) → IsUtf8 s → LiteralTexts text p
literal_texts within text s p h i u =
    let g = literal_stays within text s p h i [] s refl tt u in
    record { text_utf8 = subst IsUtf8 (sym g.is) g.others_utf8; after_utf8 = g.after_utf8 }

-- what follows the beginning of an interpolation, or the end of a template
end_cut : (within : Bool) (p : List ℕ) → Lead p → IsEnd (piece within p) → IsCut (piece within p)
end_cut true _ ended i = tt
end_cut false _ ended i = IsUtf8-nil
end_cut within _ (low c t small v) i = begun_cut within c t small v
end_cut within _ (high b hs t all v w) i = absurd (not_end within b hs t (b ∷ (hs ++ t)) refl all.0 i)

opens_utf8 : (within : Bool) (p q : List ℕ) → IsUtf8 p → piece within p ≡ opens q → IsUtf8 q
opens_utf8 within p q u e = subst IsCut e (end_cut within p (lead p u) (at_opens e))

closes_utf8 : (within : Bool) (p q : List ℕ) → IsUtf8 p → piece within p ≡ closes q → IsUtf8 q
closes_utf8 within p q u e = subst IsCut e (end_cut within p (lead p u) (at_closes e))

mutual
  tree_texts : (t : Tree) (s rest : List ℕ) → Spells t s rest → IsUtf8 s → HasTexts t × IsUtf8 rest
  tree_texts (number n) s rest h u = (tt, takes_utf8 _ s rest h.0 u)
  tree_texts (truth b) s rest h u = (tt, takes_utf8 _ s rest h.0 u)
  tree_texts null s rest h u = (tt, takes_utf8 _ s rest h.0 u)
  tree_texts (quoted ps last) s rest h u =
      let f = parts_texts ps true last h.0 rest h.2 (takes_utf8 _ s h.0 h.1 u) in ((f.0, f.1), f.2)
  tree_texts (reference a b) s rest h u =
      (tt, name_utf8 b h.1.1 rest h.1.4 (takes_utf8 _ h.1.0 h.1.1 h.1.3 (name_utf8 a s h.1.0 h.1.2 u)))
  tree_texts (call f ts) s rest h u = list_texts ts _ h.1.1 rest h.1.4 (takes_utf8 _ h.1.0 h.1.1 h.1.3 (name_utf8 f s h.1.0 h.1.2 u))
  tree_texts (group t) s rest h u =
      let f = tree_texts t h.0 h.1 h.3 (takes_utf8 _ s h.0 h.2 u) in (f.0, takes_utf8 _ h.1 rest h.4 f.1)
  tree_texts (listed ts) s rest h u = list_texts ts _ h.0 rest h.2 (takes_utf8 _ s h.0 h.1 u)
  tree_texts (attribute t name) s rest h u =
      let f = tree_texts t s h.0 h.1 u in (f.0, name_utf8 name h.2.0 rest h.2.2 (takes_utf8 _ h.0 h.2.0 h.2.1 f.1))
  tree_texts (index t i) s rest h u =
      let f = tree_texts t s h.0 h.1 u in
      let g = tree_texts i h.2.0 h.2.1 h.2.3 (takes_utf8 _ h.0 h.2.0 h.2.2 f.1) in
      ((f.0, g.0), takes_utf8 _ h.2.1 rest h.2.4 g.1)
  tree_texts (unary op t) s rest h u = tree_texts t h.0 rest h.2 (takes_utf8 _ s h.0 h.1 u)
  tree_texts (binary op a b) s rest h u =
      let f = tree_texts a s h.0 h.1 u in
      let g = tree_texts b h.2.0 rest h.2.2 (takes_utf8 _ h.0 h.2.0 h.2.1 f.1) in
      ((f.0, g.0), g.1)
  tree_texts (conditional c a b) s rest h u =
      let f = tree_texts c s h.0 h.1 u in
      let g = tree_texts a h.2.0 h.2.1 h.2.4 (takes_utf8 _ h.0 h.2.0 h.2.3 f.1) in
      let k = tree_texts b h.2.2 rest h.2.6 (takes_utf8 _ h.2.1 h.2.2 h.2.5 g.1) in
      ((f.0, g.0, k.0), k.1)

  list_texts : (ts : Trees) (close : TokenKind) (s rest : List ℕ) → SpellsList close ts s rest → IsUtf8 s → HaveTexts ts × IsUtf8 rest
  list_texts no_trees close s rest h u = (tt, takes_utf8 close s rest h u)
  list_texts (tree t no_trees) close s rest h u =
      let f = tree_texts t s h.0 h.1 u in
      ((f.0, tt), elim h.2 [ inl a ↦ takes_utf8 close h.0 rest a.1 f.1 | inr a ↦ (list_texts no_trees close a.0 rest a.2 (takes_utf8 _ h.0 a.0 a.1 f.1)).1 ])
  list_texts (tree t (tree v vs)) close s rest h u =
      let f = tree_texts t s h.0 h.1 u in
      elim h.2 [
        | inl a ↦ absurd a.0
        | inr a ↦ let g = list_texts (tree v vs) close a.0 rest a.2 (takes_utf8 _ h.0 a.0 a.1 f.1) in ((f.0, g.0), g.1)
      ]

  parts_texts : (ps : Parts) (within : Bool) (last s rest : List ℕ) → SpellsParts within ps last s rest → IsUtf8 s → PartsHaveTexts ps × IsUtf8 last × IsUtf8 rest
  parts_texts no_parts within last s rest h u =
      let f = literal_texts within last s h.0 h.1 (at_closes h.2) u in (tt, f.text_utf8, closes_utf8 within h.0 rest f.after_utf8 h.2)
  parts_texts (part text t ps) within last s rest h u =
      let f = literal_texts within text s h.0 h.4 (at_opens h.5) u in
      let g = tree_texts t h.1 h.2 h.6 (opens_utf8 within h.0 h.1 f.after_utf8 h.5) in
      let k = parts_texts ps within last h.3 rest h.8 (takes_utf8 _ h.2 h.3 h.7 g.1) in
      ((f.text_utf8, g.0, k.0), k.1, k.2)

pub template_texts : (w : Woven) (text : List ℕ) → IsUtf8 text → SpellsTemplate w text → TemplateHasTexts w
template_texts w text u h = let f = parts_texts w.0 false w.1 text [] h u in (f.0, f.1)
