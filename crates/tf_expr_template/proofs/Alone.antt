-- A text spells one tree at most.
use Rattle.std.proofs.Common.{◌≡◌, ◌⊎◌, true, false, true≢false, ℕ, suc, ◌≤◌, Bool, List, [], inl, inr, refl, sym, ap, ◌∙◌, subst, arith}
use Rattle.tf_expr_template.specs.Literal.{piece, opens, closes}
use Rattle.tf_expr_template.specs.Reads.{Turns, IsOperand, Holds, Stops, begins, closing}
use Rattle.tf_expr_template.specs.Spelling.{Spells, SpellsList, SpellsParts, SpellsTemplate, Takes, TakesName, IsEmpty, prefix_token, truth_word}
use Rattle.tf_expr_template.specs.Token.{token_kind, token_word, after_token}
use Rattle.tf_expr_syntax.specs.TemplateTree.{Tree, number, truth, null, quoted, reference, call, group, listed, attribute, index, unary, binary, conditional, Trees, no_trees, tree, Parts, no_parts, part, Woven, level, level_of}
use Rattle.tf_expr_template.specs.Word.{keyword}
use Rattle.tf_expr_template.specs.declared.token.Bracket.{Bracket}
use Rattle.tf_expr_template.specs.declared.token.Bracket.TheVariants.{Round, Square}
use Rattle.tf_expr_template.specs.declared.token.TokenKind.{TokenKind}
use Rattle.tf_expr_template.specs.declared.token.TokenKind.TheVariants.{Name, Quote, Colon, OpenParen, CloseParen, OpenBracket, CloseBracket, CloseBrace, Dot}
use Rattle.tf_expr_syntax.specs.declared.tree.Prefix.{Prefix}
use Rattle.tf_expr_syntax.specs.declared.tree.Prefix.TheVariants.{Not, Negate}
use Rattle.tf_expr_template.specs.declared.word.Keyword.TheVariants.{Null, Free}
use Rattle.tf_expr_template.proofs.Begun.{closing_last, closing_other, at_binary, at_question, at_bracket, sort_of, sort_is, stops_at}
use Rattle.tf_expr_template.proofs.Growing.{Grows, done, again, spine, holds_where, turns_kind, turns_needs, last_step, level_some, spells_begins}
use Rattle.tf_expr_template.proofs.Rowing.{Tail, tail_stops}
use Rattle.tf_expr_template.proofs.Pieces.{Literal-same, at_closes, at_opens}

-- two operands at one place begin with one sort of token
same_sort : (t b : Tree) (s m p : List ℕ) → IsOperand t → Spells t s m → IsOperand b → Spells b s p → sort_of t ≡ sort_of b
same_sort t b s m p o h q k = sym (sort_is t s m o h) ∙ sort_is b s p q k

-- two trees that begin at one place: one grows out of the other
abbrev Meet : Tree → List ℕ → Tree → List ℕ → Type 0
Meet t m u r = Grows t m u r ⊎ Grows u r t m

grows-snoc : (l : Tree) (s : List ℕ) (t : Tree) (m : List ℕ) (u : Tree) (r : List ℕ) → Grows l s t m → Turns t m u r → Grows l s u r
grows-snoc _ _ t m u r done h = again {l = t} {m = u} {t = u} {s = m} {p = r} {rest = r} h done
grows-snoc l s t m u r (again {m = x} {p = q} k g) h = again {l = l} {m = x} {t = u} {s = s} {p = q} {rest = r} k (grows-snoc x q t m u r g h)

holds_on : (m : Tree) (p : List ℕ) (t : Tree) (rest : List ℕ) → Grows m p t rest → Holds t rest → Holds m p
holds_on m p _ _ done y = y
holds_on m p t rest (again {m = n} {p = q} h g) y = holds_where m p (inr (turns_needs m p n q h))

holds_stop : (least : ℕ) (t : Tree) (m : List ℕ) → Stops least m → least ≤ level t → Holds t m
holds_stop least t m z k = holds_where t m (inl (omega (arith, z, k)))

settle : (least : ℕ) (t : Tree) (m : List ℕ) (u : Tree) (r : List ℕ) → Meet t m u r → Stops least m → Stops least r → least ≤ level t → least ≤ level u → (t ≡ u) × (m ≡ r)
settle least t m u r meet zt zu kt ku = elim meet [
  | inl g ↦ last_step least t m u r g zt ku
  | inr g ↦ let e = last_step least u r t m g zu kt in (sym e.0, sym e.1)
]

from_operand : (t : Tree) (s m : List ℕ) → ((b : Tree) (p : List ℕ) → IsOperand b → Spells b s p → Holds b p → (t ≡ b) × (m ≡ p))
    → (u : Tree) (r : List ℕ) → Spells u s r → Holds u r → Meet t m u r
from_operand t s m same u r j y =
    let b = spine u s r u r j done in
    let g = b.1.3 in
    let e = same b.0 b.1.0 b.1.1 b.1.2 (holds_on b.0 b.1.0 u r g y) in
    inl (subst (λ x. Grows x m u r) (sym e.0) (subst (λ x. Grows b.0 x u r) (sym e.1) g))

-- one operator more on one of the two
module _ (l : Tree) (p : List ℕ) (t : Tree) (m : List ℕ) (turn : Turns l p t m)
    (same : (x : Tree) (q : List ℕ) → Turns l p x q → Holds x q → (t ≡ x) × (m ≡ q)) where
  beyond : (u : Tree) (r : List ℕ) → Grows l p u r → Holds u r → Meet t m u r
  beyond _ _ done y = inr (again {l = l} {m = t} {t = t} {s = p} {p = m} {rest = m} turn done)
  beyond u r (again {m = x} {p = q} k g) y =
      let e = same x q k (holds_on x q u r g y) in
      inl (subst (λ z. Grows z m u r) (sym e.0) (subst (λ z. Grows x z u r) (sym e.1) g))

  extend : (u : Tree) (r : List ℕ) → Meet l p u r → Holds u r → Meet t m u r
  extend u r meet y = elim meet [ inl g ↦ beyond u r g y | inr g ↦ inr (grows-snoc u r l p t m g turn) ]

-- what is spelled by its token, where no part is a tree
same_number : (n : ℕ) (b : Tree) (s m p : List ℕ) → Spells (number n) s m → IsOperand b → Spells b s p → (number n ≡ b) × (m ≡ p)
same_number n (number k) s m p h o j = (ap number (sym h.1 ∙ j.1), sym h.0.after_is ∙ j.0.after_is)
same_number n b s m p h o j = let e = same_sort (number n) b s m p tt h o j in absurd (cc)

truth_known : (v : Bool) → truth_word v ≡ Free → ⊥
truth_known true e = cc
truth_known false e = cc

truth_other : (v : Bool) → truth_word v ≡ Null → ⊥
truth_other true e = cc
truth_other false e = cc

truth_same : (v w : Bool) → truth_word v ≡ truth_word w → v ≡ w
truth_same true true e = refl
truth_same true false e = absurd (cc)
truth_same false true e = absurd (cc)
truth_same false false e = refl

free_name : (a s p : List ℕ) → TakesName a s p → keyword a ≡ Free → keyword (token_word s) ≡ Free
free_name a s p h e = ap keyword h.word_is ∙ e

same_truth : (v : Bool) (b : Tree) (s m p : List ℕ) → Spells (truth v) s m → IsOperand b → Spells b s p → (truth v ≡ b) × (m ≡ p)
same_truth v (truth w) s m p h o j = (ap truth (truth_same v w (sym h.1 ∙ j.1)), sym h.0.after_is ∙ j.0.after_is)
same_truth v null s m p h o j = absurd (truth_other v (sym h.1 ∙ j.1))
same_truth v (reference a b) s m p h o j = absurd (truth_known v (sym h.1 ∙ free_name a s j.1.0 j.1.2 j.0))
same_truth v (call f ts) s m p h o j = absurd (truth_known v (sym h.1 ∙ free_name f s j.1.0 j.1.2 j.0))
same_truth v b s m p h o j = let e = same_sort (truth v) b s m p tt h o j in absurd (cc)

same_null : (b : Tree) (s m p : List ℕ) → Spells null s m → IsOperand b → Spells b s p → (null ≡ b) × (m ≡ p)
same_null null s m p h o j = (refl, sym h.0.after_is ∙ j.0.after_is)
same_null (truth w) s m p h o j = absurd (truth_other w (sym j.1 ∙ h.1))
same_null (reference a b) s m p h o j = let e : Null ≡ Free = sym h.1 ∙ free_name a s j.1.0 j.1.2 j.0 in absurd (cc)
same_null (call f ts) s m p h o j = let e : Null ≡ Free = sym h.1 ∙ free_name f s j.1.0 j.1.2 j.0 in absurd (cc)
same_null b s m p h o j = let e = same_sort null b s m p tt h o j in absurd (cc)

-- what a free name begins is a reference or a call
abbrev IsNamed : Tree → Type 0
IsNamed (reference a b) = Unit {0}
IsNamed (call f ts) = Unit {0}
IsNamed _ = ⊥

free_named : (a s q : List ℕ) → keyword a ≡ Free → TakesName a s q → (b : Tree) (p : List ℕ) → Spells b s p → Name ≡ sort_of b → IsNamed b
free_named a s q free h (truth w) p j e = absurd (truth_known w (sym j.1 ∙ free_name a s q h free))
free_named a s q free h null p j e = let f : Null ≡ Free = sym j.1 ∙ free_name a s q h free in absurd (cc)
free_named a s q free h (reference x y) p j e = tt
free_named a s q free h (call f ts) p j e = tt
free_named a s q free h b p j e = absurd (cc)

same_name : (a b s p q : List ℕ) → TakesName a s p → TakesName b s q → (a ≡ b) × (p ≡ q)
same_name a b s p q h j = (sym h.word_is ∙ j.word_is, sym h.after_is ∙ j.after_is)

same_after : (k l : TokenKind) (s p q : List ℕ) → Takes k s p → Takes l s q → p ≡ q
same_after k l s p q h j = sym h.after_is ∙ j.after_is

same_kind : (k l : TokenKind) (s p q : List ℕ) → Takes k s p → Takes l s q → k ≡ l
same_kind k l s p q h j = sym h.kind_is ∙ j.kind_is

same_reference : (a c : List ℕ) (b : Tree) (s m p : List ℕ) → Spells (reference a c) s m → IsOperand b → Spells b s p → (reference a c ≡ b) × (m ≡ p)
same_reference a c (reference x y) s m p h o j =
    let first = same_name a x s h.1.0 j.1.0 h.1.2 j.1.2 in
    let dot = same_after Dot Dot h.1.0 h.1.1 j.1.1 h.1.3 (subst (λ z. Takes Dot z j.1.1) (sym first.1) j.1.3) in
    let last = same_name c y h.1.1 m p h.1.4 (subst (λ z. TakesName y z p) (sym dot) j.1.4) in
    (ap (λ z. reference z c) first.0 ∙ ap (λ z. reference x z) last.0, last.1)
same_reference a c (call f ts) s m p h o j =
    let first = same_name a f s h.1.0 j.1.0 h.1.2 j.1.2 in
    let e = same_kind Dot OpenParen h.1.0 h.1.1 j.1.1 h.1.3 (subst (λ z. Takes OpenParen z j.1.1) (sym first.1) j.1.3) in
    absurd (cc)
same_reference a c b s m p h o j = absurd (free_named a s h.1.0 h.0 h.1.2 b p j (same_sort (reference a c) b s m p tt h o j))

-- a call, and where its arguments begin
record Calls (f : List ℕ) (after : List ℕ) (b : Tree) (p : List ℕ) : Type 0 where
  us : Trees
  is : b ≡ call f us
  spelled : SpellsList CloseParen us after p

at_call : (f : List ℕ) (ts : Trees) (b : Tree) (s m p : List ℕ) (h : Spells (call f ts) s m) → IsOperand b → Spells b s p → Calls f h.1.1 b p
at_call f ts (call g us) s m p h o j =
    let first = same_name f g s h.1.0 j.1.0 h.1.2 j.1.2 in
    let open_ = same_after OpenParen OpenParen h.1.0 h.1.1 j.1.1 h.1.3 (subst (λ z. Takes OpenParen z j.1.1) (sym first.1) j.1.3) in
    record { us = us; is = ap (λ z. call z us) (sym first.0); spelled = subst (λ z. SpellsList CloseParen us z p) (sym open_) j.1.4 }
at_call f ts (reference x y) s m p h o j =
    let first = same_name f x s h.1.0 j.1.0 h.1.2 j.1.2 in
    let e = same_kind OpenParen Dot h.1.0 h.1.1 j.1.1 h.1.3 (subst (λ z. Takes Dot z j.1.1) (sym first.1) j.1.3) in
    absurd (cc)
at_call f ts b s m p h o j = absurd (free_named f s h.1.0 h.0 h.1.2 b p j (same_sort (call f ts) b s m p tt h o j))

record Quoted (after : List ℕ) (b : Tree) (p : List ℕ) : Type 0 where
  qs : Parts
  last : List ℕ
  is : b ≡ quoted qs last
  spelled : SpellsParts true qs last after p

at_quoted : (ps : Parts) (last : List ℕ) (b : Tree) (s m p : List ℕ) (h : Spells (quoted ps last) s m) → IsOperand b → Spells b s p → Quoted h.0 b p
at_quoted ps last (quoted qs end) s m p h o j =
    record { qs = qs; last = end; is = refl; spelled = subst (λ z. SpellsParts true qs end z p) (sym (same_after Quote Quote s h.0 j.0 h.1 j.1)) j.2 }
at_quoted ps last b s m p h o j = let e = same_sort (quoted ps last) b s m p tt h o j in absurd (cc)

record Listed (after : List ℕ) (b : Tree) (p : List ℕ) : Type 0 where
  us : Trees
  is : b ≡ listed us
  spelled : SpellsList CloseBracket us after p

at_listed : (ts : Trees) (b : Tree) (s m p : List ℕ) (h : Spells (listed ts) s m) → IsOperand b → Spells b s p → Listed h.0 b p
at_listed ts (listed us) s m p h o j =
    record { us = us; is = refl; spelled = subst (λ z. SpellsList CloseBracket us z p) (sym (same_after OpenBracket OpenBracket s h.0 j.0 h.1 j.1)) j.2 }
at_listed ts b s m p h o j = let e = same_sort (listed ts) b s m p tt h o j in absurd (cc)

record Grouped (after : List ℕ) (b : Tree) (p : List ℕ) : Type 0 where
  u : Tree
  q : List ℕ
  is : b ≡ group u
  spelled : Spells u after q
  close : Takes CloseParen q p

at_grouped : (t : Tree) (b : Tree) (s m p : List ℕ) (h : Spells (group t) s m) → IsOperand b → Spells b s p → Grouped h.0 b p
at_grouped t (group u) s m p h o j =
    record { u = u; q = j.1; is = refl; spelled = subst (λ z. Spells u z j.1) (sym (same_after OpenParen OpenParen s h.0 j.0 h.2 j.2)) j.3; close = j.4 }
at_grouped t b s m p h o j = let e = same_sort (group t) b s m p tt h o j in absurd (cc)

prefix_same : (a b : Prefix) → prefix_token a ≡ prefix_token b → a ≡ b
prefix_same Not Not e = refl
prefix_same Not Negate e = absurd (cc)
prefix_same Negate Not e = absurd (cc)
prefix_same Negate Negate e = refl

record Signed (op : Prefix) (after : List ℕ) (b : Tree) (p : List ℕ) : Type 0 where
  u : Tree
  is : b ≡ unary op u
  spelled : Spells u after p
  high : 8 ≤ level u

at_signed : (op : Prefix) (t : Tree) (b : Tree) (s m p : List ℕ) (h : Spells (unary op t) s m) → IsOperand b → Spells b s p → Signed op h.0 b p
at_signed op t (unary o u) s m p h w j =
    record {
      u = u;
      is = ap (λ z. unary z u) (sym (prefix_same op o (same_kind (prefix_token op) (prefix_token o) s h.0 j.0 h.1 j.1)));
      spelled = subst (λ z. Spells u z p) (sym (same_after (prefix_token op) (prefix_token o) s h.0 j.0 h.1 j.1)) j.2;
      high = j.3;
    }
at_signed op t b s m p h o j = let e = same_sort (unary op t) b s m p tt h o j in absurd (cc)

-- an attribute
record Named (l : Tree) (x : Tree) (s q : List ℕ) : Type 0 where
  name : List ℕ
  is : x ≡ attribute l name
  spelled : TakesName name (after_token s) q

at_dot : (l : Tree) (s : List ℕ) (x : Tree) (q : List ℕ) → Turns l s x q → token_kind s ≡ Dot → Named l x s q
at_dot l s (attribute t name) q h e = record { name = name; is = ap (λ z. attribute z name) h.0; spelled = subst (λ z. TakesName name z q) (sym h.1.1.after_is) h.1.2 }
at_dot l s t q h e = let f = sym (turns_kind l s t q h) ∙ e in absurd (cc)

empty_is : (ts : Trees) → IsEmpty ts → ts ≡ no_trees
empty_is no_trees h = refl
empty_is (tree t ts) h = absurd h

mutual
  meets : (t : Tree) (s m : List ℕ) → Spells t s m → Holds t m → (u : Tree) (r : List ℕ) → Spells u s r → Holds u r → Meet t m u r
  meets (number n) s m h z u r j y = from_operand (number n) s m (λ b p o k w. same_number n b s m p h o k) u r j y
  meets (truth v) s m h z u r j y = from_operand (truth v) s m (λ b p o k w. same_truth v b s m p h o k) u r j y
  meets null s m h z u r j y = from_operand null s m (λ b p o k w. same_null b s m p h o k) u r j y
  meets (quoted ps last) s m h z u r j y = from_operand (quoted ps last) s m (λ b p o k w.
      let f = at_quoted ps last b s m p h o k in
      let e = meets_parts ps true last h.0 m h.2 f.qs f.last p f.spelled in
      (ap (λ x. quoted x last) e.0 ∙ ap (λ x. quoted f.qs x) e.1 ∙ sym f.is, e.2)) u r j y
  meets (reference a c) s m h z u r j y = from_operand (reference a c) s m (λ b p o k w. same_reference a c b s m p h o k) u r j y
  meets (call f ts) s m h z u r j y = from_operand (call f ts) s m (λ b p o k w.
      let g = at_call f ts b s m p h o k in
      let e = meets_list ts Round h.1.1 m h.1.4 g.us p g.spelled in
      (ap (λ x. call f x) e.0 ∙ sym g.is, e.1)) u r j y
  meets (group t) s m h z u r j y = from_operand (group t) s m (λ b p o k w.
      let g = at_grouped t b s m p h o k in
      let zt = stops_at CloseParen h.1 m refl h.4 in
      let zu = stops_at CloseParen g.q p refl g.close in
      let e = settle 1 t h.1 g.u g.q (meets t h.0 h.1 h.3 (holds_stop 1 t h.1 zt (level_some t)) g.u g.q g.spelled (holds_stop 1 g.u g.q zu (level_some g.u))) zt zu (level_some t) (level_some g.u) in
      (ap group e.0 ∙ sym g.is, same_after CloseParen CloseParen h.1 m p h.4 (subst (λ x. Takes CloseParen x p) (sym e.1) g.close))) u r j y
  meets (listed ts) s m h z u r j y = from_operand (listed ts) s m (λ b p o k w.
      let g = at_listed ts b s m p h o k in
      let e = meets_list ts Square h.0 m h.2 g.us p g.spelled in
      (ap listed e.0 ∙ sym g.is, e.1)) u r j y
  meets (unary op t) s m h z u r j y = from_operand (unary op t) s m (λ b p o k w.
      let g = at_signed op t b s m p h o k in
      let zu : Stops 8 p = subst (λ x. Holds x p) g.is w in
      let e = settle 8 t m g.u p (meets t h.0 m h.2 (holds_stop 8 t m z h.3) g.u p g.spelled (holds_stop 8 g.u p zu g.high)) z zu h.3 g.high in
      (ap (λ x. unary op x) e.0 ∙ sym g.is, e.1)) u r j y
  meets (attribute l name) s m h z u r j y =
      let turn : Turns l h.0 (attribute l name) m = (refl, h.2) in
      extend l h.0 (attribute l name) m turn (λ x q k w.
      let g = at_dot l h.0 x q k h.2.1.kind_is in
      let e = same_name name g.name (after_token h.0) m q (subst (λ v. TakesName name v m) (sym h.2.1.after_is) h.2.2) g.spelled in
      (ap (λ v. attribute l v) e.0 ∙ sym g.is, e.1)) u r
      (meets l s h.0 h.1 (holds_where l h.0 (inr (turns_needs l h.0 (attribute l name) m turn))) u r j y) y
  meets (index l i) s m h z u r j y =
      let turn : Turns l h.0 (index l i) m = (refl, h.2) in
      extend l h.0 (index l i) m turn (λ x q k w.
      let g = at_bracket l h.0 x q k h.2.2.kind_is in
      let zt = stops_at CloseBracket h.2.1 m refl h.2.4 in
      let zu = stops_at CloseBracket g.q q refl g.close in
      let spelled = subst (λ v. Spells g.i v g.q) h.2.2.after_is g.spelled in
      let e = settle 1 i h.2.1 g.i g.q (meets i h.2.0 h.2.1 h.2.3 (holds_stop 1 i h.2.1 zt (level_some i)) g.i g.q spelled (holds_stop 1 g.i g.q zu (level_some g.i))) zt zu (level_some i) (level_some g.i) in
      (ap (λ v. index l v) e.0 ∙ sym g.is, same_after CloseBracket CloseBracket h.2.1 m q h.2.4 (subst (λ v. Takes CloseBracket v q) (sym e.1) g.close))) u r
      (meets l s h.0 h.1 (holds_where l h.0 (inr (turns_needs l h.0 (index l i) m turn))) u r j y) y
  meets (binary op l a) s m h z u r j y =
      let turn : Turns l h.0 (binary op l a) m = (refl, h.2) in
      extend l h.0 (binary op l a) m turn (λ x q k w.
      let g = at_binary op l h.0 x q k h.2.1.kind_is in
      let zu : Stops (suc (level_of op)) q = subst (λ v. Holds v q) g.is w in
      let spelled = subst (λ v. Spells g.r v q) h.2.1.after_is g.spelled in
      let e = settle (suc (level_of op)) a m g.r q (meets a h.2.0 m h.2.2 (holds_stop (suc (level_of op)) a m z h.2.4) g.r q spelled (holds_stop (suc (level_of op)) g.r q zu g.tighter)) z zu h.2.4 g.tighter in
      (ap (λ v. binary op l v) e.0 ∙ sym g.is, e.1)) u r
      (meets l s h.0 h.1 (holds_where l h.0 (inr (turns_needs l h.0 (binary op l a) m turn))) u r j y) y
  meets (conditional l a b) s m h z u r j y =
      let turn : Turns l h.0 (conditional l a b) m = (refl, h.2) in
      extend l h.0 (conditional l a b) m turn (λ x q k w.
      let g = at_question l h.0 x q k h.2.3.kind_is in
      let za = stops_at Colon h.2.1 h.2.2 refl h.2.5 in
      let zx = stops_at Colon g.q g.u refl g.colon in
      let first = subst (λ v. Spells g.a v g.q) h.2.3.after_is g.yes in
      let e = settle 1 a h.2.1 g.a g.q (meets a h.2.0 h.2.1 h.2.4 (holds_stop 1 a h.2.1 za (level_some a)) g.a g.q first (holds_stop 1 g.a g.q zx (level_some g.a))) za zx (level_some a) (level_some g.a) in
      let place = same_after Colon Colon h.2.1 h.2.2 g.u h.2.5 (subst (λ v. Takes Colon v g.u) (sym e.1) g.colon) in
      let second = subst (λ v. Spells g.b v q) (sym place) g.no in
      let zu : Stops 1 q = subst (λ v. Holds v q) g.is w in
      let f = settle 1 b m g.b q (meets b h.2.2 m h.2.6 (holds_stop 1 b m z (level_some b)) g.b q second (holds_stop 1 g.b q zu (level_some g.b))) z zu (level_some b) (level_some g.b) in
      (ap (λ v. conditional l v b) e.0 ∙ ap (λ v. conditional l g.a v) f.0 ∙ sym g.is, f.1)) u r
      (meets l s h.0 h.1 (holds_where l h.0 (inr (turns_needs l h.0 (conditional l a b) m turn))) u r j y) y

  meets_list : (ts : Trees) (b : Bracket) (s m : List ℕ) → SpellsList (closing b) ts s m
      → (us : Trees) (r : List ℕ) → SpellsList (closing b) us s r → (ts ≡ us) × (m ≡ r)
  meets_list no_trees b s m h no_trees r j = (refl, sym h.after_is ∙ j.after_is)
  meets_list no_trees b s m h (tree u us) r j = absurd (true≢false (sym (spells_begins u s j.0 j.1) ∙ ap begins h.kind_is ∙ closing_last b))
  meets_list (tree t ts) b s m h no_trees r j = absurd (true≢false (sym (spells_begins t s h.0 h.1) ∙ ap begins j.kind_is ∙ closing_last b))
  meets_list (tree t ts) b s m h (tree u us) r j =
      let zt = tail_stops b ts h.0 m h.2 in
      let zu = tail_stops b us j.0 r j.2 in
      let e = settle 1 t h.0 u j.0 (meets t s h.0 h.1 (holds_stop 1 t h.0 zt (level_some t)) u j.0 j.1 (holds_stop 1 u j.0 zu (level_some u))) zt zu (level_some t) (level_some u) in
      let tail : Tail (closing b) us h.0 r = subst (λ x. Tail (closing b) us x r) (sym e.1) j.2 in
      let f : (ts ≡ us) × (m ≡ r) = elim h.2 [
        | inl a ↦ elim tail [
          | inl d ↦ (empty_is ts a.0 ∙ sym (empty_is us d.0), sym a.1.after_is ∙ d.1.after_is)
          | inr d ↦ absurd (closing_other b (sym a.1.kind_is ∙ d.1.kind_is))
        ]
        | inr a ↦ elim tail [
          | inl d ↦ absurd (closing_other b (sym d.1.kind_is ∙ a.1.kind_is))
          | inr d ↦ meets_list ts b a.0 m a.2 us r (subst (λ x. SpellsList (closing b) us x r) (sym d.1.after_is ∙ a.1.after_is) d.2)
        ]
      ] in
      (ap (λ x. tree x ts) e.0 ∙ ap (λ x. tree u x) f.0, f.1)

  meets_parts : (ps : Parts) (within : Bool) (last s m : List ℕ) → SpellsParts within ps last s m → (qs : Parts) (end r : List ℕ) → SpellsParts within qs end s r
      → (ps ≡ qs) × (last ≡ end) × (m ≡ r)
  meets_parts no_parts within last s m h no_parts end r j =
      let e = Literal-same within last end s h.0 j.0 h.1 j.1 (at_closes h.2) (at_closes j.2) in
      let f : closes m ≡ closes r = sym h.2 ∙ ap (piece within) e.1 ∙ j.2 in
      (refl, e.0, cc)
  meets_parts no_parts within last s m h (part text u qs) end r j =
      let e = Literal-same within last text s h.0 j.0 h.1 j.4 (at_closes h.2) (at_opens j.5) in
      let f : closes m ≡ opens j.1 = sym h.2 ∙ ap (piece within) e.1 ∙ j.5 in
      absurd (cc)
  meets_parts (part text t ps) within last s m h no_parts end r j =
      let e = Literal-same within text end s h.0 j.0 h.4 j.1 (at_opens h.5) (at_closes j.2) in
      let f : opens h.1 ≡ closes r = sym h.5 ∙ ap (piece within) e.1 ∙ j.2 in
      absurd (cc)
  meets_parts (part text t ps) within last s m h (part other u qs) end r j =
      let e = Literal-same within text other s h.0 j.0 h.4 j.4 (at_opens h.5) (at_opens j.5) in
      let f : opens h.1 ≡ opens j.1 = sym h.5 ∙ ap (piece within) e.1 ∙ j.5 in
      let start : j.1 ≡ h.1 = cc in
      let zt = stops_at CloseBrace h.2 h.3 refl h.7 in
      let zu = stops_at CloseBrace j.2 j.3 refl j.7 in
      let spelled = subst (λ x. Spells u x j.2) start j.6 in
      let g = settle 1 t h.2 u j.2 (meets t h.1 h.2 h.6 (holds_stop 1 t h.2 zt (level_some t)) u j.2 spelled (holds_stop 1 u j.2 zu (level_some u))) zt zu (level_some t) (level_some u) in
      let place = same_after CloseBrace CloseBrace h.2 h.3 j.3 h.7 (subst (λ x. Takes CloseBrace x j.3) (sym g.1) j.7) in
      let others = meets_parts ps within last h.3 m h.8 qs end r (subst (λ x. SpellsParts within qs end x r) (sym place) j.8) in
      (ap (λ x. part x t ps) e.0 ∙ ap (λ x. part other x ps) g.0 ∙ ap (λ x. part other u x) others.0, others.1, others.2)

pub one_template : (text : List ℕ) (v w : Woven) → SpellsTemplate v text → SpellsTemplate w text → v ≡ w
one_template text v w h j =
    let e = meets_parts v.0 false v.1 text [] h w.0 w.1 [] j in
    let pair : Parts → List ℕ → Woven = λ a b. (a, b) in
    ap (λ x. pair x v.1) e.0 ∙ ap (λ x. pair w.0 x) e.1
