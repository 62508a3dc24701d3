-- Operators one after another, each behind the tree so far.
use Rattle.std.proofs.Common.{◌≡◌, ◌⊎◌, true, ℕ, ◌-◌, ◌<◌, ◌≤◌, List, length, inl, inr, refl, sym, ap, ◌∙◌, subst, arith}
use Rattle.tf_expr_template.specs.Reads.{Turns, IsOperand, Holds, Stops, Fails, begins, binding, needs}
use Rattle.tf_expr_template.specs.Spelling.{Spells, prefix_token}
use Rattle.tf_expr_template.specs.Token.{token_kind}
use Rattle.tf_expr_syntax.specs.TemplateTree.{Tree, number, truth, null, quoted, reference, call, group, listed, attribute, index, unary, binary, conditional, tree_depth, level, level_of, view}
use Rattle.tf_expr_template.specs.declared.fault.TemplateFault.{TemplateFault}
use Rattle.tf_expr_template.specs.declared.fault.TemplateFault.TheVariants.{At, TooDeep, OutOfMemory}
use Rattle.tf_expr_template.specs.declared.make.ReadTerm.{ReadTerm}
use Rattle.tf_expr_template.specs.declared.token.TokenKind.{TokenKind}
use Rattle.tf_expr_template.specs.declared.token.TokenKind.TheVariants.{Binary, Question, OpenBracket, Dot, Wrong}
use Rattle.tf_expr_syntax.specs.declared.tree.Prefix.{Prefix}
use Rattle.tf_expr_syntax.specs.declared.tree.Prefix.TheVariants.{Not, Negate}
use Rattle.tf_expr_syntax.specs.declared.operator.Operator.{Operator}
use Rattle.tf_expr_syntax.specs.declared.operator.Operator.TheVariants.{Or}

prefix_begins : (op : Prefix) → begins (prefix_token op) ≡ true
prefix_begins Not = refl
prefix_begins Negate = refl

-- operators from s on turn the tree l into t, and rest follows
pub data Grows : Tree → List ℕ → Tree → List ℕ → Type 0 where
  done : {t : Tree} {s : List ℕ} → Grows t s t s
  again : {l m t : Tree} {s p rest : List ℕ} → Turns l s m p → Grows m p t rest → Grows l s t rest

-- what the reader of expressions knows of the tree so far
pub record Climbed (least budget : ℕ) (text : List ℕ) (left : ReadTerm) : Type 0 where
  pub spelled : Spells (view left.term) text left.rest.now
  pub depth_is : left.depth ≡ tree_depth (view left.term)
  pub room : left.depth ≤ budget
  pub bound : least ≤ level (view left.term)
  pub shorter : length left.rest.now < length text
  pub grows : (t : Tree) (rest : List ℕ) → Spells t text rest → least ≤ level t → Stops least rest → Grows (view left.term) left.rest.now t rest

-- the operand that a tree begins with, and the operators behind it
pub spine : (t : Tree) (s m : List ℕ) (u : Tree) (rest : List ℕ) → Spells t s m → Grows t m u rest
    → (b : Tree) × ((p : List ℕ) × IsOperand b × Spells b s p × Grows b p u rest)
spine (attribute t name) s m u rest h g = spine t s h.0 u rest h.1 (again {l = t} {m = attribute t name} {t = u} {s = h.0} {p = m} {rest = rest} (refl, h.2) g)
spine (index t i) s m u rest h g = spine t s h.0 u rest h.1 (again {l = t} {m = index t i} {t = u} {s = h.0} {p = m} {rest = rest} (refl, h.2) g)
spine (binary op a b) s m u rest h g = spine a s h.0 u rest h.1 (again {l = a} {m = binary op a b} {t = u} {s = h.0} {p = m} {rest = rest} (refl, h.2) g)
spine (conditional c a b) s m u rest h g = spine c s h.0 u rest h.1 (again {l = c} {m = conditional c a b} {t = u} {s = h.0} {p = m} {rest = rest} (refl, h.2) g)
spine t s m u rest h g = (t, (m, tt, h, g))

-- the token behind a tree of which an operator makes this one
abbrev pub turner : Tree → TokenKind
turner (attribute t name) = Dot
turner (index t i) = OpenBracket
turner (binary op a b) = Binary op
turner (conditional c a b) = Question
turner _ = Wrong

pub turns_kind : (l : Tree) (s : List ℕ) (m : Tree) (p : List ℕ) → Turns l s m p → token_kind s ≡ turner m
turns_kind l s (attribute t name) p h = h.1.1.kind_is
turns_kind l s (index t i) p h = h.1.2.kind_is
turns_kind l s (binary op a b) p h = h.1.1.kind_is
turns_kind l s (conditional c a b) p h = h.1.3.kind_is
turns_kind l s m p h = absurd h

turns_binding : (l : Tree) (s : List ℕ) (m : Tree) (p : List ℕ) → Turns l s m p → level m ≡ binding (token_kind s)
turns_binding l s (attribute t name) p h = sym (ap binding h.1.1.kind_is)
turns_binding l s (index t i) p h = sym (ap binding h.1.2.kind_is)
turns_binding l s (binary op a b) p h = sym (ap binding h.1.1.kind_is)
turns_binding l s (conditional c a b) p h = sym (ap binding h.1.3.kind_is)
turns_binding l s m p h = absurd h

pub turns_needs : (l : Tree) (s : List ℕ) (m : Tree) (p : List ℕ) → Turns l s m p → needs (token_kind s) ≤ level l
turns_needs l s (attribute t name) p h = omega (arith, ap needs h.1.1.kind_is, ap level h.0, h.1.3)
turns_needs l s (index t i) p h = omega (arith, ap needs h.1.2.kind_is, ap level h.0, h.1.5)
turns_needs l s (binary op a b) p h = omega (arith, ap needs h.1.1.kind_is, ap level h.0, h.1.3)
turns_needs l s (conditional c a b) p h = omega (arith, ap needs h.1.3.kind_is, ap level h.0, h.1.7)
turns_needs l s m p h = absurd h

turns_depth : (l : Tree) (s : List ℕ) (m : Tree) (p : List ℕ) → Turns l s m p → tree_depth l < tree_depth m
turns_depth l s (attribute t name) p h = omega (arith, ap tree_depth h.0)
turns_depth l s (index t i) p h = omega (arith, ap tree_depth h.0)
turns_depth l s (binary op a b) p h = omega (arith, ap tree_depth h.0)
turns_depth l s (conditional c a b) p h = omega (arith, ap tree_depth h.0)
turns_depth l s m p h = absurd h

turns_spells : (l : Tree) (text s : List ℕ) (m : Tree) (p : List ℕ) → Spells l text s → Turns l s m p → Spells m text p
turns_spells l text s (attribute t name) p k h = (s, subst (λ x. Spells x text s) (sym h.0) k, h.1)
turns_spells l text s (index t i) p k h = (s, subst (λ x. Spells x text s) (sym h.0) k, h.1)
turns_spells l text s (binary op a b) p k h = (s, subst (λ x. Spells x text s) (sym h.0) k, h.1)
turns_spells l text s (conditional c a b) p k h = (s, subst (λ x. Spells x text s) (sym h.0) k, h.1)
turns_spells l text s m p k h = absurd h

level_bounds : (op : Operator) → (2 ≤ level_of op) × (level_of op ≤ 7)
level_bounds Or = (omega arith, omega arith)
level_bounds op = (omega arith, omega arith)

-- what a token makes is of no tighter level than it needs; at 8 and 1 there is no token
record Bounds (k : TokenKind) : Type 0 where
  below : binding k ≤ needs k
  at_8 : needs k ≤ 8 → binding k < 8
  at_1 : needs k ≤ 1 → binding k < 1

bounds : (k : TokenKind) → Bounds k
bounds (Binary op) =
    let b = level_bounds op in record { below = omega arith; at_8 = λ h. omega (arith, b.1); at_1 = λ h. omega (arith, b.0, h) }
bounds k = record { below = omega arith; at_8 = λ h. omega (arith, h); at_1 = λ h. omega (arith, h) }

turns_level : (l : Tree) (s : List ℕ) (m : Tree) (p : List ℕ) → Turns l s m p → level m ≤ level l
turns_level l s m p h = omega (arith, turns_binding l s m p h, turns_needs l s m p h, (bounds (token_kind s)).below)

grows_level : (l : Tree) (s : List ℕ) (t : Tree) (rest : List ℕ) → Grows l s t rest → level t ≤ level l
grows_level _ _ t _ done = omega arith
grows_level l s t rest (again {m} {p} h g) = omega (arith, turns_level l s m p h, grows_level m p t rest g)

pub grows_depth : (l : Tree) (s : List ℕ) (t : Tree) (rest : List ℕ) → Grows l s t rest → tree_depth l ≤ tree_depth t
grows_depth _ _ t _ done = omega arith
grows_depth l s t rest (again {m} {p} h g) = omega (arith, turns_depth l s m p h, grows_depth m p t rest g)

pub holds_where : (m : Tree) (p : List ℕ) → (binding (token_kind p) < level m) ⊎ (needs (token_kind p) ≤ level m) → Holds m p
holds_where (unary op t) p h = elim h [ inl b ↦ b | inr n ↦ (bounds (token_kind p)).at_8 n ]
holds_where (binary op a b) p h = elim h [ inl b ↦ omega arith | inr n ↦ omega (arith, n, (bounds (token_kind p)).below) ]
holds_where (conditional c a b) p h = elim h [ inl b ↦ b | inr n ↦ (bounds (token_kind p)).at_1 n ]
holds_where m p h = tt

-- a tree on the way to one that ends at rest ends where it does
pub holds : (least : ℕ) (m : Tree) (p : List ℕ) (t : Tree) (rest : List ℕ) → Grows m p t rest → least ≤ level t → Stops least rest → Holds m p
holds least m p _ _ done l s = holds_where m p (inl (omega (arith, s)))
holds least m p t rest (again {m = n} {p = q} h g) l s = holds_where m p (inr (turns_needs m p n q h))

-- where the next token binds there is one operator more
pub next_step : (least : ℕ) (l : Tree) (s : List ℕ) (t : Tree) (rest : List ℕ) → Grows l s t rest → least ≤ binding (token_kind s) → least ≤ level t → Stops least rest
    → (m : Tree) × ((p : List ℕ) × Turns l s m p × Holds m p × Grows m p t rest)
next_step least l s _ _ done b k z = absurd (omega (arith, b, z))
next_step least l s t rest (again {m} {p} h g) b k z = (m, (p, h, holds least m p t rest g k z, g))

-- and where it doesn't there is none
pub last_step : (least : ℕ) (l : Tree) (s : List ℕ) (t : Tree) (rest : List ℕ) → Grows l s t rest → binding (token_kind s) < least → least ≤ level t → (l ≡ t) × (s ≡ rest)
last_step least l s _ _ done b k = (refl, refl)
last_step least l s t rest (again {m} {p} h g) b k = absurd (omega (arith, turns_binding l s m p h, grows_level m p t rest g))

pub Fails-more : (f : TemplateFault) {D E : Type 0} → (D → E) → Fails f D → Fails f E
Fails-more (At left) g h = h
Fails-more TooDeep g h = g h
Fails-more OutOfMemory g h = h

-- why a part isn't read on the next level is why the whole isn't on this one
pub Fails-below : (f : TemplateFault) (budget part whole : ℕ) → part < whole → Fails f (budget - 1 < part) → Fails f (budget < whole)
Fails-below (At left) budget part whole deeper h = h
Fails-below TooDeep budget part whole deeper h = omega arith
Fails-below OutOfMemory budget part whole deeper h = h

module _ (least budget : ℕ) (text : List ℕ) where
  -- why no operand is read is why no expression is
  pub first_fails : (f : TemplateFault) → ((b : Tree) (p : List ℕ) → IsOperand b → Spells b text p → Holds b p → Fails f (budget < tree_depth b))
      → (t : Tree) (rest : List ℕ) → Spells t text rest → least ≤ level t → Stops least rest → Fails f (budget < tree_depth t)
  first_fails f operands t rest h k z =
      let b = spine t text rest t rest h done in
      let g = b.1.3 in
      let deeper = grows_depth b.0 b.1.0 t rest g in
      Fails-more f (λ (d : budget < tree_depth b.0). omega (arith, d, deeper)) (operands b.0 b.1.0 b.1.1 b.1.2 (holds least b.0 b.1.0 t rest g k z))

  -- each expression grows from the operand that was read
  pub first_grows : (x : Tree) (q : List ℕ) → ((b : Tree) (p : List ℕ) → IsOperand b → Spells b text p → Holds b p → (x ≡ b) × (q ≡ p))
      → (t : Tree) (rest : List ℕ) → Spells t text rest → least ≤ level t → Stops least rest → Grows x q t rest
  first_grows x q operands t rest h k z =
      let b = spine t text rest t rest h done in
      let g = b.1.3 in
      let e = operands b.0 b.1.0 b.1.1 b.1.2 (holds least b.0 b.1.0 t rest g k z) in
      subst (λ y. Grows y q t rest) (sym e.0) (subst (λ r. Grows b.0 r t rest) (sym e.1) g)

  module _ (left : ReadTerm) (c : Climbed least budget text left) (b : least ≤ binding (token_kind left.rest.now)) where
    -- why no operator is read is why no expression is
    pub next_fails : (f : TemplateFault) → ((m : Tree) (p : List ℕ) → Turns (view left.term) left.rest.now m p → Holds m p → Fails f (budget < tree_depth m))
        → (t : Tree) (rest : List ℕ) → Spells t text rest → least ≤ level t → Stops least rest → Fails f (budget < tree_depth t)
    next_fails f operators t rest h k z =
        let n = next_step least (view left.term) left.rest.now t rest (c.grows t rest h k z) b k z in
        let deeper = grows_depth n.0 n.1.0 t rest n.1.3 in
        Fails-more f (λ (d : budget < tree_depth n.0). omega (arith, d, deeper)) (operators n.0 n.1.0 n.1.1 n.1.2)

    -- one operator more
    pub climbs : (next : ReadTerm) → Turns (view left.term) left.rest.now (view next.term) next.rest.now × (next.depth ≡ tree_depth (view next.term)) × (next.depth ≤ budget)
        → length next.rest.now < length left.rest.now
        → ((m : Tree) (p : List ℕ) → Turns (view left.term) left.rest.now m p → Holds m p → (view next.term ≡ m) × (next.rest.now ≡ p))
        → Climbed least budget text next
    climbs next sound shorter complete = record {
      spelled = turns_spells (view left.term) text left.rest.now (view next.term) next.rest.now c.spelled sound.0;
      depth_is = sound.1;
      room = sound.2;
      bound = omega (arith, b, turns_binding (view left.term) left.rest.now (view next.term) next.rest.now sound.0);
      shorter = omega (arith, shorter, c.shorter);
      grows = λ t rest h k z.
          let n = next_step least (view left.term) left.rest.now t rest (c.grows t rest h k z) b k z in
          let e = complete n.0 n.1.0 n.1.1 n.1.2 in
          subst (λ y. Grows y next.rest.now t rest) (sym e.0) (subst (λ r. Grows n.0 r t rest) (sym e.1) n.1.3);
    }

-- the tree so far is the whole expression
pub climbed : (least budget : ℕ) (text : List ℕ) (left : ReadTerm) → Climbed least budget text left → binding (token_kind left.rest.now) < least
    → (t : Tree) (rest : List ℕ) → Spells t text rest → least ≤ level t → Stops least rest → (view left.term ≡ t) × (left.rest.now ≡ rest)
climbed least budget text left c b t rest h k z = last_step least (view left.term) left.rest.now t rest (c.grows t rest h k z) b k

-- an expression's first token
pub spells_begins : (t : Tree) (s rest : List ℕ) → Spells t s rest → begins (token_kind s) ≡ true
spells_begins (number n) s rest h = ap begins h.0.kind_is
spells_begins (truth b) s rest h = ap begins h.0.kind_is
spells_begins null s rest h = ap begins h.0.kind_is
spells_begins (quoted ps last) s rest h = ap begins h.1.kind_is
spells_begins (reference a b) s rest h = ap begins h.1.2.kind_is
spells_begins (call f ts) s rest h = ap begins h.1.2.kind_is
spells_begins (group t) s rest h = ap begins h.2.kind_is
spells_begins (listed ts) s rest h = ap begins h.1.kind_is
spells_begins (attribute t name) s rest h = spells_begins t s h.0 h.1
spells_begins (index t i) s rest h = spells_begins t s h.0 h.1
spells_begins (unary op t) s rest h = ap begins h.1.kind_is ∙ prefix_begins op
spells_begins (binary op a b) s rest h = spells_begins a s h.0 h.1
spells_begins (conditional c a b) s rest h = spells_begins c s h.0 h.1

-- an expression has a level
pub level_some : (t : Tree) → 1 ≤ level t
level_some (binary op a b) = omega (arith, (level_bounds op).0)
level_some t = omega arith
