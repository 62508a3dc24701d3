-- Lists, read one part after another.
use Rattle.std.proofs.Common.{◌≡◌, ◌⊎◌, true≢false, ℕ, ◌<◌, ◌≤◌, max, List, [], ◌∷◌, ◌++◌, length, inl, inr, refl, sym, ap, ◌∙◌, subst, arith}
use Rattle.tf_expr_template.specs.Spelling.{Spells, SpellsList, Takes, IsEmpty}
use Rattle.tf_expr_template.specs.Reads.{Stops, Fails, begins, binding, closing}
use Rattle.tf_expr_template.specs.Token.{token_kind, after_token}
use Rattle.tf_expr_syntax.specs.TemplateTree.{level, Tree, Trees, no_trees, tree, tree_depth, trees_depth, view, terms_view}
use Rattle.tf_expr_template.proofs.Begun.{closing_plain, closing_last, closing_other}
use Rattle.tf_expr_template.proofs.Growing.{Fails-more, spells_begins, level_some}
use Rattle.tf_expr_template.specs.declared.fault.TemplateFault.{TemplateFault}
use Rattle.tf_expr_template.specs.declared.make.ReadTerm.{ReadTerm}
use Rattle.tf_expr_template.specs.declared.token.Bracket.{Bracket}
use Rattle.tf_expr_template.specs.declared.token.TokenKind.{TokenKind}
use Rattle.tf_expr_template.specs.declared.token.TokenKind.TheVariants.{Comma}
use Rattle.tf_expr_syntax.specs.declared.tree.Term.{Term}

-- the parts so far, and then these
abbrev pub joined : List Term → Trees → Trees
joined [] us = us
joined (t ∷ ts) us = tree (view t) (joined ts us)

-- what the reader of lists knows
pub record Rowed (b : Bracket) (budget : ℕ) (text : List ℕ) (terms : List Term) (depth : ℕ) (rest : List ℕ) : Type 0 where
  pub sound : (us : Trees) (r : List ℕ) → SpellsList (closing b) us rest r → SpellsList (closing b) (joined terms us) text r
  pub complete : (ts : Trees) (r : List ℕ) → SpellsList (closing b) ts text r → (us : Trees) × (ts ≡ joined terms us) × SpellsList (closing b) us rest r
  pub depth_is : depth ≡ trees_depth (terms_view terms)
  pub room : depth ≤ budget
  pub shorter : length rest ≤ length text

-- one part more was read, where the list doesn't end, and put behind those so far
pub record Pushed (b : Bracket) (rest : List ℕ) (terms : List Term) (found : ReadTerm) (after : List Term) : Type 0 where
  pub goes_on : token_kind rest ≡ closing b → ⊥
  pub spelled : Spells (view found.term) rest found.rest.now
  pub only : (u : Tree) (p : List ℕ) → Spells u rest p → 1 ≤ level u → Stops 1 p → (view found.term ≡ u) × (found.rest.now ≡ p)
  pub put : after ≡ terms ++ found.term ∷ []

-- what stands behind one part of a list
abbrev pub Tail : TokenKind → Trees → List ℕ → List ℕ → Type 0
Tail close vs p r = (IsEmpty vs × Takes close p r) ⊎ ((q : List ℕ) × Takes Comma p q × SpellsList close vs q r)

pub joined-none : (ts : List Term) → joined ts no_trees ≡ terms_view ts
joined-none [] = refl
joined-none (t ∷ ts) = ap (λ x. tree (view t) x) (joined-none ts)

pub joined-push : (ts : List Term) (t : Term) (us : Trees) → joined (ts ++ t ∷ []) us ≡ joined ts (tree (view t) us)
joined-push [] t us = refl
joined-push (x ∷ ts) t us = ap (λ y. tree (view x) y) (joined-push ts t us)

pub depth-push : (ts : List Term) (t : Term) → trees_depth (terms_view (ts ++ t ∷ [])) ≡ max (trees_depth (terms_view ts)) (tree_depth (view t))
depth-push [] t = omega arith
depth-push (x ∷ ts) t = omega (arith, depth-push ts t)

joined-depth : (ts : List Term) (us : Trees) → trees_depth us ≤ trees_depth (joined ts us)
joined-depth [] us = omega arith
joined-depth (t ∷ ts) us = omega (arith, joined-depth ts us)

takes : (k : TokenKind) (s after : List ℕ) → token_kind s ≡ k → after_token s ≡ after → Takes k s after
takes k s after e f = record { kind_is = e; after_is = f }

-- at a tree with a token that is no end: what stops an expression there
pub tail_stops : (b : Bracket) (vs : Trees) (p r : List ℕ) → Tail (closing b) vs p r → Stops 1 p
tail_stops b vs p r h = elim h [
  | inl last ↦ omega (arith, closing_plain b, ap binding last.1.kind_is)
  | inr next ↦ omega (arith, ap binding next.1.kind_is)
]

module _ (b : Bracket) (budget : ℕ) (text : List ℕ) (terms : List Term) (depth : ℕ) (rest : List ℕ) (c : Rowed b budget text terms depth rest) where
  -- at the closing token the list is whole
  pub row_closed : (r : List ℕ) → token_kind rest ≡ closing b → after_token rest ≡ r → SpellsList (closing b) (terms_view terms) text r
  row_closed r e f = subst (λ ts. SpellsList (closing b) ts text r) (joined-none terms) (c.sound no_trees r (takes (closing b) rest r e f))

  empty_there : (us : Trees) (r : List ℕ) → SpellsList (closing b) us rest r → token_kind rest ≡ closing b → (us ≡ no_trees) × (after_token rest ≡ r)
  empty_there no_trees r h e = (refl, h.after_is)
  empty_there (tree u us) r h e =
      absurd (true≢false (sym (spells_begins u rest h.0 h.1) ∙ ap begins e ∙ closing_last b))

  pub row_closed_only : token_kind rest ≡ closing b → (ts : Trees) (r : List ℕ) → SpellsList (closing b) ts text r → (terms_view terms ≡ ts) × (after_token rest ≡ r)
  row_closed_only e ts r h =
      let found = c.complete ts r h in
      let none = empty_there found.0 r found.2 e in
      (sym (joined-none terms) ∙ ap (λ us. joined terms us) (sym none.0) ∙ sym found.1, none.1)

  -- elsewhere one part more is spelled
  record Next (ts : Trees) (r : List ℕ) : Type 0 where
    u : Tree
    vs : Trees
    whole : ts ≡ joined terms (tree u vs)
    p : List ℕ
    spelled : Spells u rest p
    tail : Tail (closing b) vs p r

  next_part : (us : Trees) (ts : Trees) (r : List ℕ) → ts ≡ joined terms us → SpellsList (closing b) us rest r → (token_kind rest ≡ closing b → ⊥) → Next ts r
  next_part no_trees ts r e h open_ = absurd (open_ h.kind_is)
  next_part (tree u vs) ts r e h open_ = record { u = u; vs = vs; whole = e; p = h.0; spelled = h.1; tail = h.2 }

  next_of : (token_kind rest ≡ closing b → ⊥) → (ts : Trees) (r : List ℕ) → SpellsList (closing b) ts text r → Next ts r
  next_of open_ ts r h = let found = c.complete ts r h in next_part found.0 ts r found.1 found.2 open_

  pub row_fails : (token_kind rest ≡ closing b → ⊥) → (f : TemplateFault)
      → ((u : Tree) (p : List ℕ) → Spells u rest p → 1 ≤ level u → Stops 1 p → Fails f (budget < tree_depth u))
      → (ts : Trees) (r : List ℕ) → SpellsList (closing b) ts text r → Fails f (budget < trees_depth ts)
  row_fails open_ f parts ts r h =
      let n = next_of open_ ts r h in
      let deep : trees_depth ts ≡ trees_depth (joined terms (tree n.u n.vs)) = ap trees_depth n.whole in
      Fails-more f (λ (d : budget < tree_depth n.u). omega (arith, d, deep, joined-depth terms (tree n.u n.vs)))
      (parts n.u n.p n.spelled (level_some n.u) (tail_stops b n.vs n.p r n.tail))

  -- after one part more
  module _ (found : ReadTerm) (after : List Term) (pushed : Pushed b rest terms found after) where
    pub part_closed : (r : List ℕ) → token_kind found.rest.now ≡ closing b → after_token found.rest.now ≡ r → SpellsList (closing b) (terms_view after) text r
    part_closed r e f =
        let whole = c.sound (tree (view found.term) no_trees) r (found.rest.now, pushed.spelled, inl (tt, takes (closing b) found.rest.now r e f)) in
        let same : joined terms (tree (view found.term) no_trees) ≡ terms_view after =
        sym (joined-push terms found.term no_trees) ∙ joined-none (terms ++ found.term ∷ []) ∙ ap terms_view (sym pushed.put) in
        subst (λ ts. SpellsList (closing b) ts text r) same whole

    -- the part that was read is the next one
    record Now (ts : Trees) (r : List ℕ) : Type 0 where
      vs : Trees
      whole : ts ≡ joined after vs
      tail : Tail (closing b) vs found.rest.now r

    now_of : (ts : Trees) (r : List ℕ) → SpellsList (closing b) ts text r → Now ts r
    now_of ts r h =
        let n = next_of pushed.goes_on ts r h in
        let e = pushed.only n.u n.p n.spelled (level_some n.u) (tail_stops b n.vs n.p r n.tail) in
        let same : joined terms (tree n.u n.vs) ≡ joined after n.vs =
        ap (λ x. joined terms (tree x n.vs)) (sym e.0) ∙ sym (joined-push terms found.term n.vs) ∙ ap (λ xs. joined xs n.vs) (sym pushed.put) in
        record { vs = n.vs; whole = n.whole ∙ same; tail = subst (λ p. Tail (closing b) n.vs p r) (sym e.1) n.tail }

    closed_tail : (vs : Trees) (r : List ℕ) → token_kind found.rest.now ≡ closing b → Tail (closing b) vs found.rest.now r → (vs ≡ no_trees) × (after_token found.rest.now ≡ r)
    closed_tail no_trees r e t = elim t [ inl l ↦ (refl, l.1.after_is) | inr n ↦ absurd (closing_other b (sym e ∙ n.1.kind_is)) ]
    closed_tail (tree v vs) r e t = elim t [ inl l ↦ absurd l.0 | inr n ↦ absurd (closing_other b (sym e ∙ n.1.kind_is)) ]

    pub part_closed_only : token_kind found.rest.now ≡ closing b → (ts : Trees) (r : List ℕ) → SpellsList (closing b) ts text r → (terms_view after ≡ ts) × (after_token found.rest.now ≡ r)
    part_closed_only e ts r h =
        let n = now_of ts r h in
        let none = closed_tail n.vs r e n.tail in
        (sym (joined-none after) ∙ ap (λ us. joined after us) (sym none.0) ∙ sym n.whole, none.1)

    pub part_refused : (token_kind found.rest.now ≡ closing b → ⊥) → (token_kind found.rest.now ≡ Comma → ⊥) → (ts : Trees) (r : List ℕ) → SpellsList (closing b) ts text r → ⊥
    part_refused no_close no_comma ts r h =
        elim ((now_of ts r h).tail) [ inl l ↦ no_close l.1.kind_is | inr n ↦ no_comma n.1.kind_is ]

    comma_tail : (vs : Trees) (r q : List ℕ) → token_kind found.rest.now ≡ Comma → after_token found.rest.now ≡ q → Tail (closing b) vs found.rest.now r → SpellsList (closing b) vs q r
    comma_tail vs r q e f t = elim t [
      | inl l ↦ absurd (closing_other b (sym l.1.kind_is ∙ e))
      | inr n ↦ subst (λ x. SpellsList (closing b) vs x r) (sym n.1.after_is ∙ f) n.2
    ]

    pub deepest_is : (deepest : ℕ) → found.depth ≡ tree_depth (view found.term) → deepest ≡ max depth found.depth → deepest ≡ trees_depth (terms_view after)
    deepest_is deepest d m = omega (arith, d, m, c.depth_is, depth-push terms found.term, ap (λ xs. trees_depth (terms_view xs)) pushed.put)

    -- behind a comma
    pub part_more : (q : List ℕ) (deepest : ℕ) → token_kind found.rest.now ≡ Comma → after_token found.rest.now ≡ q
        → found.depth ≡ tree_depth (view found.term) → found.depth ≤ budget → deepest ≡ max depth found.depth → length q ≤ length text
        → Rowed b budget text after deepest q
    part_more q deepest e f d room m shorter = record {
      sound = λ us r h.
          let whole = c.sound (tree (view found.term) us) r (found.rest.now, pushed.spelled, inr (q, takes Comma found.rest.now q e f, h)) in
          let same : joined terms (tree (view found.term) us) ≡ joined after us = sym (joined-push terms found.term us) ∙ ap (λ xs. joined xs us) (sym pushed.put) in
          subst (λ ts. SpellsList (closing b) ts text r) same whole;
      complete = λ ts r h. let n = now_of ts r h in (n.vs, n.whole, comma_tail n.vs r q e f n.tail);
      depth_is = deepest_is deepest d m;
      room = omega (arith, c.room, room, m);
      shorter = shorter;
    }
