-- Templates, read one part after another.
use Rattle.std.proofs.Common.{◌≡◌, ℕ, ◌<◌, ◌≤◌, max, Bool, false, List, [], ◌∷◌, ◌++◌, length, refl, sym, ap, ◌∙◌, subst, arith, String, Global, string_bytes, Vec, rules}
use Rattle.tf_expr_template.specs.Spelling.{Spells, SpellsParts, Takes}
use Rattle.tf_expr_template.specs.Literal.{Literal, piece, opens, closes, wrong}
use Rattle.tf_expr_template.specs.Reads.{Stops, Fails, binding}
use Rattle.tf_expr_template.specs.Token.{token_kind, after_token}
use Rattle.tf_expr_template.proofs.Growing.{Fails-more, level_some}
use Rattle.tf_expr_template.proofs.Pieces.{closes-end, Literal-same, at_closes, at_opens, at_wrong}
use Rattle.tf_expr_syntax.specs.TemplateTree.{level, Tree, Parts, no_parts, part, tree_depth, parts_depth, view, template_view, parts_view}
use Rattle.tf_expr_template.specs.declared.fault.TemplateFault.{TemplateFault}
use Rattle.tf_expr_template.specs.declared.make.ReadTerm.{ReadTerm}
use Rattle.tf_expr_template.specs.declared.token.TokenKind.TheVariants.{CloseBrace}
use Rattle.tf_expr_syntax.specs.declared.tree.Template.{roll-Template, the_lemmas}
use Rattle.tf_expr_syntax.specs.declared.tree.Term.{Term}

-- the parts so far, and then these
abbrev pub woven : List (String Global × Term) → Parts → Parts
woven [] qs = qs
woven (p ∷ ps) qs = part (string_bytes p.0) (view p.1) (woven ps qs)

-- what the reader of templates knows
pub record Weaves (within : Bool) (budget : ℕ) (text : List ℕ) (parts : List (String Global × Term)) (depth : ℕ) (rest : List ℕ) : Type 0 where
  pub sound : (qs : Parts) (last r : List ℕ) → SpellsParts within qs last rest r → SpellsParts within (woven parts qs) last text r
  pub complete : (ps : Parts) (last r : List ℕ) → SpellsParts within ps last text r → (qs : Parts) × (ps ≡ woven parts qs) × SpellsParts within qs last rest r
  pub depth_is : depth ≡ parts_depth (parts_view parts)
  pub room : depth ≤ budget
  pub shorter : length rest ≤ length text

pub woven-none : (ps : List (String Global × Term)) → woven ps no_parts ≡ parts_view ps
woven-none [] = refl
woven-none (p ∷ ps) = ap (λ x. part (string_bytes p.0) (view p.1) x) (woven-none ps)

pub woven-push : (ps : List (String Global × Term)) (p : String Global × Term) (qs : Parts) → woven (ps ++ p ∷ []) qs ≡ woven ps (part (string_bytes p.0) (view p.1) qs)
woven-push [] p qs = refl
woven-push (x ∷ ps) p qs = ap (λ y. part (string_bytes x.0) (view x.1) y) (woven-push ps p qs)

weave-push : (ps : List (String Global × Term)) (p : String Global × Term) → parts_depth (parts_view (ps ++ p ∷ [])) ≡ max (parts_depth (parts_view ps)) (tree_depth (view p.1))
weave-push [] p = omega arith
weave-push (x ∷ ps) p = omega (arith, weave-push ps p)

woven-depth : (ps : List (String Global × Term)) (qs : Parts) → parts_depth qs ≤ parts_depth (woven ps qs)
woven-depth [] qs = omega arith
woven-depth (p ∷ ps) qs = omega (arith, woven-depth ps qs)

module _ (within : Bool) (budget : ℕ) (text : List ℕ) (parts : List (String Global × Term)) (depth : ℕ) (rest : List ℕ)
    (c : Weaves within budget text parts depth rest) (a p : List ℕ) (literal : Literal within a rest p) where
  pub weave_closed : (r : List ℕ) → piece within p ≡ closes r → SpellsParts within (parts_view parts) a text r
  weave_closed r e = subst (λ ps. SpellsParts within ps a text r) (woven-none parts) (c.sound no_parts a r (p, literal, e))

  closed_here : (qs : Parts) (last r s : List ℕ) → piece within p ≡ closes s → SpellsParts within qs last rest r → (qs ≡ no_parts) × (a ≡ last) × (s ≡ r)
  closed_here no_parts last r s e h =
      let same = Literal-same within a last rest p h.0 literal h.1 (at_closes e) (at_closes h.2) in
      let ends : closes s ≡ closes r = sym e ∙ ap (piece within) same.1 ∙ h.2 in
      (refl, same.0, cc)
  closed_here (part b u qs) last r s e h =
      let same = Literal-same within a b rest p h.0 literal h.4 (at_closes e) (at_opens h.5) in
      let ends : closes s ≡ opens h.1 = sym e ∙ ap (piece within) same.1 ∙ h.5 in
      absurd (cc)

  pub weave_closed_only : (s : List ℕ) → piece within p ≡ closes s → (ps : Parts) (last r : List ℕ) → SpellsParts within ps last text r → (parts_view parts ≡ ps) × (a ≡ last) × (s ≡ r)
  weave_closed_only s e ps last r h =
      let found = c.complete ps last r h in
      let here = closed_here found.0 last r s e found.2 in
      (sym (woven-none parts) ∙ ap (λ qs. woven parts qs) (sym here.0) ∙ sym found.1, here.1, here.2)

  wrong_here : (qs : Parts) (last r : List ℕ) → piece within p ≡ wrong → SpellsParts within qs last rest r → ⊥
  wrong_here no_parts last r e h =
      let same = Literal-same within a last rest p h.0 literal h.1 (at_wrong e) (at_closes h.2) in
      let ends : wrong ≡ closes r = sym e ∙ ap (piece within) same.1 ∙ h.2 in
      cc
  wrong_here (part b u qs) last r e h =
      let same = Literal-same within a b rest p h.0 literal h.4 (at_wrong e) (at_opens h.5) in
      let ends : wrong ≡ opens h.1 = sym e ∙ ap (piece within) same.1 ∙ h.5 in
      cc

  pub weave_wrong : piece within p ≡ wrong → (ps : Parts) (last r : List ℕ) → SpellsParts within ps last text r → ⊥
  weave_wrong e ps last r h = let found = c.complete ps last r h in wrong_here found.0 last r e found.2

  -- an interpolation begins
  module _ (inside : List ℕ) (begun : piece within p ≡ opens inside) where
    record Next (ps : Parts) (last r : List ℕ) : Type 0 where
      u : Tree
      vs : Parts
      whole : ps ≡ woven parts (part a u vs)
      m : List ℕ
      spelled : Spells u inside m
      n : List ℕ
      brace : Takes CloseBrace m n
      others : SpellsParts within vs last n r

    next_part : (qs ps : Parts) (last r : List ℕ) → ps ≡ woven parts qs → SpellsParts within qs last rest r → Next ps last r
    next_part no_parts ps last r w h =
        let same = Literal-same within a last rest p h.0 literal h.1 (at_opens begun) (at_closes h.2) in
        let ends : opens inside ≡ closes r = sym begun ∙ ap (piece within) same.1 ∙ h.2 in
        absurd (cc)
    next_part (part b u vs) ps last r w h =
        let same = Literal-same within a b rest p h.0 literal h.4 (at_opens begun) (at_opens h.5) in
        let ends : opens inside ≡ opens h.1 = sym begun ∙ ap (piece within) same.1 ∙ h.5 in
        let start : h.1 ≡ inside = cc in
        record {
          u = u;
          vs = vs;
          whole = w ∙ ap (λ x. woven parts (part x u vs)) (sym same.0);
          m = h.2;
          spelled = subst (λ x. Spells u x h.2) start h.6;
          n = h.3;
          brace = h.7;
          others = h.8;
        }

    next_of : (ps : Parts) (last r : List ℕ) → SpellsParts within ps last text r → Next ps last r
    next_of ps last r h = let found = c.complete ps last r h in next_part found.0 ps last r found.1 found.2

    brace_stops : (m n : List ℕ) → Takes CloseBrace m n → Stops 1 m
    brace_stops m n t = omega (arith, ap binding t.kind_is)

    pub weave_fails : (f : TemplateFault) → ((u : Tree) (m : List ℕ) → Spells u inside m → 1 ≤ level u → Stops 1 m → Fails f (budget < tree_depth u))
        → (ps : Parts) (last r : List ℕ) → SpellsParts within ps last text r → Fails f (budget < parts_depth ps)
    weave_fails f parts_fail ps last r h =
        let n = next_of ps last r h in
        let deep : parts_depth ps ≡ parts_depth (woven parts (part a n.u n.vs)) = ap parts_depth n.whole in
        Fails-more f (λ (d : budget < tree_depth n.u). omega (arith, d, deep, woven-depth parts (part a n.u n.vs)))
        (parts_fail n.u n.m n.spelled (level_some n.u) (brace_stops n.m n.n n.brace))

    module _ (found : ReadTerm) (spelled : Spells (view found.term) inside found.rest.now)
        (only : (u : Tree) (m : List ℕ) → Spells u inside m → 1 ≤ level u → Stops 1 m → (view found.term ≡ u) × (found.rest.now ≡ m)) where
      pub brace_missing : (token_kind found.rest.now ≡ CloseBrace → ⊥) → (ps : Parts) (last r : List ℕ) → SpellsParts within ps last text r → ⊥
      brace_missing missing ps last r h =
          let n = next_of ps last r h in
          let e = only n.u n.m n.spelled (level_some n.u) (brace_stops n.m n.n n.brace) in
          missing (ap token_kind e.1 ∙ n.brace.kind_is)

      pub weave_more : (s : String Global) (after : List (String Global × Term)) (q : List ℕ) (deepest : ℕ) → string_bytes s ≡ a → after ≡ parts ++ (s, found.term) ∷ []
          → token_kind found.rest.now ≡ CloseBrace → q ≡ after_token found.rest.now
          → found.depth ≡ tree_depth (view found.term) → found.depth ≤ budget → deepest ≡ max depth found.depth → length q ≤ length text
          → Weaves within budget text after deepest q
      weave_more s after q deepest named pushed e f d room m shorter = record {
        sound = λ qs last r h.
            let brace : Takes CloseBrace found.rest.now q = record { kind_is = e; after_is = sym f } in
            let whole = c.sound (part a (view found.term) qs) last r (p, inside, found.rest.now, q, literal, begun, spelled, brace, h) in
            let same : woven parts (part a (view found.term) qs) ≡ woven after qs =
            ap (λ x. woven parts (part x (view found.term) qs)) (sym named) ∙ sym (woven-push parts (s, found.term) qs) ∙ ap (λ xs. woven xs qs) (sym pushed) in
            subst (λ ps. SpellsParts within ps last text r) same whole;
        complete = λ ps last r h.
            let n = next_of ps last r h in
            let x = only n.u n.m n.spelled (level_some n.u) (brace_stops n.m n.n n.brace) in
            let same : woven parts (part a n.u n.vs) ≡ woven after n.vs =
            ap (λ y. woven parts (part a y n.vs)) (sym x.0) ∙ ap (λ y. woven parts (part y (view found.term) n.vs)) (sym named) ∙ sym (woven-push parts (s, found.term) n.vs) ∙ ap (λ xs. woven xs n.vs) (sym pushed) in
            let place : n.n ≡ q = sym n.brace.after_is ∙ ap after_token (sym x.1) ∙ sym f in
            (n.vs, n.whole ∙ same, subst (λ y. SpellsParts within n.vs last y r) place n.others);
        depth_is = omega (arith, d, m, c.depth_is, weave-push parts (s, found.term), ap (λ xs. parts_depth (parts_view xs)) pushed);
        room = omega (arith, c.room, room, m);
        shorter = shorter;
      }

-- a template made of its parts
pub template_made : (parts : Vec (String Global × Term) Global) (last : String Global) → template_view (roll-Template (record { parts = parts; last = last })) ≡ (parts_view parts.items, string_bytes last)
template_made parts last = search (rules, the_lemmas)

-- a template that isn't within quotes takes the whole text
pub nothing_left : (ps : Parts) (last s r : List ℕ) → SpellsParts false ps last s r → r ≡ []
nothing_left no_parts last s r h = closes-end h.0 r h.2
nothing_left (part text t ps) last s r h = nothing_left ps last h.3 r h.8
