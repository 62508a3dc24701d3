use Rattle.std.proofs.Common.{◌≡◌, ◌∙◌, ◌++◌, ◌∷◌, [], ℕ, List, Bool, true, false, cond, sym, ap, arith, inl, inr}
use Rattle.std.proofs.lemmas.Bool.{cases_eq, cases_lt, eq-eqb, ne_eqb}
use Rattle.std.proofs.lemmas.List.{append-nil}
use Rattle.tf_graph.specs.Closure.{reaches}
use Rattle.tf_graph.specs.Lists.{row}
use Rattle.tf_plan_order.proofs.near.spread.Goals as goal

kept : (xs : List ℕ) (place : ℕ) (b : Bool) → b ≡ false → xs ≡ xs ++ cond b (place ∷ []) []
kept xs place b none = sym (append-nil xs) ∙ ap (λ b. xs ++ cond b (place ∷ []) []) (sym none)

more : (xs : List ℕ) (place : ℕ) (b : Bool) → b ≡ true → xs ++ place ∷ [] ≡ xs ++ cond b (place ∷ []) []
more xs place b is = ap (λ b. xs ++ cond b (place ∷ []) []) (sym is)

pub add-requires : goal.add-requires
add-requires c = omega (arith, c.in-Some.ensures.nodes.1, c.requires, c.loop-other.invariant.count)

pub loop-other-preserved : goal.loop-other-preserved
loop-other-preserved c =
    let l = c.loop-other in
    let other = c.in-Some.other in
    let place = c.args.place in
    let first = c.in-Some.ensures.first in
    let added = c.in_ok-add.ensures.rows in
    let apart : (s : ℕ) → (s ≡ other → ⊥) → row c.add.new.lists s ≡ row l.lists s =
    λ s differs. added s ∙ ap (λ b. cond b (row l.lists s ++ place ∷ []) (row l.lists s)) (ne_eqb other s (λ e. differs (sym e))) in
    record {
      within = omega (arith, c.in-Some.ensures.nodes.1);
      count = c.add.ensures.count ∙ l.invariant.count;
      done = λ s h. elim (cases_eq s other) [
        | inl here ↦
            added s
            ∙ ap (λ b. cond b (row l.lists s ++ place ∷ []) (row l.lists s)) (eq-eqb other s (sym here))
            ∙ ap (λ xs. xs ++ place ∷ []) (l.invariant.left s (rw here first.0))
            ∙ more (row c.args.lists.now s) place (reaches c.args.table.now c.args.resource s) (rw here first.1)
        | inr differs ↦ elim (cases_lt s l.from) [
          | inl early ↦ apart s differs ∙ l.invariant.done s early
          | inr late ↦
              apart s differs
              ∙ l.invariant.left s late
              ∙ kept (row c.args.lists.now s) place (reaches c.args.table.now c.args.resource s) (first.2 s late (omega (arith, h, differs)))
        ]
      ];
      left = λ s h. apart s (λ e. omega (arith, h, e)) ∙ l.invariant.left s (omega (arith, h, first.0));
    }

pub returns-clause-rows : goal.returns-clause-rows
returns-clause-rows c =
    let l = c.loop-other in
    λ s. elim (cases_lt s l.from) [
      | inl early ↦ l.invariant.done s early
      | inr late ↦ l.invariant.left s late ∙ kept (row c.args.lists.now s) c.args.place (reaches c.args.table.now c.args.resource s) (c.in_default.ensures.first s late)
    ]
