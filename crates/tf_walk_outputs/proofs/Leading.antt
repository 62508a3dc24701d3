-- Names are settled where the resources that they stand for, themselves or through locals, are good.
use Rattle.std.proofs.Common.{◌≡◌, ◌<◌, ℕ, zero, suc, Bool, true, false, List, [], ◌∷◌, length, Option, Some, None, MatchBool, refl, sym, ap, ◌∙◌, arith}
use Rattle.std.specs.List.{AllByRecursion}
use Rattle.tf_config_address.specs.ObjectId.{InstanceKeyView}
use Rattle.tf_config_data.specs.Names.{NameView, Meant, a_local, a_block, meant_at, directly_before, places}
use Rattle.tf_expand_keys.proofs.Places.{along, all_places, names_stay}
use Rattle.tf_expand_keys.specs.InstanceKeys.{InstanceKeysView}
use Rattle.tf_graph.proofs.Edges.{all_by_contained}
use Rattle.tf_graph.proofs.Solving.{all_by_at}
use Rattle.tf_graph.specs.Solutions.{Ranked, seen_by}
use Rattle.tf_walk_outputs.specs.OutputLaws.{StandsFor, itself, through, EvaluatedWhereGood, OutputsAreOne}
use Rattle.tf_walk_outputs.specs.Outputs.{OutputResultView, not_evaluated, excused, valued, faulted, IsEvaluated}
use Rattle.tf_walk_outputs.specs.Settled.{AreSettled, all_settled, settled_as, names_are_settled}
use Rattle.tf_expr_syntax.specs.ExprNames.{named_by}
use Rattle.tf_expr_syntax.specs.ExprTree as expr
use Rattle.tf_value_data.proofs.Conjunction.{and-both, and-first, and-second}
use Rattle.tf_value_data.specs.Tree.{Tree, Entries}

each_settled : (settled : ℕ → Bool) (xs : List ℕ) → all_settled (seen_by settled xs) ≡ true → AllByRecursion (λ a. settled a ≡ true) xs
each_settled settled [] h = tt
each_settled settled (x ∷ xs) h = (and-first (settled x) (all_settled (seen_by settled xs)) h, each_settled settled xs (and-second (settled x) (all_settled (seen_by settled xs)) h))

settled_each : (settled : ℕ → Bool) (xs : List ℕ) → AllByRecursion (λ a. settled a ≡ true) xs → all_settled (seen_by settled xs) ≡ true
settled_each settled [] h = refl
settled_each settled (x ∷ xs) h = and-both (settled x) (all_settled (seen_by settled xs)) h.0 (settled_each settled xs h.1)

something_at : (names : List NameView) (n : ℕ) → n < length names → meant_at names n ≡ None → ⊥
something_at [] n below none = absurd (omega (arith, below))
something_at (name ∷ names) zero below none = absurd (cc)
something_at (name ∷ names) (suc n) below none = something_at names n (omega arith) none

module _ (names : List NameView) (good settled : ℕ → Bool) (solves : AreSettled names good settled) where
  -- a name that is settled stands for good resources
  good_from : (n b : ℕ) → StandsFor names n b → n < length names → settled n ≡ true → good b ≡ true
  good_from _ _ (itself n block is) below so = sym (solves n below ∙ ap (λ m. settled_as m (good n) (all_settled (seen_by settled (directly_before names n)))) is) ∙ so
  good_from _ _ (through n a b e is c rest) below so =
      let all : all_settled (seen_by settled (directly_before names n)) ≡ true =
      sym (solves n below ∙ ap (λ m. settled_as m (good n) (all_settled (seen_by settled (directly_before names n)))) is) ∙ so in
      good_from a b rest (all_by_at (λ k. k < length names) (directly_before names n) a (names_stay names n below) c)
      (all_by_at (λ k. settled k ≡ true) (directly_before names n) a (each_settled settled (directly_before names n) all) c)

  abbrev IsSettledByGood : ℕ → Type 0
  IsSettledByGood n = ((b : ℕ) → StandsFor names n b → good b ≡ true) → settled n ≡ true

  settled_step : (n : ℕ) (m : Option Meant) → n < length names → meant_at names n ≡ m → AllByRecursion IsSettledByGood (directly_before names n) → IsSettledByGood n
  settled_step n None below is before all = absurd (something_at names n below is)
  settled_step n (Some (a_block block)) below is before all =
      solves n below ∙ ap (λ m. settled_as m (good n) (all_settled (seen_by settled (directly_before names n)))) is ∙ all n (itself n block is)
  settled_step n (Some (a_local e)) below is before all =
      solves n below ∙ ap (λ m. settled_as m (good n) (all_settled (seen_by settled (directly_before names n)))) is
      ∙ settled_each settled (directly_before names n)
      (all_by_contained (λ a. settled a ≡ true) (directly_before names n) (λ a c. all_by_at IsSettledByGood (directly_before names n) a before c (λ b rest. all b (through n a b e is c rest))))

  -- a name that stands for good resources alone is settled
  settled_from : Ranked (directly_before names) → (n : ℕ) → n < length names → IsSettledByGood n
  settled_from ranked = along (length names) (directly_before names) IsSettledByGood ranked (names_stay names) (λ n below before. settled_step n (meant_at names n) below refl before)

pub evaluated_where_good : EvaluatedWhereGood
evaluated_where_good names good settled e ranked solves =
    let ps = places names (named_by e) in
    let below = all_places (λ a. a < length names) names (named_by e) (λ a k. k) in (
      λ so a b c leads. good_from names good settled solves a b leads (all_by_at (λ a. a < length names) ps a below c) (all_by_at (λ a. settled a ≡ true) ps a (each_settled settled ps so) c),
      λ all. settled_each settled ps (all_by_contained (λ a. settled a ≡ true) ps (λ a c. settled_from names good settled solves ranked a (all_by_at (λ a. a < length names) ps a below c) (λ b leads. all a b c leads))),
    )

module _ (variables : Entries) (names : List NameView) (shapes : ℕ → InstanceKeysView) (objects : ℕ → InstanceKeyView → Tree) (e : expr.Tree) where
  one_evaluated : (d other : OutputResultView) → IsEvaluated variables names shapes objects e d → IsEvaluated variables names shapes objects e other → (d ≡ excused → ⊥) → (other ≡ excused → ⊥) → d ≡ other
  one_evaluated not_evaluated other h g s t = absurd h
  one_evaluated excused other h g s t = absurd (s refl)
  one_evaluated d not_evaluated h g s t = absurd g
  one_evaluated d excused h g s t = absurd (t refl)
  one_evaluated (valued v) (valued w) h g s t = h.means h.resolved_names h.are_standings ∙ sym (g.means h.resolved_names h.are_standings)
  one_evaluated (valued v) (faulted why) h g s t = h.means h.resolved_names h.are_standings ∙ sym (g.means h.resolved_names h.are_standings)
  one_evaluated (faulted why) (valued w) h g s t = h.means h.resolved_names h.are_standings ∙ sym (g.means h.resolved_names h.are_standings)
  one_evaluated (faulted why) (faulted but) h g s t = h.means h.resolved_names h.are_standings ∙ sym (g.means h.resolved_names h.are_standings)

  one_done : (b : Bool) (d other : OutputResultView) → MatchBool b (IsEvaluated variables names shapes objects e d) (d ≡ not_evaluated) → MatchBool b (IsEvaluated variables names shapes objects e other) (other ≡ not_evaluated)
      → (d ≡ excused → ⊥) → (other ≡ excused → ⊥) → d ≡ other
  one_done true d other h g s t = one_evaluated d other h g s t
  one_done false d other h g s t = h ∙ sym g

pub outputs_one : OutputsAreOne
outputs_one variables names shapes objects settled e d other ranked h g s t = one_done variables names shapes objects e (names_are_settled names settled e) d other h g s t
