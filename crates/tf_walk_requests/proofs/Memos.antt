-- The values of names that requests have in common.
use Rattle.std.proofs.Common.{◌≡◌, ◌<◌, ℕ, List, [], Option, Some, None, subst}
use Rattle.std.specs.Prelude.{IfSome, IsSomeAnd}
use Rattle.tf_expand_keys.specs.declared.resolved.Resolved.{Resolved}
use Rattle.tf_graph.specs.Digraph.{predecessors_of}
use Rattle.tf_graph.specs.Solutions.{seen_by}
use Rattle.tf_plan_data.specs.Plan.{PlanView}
use Rattle.tf_value_data.specs.Tree.{Tree}
use Rattle.tf_walk_action.specs.Outcome.{objects_by}
use Rattle.tf_walk_action.specs.SoFar.{ResolvedSoFar}
use Rattle.tf_walk_requests.specs.Asks.{results_with}

-- the values hold after some actions
abbrev pub HoldAfter : PlanView → (ℕ → Tree) → List ℕ → List Resolved → Type 0
HoldAfter plan objects actions kept = ResolvedSoFar plan (objects_by plan (seen_by (results_with objects) actions)) kept

-- what holds for one action holds for another one with the same actions directly before it
pub holds_for : (plan : PlanView) (objects : ℕ → Tree) (a : Option ℕ) (kept : List Resolved) (n : ℕ) → n < plan.order.nodes → IsSomeAnd a (λ own. predecessors_of plan.order own ≡ predecessors_of plan.order n)
    → IfSome a (λ own. (own < plan.order.nodes) × HoldAfter plan objects (predecessors_of plan.order own) kept) → (n < plan.order.nodes) × HoldAfter plan objects (predecessors_of plan.order n) kept
holds_for plan objects None kept n within same h = absurd same
holds_for plan objects (Some own) kept n within same h = (within, subst (λ actions. HoldAfter plan objects actions kept) same h.1)

-- what holds with some objects holds with the same ones
pub holds_with : (plan : PlanView) (objects others : ℕ → Tree) (a : Option ℕ) (kept : List Resolved) → others ≡ objects → IfSome a (λ own. (own < plan.order.nodes) × HoldAfter plan objects (predecessors_of plan.order own) kept)
    → IfSome a (λ own. (own < plan.order.nodes) × HoldAfter plan others (predecessors_of plan.order own) kept)
holds_with plan objects others None kept same h = tt
holds_with plan objects others (Some own) kept same h = (h.0, rw same h.1)

-- at first nothing is kept
pub holds_at_first : (plan : PlanView) (objects : ℕ → Tree) (a : Option ℕ) (kept : List Resolved) → a ≡ None → IfSome a (λ own. (own < plan.order.nodes) × HoldAfter plan objects (predecessors_of plan.order own) kept)
holds_at_first plan objects None kept empty = tt
holds_at_first plan objects (Some own) kept empty = absurd (cc)
