-- What is read of some actions.
use Rattle.std.specs.Prelude.{◌≡◌, ℕ, true, List, map, ⊤}
use Rattle.tf_graph.specs.Solutions.{seen_by}
use Rattle.tf_walk_action.specs.Outcome.{ActionResultView, all_good}
use Rattle.tf_plan_data.specs.Plan.{PlanView}
use Rattle.tf_provider_protocol.specs.Meaning.{Meaning}
use Rattle.tf_walk_workers.specs.Ideal.{InEachIdeal}
use Rattle.tf_walk_workers.specs.Reading.{seen_in}
use Rattle.tf_walk_workers.specs.declared.before.Before.{Before}
use Rattle.tf_walk_workers.specs.declared.before.SeenResult.{SeenResult}
use Rattle.tf_walk_workers.specs.declared.before.SeenResult.TheVariants.{Good}

-- each action that is read, with its result
abbrev pub seen_result_of : {N : Type 0} → Before N → List (ℕ × ActionResultView)
seen_result_of b = map seen_in b.readings.items

-- something holds of what is read if all actions are good
abbrev pub IfGood : {N : Type 0} → SeenResult N → (Before N → Type 0) → Type 0
IfGood (Good b) Holds = Holds b
IfGood _ Holds = ⊤

-- All these actions are good, and each has the result that is read in every ideal.
abbrev pub AreShown : List Meaning → PlanView → List ℕ → List (ℕ × ActionResultView) → Type 0
AreShown ms plan nodes seen = (all_good seen ≡ true) × InEachIdeal ms plan (λ ideal. seen ≡ seen_by ideal nodes)

abbrev pub Shows : {N : Type 0} → List Meaning → PlanView → List ℕ → Before N → Type 0
Shows ms plan nodes b = AreShown ms plan nodes (seen_result_of b)
