-- The resources that some resources need, as lists of indexes.
use Rattle.std.specs.Prelude.{◌≡◌, ◌<◌, ℕ, Bool, true, List, length, Contains, Vec}
use Rattle.tf_config_data.specs.Names.{NameView}
use Rattle.tf_graph.specs.Lists.{row}
use Rattle.tf_graph.specs.NodeSet.{has}
use Rattle.tf_plan_data.specs.Action.{ActionView}
use Rattle.tf_plan_data.specs.Fits.{is_apply}
use Rattle.tf_plan_data.specs.Plan.{PlanView, plan_names}
use Rattle.tf_walk_buffers.specs.Dependencies.{addresses, addresses_at}

-- the list at an index has indexes of names, and the resources among them are those that the name at the index needs,
-- in the order of the names
pub record IsListed {A : Type 0} (needs : ℕ → ℕ → Bool) (names : List NameView) (place : ℕ) (lists : List (Vec ℕ A)) : Type 0 where
  pub inside : place < length lists
  pub within : (m : ℕ) → Contains (row lists place) m → m < length names
  pub listed : addresses_at names (row lists place) ≡ addresses needs names place

-- each requested name has such a list
abbrev pub AreListedAsked : {A : Type 0} → (ℕ → ℕ → Bool) → List NameView → List Bool → List (Vec ℕ A) → Type 0
AreListedAsked needs names asked lists = (place : ℕ) → place < length names → has asked place ≡ true → IsListed needs names place lists

-- the resource of an action that makes or changes an object has such a list
abbrev pub IsListedFor : {A : Type 0} → PlanView → List (Vec ℕ A) → ActionView → Type 0
IsListedFor plan lists a = is_apply a.step ≡ true → IsListed plan.needs (plan_names plan) a.resource lists

-- the resource of an action that makes or changes an object is requested, if it is a name
abbrev pub IsAsked : List Bool → ActionView → Type 0
IsAsked asked a = is_apply a.step ≡ true → a.resource < length asked → has asked a.resource ≡ true
