-- What some actions ask for, and what is listed for it.
use Rattle.std.proofs.Common.{◌≡◌, ◌<◌, ◌+◌, ◌∷◌, ℕ, Bool, true, List, [], length, map, get_or, take, arith}
use Rattle.std.specs.List.{AllByRecursion}
use Rattle.std.specs.Prelude.{Vec}
use Rattle.tf_graph.specs.NodeSet.{has}
use Rattle.tf_plan_data.specs.Action.{ActionView}
use Rattle.tf_plan_data.specs.Fits.{IsDeclared}
use Rattle.tf_plan_data.specs.Plan.{PlanView, plan_names}
use Rattle.tf_walk_buffers.proofs.Heads.{declared-within}
use Rattle.tf_walk_buffers.proofs.Lists.{all-next}
use Rattle.tf_walk_buffers.specs.Needed.{AreListedAsked, IsAsked, IsListedFor}

still_asked : (old new : List Bool) (a : ActionView) → length new ≡ length old → ((k : ℕ) → has old k ≡ true → has new k ≡ true) → IsAsked old a → IsAsked new a
still_asked old new a long kept asked applies inside = let before : a.resource < length old = omega (arith, long, inside) in kept a.resource (asked applies before)

-- what was seen is still asked for, and so is one action more
pub asked-next : {B : Type 0} (g : B → ActionView) (old new : List Bool) (xs : List B) (i : ℕ) (x : B) → i < length xs → x ≡ get_or xs i x → length new ≡ length old → ((k : ℕ) → has old k ≡ true → has new k ≡ true)
    → AllByRecursion (IsAsked old) (map g (take i xs)) → IsAsked new (g x) → AllByRecursion (IsAsked new) (map g (take (i + 1) xs))
asked-next g old new xs i x below e long kept so_far one = all-next (IsAsked old) (IsAsked new) g xs i x below e (λ a. still_asked old new a long kept) so_far one

-- what is asked for is listed
pub listed-for : {A : Type 0} (plan : PlanView) (asked : List Bool) (lists : List (Vec ℕ A)) (actions : List ActionView) → length asked ≡ length (plan_names plan)
    → AreListedAsked plan.needs (plan_names plan) asked lists → AllByRecursion (IsDeclared (plan_names plan)) actions → AllByRecursion (IsAsked asked) actions → AllByRecursion (IsListedFor plan lists) actions
listed-for plan asked lists [] long listed declared all = tt
listed-for plan asked lists (a ∷ actions) long listed declared all = (
  λ applies.
      let inside : a.resource < length (plan_names plan) = declared-within (plan_names plan) a declared.0 applies in
      let there : a.resource < length asked = omega (arith, long, inside) in
      listed a.resource inside (all.0 applies there),
  listed-for plan asked lists actions long listed declared.1 all.1,
)
