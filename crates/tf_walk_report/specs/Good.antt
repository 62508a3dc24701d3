-- Which resources have only good creates and updates.
use Rattle.std.specs.Prelude.{ℕ, ◌==◌, ◌&&◌, ◌||◌, Bool, true, not, List, ◌∷◌}
use Rattle.tf_plan_data.specs.Action.{ActionView}
use Rattle.tf_walk_action.specs.Outcome.{ActionResultView, is_good}
use Rattle.tf_plan_data.specs.Fits.{is_apply}

-- whether an action creates or updates an object of the resource with a number
abbrev pub is_apply_of : ℕ → ActionView → Bool
is_apply_of n a = a.resource == n && is_apply a.step

-- Whether all creates and updates of the resource with a number are good, which they are if it has no such actions.
-- Destroys don't count.
abbrev pub are_good_at : List ActionView → List ActionResultView → ℕ → Bool
are_good_at (a ∷ actions) (d ∷ done) n = (not (is_apply_of n a) || is_good d) && are_good_at actions done n
are_good_at _ _ n = true
