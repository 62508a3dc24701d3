-- The place of an action's diagnostics.
use Rattle.std.specs.Prelude.{ℕ, List, ◌++◌, codes, Option, Some, None}
use Rattle.tf_plan_data.specs.Action.{ActionView}
use Rattle.tf_plan_data.specs.Address.{address_text}
use Rattle.tf_plan_data.specs.Fits.{deposed_key}

-- an address, followed by ` (deposed KEY)` for a deposed object
abbrev pub with_key : List ℕ → Option (List ℕ) → List ℕ
with_key address None = address
with_key address (Some key) = address ++ (codes " (deposed " ++ (key ++ codes ")"))

-- The address of an action's instance, followed by ` (deposed KEY)` for a deposed object.
abbrev pub place_of : ActionView → List ℕ
place_of a = with_key (address_text a.addr a.key) (deposed_key a.step)
