-- Which of some names is first in byte order.
use Rattle.std.specs.Prelude.{ℕ, if◌then◌else◌, List, fold, Option, Some, None}
use Rattle.tf_provider_protocol.specs.Schema.{is_below}

-- of two names, the one that is first in byte order
abbrev pub sooner_name : Option (List ℕ) → List ℕ → Option (List ℕ)
sooner_name None new = Some new
sooner_name (Some old) new = if is_below new old then Some new else Some old

-- of all names, the one that is first in byte order
abbrev pub first_name : List (List ℕ) → Option (List ℕ)
first_name names = fold sooner_name None names
