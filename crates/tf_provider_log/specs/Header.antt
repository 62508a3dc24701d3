-- The header of a log, as plain data.
use Rattle.std.specs.Prelude.{ℕ, List, Option}

-- The inputs of an apply: the texts of the configuration, of the variables file and of the prior state, if there are
-- such, and the lineage of a new state.
pub record HeaderView : Type 0 where
  pub config : List ℕ
  pub vars : Option (List ℕ)
  pub state : Option (List ℕ)
  pub lineage : List ℕ
