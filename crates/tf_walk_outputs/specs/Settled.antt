-- Which names are settled after an apply. An output can be evaluated if the names in it are settled.
use Rattle.std.specs.Prelude.{◌≡◌, ℕ, Bool, false, List, Option, Some, None, length, Contains}
use Rattle.std.specs.List.{list_all}
use Rattle.tf_config_data.specs.Names.{NameView, Meant, a_local, a_block, meant_at, directly_before, places}
use Rattle.tf_graph.specs.Solutions.{Solves, seen_by}
use Rattle.tf_expr_syntax.specs.ExprNames.{named_by}
use Rattle.tf_expr_syntax.specs.ExprTree.{Tree}

-- whether all seen names are settled
abbrev pub all_settled : List (ℕ × Bool) → Bool
all_settled seen = list_all (λ s. s.1) seen

-- whether a name is settled, by whether all creates and updates of a resource are good, and whether all that a local
-- refers to is settled
abbrev pub settled_as : Option Meant → Bool → Bool → Bool
settled_as None good all = false
settled_as (Some (a_local e)) good all = all
settled_as (Some (a_block b)) good all = good

-- A resource is settled if all its creates and updates are good, and a local if each name that it refers to directly is
-- settled.
abbrev pub settled_rule : List NameView → (ℕ → Bool) → ℕ → List (ℕ × Bool) → Bool
settled_rule names good n seen = settled_as (meant_at names n) (good n) (all_settled seen)

-- The settled names: the solution of the rule.
abbrev pub AreSettled : List NameView → (ℕ → Bool) → (ℕ → Bool) → Type 0
AreSettled names good settled = Solves (length names) (directly_before names) (settled_rule names good) settled

-- the names in a list are settled as each solution says
abbrev pub AreSettledAmong : List NameView → (ℕ → Bool) → List ℕ → (ℕ → Bool) → Type 0
AreSettledAmong names good order settled = (solution : ℕ → Bool) → AreSettled names good solution → (n : ℕ) → Contains order n → settled n ≡ solution n

-- whether each name that an expression names is settled
abbrev pub names_are_settled : List NameView → (ℕ → Bool) → Tree → Bool
names_are_settled names settled e = all_settled (seen_by settled (places names (named_by e)))
