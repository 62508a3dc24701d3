-- Which names an apply evaluates for a request or an output.
use Rattle.std.specs.Prelude.{◌≡◌, ℕ, Bool, true, false, List, [], ◌++◌, Option, Some, Contains}
use Rattle.std.specs.List.{AllByRecursion}
use Rattle.tf_config_data.specs.Config.{RepetitionView, for_each, BlockView}
use Rattle.tf_config_data.specs.Names.{NameView, Meant, a_local, meant_at, directly_before}
use Rattle.tf_graph.specs.NodeSet.{has}
use Rattle.tf_expr_syntax.specs.ExprNames.{named_by, named_below}
use Rattle.tf_expr_syntax.specs.TemplateNames.{Pair}

-- whether the meaning of a name is a local
abbrev pub is_local : Option Meant → Bool
is_local (Some (a_local e)) = true
is_local _ = false

-- A name is wanted if it is one of the given ones, or if the expression of a wanted local names it. What a wanted
-- resource refers to isn't wanted: in the apply the resource has its returned objects, whatever it refers to.
pub data IsWanted (names : List NameView) (others : List ℕ) : ℕ → Type 0 where
  itself : (n : ℕ) → Contains others n → IsWanted names others n
  by_local : (a n : ℕ) → IsWanted names others a → is_local (meant_at names a) ≡ true → Contains (directly_before names a) n → IsWanted names others n

-- if a local is wanted, all names in its expression are wanted
abbrev pub AreClosedForLocals : List NameView → List Bool → Type 0
AreClosedForLocals names wanted =
    (n : ℕ) → has wanted n ≡ true → is_local (meant_at names n) ≡ true → AllByRecursion (λ a. has wanted a ≡ true) (directly_before names n)

-- the names in `for_each`
abbrev pub named_in_for_each : RepetitionView → List Pair
named_in_for_each (for_each e) = named_by e
named_in_for_each _ = []

-- The names that an instance's object is computed from: those in `for_each` and in the arguments. `count` isn't
-- evaluated for one instance, and `depends_on` never is.
abbrev pub instance_names : BlockView → List Pair
instance_names b = named_in_for_each b.repetition ++ named_below b.arguments
