-- Which names are wanted, and which of them are resolved.
use Rattle.std.specs.Prelude.{◌≡◌, ℕ, Bool, true, false, List, None, Contains}
use Rattle.std.specs.List.{AllByRecursion}
use Rattle.tf_config_data.specs.Names.{NameView, directly_before}
use Rattle.tf_graph.specs.NodeSet.{has}
use Rattle.tf_value_data.specs.Tree.{Entries}
use Rattle.tf_expand_keys.specs.Resolved.{ResolvedView, ResourceValuesView, AreResolvedNames}

-- if a name is wanted, all names directly before it are wanted
abbrev pub AreClosed : List NameView → List Bool → Type 0
AreClosed names wanted = (n : ℕ) → has wanted n ≡ true → AllByRecursion (λ a. has wanted a ≡ true) (directly_before names n)

-- the wanted ones of the names in a list are resolved
abbrev pub AreResolved : ResourceValuesView → Entries → List NameView → List ℕ → List Bool → (ℕ → ResolvedView) → Type 0
AreResolved stage variables names order wanted kept =
    (resolved_names : ℕ → ResolvedView) → AreResolvedNames stage variables names resolved_names
    → (n : ℕ) → Contains order n → has wanted n ≡ true → kept n ≡ resolved_names n

-- no name resolves that isn't wanted
abbrev pub OnlyWanted : List Bool → (ℕ → ResolvedView) → Type 0
OnlyWanted wanted kept = (n : ℕ) → has wanted n ≡ false → kept n ≡ None
