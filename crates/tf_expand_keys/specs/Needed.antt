-- Which names are needed.
use Rattle.std.specs.Prelude.{◌≡◌, ℕ, Bool, true, false, List, Option, Some}
use Rattle.tf_config_data.specs.Names.{NameView, Meant, a_block, meant_at}
use Rattle.tf_config_names.specs.Needs.{needs_in}
use Rattle.tf_config_names.specs.declared.dependence.Dependence.{Dependence}

-- what is at a place is a resource
abbrev pub is_resource : Option Meant → Bool
is_resource (Some (a_block b)) = true
is_resource _ = false

-- One of some names needs the name at a place: it refers to it, or to a name that needs it.
pub record IsNeededBy (some : ℕ → Type 0) (d : Dependence) (n : ℕ) : Type 0 where
  pub name : ℕ
  pub is_one : some name
  pub needs : needs_in d name n ≡ true

-- a resource needs the name at a place
abbrev pub IsNeeded : List NameView → Dependence → ℕ → Type 0
IsNeeded names d n = IsNeededBy (λ a. is_resource (meant_at names a) ≡ true) d n
