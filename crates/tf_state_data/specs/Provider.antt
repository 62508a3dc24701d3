-- How a state names the provider of a resource type.
use Rattle.std.specs.Prelude.{ℕ, List, ◌++◌, ◌==◌, codes}
use Rattle.std.specs.List.{before_first}

-- the part of a type before its first `_`, or the whole type
abbrev pub provider_name : List ℕ → List ℕ
provider_name type_name = before_first (λ c. c == 95) type_name

-- the provider's address in Terraform's public registry
abbrev pub provider_text : List ℕ → List ℕ
provider_text type_name = codes "provider[\"registry.terraform.io/hashicorp/" ++ provider_name type_name ++ codes "\"]"
