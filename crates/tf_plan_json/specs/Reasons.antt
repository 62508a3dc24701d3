-- Why changes are made, and by which provider, in Terraform's words.
use Rattle.std.specs.Prelude.{ℕ, Bool, ◌&&◌, if◌then◌else◌, List, [], ◌∷◌, ◌++◌, codes, Option, Some, None}
use Rattle.std.specs.Str.{bytes_eq}
use Rattle.tf_config_address.specs.ObjectId.{InstanceKeyView, number, name}
use Rattle.tf_config_address.specs.ResourceAddr.{ResourceAddrView}
use Rattle.tf_config_data.specs.Config.{BlockView, ConfigView, RepetitionView, count, for_each}
use Rattle.tf_plan_changes.specs.Changes.{ChangeView, KindView, create_it, update_it, replace_it, replace_late, destroy_it}
use Rattle.tf_state_data.specs.Provider.{provider_name}

-- an object is replaced because it is tainted, or because of changes of these attributes
abbrev pub replace_reason : List (List ℕ) → List ℕ
replace_reason [] = codes "replace_because_tainted"
replace_reason (n ∷ names) = codes "replace_because_cannot_update"

abbrev pub is_at : ResourceAddrView → ResourceAddrView → Bool
is_at a b = bytes_eq a.type_name b.type_name && bytes_eq a.name b.name

-- how many instances the block at an address has, if there is one
abbrev pub repetition_at : ResourceAddrView → List BlockView → Option RepetitionView
repetition_at addr [] = None
repetition_at addr (b ∷ blocks) = if is_at addr b.addr then Some b.repetition else repetition_at addr blocks

-- why an instance is destroyed: its resource has no block; or its number or its name isn't among the instances; or the
-- block has another kind of instances
abbrev pub delete_reason : Option RepetitionView → InstanceKeyView → List ℕ
delete_reason None key = codes "delete_because_no_resource_config"
delete_reason (Some (count e)) (number n) = codes "delete_because_count_index"
delete_reason (Some (for_each e)) (name s) = codes "delete_because_each_key"
delete_reason _ _ = codes "delete_because_wrong_repetition"

-- a deposed object has no reason
abbrev pub destroy_reason : ConfigView → ChangeView → Option (List ℕ) → Option (List ℕ)
destroy_reason config c None = Some (delete_reason (repetition_at c.addr config.blocks) c.key)
destroy_reason config c (Some key) = None

abbrev pub reason_by : ConfigView → ChangeView → KindView → Option (List ℕ)
reason_by config c create_it = None
reason_by config c update_it = None
reason_by config c (replace_it names) = Some (replace_reason names)
reason_by config c (replace_late names) = Some (replace_reason names)
reason_by config c destroy_it = destroy_reason config c c.deposed

abbrev pub reason_of : ConfigView → ChangeView → Option (List ℕ)
reason_of config c = reason_by config c c.kind

-- the source address of the provider of a resource type, as new resources of a state have it
abbrev pub provider_source : List ℕ → List ℕ
provider_source type_name = codes "registry.terraform.io/hashicorp/" ++ provider_name type_name
