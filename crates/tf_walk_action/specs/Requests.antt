-- What an apply requests of providers.
use Rattle.std.specs.Prelude.{◌≡◌, ℕ, List, Some, Result}
use Rattle.tf_config_address.specs.ObjectId.{InstanceKeyView}
use Rattle.tf_config_data.specs.Config.{BlockView}
use Rattle.tf_config_data.specs.Names.{NameView, a_block, meant_at}
use Rattle.tf_provider_protocol.specs.Schema.{SchemaView}
use Rattle.tf_value_data.specs.Tree.{Tree, Entries}
use Rattle.tf_expand_keys.specs.InstanceKeys.{InstanceKeysView}
use Rattle.tf_expand_keys.specs.Stages.{applying}
use Rattle.tf_expand_keys.specs.Resolved.{ResolvedView, AreResolvedNames, environment}
use Rattle.tf_plan_object.specs.Instance.{InstanceFaultView, instance_object}

-- The object requested for the create of an instance, or its fault: the object that is planned for it, with each name
-- resolved as in the apply. A resource has the objects that its providers answered.
abbrev pub IsRequest : Entries → List NameView → (ℕ → InstanceKeysView) → (ℕ → InstanceKeyView → Tree) → ℕ → InstanceKeyView → SchemaView → Result Tree InstanceFaultView → Type 0
IsRequest variables names shapes objects place key schema request =
    (resolved_names : ℕ → ResolvedView) (block : BlockView) → AreResolvedNames (applying shapes objects) variables names resolved_names → meant_at names place ≡ Some (a_block block)
    → request ≡ instance_object schema block key (environment variables names resolved_names)
