-- What holds of planned objects, for any values of references.
use Rattle.std.specs.Prelude.{◌≡◌, true, Some, Ok}
use Rattle.tf_config_address.specs.ObjectId.{InstanceKeyView}
use Rattle.tf_config_data.specs.Config.{BlockView}
use Rattle.tf_config_data.specs.Names.{block_refers}
use Rattle.tf_provider_protocol.specs.Schema.{SchemaView}
use Rattle.tf_provider_protocol.specs.Verdict.{has_attributes}
use Rattle.tf_provider_protocol.specs.declared.schema.Kind.{Kind}
use Rattle.tf_value_data.specs.Tree.{Tree}
use Rattle.tf_value_data.specs.Refinement.{Refines}
use Rattle.tf_expr_eval.specs.Environment.{Environment, RefinesTo}
use Rattle.tf_expr_eval.specs.Locality.{AgreeOn}
use Rattle.tf_plan_object.specs.Argument.{converted}
use Rattle.tf_plan_object.specs.Instance.{instance_object}

-- An instance has the same object, or the same fault, in environments that agree on what its block refers to.
abbrev pub InstancesAreLocal : Type 0
InstancesAreLocal =
    (schema : SchemaView) (block : BlockView) (key : InstanceKeyView) (one other : Environment) → AgreeOn one other (block_refers block)
    → instance_object schema block key one ≡ instance_object schema block key other

-- If a value refines to another and both are converted to a kind, the first result refines to the second.
abbrev pub ConversionGrows : Type 0
ConversionGrows = (kind : Kind) (t u v w : Tree) → Refines t u → converted kind t ≡ Some v → converted kind u ≡ Some w → Refines v w

-- If an environment refines to another and an instance has an object in both, the first object refines to the second.
-- So a value that is known in the first is the same in the second.
abbrev pub InstancesGrow : Type 0
InstancesGrow =
    (schema : SchemaView) (block : BlockView) (key : InstanceKeyView) (one other : Environment) (t u : Tree) → RefinesTo one other
    → instance_object schema block key one ≡ Ok t → instance_object schema block key other ≡ Ok u → Refines t u

-- The object of an instance has exactly the schema's attributes.
abbrev pub InstancesHaveAttributes : Type 0
InstancesHaveAttributes =
    (schema : SchemaView) (block : BlockView) (key : InstanceKeyView) (env : Environment) (t : Tree)
    → instance_object schema block key env ≡ Ok t → has_attributes schema t ≡ true
