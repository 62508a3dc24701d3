-- What a block refers to decides what it stands for.
use Rattle.std.proofs.Common.{◌≡◌, ℕ, List, Option, Some, None, if◌then◌else◌, refl, ap}
use Rattle.std.specs.Prelude.{option_and_then}
use Rattle.tf_config_address.specs.ObjectId.{InstanceKeyView}
use Rattle.tf_plan_object.proofs.Locals.{instances_local}
use Rattle.tf_config_data.specs.Config.{BlockView}
use Rattle.tf_config_data.specs.Names.{block_refers}
use Rattle.tf_plan_decision.specs.Deciding.{instance_outcomes, of_at}
use Rattle.tf_plan_decision.specs.Locality.{DecidingIsLocal}
use Rattle.tf_plan_decision.specs.Outcome.{by_decision, member_outcome, removal_outcome}
use Rattle.tf_plan_decision.specs.Stage.{all_can_go, block_members, decided_object, object_of, object_unless_refused, records_at}
use Rattle.tf_plan_decision.specs.Decision.{decision}
use Rattle.tf_plan_decision.specs.Whole.{block_instances}
use Rattle.tf_expand_keys.proofs.Locals.{together_same}
use Rattle.tf_expr_eval.proofs.Locality.{expressions_local}
use Rattle.tf_expr_eval.specs.Environment.{Environment}
use Rattle.tf_expr_eval.specs.Locality.{AgreeOn}
use Rattle.tf_expand_keys.specs.InstanceKeys.{InstanceKeysView}
use Rattle.tf_plan_order.specs.Members.{InstanceToPlanView, records_of}
use Rattle.tf_provider_protocol.specs.Meaning.{Meaning, schema_in}
use Rattle.tf_provider_protocol.specs.Schema.{SchemaView}
use Rattle.tf_state_data.specs.Record.{RecordView}
use Rattle.tf_state_data.specs.Resource.{ResourceView}

object_local : (schema : SchemaView) (block : BlockView) (records : List RecordView) (e f : Environment) (key : InstanceKeyView) → AgreeOn e f (block_refers block)
    → object_of schema block records e key ≡ object_of schema block records f key
object_local schema block records e f key agree =
    ap (λ planned. object_unless_refused records (decision schema block.lifecycle records planned)) (instances_local expressions_local schema block key e f agree)

by_schema : (found : Option SchemaView) (block : BlockView) (records : List RecordView) (e f : Environment) (key : InstanceKeyView) → AgreeOn e f (block_refers block)
    → option_and_then (λ schema. object_of schema block records e key) found ≡ option_and_then (λ schema. object_of schema block records f key) found
by_schema None block records e f key agree = refl
by_schema (Some schema) block records e f key agree = object_local schema block records e f key agree

pub stage_local : DecidingIsLocal
stage_local ms resources shapes n block e f agree =
    together_same (decided_object ms resources n block e) (decided_object ms resources n block f) (if all_can_go ms resources (shapes n) block then Some (shapes n) else None)
    (λ key. by_schema (schema_in block.addr.type_name ms) block (records_of key (records_at block.addr resources)) e f key agree)

-- what a block refers to decides what becomes of its members
outcome_local : (found : Option SchemaView) (block : BlockView) (e f : Environment) (m : InstanceToPlanView) → AgreeOn e f (block_refers block) → member_outcome found block e m ≡ member_outcome found block f m
outcome_local None block e f m agree = refl
outcome_local (Some schema) block e f m agree =
    ap (λ planned. if m.is_declared then by_decision m.records (decision schema block.lifecycle m.records planned) else removal_outcome schema (Some block.lifecycle) m)
    (instances_local expressions_local schema block m.key e f agree)

pub block_local : (ms : List Meaning) (resources : List ResourceView) (n : ℕ) (block : BlockView) (e f : Environment) (shape : InstanceKeysView) → AgreeOn e f (block_refers block)
    → block_instances ms resources n block e shape ≡ block_instances ms resources n block f shape
block_local ms resources n block e f shape agree =
    let schema = schema_in block.addr.type_name ms in
    let each = λ (m : InstanceToPlanView). outcome_local schema block e f m agree in
    (λ i. instance_outcomes (of_at ms n block.addr) (λ m. each m i) (block_members shape block resources))
