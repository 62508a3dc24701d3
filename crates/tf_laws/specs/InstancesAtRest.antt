-- Which instances need no change, by what was planned for them and what was answered.
use Rattle.std.specs.Prelude.{◌≡◌, ℕ, true, false, List, Some, Ok}
use Rattle.std.specs.List.{list_all}
use Rattle.tf_plan_data.specs.Action.{ActionView, StepView}
use Rattle.tf_config_address.specs.ObjectId.{InstanceKeyView}
use Rattle.tf_plan_object.specs.Instance.{instance_object}
use Rattle.tf_config_data.specs.Config.{BlockView}
use Rattle.tf_plan_decision.specs.Decision.{change, nothing}
use Rattle.tf_plan_decision.specs.Laws.{is_settled}
use Rattle.tf_expr_eval.specs.Environment.{Environment}
use Rattle.tf_walk_action.specs.Asked.{asked_by_step}
use Rattle.tf_plan_data.specs.Fits.{is_apply}
use Rattle.tf_provider_protocol.specs.Meaning.{Asked}
use Rattle.tf_provider_protocol.specs.Schema.{SchemaView, IsSchema}
use Rattle.tf_provider_protocol.specs.Verdict.{has_attributes, is_good_verdict, verdict_on_object}
use Rattle.tf_state_data.specs.Record.{RecordView}
use Rattle.tf_value_data.specs.Known.{known}
use Rattle.tf_value_data.specs.Refinement.{Refines}
use Rattle.tf_value_data.specs.Tree.{Tree}
use Rattle.tf_laws.specs.Known.{IsKnown}

-- If all names have known values, each attribute of an instance's object is known, except those that keep their prior value.
abbrev pub ObjectsAreSettled : Type 0
ObjectsAreSettled =
    (schema : SchemaView) (ignored : List (List ℕ)) (block : BlockView) (key : InstanceKeyView) (env : Environment) (t : Tree)
    → IsSchema schema → IsKnown env → instance_object schema block key env ≡ Ok t → list_all (is_settled schema ignored t) schema.attributes ≡ true

-- No change is decided for the object that a provider answered well to a create, a replacement or an update, if the request was
-- built from what the block gives for the instance, known except for what is kept. That holds for any prior object of the
-- update, and also if what wasn't known in the plan turned out to differ in nothing.
abbrev pub AnsweredInstancesRest : Type 0
AnsweredInstancesRest =
    (schema : SchemaView) (ignored : List (List ℕ)) (a : ActionView) (step : StepView) (made : Tree) (asked : Asked) (r : RecordView)
    → IsSchema schema → has_attributes schema made ≡ true → list_all (is_settled schema ignored made) schema.attributes ≡ true
    → is_apply step ≡ true → asked_by_step ignored schema a (Ok made) step ≡ Ok asked
    → is_good_verdict (verdict_on_object schema asked.object r.attributes) ≡ true → r.tainted ≡ false
    → change schema ignored (Some r) made ≡ nothing

-- If no change was decided for an object, and more becomes known of what the block gives for the instance, there is still no
-- change. The object's record may get other dependencies and another flag meanwhile.
abbrev pub UntouchedInstancesRest : Type 0
UntouchedInstancesRest =
    (schema : SchemaView) (ignored : List (List ℕ)) (r later : RecordView) (planned made : Tree)
    → IsSchema schema → has_attributes schema planned ≡ true → has_attributes schema r.attributes ≡ true → known r.attributes ≡ true
    → change schema ignored (Some r) planned ≡ nothing → Refines planned made
    → later.attributes ≡ r.attributes → later.tainted ≡ r.tainted
    → change schema ignored (Some later) made ≡ nothing
