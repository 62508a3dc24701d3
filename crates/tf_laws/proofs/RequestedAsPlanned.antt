-- What an action asks is as planned.
use Rattle.std.proofs.Common.{◌≡◌, ◌∙◌, ℕ, Bool, true, false, List, Option, Some, None, Result, Ok, Contains, refl, sym, ap, subst}
use Rattle.std.specs.Prelude.{option_and_then}
use Rattle.tf_plan_data.specs.Action.{ActionView}
use Rattle.tf_config_address.specs.ResourceAddr.{ResourceAddrView}
use Rattle.tf_config_address.specs.ObjectId.{InstanceKeyView}
use Rattle.tf_laws.specs.AskingLaws.{KnownAttributesStay, PlannedObjectsAreAsked, RefinesWhere, RequestsRefine, asked_in_plan, planned_object}
use Rattle.tf_plan_object.specs.Instance.{InstanceFaultView}
use Rattle.tf_config_data.specs.Names.{NameView, meant_at}
use Rattle.tf_laws.proofs.Declared.{records_in}
use Rattle.tf_walk_action.specs.Asked.{AreRequests, Requests, asked_by_step, asked_for, ignored_by}
use Rattle.tf_plan_data.specs.Fits.{is_apply}
use Rattle.tf_plan_data.specs.Plan.{plan_names}
use Rattle.tf_provider_protocol.specs.Meaning.{Asked, schema_in}
use Rattle.tf_provider_protocol.specs.Schema.{SchemaView}
use Rattle.tf_value_data.specs.Known.{known}
use Rattle.tf_value_data.specs.Tree.{Tree, part_at}
use Rattle.tf_laws.proofs.AskedAlike.{requests_same}
use Rattle.tf_laws.proofs.Answered.{answered, completed, completed_same}
use Rattle.tf_laws.proofs.Instance.{IsOfInstance, of_instance}
use Rattle.tf_laws.proofs.PlannedParts.{Made, made, setting}
use Rattle.tf_laws.proofs.Steps.{asks_own, asks_some, destroys_none}
use Rattle.tf_laws.specs.Requests.{IsAskedAsPlanned, RequestsAreAsPlanned, StandAsPlanned}

-- what holds of requests by what their blocks make
pub record Laws : Type 0 where
  pub refine : RequestsRefine
  pub known : KnownAttributesStay
  pub planned : PlannedObjectsAreAsked

-- an object that is asked for is the planned one, as far as that is known
record Keeps (planned made : Option Tree) : Type 0 where
  object : RefinesWhere planned made
  unchanged : (name : List ℕ) (v : Tree) → option_and_then (part_at name) planned ≡ Some v → known v ≡ true → option_and_then (part_at name) made ≡ Some v

keeps_none : (planned made : Option Tree) → planned ≡ None → made ≡ None → Keeps planned made
keeps_none planned made one other = record {
  object = subst (λ (o : Option Tree). RefinesWhere o made) (sym one) (subst (λ (o : Option Tree). RefinesWhere None o) (sym other) tt);
  unchanged = λ name v e is. let no : None ≡ Some v = sym (ap (option_and_then (part_at name)) one) ∙ e in absurd (cc);
}

-- a destroy asks as planned, whatever its instance's block makes
pub destroy_as_planned : (names : List NameView) (schema : SchemaView) (a : ActionView) (made : Result Tree InstanceFaultView) (asked : Asked) → is_apply a.step ≡ false → asked_for names schema a made ≡ Ok asked → IsAskedAsPlanned a asked
destroy_as_planned names schema a made asked destroys e =
    let own = asks_own (ignored_by (meant_at names a.resource)) schema a made a.step asked e in
    let none = destroys_none (ignored_by (meant_at names a.resource)) schema a made a.step asked destroys e in
    let kept = keeps_none (planned_object a.step) asked.object none.0 none.1 in
    record { op = own.op; address = own.address; type_name = own.type_name; deposed = own.deposed; prior = own.prior; object = kept.object; unchanged = kept.unchanged }

module _ (x : Made) (laws : Laws) (requests : Requests) (are : AreRequests x.plan requests) (objects : ℕ → InstanceKeyView → Tree) (a : ActionView) (asked : Asked) (keep : StandAsPlanned x.plan a.resource objects) (c : Contains x.plan.actions a) where
  -- by the schema by which it was decided
  by_schema : (i : IsOfInstance x a) → asked_for (plan_names x.plan) i.by_plan.schema a (requests objects a i.by_plan.schema) ≡ Ok asked → Keeps (planned_object a.step) asked.object
  by_schema i e =
      let q = i.by_plan in
      let others = completed x a.resource objects keep in
      let plan_asks = asks_some (ignored_by (meant_at (plan_names x.plan) a.resource)) q.schema a q.is.made a.step in
      let in_plan : asked_in_plan x.plan x.resolved_names i.block q.schema a ≡ Ok plan_asks.0 =
      ap (λ (p : Result Tree InstanceFaultView). asked_by_step (ignored_by (meant_at (plan_names x.plan) a.resource)) q.schema a p a.step) q.is.makes ∙ plan_asks.1 in
      let same : requests (completed x a.resource objects keep) a q.schema ≡ requests objects a q.schema =
      requests_same x a.resource (completed x a.resource objects keep) objects (λ n key need among. completed_same x a.resource objects keep n key need among) requests a i.block q.schema are refl i.meant in
      let asks : asked_for (plan_names x.plan) q.schema a (requests (completed x a.resource objects keep) a q.schema) ≡ Ok asked =
      ap (λ (p : Result Tree InstanceFaultView). asked_for (plan_names x.plan) q.schema a p) same ∙ e in
      let stands = answered x a.resource objects keep in
      let is : plan_asks.0.object ≡ planned_object a.step =
      laws.planned x.plan x.resolved_names i.block a q.schema (records_in (setting x) i.block a.key) q.decision plan_asks.0 i.meant q.decides i.step in_plan in
      record {
        object =
            subst (λ (o : Option Tree). RefinesWhere o asked.object) is
            (laws.refine x.ms x.plan (completed x a.resource objects keep) x.resolved_names requests stands are i.block a q.schema plan_asks.0 asked i.meant in_plan asks);
        unchanged = λ name v at known_is.
            laws.known x.ms x.plan (completed x a.resource objects keep) x.resolved_names requests stands are i.block a q.schema plan_asks.0 asked i.meant in_plan asks name v
            (ap (option_and_then (part_at name)) is ∙ at) known_is;
      }

  schema_same : (schema : SchemaView) (i : IsOfInstance x a) → schema_in a.addr.type_name x.ms ≡ Some schema → schema ≡ i.by_plan.schema
  schema_same schema i has =
      let both : Some schema ≡ Some i.by_plan.schema = sym has ∙ ap (λ (l : ResourceAddrView). schema_in l.type_name x.ms) (sym i.own) ∙ i.by_plan.has in
      cc

  by_step : (schema : SchemaView) (b : Bool) → is_apply a.step ≡ b → schema_in a.addr.type_name x.ms ≡ Some schema → asked_for (plan_names x.plan) schema a (requests objects a schema) ≡ Ok asked → IsAskedAsPlanned a asked
  by_step schema true applies has e =
      let i = of_instance x a c applies in
      let kept = by_schema i (subst (λ (s : SchemaView). asked_for (plan_names x.plan) s a (requests objects a s) ≡ Ok asked) (schema_same schema i has) e) in
      let own = asks_own (ignored_by (meant_at (plan_names x.plan) a.resource)) schema a (requests objects a schema) a.step asked e in
      record { op = own.op; address = own.address; type_name = own.type_name; deposed = own.deposed; prior = own.prior; object = kept.object; unchanged = kept.unchanged }
  by_step schema false destroys has e = destroy_as_planned (plan_names x.plan) schema a (requests objects a schema) asked destroys e

  pub as_planned : (schema : SchemaView) → schema_in a.addr.type_name x.ms ≡ Some schema → asked_for (plan_names x.plan) schema a (requests objects a schema) ≡ Ok asked → IsAskedAsPlanned a asked
  as_planned schema has e = by_step schema (is_apply a.step) refl has e

pub requests_as_planned : Laws → RequestsAreAsPlanned
unfolding made
requests_as_planned laws ms config variables prior plan requests objects a schema asked is are c has keep e =
    as_planned (made ms config variables prior plan is) laws requests are objects a asked keep c schema has e
