-- What is asked for an action, by what names stand for.
use Rattle.std.proofs.Common.{◌≡◌, ◌∙◌, ◌<◌, ℕ, true, List, Option, Some, None, Result, Err, length, refl, sym, ap}
use Rattle.tf_config_address.specs.ObjectId.{InstanceKeyView}
use Rattle.tf_config_data.specs.Config.{BlockView}
use Rattle.tf_config_data.specs.Names.{NameView, Meant, a_local, a_block, meant_at, block_refers}
use Rattle.tf_expr_syntax.specs.declared.fault.EvalFault.TheVariants.{Missing}
use Rattle.tf_provider_protocol.specs.Schema.{SchemaView}
use Rattle.tf_value_data.specs.Tree.{Tree, Entries}
use Rattle.tf_expr_eval.proofs.Locality.{expressions_local}
use Rattle.tf_expand_keys.proofs.Places.{all_places}
use Rattle.tf_expand_keys.proofs.Seen.{agree_on}
use Rattle.tf_expand_keys.specs.StandingLaws.{ResolvedNamesAreOne, ResolvedNamesExist}
use Rattle.tf_expand_keys.specs.Stages.{applying}
use Rattle.tf_expand_keys.specs.Resolved.{ResolvedView, environment}
use Rattle.tf_plan_object.proofs.Locals.{instances_local}
use Rattle.tf_plan_object.specs.Instance.{InstanceFaultView, for_each_fault, instance_object}
use Rattle.tf_plan_data.specs.Plan.{plan_names}
use Rattle.tf_walk_names.specs.Resolving.{is_resource}
use Rattle.tf_walk_action.specs.Laws.{RequestsExist, RequestsAreOne}

-- a resource has a block
pub resource_has_block : (m : Option Meant) → is_resource m ≡ true → (block : BlockView) × (m ≡ Some (a_block block))
resource_has_block None h = absurd (cc)
resource_has_block (Some (a_local e)) h = absurd (cc)
resource_has_block (Some (a_block b)) h = (b, refl)

pub requests_one : ResolvedNamesExist → RequestsAreOne
requests_one exist plan requests others ranked are same objects a schema resource =
    let names = plan_names plan in
    let resolved_names = exist (applying plan.shapes objects) plan.variables names ranked in
    let block = resource_has_block (meant_at names a.resource) resource in
    are objects a schema resolved_names.0 block.0 resolved_names.1 block.1 ∙ sym (same objects a schema resolved_names.0 block.0 resolved_names.1 block.1)

-- the object of what stands at a place, where it is a resource
abbrev object_by : SchemaView → InstanceKeyView → Entries → List NameView → (ℕ → ResolvedView) → Option Meant → Result Tree InstanceFaultView
object_by schema key variables names resolved_names (Some (a_block b)) = instance_object schema b key (environment variables names resolved_names)
object_by schema key variables names resolved_names _ = Err (for_each_fault Missing)

-- resolved names that are the same give the same object
object_same : (schema : SchemaView) (key : InstanceKeyView) (variables : Entries) (names : List NameView) (resolved_names others : ℕ → ResolvedView) (m : Option Meant) (block : BlockView)
    → ((n : ℕ) → n < length names → resolved_names n ≡ others n) → m ≡ Some (a_block block)
    → object_by schema key variables names resolved_names m ≡ instance_object schema block key (environment variables names others)
object_same schema key variables names resolved_names others None block same is = absurd (cc)
object_same schema key variables names resolved_names others (Some (a_local e)) block same is = absurd (cc)
object_same schema key variables names resolved_names others (Some (a_block b)) block same is =
    let one : b ≡ block = (cc) in
    let agree = agree_on variables names resolved_names others (block_refers b) (all_places (λ n. resolved_names n ≡ others n) names (block_refers b) same) in
    instances_local expressions_local schema b key (environment variables names resolved_names) (environment variables names others) agree
    ∙ ap (λ x. instance_object schema x key (environment variables names others)) one

pub requests_exist : ResolvedNamesExist → ResolvedNamesAreOne → RequestsExist
requests_exist exist one plan ranked =
    let names = plan_names plan in
    let found = λ (objects : ℕ → InstanceKeyView → Tree). exist (applying plan.shapes objects) plan.variables names ranked in (
      (λ objects a schema. object_by schema a.key plan.variables names (found objects).0 (meant_at names a.resource)),
      (λ objects a schema resolved_names block solves meant.
          object_same schema a.key plan.variables names (found objects).0 resolved_names (meant_at names a.resource) block
          (λ n below. one (applying plan.shapes objects) plan.variables names (found objects).0 resolved_names ranked (found objects).1 solves n below) meant),
    )
