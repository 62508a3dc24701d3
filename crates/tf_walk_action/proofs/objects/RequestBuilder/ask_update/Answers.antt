use Rattle.std.proofs.Common.{◌≡◌, ◌∙◌, ◌<◌, true, List, Result, IfOk, length, sym, ap, subst}
use Rattle.tf_plan_data.specs.Action.{action_of, prior_of}
use Rattle.tf_plan_object.specs.declared.instance.InstanceFault.{InstanceFault}
use Rattle.tf_config_data.specs.Config.{config_of}
use Rattle.tf_config_data.specs.Names.{NameView, meant_at, names_of}
use Rattle.tf_plan_object.proofs.Keeping.{updates_named}
use Rattle.tf_config_names.specs.Table.{names_in}
use Rattle.tf_provider_protocol.specs.Meaning.{Asked}
use Rattle.tf_provider_protocol.specs.Verdict.{asks_fully, has_attributes}
use Rattle.tf_walk_action.proofs.Requesting.{resource_below}
use Rattle.tf_walk_names.specs.Resolving.{is_resource}
use Rattle.tf_value_data.specs.Tree.{tree_of}
use Rattle.tf_value_data.specs.declared.value.Value.{Value}
use Rattle.tf_walk_action.specs.Asked.{ignored_by}
use Rattle.tf_walk_action.proofs.objects.RequestBuilder.ask_update.Goals as goal

pub kept-requires : goal.kept-requires
kept-requires g c =
    let names = names_of (config_of c.args.self.now.plan.now.config) in
    let place = c.args.self.now.action.now.resource in
    subst (λ (ns : List NameView). place < length ns) (sym c.requires.names) (resource_below names place (ap is_resource c.requires.block.stands))

pub returns-in_ok-updating-in-Ok-clause-fully : goal.returns-in_ok-updating-in-Ok-clause-fully
returns-in_ok-updating-in-Ok-clause-fully g c =
    let schema = c.args.self.now.schema.now in
    let a = action_of c.args.self.now.action.now in
    let ignored = ignored_by (meant_at (names_in c.args.self.now.names.now) a.resource) in
    let planned : has_attributes schema (tree_of c.in-Ok.object) ≡ true =
    subst (λ (r : Result Value InstanceFault). IfOk r (λ v. has_attributes schema (tree_of v) ≡ true)) c.in-Ok.is c.in_ok-object.ensures.fully in
    ap (λ (r : Asked). asks_fully r schema) c.in_ok-updating-in-Ok.ensures
    ∙ ap (has_attributes schema) c.in_ok-wanted-in-Ok.ensures
    ∙ updates_named schema ignored (prior_of c.args.prior.now) (tree_of c.in-Ok.object) planned
