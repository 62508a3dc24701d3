use Rattle.std.proofs.Common.{map}
use Rattle.tf_config_data.specs.Config.{config_of}
use Rattle.tf_state_data.specs.State.{state_of}
use Rattle.tf_value_data.specs.Tree.{entries_view}
use Rattle.tf_cli.proofs.Planned.{may_start, plan_of_texts}
use Rattle.tf_cli.proofs.planning.plan_of_texts.Goals as goal

pub returns-in-Ok-clause-planned : goal.returns-in-Ok-clause-planned
returns-in-Ok-clause-planned g c =
    plan_of_texts (map (λ b. (goal.Provider-dyn g (b.vtable, b.value)).meaning b.value) c.args.providers.now) _ c.args.texts.now.lineage.now (config_of c.in-Ok.inputs.configuration.config) (entries_view c.in-Ok.inputs.values.entries) (state_of c.in-Ok.inputs.prior)
    c.planned_from.result c.in-Ok.ensures.stand c.planned_from.ensures.planned

pub returns-in-Ok-clause-starts : goal.returns-in-Ok-clause-starts
returns-in-Ok-clause-starts g c =
    may_start (map (λ b. (goal.Provider-dyn g (b.vtable, b.value)).meaning b.value) c.args.providers.now) _ c.args.texts.now.lineage.now (config_of c.in-Ok.inputs.configuration.config) (entries_view c.in-Ok.inputs.values.entries) (state_of c.in-Ok.inputs.prior)
    c.planned_from.result c.blocks_have_names.ensures c.in-Ok.ensures.stand c.in-Ok.ensures.valid c.planned_from.ensures.planned c.planned_from.ensures.served
