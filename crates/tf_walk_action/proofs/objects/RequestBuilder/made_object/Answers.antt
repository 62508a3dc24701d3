use Rattle.std.proofs.Common.{ap}
use Rattle.tf_plan_data.specs.Action.{action_of}
use Rattle.tf_expand_keys.specs.Views.{shapes_of}
use Rattle.tf_config_names.specs.Table.{names_in}
use Rattle.tf_plan_data.specs.Plan.{plan_of}
use Rattle.tf_walk_action.proofs.AskedRight.{made_as_asked, made_fully}
use Rattle.tf_walk_action.proofs.StandingSoFar.{by_parts, by_plan}
use Rattle.tf_walk_action.proofs.objects.RequestBuilder.made_object.Goals as goal

pub returns-clause-made : goal.returns-clause-made
returns-clause-made g c =
    made_as_asked (plan_of c.args.self.now.plan.now) (c.requires.fits.dependence.ranked c.requires.fits.acyclic) (names_in c.args.self.now.names.now) (shapes_of c.as_slice-shapes.result.now) c.requires.names
    (ap shapes_of c.as_slice-shapes.ensures.value) (g.R.Results.objects c.args.self.now.results.now) (action_of c.args.self.now.action.now) c.args.self.now.schema.now c.requires.block c.request.result c.request.ensures.request

pub returns-clause-fully : goal.returns-clause-fully
returns-clause-fully g c =
    made_fully (plan_of c.args.self.now.plan.now) (c.requires.fits.dependence.ranked c.requires.fits.acyclic) (names_in c.args.self.now.names.now) (shapes_of c.as_slice-shapes.result.now) c.requires.names
    (ap shapes_of c.as_slice-shapes.ensures.value) (g.R.Results.objects c.args.self.now.results.now) (action_of c.args.self.now.action.now) c.args.self.now.schema.now c.requires.block c.request.result c.request.ensures.request

pub request-requires-clause-answered : goal.request-requires-clause-answered
request-requires-clause-answered g c =
    by_parts (plan_of c.args.self.now.plan.now) (names_in c.args.self.now.names.now) (shapes_of c.as_slice-shapes.result.now) (g.R.Results.objects c.args.self.now.results.now) c.args.kept.now.items c.requires.names
    (ap shapes_of c.as_slice-shapes.ensures.value) c.requires.so_far

pub returns-clause-so_far : goal.returns-clause-so_far
returns-clause-so_far g c =
    by_plan (plan_of c.args.self.now.plan.now) (names_in c.args.self.now.names.now) (shapes_of c.as_slice-shapes.result.now) (g.R.Results.objects c.args.self.now.results.now) c.request.new.kept.items c.requires.names
    (ap shapes_of c.as_slice-shapes.ensures.value) c.request.ensures.answered
