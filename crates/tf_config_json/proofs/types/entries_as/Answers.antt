use Rattle.std.proofs.Common.{refl, ◌∙◌}
use Rattle.tf_value_data.proofs.Views.{shown_more, shown_all}
use Rattle.tf_config_json.proofs.Made.{made_of, entries_as-shown}
use Rattle.tf_config_json.proofs.types.entries_as.Goals as goal

pub loop-name-preserved : goal.loop-name-preserved
loop-name-preserved c =
    shown_more (made_of c.args.element) c.args.entries.entries _ c.next.new.self (c.in-Some.name, c.in-Some.value) _ _ _ _ c.into_iter-name-iterator.ensures.into_iter_gives.5 c.in-Some.ensures.steps c.in_ok-insert.ensures.entries refl c.in_ok-element_as.ensures c.loop-name.invariant

pub returns : goal.returns
returns c = shown_all (made_of c.args.element) c.args.entries.entries _ _ c.in-None.ensures.steps.0 c.loop-name.invariant ∙ entries_as-shown c.args.element c.args.entries.entries
