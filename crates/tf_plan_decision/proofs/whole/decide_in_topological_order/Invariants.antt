use Rattle.std.proofs.Common.{map}
use Rattle.tf_plan_decision.proofs.Along.{AreLooked}
use Rattle.tf_plan_decision.proofs.whole.decide_in_topological_order.Given as goal
use Rattle.tf_expand_keys.specs.Views.{shapes_of}
use Rattle.tf_config_names.specs.Table.{names_in}
use Rattle.tf_state_data.specs.State.{state_of}
use Rattle.tf_value_data.specs.Tree.{entries_view}

abbrev pub invariant-loop-place : goal.invariant-loop-place
invariant-loop-place g l =
    let ms = map (λ b. (goal.Provider-dyn g (b.vtable, b.value)).meaning b.value) l.stage.providers.now in
    AreLooked ms (state_of l.stage.state.now).resources (entries_view l.declared.variables.now.entries) (names_in l.declared.names.now) (shapes_of l.stage.shapes.now) l.order l.wanted l.place-index l.kept.items l.rows.items
