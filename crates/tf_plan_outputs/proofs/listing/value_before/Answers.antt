use Rattle.std.proofs.Common.{option_map, sym, ap, ◌∙◌}
use Rattle.std.specs.Borrow.{Bor}
use Rattle.tf_plan_outputs.proofs.Named.{saved_got}
use Rattle.tf_state_data.specs.declared.object.Object.{Object}
use Rattle.tf_value_data.specs.Tree.{get, tree_of}
use Rattle.tf_plan_outputs.proofs.listing.value_before.Goals as goal

pub returns-in-Some : goal.returns-in-Some
returns-in-Some c =
    ap (option_map (λ (p : Bor Object). tree_of p.now.value)) (sym c.in-Some.is) ∙ saved_got c.args.name.now c.outputs.result.now.entries c.get.result c.get.ensures.value ∙ ap (get c.args.name.now) c.outputs.ensures

pub returns-in-None : goal.returns-in-None
returns-in-None c =
    ap (option_map (λ (p : Bor Object). tree_of p.now.value)) (sym c.in-None.is) ∙ saved_got c.args.name.now c.outputs.result.now.entries c.get.result c.get.ensures.value ∙ ap (get c.args.name.now) c.outputs.ensures
