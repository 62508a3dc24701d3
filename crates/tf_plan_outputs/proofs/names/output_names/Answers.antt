use Rattle.std.proofs.Common.{◌≡◌, [], ap, ◌∙◌}
use Rattle.std.specs.Map.{keys_of as map_keys}
use Rattle.tf_plan_data.specs.Plan.{plan_of}
use Rattle.tf_plan_outputs.proofs.Named.{declared_keys, saved_keys}
use Rattle.tf_plan_outputs.specs.Changes.{declared_names, names_with}
use Rattle.tf_value_data.specs.Tree.{keys_of, texts_view}
use Rattle.tf_plan_outputs.proofs.names.output_names.Goals as goal

pub returns : goal.returns
returns c =
    let plan = plan_of c.args.plan.now in
    let declared = c.args.plan.now.config.outputs.entries in
    let saved = c.outputs.result.now.entries in
    let none : texts_view c.new-names.result.keys ≡ [] = ap texts_view c.new-names.ensures.empty in
    let first : texts_view c.add_keys.new.names.keys ≡ names_with [] (declared_names plan.config.outputs) =
    c.in_ok-add_keys.ensures ∙ ap (λ ks. names_with ks (texts_view (map_keys declared))) none ∙ ap (names_with []) (declared_keys declared) in
    c.in_ok-add_keys-2.ensures ∙ ap (λ ks. names_with ks (texts_view (map_keys saved))) first
    ∙ ap (names_with (names_with [] (declared_names plan.config.outputs))) (saved_keys saved ∙ ap keys_of c.outputs.ensures)
