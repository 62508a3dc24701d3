use Rattle.std.proofs.Common.{◌≡◌, [], ◌++◌, map, sym, ap, ◌∙◌}
use Rattle.std.proofs.lemmas.List.{append-nil, nil_from_length}
use Rattle.std.specs.Vec.Iter.{into_iter_items}
use Rattle.tf_value_data.specs.Tree.{tree_of, items_of}
use Rattle.tf_config_json.proofs.Made.{made_of, items_as-each}
use Rattle.tf_config_json.proofs.types.items_as.Goals as goal

pub returns : goal.returns
returns c =
    let done = map tree_of c.loop-item.made.items in
    let none : into_iter_items c.loop-item.item-iterator ≡ [] = nil_from_length _ (sym c.loop-item.item-iterator.rest.ok.0 ∙ c.in-None.ensures.steps.0) in
    let all = sym (append-nil done) ∙ sym (ap (λ vs. done ++ map (made_of c.args.element) vs) none) ∙ c.loop-item.invariant in
    ap items_of all ∙ items_as-each c.args.element c.args.items.items
