use Rattle.std.proofs.Common.{◌≡◌, Some, option_map, map as each, string_bytes, sym, ap, ◌∙◌, arith}
use Rattle.std.proofs.lemmas.List.{drop_all}
use Rattle.tf_config_address.specs.ObjectId as keys
use Rattle.tf_value_data.specs.Tree.{entries_view, tree_of, no_entries}
use Rattle.tf_value_data.proofs.Views.{tree_of-Map}
use Rattle.tf_expand_keys.proofs.Laying.{put_rest, put_more, put_all}
use Rattle.tf_expand_keys.proofs.collecting.mapped.Goals as goal

pub loop-name-preserved : goal.loop-name-preserved
loop-name-preserved g c =
    let object = g.K.Keyed.object c.args.keyed.now in
    let name = c.name-item.result in
    let found : object (keys.name (string_bytes name)) ≡ Some (tree_of c.in-Some.object) =
    ap (λ n. object (keys.name n)) (sym c.in_ok-clone.ensures.cases) ∙ sym c.in_ok-object.ensures ∙ ap (option_map tree_of) c.in-Some.is in
    put_more object c.args.names.now c.loop-name.name-index name c.in_ok-clone-2.field-0 c.in-Some.object c.loop-name.objects.entries c.insert.new.self.entries
    (put_rest object (each string_bytes c.args.names.now) no_entries) c.loop-name-test.true c.name-item.is c.in_ok-clone-2.ensures.cases c.in_ok-insert.ensures.entries found c.loop-name.invariant

pub returns : goal.returns
returns g c =
    ap Some (tree_of-Map c.loop-name.objects)
    ∙ put_all (each string_bytes c.args.names.now) _ (entries_view c.loop-name.objects.entries)
    (rw (drop_all c.loop-name.name-index c.args.names.now (omega (arith, c.loop-name-test.false))) at c.loop-name.invariant)
