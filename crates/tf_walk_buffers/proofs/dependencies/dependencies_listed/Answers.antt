use Rattle.std.proofs.Common.{◌≡◌, ◌∙◌, [], filter, length, sym, ap}
use Rattle.std.proofs.lemmas.Result.{IfOk-weaker}
use Rattle.std.specs.List.{range_with_len}
use Rattle.tf_config_data.specs.Names.{meant_at}
use Rattle.tf_graph.proofs.Rows.{row_read}
use Rattle.tf_graph.specs.Lists.{row}
use Rattle.tf_config_names.specs.Table.{names_in}
use Rattle.tf_walk_buffers.proofs.Ordered.{in_turn}
use Rattle.tf_walk_buffers.specs.Dependencies.{address_of, addresses_at, put_all}
use Rattle.tf_walk_buffers.proofs.dependencies.dependencies_listed.Goals as goal

pub addresses_at-requires : goal.addresses_at-requires
addresses_at-requires c =
    let lists = c.args.lists.now in
    let same : c.as_slice.result.now ≡ row lists c.args.place = c.as_slice.ensures.value ∙ row_read lists c.args.place c.index-lists-place.result c.requires.inside c.index-lists-place.is in
    λ m h. c.requires.within m (rw same at h)

pub returns : goal.returns
returns c =
    let lists = c.args.lists.now in
    let names = names_in c.args.names.now in
    let same : c.as_slice.result.now ≡ row lists c.args.place = c.as_slice.ensures.value ∙ row_read lists c.args.place c.index-lists-place.result c.requires.inside c.index-lists-place.is in
    IfOk-weaker c.in_order.result _ _
    (λ found h needs listed.
    h ∙ ap put_all (c.in_ok-found.ensures ∙ ap (addresses_at names) same ∙ listed) ∙ sym (in_turn (λ m. address_of (meant_at names m)) [] (filter (needs c.args.place) (range_with_len 0 (length names)))))
    c.in_order.ensures
