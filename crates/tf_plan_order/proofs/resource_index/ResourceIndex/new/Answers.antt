use Rattle.std.proofs.Common.{◌≡◌, ◌∙◌, ◌++◌, List, ap, filter, is_some, map, not}
use Rattle.tf_config_address.specs.ResourceAddr.{ResourceAddrView}
use Rattle.tf_config_data.specs.Names.{addr_pair}
use Rattle.tf_config_names.specs.Places.{found_in}
use Rattle.tf_config_names.specs.Table.{names_in}
use Rattle.tf_plan_order.proofs.Placing.{filter-same, has_place}
use Rattle.tf_plan_order.specs.ResourceRef.{resource_ref_of}
use Rattle.tf_plan_order.specs.ResourceIndex.{a_name, an_orphan, has_block, place_in}
use Rattle.tf_state_data.specs.Resource.{ResourceView, resource_of}
use Rattle.tf_plan_order.proofs.resource_index.ResourceIndex.new.Goals as goal

pub returns-clause-numbered : goal.returns-clause-numbered
returns-clause-numbered c =
    let names = names_in c.args.names.now in
    let blocks = c.in_ok-blocks.blocks in
    let resources : List ResourceView = map resource_of c.args.state.now.resources.items in
    let named : map resource_ref_of c.as_slice.result.now ≡ map a_name names = ap (map resource_ref_of) c.as_slice.ensures.value ∙ c.in_ok-numbered.ensures in
    let found : (addr : ResourceAddrView) → is_some (found_in blocks (addr_pair addr)) ≡ has_block names addr =
    λ addr. ap is_some (c.in_ok-blocks.ensures addr ∙ ap (λ ns. place_in ns addr) named) ∙ has_place names addr in
    let left = filter-same (λ r. not (is_some (found_in blocks (addr_pair r.addr)))) (λ r. not (has_block names r.addr)) resources (λ r. ap not (found r.addr)) in
    c.in_ok-add_orphans.ensures
    ∙ ap (λ xs. xs ++ map an_orphan (filter (λ r. not (is_some (found_in blocks (addr_pair r.addr)))) (map resource_of c.resources.result.now))) c.in_ok-numbered.ensures
    ∙ ap (λ rs. map a_name names ++ map an_orphan (filter (λ r. not (is_some (found_in blocks (addr_pair r.addr)))) rs)) c.resources.ensures.resources
    ∙ ap (λ rs. map a_name names ++ map an_orphan rs) left
