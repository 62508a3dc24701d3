use Rattle.std.proofs.Common.{◌≡◌, ◌++◌, map, sym, ap, ◌∙◌, subst, append-nil}
use Rattle.tf_config_address.specs.ResourceAddr.{addr_cmp}
use Rattle.tf_config_address.specs.contracts.addr.ResourceAddrOrd.TheImpl as addrs
use Rattle.tf_config_address.proofs.Orders.{addrs_ordered}
use Rattle.tf_state_data.specs.Addresses.{AreByAddress}
use Rattle.tf_state_data.specs.Resource.{ResourceView, resource_of}
use Rattle.tf_state.specs.Made.{resource_made, resources_made}
use Rattle.tf_state.specs.Arrangement.{is_some_record, with_records}
use Rattle.tf_state.proofs.Ordered.{shown-ordered}
use Rattle.tf_state.proofs.Orders.{order-filter}
use Rattle.tf_state.proofs.resource_reading.in_order.Goals as goal

-- the entries of a map are in order, the resources show their addresses, and leaving some out keeps the order
pub returns-clause-ordered : goal.returns-clause-ordered
returns-clause-ordered c =
    let taken = map resource_of c.loop-addr.ordered.items in
    let address = λ (r : ResourceView). r.addr in
    let all : taken ≡ with_records (resources_made c.args.resources.entries) =
    sym (append-nil taken) ∙ ap (λ es. taken ++ with_records (resources_made es)) (sym c.in-None.ensures.steps.0) ∙ c.loop-addr.invariant in
    let whole = shown-ordered (addrs.cmp-value).it addr_cmp address (λ e. resource_made e.0 e.1) (λ d e. addrs_ordered d.0 e.0) c.args.resources.entries c.len.ensures.ordered in
    subst AreByAddress (sym all) (order-filter address addr_cmp (λ r. is_some_record r.records) (resources_made c.args.resources.entries) whole)
