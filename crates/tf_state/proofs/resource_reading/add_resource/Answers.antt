use Rattle.tf_state.specs.Arrangement.{resource_cmp}
use Rattle.tf_state.specs.Made.{resource_made}
use Rattle.tf_config_address.specs.contracts.addr.ResourceAddrOrd.TheImpl as addrs
use Rattle.tf_config_address.specs.contracts.addr.ResourceAddrOrd.TheImpl.Laws.{total-law}
use Rattle.tf_state.proofs.Ordered.{new_put, taken_put}
use Rattle.tf_config_address.proofs.Orders.{addrs_ordered}
use Rattle.tf_state.proofs.resource_reading.add_resource.Goals as goal

pub returns-clause-ok : goal.returns-clause-ok
returns-clause-ok c = new_put (addrs.cmp-value).it resource_cmp (λ e. resource_made e.0 e.1) (λ d e. addrs_ordered d.0 e.0) c.args.addr c.args.held c.args.resources.now.entries _ _ _ c.in_ok-insert.ensures.old c.in_ok-insert.ensures.entries c.is_some-is_taken.ensures c.if-is_taken.false

pub returns-then-is_taken-clause-err : goal.returns-then-is_taken-clause-err
returns-then-is_taken-clause-err c = taken_put (addrs.cmp-value).it resource_cmp (λ e. resource_made e.0 e.1) total-law (λ d e. addrs_ordered d.0 e.0) c.args.addr c.args.held c.args.resources.now.entries _ _ c.in_ok-insert.ensures.was_ordered c.in_ok-insert.ensures.old c.is_some-is_taken.ensures c.if-is_taken.true
