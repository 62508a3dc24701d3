use Rattle.tf_state.specs.Arrangement.{record_cmp}
use Rattle.tf_state.specs.Made.{record_made}
use Rattle.tf_config_address.specs.contracts.object_id.ObjectIdOrd.TheImpl as objects
use Rattle.tf_config_address.specs.contracts.object_id.ObjectIdOrd.TheImpl.Laws.{total-law}
use Rattle.tf_state.proofs.Ordered.{new_put, taken_put}
use Rattle.tf_config_address.proofs.Orders.{object_ids_ordered}
use Rattle.tf_state.proofs.record_reading.add_record.Goals as goal

pub returns-clause-ok : goal.returns-clause-ok
returns-clause-ok c = new_put (objects.cmp-value).it record_cmp (λ e. record_made e.0 e.1) (λ d e. object_ids_ordered d.0 e.0) c.args.id c.args.body c.args.records.now.entries _ _ _ c.in_ok-insert.ensures.old c.in_ok-insert.ensures.entries c.is_some-is_taken.ensures c.if-is_taken.false

pub returns-then-is_taken-clause-err : goal.returns-then-is_taken-clause-err
returns-then-is_taken-clause-err c = taken_put (objects.cmp-value).it record_cmp (λ e. record_made e.0 e.1) total-law (λ d e. object_ids_ordered d.0 e.0) c.args.id c.args.body c.args.records.now.entries _ _ c.in_ok-insert.ensures.was_ordered c.in_ok-insert.ensures.old c.is_some-is_taken.ensures c.if-is_taken.true
