use Rattle.std.proofs.Common.{◌≡◌, ◌++◌, map, sym, ap, ◌∙◌, subst, append-nil}
use Rattle.tf_config_address.proofs.Orders.{object_ids_ordered}
use Rattle.tf_config_address.specs.ObjectId.{object_id_cmp}
use Rattle.tf_state_data.specs.Ids.{AreById}
use Rattle.tf_state_data.specs.Record.{RecordView, record_of}
use Rattle.tf_config_address.specs.contracts.object_id.ObjectIdOrd.TheImpl as objects
use Rattle.tf_state.specs.Made.{record_made, records_made}
use Rattle.tf_state.proofs.Ordered.{shown-ordered}
use Rattle.tf_state.proofs.record_reading.in_order.Goals as goal

-- the entries of a map are in order, and the records show their places
pub returns-clause-ordered : goal.returns-clause-ordered
returns-clause-ordered c =
    let taken = map record_of c.loop-id.ordered.items in
    let all : taken ≡ records_made c.args.records.entries =
    sym (append-nil taken) ∙ ap (λ es. taken ++ records_made es) (sym c.in-None.ensures.steps.0) ∙ c.loop-id.invariant in
    subst AreById (sym all)
    (shown-ordered (objects.cmp-value).it object_id_cmp (λ (r : RecordView). r.id) (λ e. record_made e.0 e.1) (λ d e. object_ids_ordered d.0 e.0) c.args.records.entries c.len.ensures.ordered)
