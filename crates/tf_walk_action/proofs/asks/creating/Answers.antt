use Rattle.std.proofs.Common.{◌≡◌, true, sym, subst}
use Rattle.std.specs.Prelude.{string_capacity}
use Rattle.tf_provider_protocol.specs.Meaning.{Asked}
use Rattle.tf_walk_action.specs.Storable.{asks_planned}
use Rattle.tf_walk_action.specs.Room.{message_fits}
use Rattle.tf_walk_action.proofs.asks.creating.Goals as goal

pub invariant_of-result-clause-planned : goal.invariant_of-result-clause-planned
invariant_of-result-clause-planned c = subst (λ (q : Asked). asks_planned q.op q.object ≡ true) (sym c.in_ok-request.ensures) c.requires

pub invariant_of-result-clause-fits : goal.invariant_of-result-clause-fits
invariant_of-result-clause-fits c = subst (λ (q : Asked). message_fits (string_capacity c.in_ok-message.message) q.object ≡ true) (sym c.in_ok-request.ensures) c.in_ok-message.ensures.fits
