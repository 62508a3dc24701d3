-- The members passed have nothing else, so all have only these where those to come do.
use Rattle.std.proofs.Common.{◌≡◌}
use Rattle.serde_json.specs.View.{members_view}
use Rattle.tf_state.specs.Words.{has_only, properties_of}
use Rattle.tf_state.proofs.shape.have_only.Given as goal

abbrev pub invariant-loop-name : goal.invariant-loop-name
invariant-loop-name l = has_only (properties_of l.shape) (members_view l.name-iterator) ≡ has_only (properties_of l.shape) (members_view l.members.entries)
