-- the session goes on, and the calls are made
use Rattle.std.proofs.Common.{map}
use Rattle.std.specs.List.{All}
use Rattle.tf_provider_protocol.specs.Meaning.{asked}
use Rattle.tf_session.specs.Calls.{Continues, IsMade}
use Rattle.tf_session.proofs.session.Session.serve.Given as goal

abbrev pub invariant-loop : goal.invariant-loop
invariant-loop g l = record { continues : Continues (map asked l.fn.unanswered.items) l.fn.self l.self; made : All (λ r. IsMade (asked r) l.self) l.fn.unanswered.items }
