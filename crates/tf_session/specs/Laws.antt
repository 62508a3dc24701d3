-- Laws of the calls of a session.
use Rattle.std.specs.List.{Contains}
use Rattle.std.specs.Prelude.{◌≡◌, true}
use Rattle.tf_provider_protocol.specs.Meaning.{Asked}
use Rattle.tf_session.specs.Calls.{calls_made, has_begun}
use Rattle.tf_session.specs.declared.calls.Calls.{Calls}

-- each call that was made has begun
abbrev pub MadeCallsHaveBegun : Type 0
MadeCallsHaveBegun = (q : Asked) (c : Calls) → Contains (calls_made c) q → has_begun q c ≡ true
