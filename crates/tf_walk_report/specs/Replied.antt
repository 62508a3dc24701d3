-- What an answer says apart from an object.
use Rattle.std.specs.Prelude.{ℕ, List, Option, Some, None}
use Rattle.tf_provider_protocol.specs.Meaning.{Answer, failed}

-- the message of a failure
abbrev pub failure_in : Option Answer → Option (List ℕ)
failure_in (Some (failed message there)) = Some message
failure_in _ = None
