-- A call of a provider.
use Rattle.std.specs.Prelude.{◌≡◌, ℕ, Bool, true, false, IsTrue, IsSomeAnd}
use Rattle.tf_provider_protocol.specs.Meaning.{Asked, Meaning}
use Rattle.tf_provider_protocol.specs.Verdict.{asks_fully}
use Rattle.tf_provider_protocol.specs.declared.request.Request.{Request}
use Rattle.tf_provider_protocol.specs.declared.request.Reply.{Reply}
use Rattle.tf_provider_protocol.specs.declared.verdict.Verdict.{Verdict}
use Rattle.tf_provider_protocol.specs.declared.verdict.Verdict.TheVariants.{Excused}

-- a call: the action that it was made for, the request, the reply, and the verdict on the reply
pub record Call : Type 0 where
  pub action : ℕ
  pub request : Request
  pub reply : Reply
  pub verdict : Verdict

-- A provider may be called with a request if it has a schema for the request's type, and the object of a create or an update
-- has exactly the schema's attributes.
abbrev pub IsServed : Meaning → Asked → Type 0
IsServed m r = IsSomeAnd (m.schema_of r.type_name) (λ s. IsTrue (asks_fully r s))

-- the provider ran out of memory
abbrev pub is_excused : Verdict → Bool
is_excused Excused = true
is_excused _ = false
