-- A request is the same call as itself.
use Rattle.std.proofs.Common.{◌≡◌, List, ℕ, Option, Some, None, refl, subst, sym, true}
use Rattle.std.proofs.lemmas.Slice.Eq.{bytes_eq-Decides}
use Rattle.std.specs.Str.{bytes_eq}
use Rattle.tf_provider_log.proofs.Replays.{same_is_equality}
use Rattle.tf_provider_log.specs.LogEntry.{LogEntryView, begun, replied}
use Rattle.tf_provider_log.specs.Replayed.{is_about}
use Rattle.tf_provider_log.specs.Same.{is_same_op, is_same_option}
use Rattle.tf_provider_protocol.specs.Meaning.{Asked}
use Rattle.tf_provider_protocol.specs.declared.request.Op.{Op}
use Rattle.tf_provider_protocol.specs.declared.request.Op.TheVariants.{Create, Update, Destroy}
use Rattle.tf_provider_remote.specs.Flights.{is_call}
use Rattle.tf_session.specs.Calls.{request_in}

bytes_itself : (s : List ℕ) → bytes_eq s s ≡ true
bytes_itself s = (bytes_eq-Decides s s).1 refl

op_itself : (o : Op) → is_same_op o o ≡ true
op_itself Create = refl
op_itself Update = refl
op_itself Destroy = refl

option_itself : (o : Option (List ℕ)) → is_same_option bytes_eq o o ≡ true
option_itself (Some s) = bytes_itself s
option_itself None = refl

pub is_call_itself : (q : Asked) → is_call q q ≡ true
is_call_itself q = rw (op_itself q.op, bytes_itself q.address, option_itself q.deposed) refl

-- an entry about a request is about the same call
pub about_call : (q : Asked) (e : LogEntryView) → is_about q e ≡ true → is_call q (request_in e) ≡ true
about_call q (begun r) h = subst (λ x. is_call q x ≡ true) (sym ((same_is_equality r q).0 h)) (is_call_itself q)
about_call q (replied r a) h = subst (λ x. is_call q x ≡ true) (sym ((same_is_equality r q).0 h)) (is_call_itself q)

-- an entry is about the request in it
pub about_itself : (q : Asked) (e : LogEntryView) → request_in e ≡ q → is_about q e ≡ true
about_itself q (begun r) h = (same_is_equality r q).1 h
about_itself q (replied r a) h = (same_is_equality r q).1 h
