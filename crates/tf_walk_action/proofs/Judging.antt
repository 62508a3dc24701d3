-- What comes of a call is what comes of the provider's answer.
use Rattle.std.proofs.Common.{◌≡◌, false, Option, Some, None, IfSome, refl}
use Rattle.std.specs.Prelude.{IsSomeAnd, IsTrue}
use Rattle.std.specs.Option.{option_map_or}
use Rattle.tf_provider.specs.Call.{IsServed}
use Rattle.tf_provider_protocol.specs.Meaning.{Asked, Answer, Meaning}
use Rattle.tf_provider_protocol.specs.Schema.{SchemaView}
use Rattle.tf_provider_protocol.specs.Verdict.{verdict_on, asks_fully}
use Rattle.tf_provider_protocol.specs.declared.verdict.Verdict.{Verdict}
use Rattle.tf_provider_protocol.specs.declared.verdict.Verdict.TheVariants as verdict
use Rattle.tf_walk_action.specs.ResultViews.{result_by}
use Rattle.tf_walk_action.specs.Journal.{entered_verdict}
use Rattle.tf_walk_action.specs.Outcome.{called, skipped, call_of_provider, is_faulted}
use Rattle.tf_walk_action.specs.Run.{IsRun}

by_answer : (m : Meaning) (r : Asked) (s : SchemaView) (answer : Option Answer) (v : Verdict) → IfSome answer (λ a. a ≡ m.answer r) → v ≡ verdict_on r answer s → (v ≡ verdict.Excused → ⊥)
    → called r answer v ≡ called r (Some (m.answer r)) (verdict_on r (Some (m.answer r)) s)
by_answer m r s None v h e other = absurd (other e)
by_answer m r s (Some a) v h e other = rw (e, h) refl

by_schema : (m : Meaning) (r : Asked) (schema : Option SchemaView) (answer : Option Answer) (v : Verdict) → IsSomeAnd schema (λ s. IsTrue (asks_fully r s)) → IfSome answer (λ a. a ≡ m.answer r)
    → IfSome schema (λ s. v ≡ verdict_on r answer s) → (v ≡ verdict.Excused → ⊥)
    → called r answer v ≡ option_map_or (λ s. called r (Some (m.answer r)) (verdict_on r (Some (m.answer r)) s)) schema skipped
by_schema m r None answer v served h e other = absurd served
by_schema m r (Some s) answer v served h e other = by_answer m r s answer v h e other

judged_run : (m : Meaning) (r : Asked) (answer : Option Answer) (v : Verdict) → IsServed m r → IfSome answer (λ a. a ≡ m.answer r)
    → IfSome (m.schema_of r.type_name) (λ s. v ≡ verdict_on r answer s) → (v ≡ verdict.Excused → ⊥)
    → called r answer v ≡ call_of_provider r m
judged_run m r answer v served h e other = by_schema m r (m.schema_of r.type_name) answer v served h e other

not_faulted : (m : Meaning) (r : Asked) (schema : Option SchemaView) → is_faulted (option_map_or (λ s. called r (Some (m.answer r)) (verdict_on r (Some (m.answer r)) s)) schema skipped) ≡ false
not_faulted m r None = refl
not_faulted m r (Some s) = refl

-- a call that was made so is one that the action may have
pub call-runs : (m : Meaning) (r : Asked) (answer : Option Answer) (v : Verdict) → IsServed m r → IfSome answer (λ a. a ≡ m.answer r)
    → IfSome (m.schema_of r.type_name) (λ s. v ≡ verdict_on r answer s) → IsRun (call_of_provider r m) (result_by r answer v)
call-runs m r answer verdict.Excused served h e = not_faulted m r (m.schema_of r.type_name)
call-runs m r answer verdict.Good served h e = judged_run m r answer verdict.Good served h e (λ same. cc)
call-runs m r answer verdict.Failed served h e = judged_run m r answer verdict.Failed served h e (λ same. cc)
call-runs m r answer (verdict.Contradicted n) served h e = judged_run m r answer (verdict.Contradicted n) served h e (λ same. cc)
call-runs m r answer verdict.Malformed served h e = judged_run m r answer verdict.Malformed served h e (λ same. cc)

-- its entry has the verdict that the journal is to have of it
pub call-entered : (r : Asked) (answer : Option Answer) (v : Verdict) → Some v ≡ entered_verdict (result_by r answer v)
call-entered r answer verdict.Excused = refl
call-entered r answer verdict.Good = refl
call-entered r answer verdict.Failed = refl
call-entered r answer (verdict.Contradicted n) = refl
call-entered r answer verdict.Malformed = refl
