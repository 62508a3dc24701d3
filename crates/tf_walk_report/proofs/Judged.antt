-- What was judged is what comes of the call of the provider that has the type.
use Rattle.std.proofs.Common.{◌≡◌, List, Option, Some, None, ap, ◌∙◌, subst}
use Rattle.std.specs.Prelude.{IsSomeAnd, option_and_then}
use Rattle.std.specs.Option.{option_map_or}
use Rattle.tf_walk_action.specs.Outcome.{skipped, called, call_of, call_of_provider}
use Rattle.tf_provider_protocol.specs.Meaning.{Asked, Answer, Meaning, first_with, schema_in}
use Rattle.tf_provider_protocol.specs.Schema.{SchemaView}
use Rattle.tf_provider_protocol.specs.Verdict.{verdict_on}
use Rattle.tf_provider_protocol.specs.declared.verdict.Verdict.{Verdict}

verdict_by_schema : (m : Meaning) (r : Asked) (a : Option Answer) (v : Verdict) (o : Option SchemaView)
    → called r a v ≡ option_map_or (λ s. called r (Some (m.answer r)) (verdict_on r (Some (m.answer r)) s)) o skipped → IsSomeAnd o (λ s. v ≡ verdict_on r a s)
verdict_by_schema m r a v None e = absurd (cc)
verdict_by_schema m r a v (Some s) e =
    let answer : Some (m.answer r) ≡ a = cc in
    let verdict : v ≡ verdict_on r (Some (m.answer r)) s = cc in
    verdict ∙ ap (λ x. verdict_on r x s) answer

verdict_by : (o : Option Meaning) (r : Asked) (a : Option Answer) (v : Verdict) → called r a v ≡ option_map_or (call_of_provider r) o skipped
    → IsSomeAnd (option_and_then (λ m. m.schema_of r.type_name) o) (λ s. v ≡ verdict_on r a s)
verdict_by None r a v e = absurd (cc)
verdict_by (Some m) r a v e = verdict_by_schema m r a v (m.schema_of r.type_name) e

-- the verdict is the one on the answer, by that schema
pub judged-verdict : (ms : List Meaning) (r : Asked) (a : Option Answer) (v : Verdict) → called r a v ≡ call_of ms r → IsSomeAnd (schema_in r.type_name ms) (λ s. v ≡ verdict_on r a s)
judged-verdict ms r a v e = verdict_by (first_with r.type_name ms) r a v e

pub judged-by : (ms : List Meaning) (r : Asked) (a : Option Answer) (v : Verdict) (s : SchemaView) → called r a v ≡ call_of ms r → schema_in r.type_name ms ≡ Some s → v ≡ verdict_on r a s
judged-by ms r a v s e there = subst (λ (o : Option SchemaView). IsSomeAnd o (λ x. v ≡ verdict_on r a x)) there (judged-verdict ms r a v e)
