-- The outcome of an apply of what a program was given.
use Rattle.std.proofs.Common.{◌≡◌, ℕ, List, Option, Result, Ok, Err, refl, subst, option_map, string_bytes}
use Rattle.std.specs.Prelude.{IfOk, IfErr}
use Rattle.tf_cli.specs.Applies.{IsApplied}
use Rattle.tf_cli.specs.Refusals.{AreRefusals}
use Rattle.tf_cli_files.specs.declared.given.ProgramInput.{ProgramInput}
use Rattle.tf_cli_inputs.specs.Texts.{Texts, the_texts}
use Rattle.tf_cli_program.specs.Work.{texts_of}
use Rattle.tf_cli_text.specs.declared.applied.Applied.{Applied}
use Rattle.tf_plan_planner.specs.Refused.{Tells}
use Rattle.tf_plan_planner.specs.declared.refused.Refused.{Refused}
use Rattle.tf_provider_protocol.specs.Meaning.{Meaning}
use Rattle.tf_recovery.specs.Outcome.{IsOutcome}

the_same : (given : ProgramInput) (config : List ℕ) (vars state : Option (List ℕ)) → config ≡ given.config.items → vars ≡ option_map (λ bytes. bytes.items) given.vars
    → state ≡ option_map (λ bytes. bytes.items) given.state → the_texts config vars state ≡ texts_of given
the_same given config vars state e f g = rw (e, f, g) refl

-- the answer for these texts is the outcome for what was given
pub is_outcome : (ms : List Meaning) (given : ProgramInput) (config : List ℕ) (vars state : Option (List ℕ)) (lineage : List ℕ) (answer : Result Applied Refused)
    → config ≡ given.config.items → vars ≡ option_map (λ bytes. bytes.items) given.vars → state ≡ option_map (λ bytes. bytes.items) given.state → lineage ≡ string_bytes given.options.lineage
    → IfOk answer (IsApplied ms (the_texts config vars state) lineage) → IfErr answer (Tells (AreRefusals ms (the_texts config vars state))) → IsOutcome ms given answer
is_outcome ms given config vars state lineage (Ok a) e f g h applied refused =
    subst (λ (t : Texts). IsApplied ms t (string_bytes given.options.lineage) a) (the_same given config vars state e f g) (subst (λ (l : List ℕ). IsApplied ms (the_texts config vars state) l a) h applied)
is_outcome ms given config vars state lineage (Err why) e f g h applied refused =
    subst (λ (t : Texts). Tells (AreRefusals ms t) why) (the_same given config vars state e f g) refused
