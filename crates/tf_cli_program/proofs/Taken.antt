-- What is taken of an apply of the texts that were given.
use Rattle.std.proofs.Common.{◌≡◌, ℕ, List, Option, Result, Ok, Err, refl, subst, option_map, string_bytes}
use Rattle.std.specs.Prelude.{IfOk, IfErr}
use Rattle.tf_cli.specs.Applies.{IsApplied}
use Rattle.tf_cli_text.specs.declared.applied.Applied.{Applied}
use Rattle.tf_cli_inputs.specs.Texts.{Texts, the_texts}
use Rattle.tf_provider_log.specs.Header.{HeaderView}
use Rattle.tf_provider_protocol.specs.Meaning.{Meaning}
use Rattle.tf_cli_program.specs.Recovered.{IsRecovered, IsTaken, texts_in}
use Rattle.tf_cli_program.specs.Unrecovered.{IsNotTaken, IsUnrecovered}
use Rattle.tf_cli_program.specs.declared.taking.Recovered.{Recovered}
use Rattle.tf_cli_program.specs.declared.taking.Unrecovered.{Unrecovered}
use Rattle.tf_cli_program.specs.declared.taking.Unrecovered.TheVariants.{Refused, NotAll, OutOfMemory}

pub same_texts : (given : HeaderView) (config : List ℕ) (vars state : Option (List ℕ)) → config ≡ given.config → vars ≡ given.vars → state ≡ given.state → the_texts config vars state ≡ texts_in given
same_texts given config vars state e f g = rw (e, f, g) refl

module _ (ms : List Meaning) (given : HeaderView) (answers : ℕ) (a : Applied) (texts : Texts) (lineage : List ℕ) (same : texts ≡ texts_in given) (named : lineage ≡ given.lineage) (applied : IsApplied ms texts lineage a) where
  retold : IsApplied ms (texts_in given) given.lineage a
  retold = subst (λ (t : Texts). IsApplied ms t given.lineage a) same (subst (λ (l : List ℕ). IsApplied ms texts l a) named applied)

  pub is_recovered : (taken : Result Recovered Unrecovered) → IfOk taken (λ r. IsTaken a answers (option_map string_bytes r.state)) → IfOk taken (λ r. IsRecovered ms given answers (option_map string_bytes r.state))
  is_recovered (Ok r) h = record { applied = a; is_applied = retold; taken = h }
  is_recovered (Err why) h = tt

  pub is_unrecovered : (taken : Result Recovered Unrecovered) → IfErr taken (IsNotTaken a answers) → IfErr taken (IsUnrecovered ms given answers)
  is_unrecovered (Ok r) h = tt
  is_unrecovered (Err (Refused why)) h = absurd h
  is_unrecovered (Err NotAll) h = (a, retold, h)
  is_unrecovered (Err OutOfMemory) h = (a, retold, h)
