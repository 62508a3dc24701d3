-- What is recovered from a log.
use Rattle.std.specs.Prelude.{◌≡◌, ℕ, Bool, true, false, List, Option, Ok, IsSome, count_by}
use Rattle.tf_cli.specs.Applies.{IsApplied}
use Rattle.tf_cli_text.specs.Shown.{to_write}
use Rattle.tf_cli_text.specs.declared.applied.Applied.{Applied}
use Rattle.tf_cli_inputs.specs.Texts.{Texts, the_texts}
use Rattle.tf_provider_log.specs.Header.{HeaderView}
use Rattle.tf_walk_action.specs.declared.excuse.Outcome.{Outcome}
use Rattle.tf_walk_action.specs.declared.excuse.Outcome.TheVariants.{Judged}
use Rattle.tf_provider_protocol.specs.Meaning.{Meaning}
use Rattle.tf_provider_protocol.specs.declared.verdict.Verdict.TheVariants.{Excused}
use Rattle.tf_walk_report.specs.Report.{report_of}

-- the provider of an action was called, and answered
abbrev pub is_answered : Outcome → Bool
is_answered (Judged Excused) = false
is_answered (Judged verdict) = true
is_answered _ = false

-- how many answers an apply used
abbrev pub used_answers : Applied → ℕ
used_answers a = count_by is_answered (report_of a.walked).outcomes.items

-- the texts that a log's first line gives
abbrev pub texts_in : HeaderView → Texts
texts_in given = the_texts given.config given.vars given.state

-- The text that has to be written is taken from an apply that used each of the log's answers. There is one if the state isn't the
-- prior one.
pub record IsTaken (a : Applied) (answers : ℕ) (state : Option (List ℕ)) : Type 0 where
  pub all_used : used_answers a ≡ answers
  pub written : state ≡ to_write (Ok a)
  pub there : a.changed ≡ true → IsSome state

-- What is recovered is taken from an apply of the given texts.
pub record IsRecovered (ms : List Meaning) (given : HeaderView) (answers : ℕ) (state : Option (List ℕ)) : Type 0 where
  pub applied : Applied
  pub is_applied : IsApplied ms (texts_in given) given.lineage applied
  pub taken : IsTaken applied answers state
