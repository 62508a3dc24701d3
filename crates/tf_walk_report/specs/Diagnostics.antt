-- What an apply reports of actions that aren't good.
use Rattle.std.specs.Prelude.{ℕ, nat_lt, if◌then◌else◌, List, [], ◌∷◌, ◌++◌, map, codes, Option, Some, string_bytes, slice_index_or}
use Rattle.tf_config_refusal.specs.declared.code.Code.{Code}
use Rattle.tf_config_refusal.specs.declared.code.Code.TheVariants as code
use Rattle.tf_plan_data.specs.Action.{ActionView}
use Rattle.tf_walk_action.specs.Excuse.{Moment, by_stop}
use Rattle.tf_walk_action.specs.Message.{fault_message}
use Rattle.tf_walk_action.specs.Outcome.{ActionResultView, skipped, excused, faulted, called, op_of}
use Rattle.tf_provider_protocol.specs.Meaning.{Asked, Answer, failed}
use Rattle.tf_provider_protocol.specs.declared.request.Op.{Op}
use Rattle.tf_provider_protocol.specs.declared.verdict.Verdict.{Verdict}
use Rattle.tf_provider_protocol.specs.declared.verdict.Verdict.TheVariants as verdict
use Rattle.tf_value_data.specs.Tree.{keys_of}
use Rattle.tf_value_data.specs.Tree as tree
use Rattle.tf_walk_buffers.specs.Place.{place_of}
use Rattle.tf_walk_report.specs.declared.diagnostic.Diagnostic.{Diagnostic}

-- a diagnostic: its code, the address that it is about, the operation that was to be done there, and its message
pub record DiagnosticView : Type 0 where
  pub code : Code
  pub place : List ℕ
  pub verb : Option Op
  pub message : List ℕ

abbrev pub diagnostic_of : Diagnostic → DiagnosticView
diagnostic_of d = record { code = d.code; place = string_bytes d.place; verb = d.verb; message = string_bytes d.message }

abbrev pub blanked : ℕ → ℕ
blanked c = if nat_lt c 32 then 32 else c

-- a message with a space for each character below U+0020
abbrev pub in_one_line : List ℕ → List ℕ
in_one_line message = map blanked message

abbrev pub failure_message : Option Answer → List ℕ
failure_message (Some (failed message there)) = in_one_line message
failure_message _ = []

-- the name of the attribute at an index of an object
abbrev pub name_at : Option tree.Tree → ℕ → List ℕ
name_at (Some (tree.map es)) place = slice_index_or (keys_of es) place []
name_at _ place = []

-- the diagnostic at an object's address, with the operation that was to be done
abbrev pub told_at : List ℕ → Op → Code → List ℕ → List DiagnosticView
told_at place op which message = record { code = which; place = place; verb = Some op; message = message } ∷ []

-- A failure is 21 with the provider's message, a contradiction 22 with the first such attribute in byte order, a
-- malformed reply 23.
abbrev pub diagnostics_of_verdict : List ℕ → Op → Asked → Option Answer → Verdict → List DiagnosticView
diagnostics_of_verdict place op asked answer verdict.Failed = told_at place op code.Failed (failure_message answer)
diagnostics_of_verdict place op asked answer (verdict.Contradicted n) = told_at place op code.Contradiction (codes "contradicts " ++ name_at asked.object n)
diagnostics_of_verdict place op asked answer verdict.Malformed = told_at place op code.Malformed (codes "malformed reply")
diagnostics_of_verdict place op asked answer _ = []

-- running out of memory is 26, and an action that was left is 27
abbrev pub diagnostics_of_excuse : List ℕ → Op → Moment → List DiagnosticView
diagnostics_of_excuse place op by_stop = told_at place op code.Left (codes "left")
diagnostics_of_excuse place op _ = told_at place op code.NoMemory (codes "no memory")

-- a fault of a request is 24; a skipped action has no diagnostic
abbrev pub diagnostics_at : List ℕ → Op → ActionResultView → List DiagnosticView
diagnostics_at place op skipped = []
diagnostics_at place op (excused moment) = diagnostics_of_excuse place op moment
diagnostics_at place op (faulted why) = told_at place op code.ArgumentFault (fault_message why)
diagnostics_at place op (called asked answer v) = diagnostics_of_verdict place op asked answer v

-- the diagnostics of actions, in their order
abbrev pub action_diagnostics : List ActionView → List ActionResultView → List DiagnosticView
action_diagnostics (a ∷ actions) (d ∷ done) = diagnostics_at (place_of a) (op_of a.step) d ++ action_diagnostics actions done
action_diagnostics _ _ = []
