-- What one action adds to the report.
use Rattle.std.specs.Prelude.{◌≡◌, ◌+◌, ◌<◌, ◌≤◌, List, [], ◌∷◌, ◌++◌, length, map, Option, Some, None, option_map, vec_capacity}
use Rattle.tf_state_next.specs.Events.{apply_of, destroy_of}
use Rattle.tf_state_next.specs.declared.events.Events.{Events}
use Rattle.tf_walk_action.specs.Outcome.{ActionResultView, called, call_of}
use Rattle.tf_provider_protocol.specs.Meaning.{Meaning}
use Rattle.tf_provider_protocol.specs.declared.request.Op.{Op}
use Rattle.tf_walk_report.specs.Change.{ChangeView, MayBeStored, applies_in, change_at, destroys_in}
use Rattle.tf_walk_report.specs.Diagnostics.{DiagnosticView, diagnostic_of, diagnostics_at}
use Rattle.tf_walk_report.specs.declared.diagnostic.Diagnostic.{Diagnostic}
use Rattle.tf_walk_buffers.specs.Head.{Head}

abbrev pub listed : {A : Type 0} → Option A → List A
listed None = []
listed (Some a) = a ∷ []

-- there is space for one more change, whatever it is
pub record HasRoom (e : Events) : Type 0 where
  pub applies : length e.applies.items < vec_capacity e.applies
  pub destroys : length e.destroys.items < vec_capacity e.destroys

-- After the events there is one more change, and nothing else is changed. No list loses capacity.
pub record IsAdded (change : ChangeView) (old new : Events) : Type 0 where
  pub applies : map apply_of new.applies.items ≡ map apply_of old.applies.items ++ applies_in (change ∷ [])
  pub destroys : map destroy_of new.destroys.items ≡ map destroy_of old.destroys.items ++ destroys_in (change ∷ [])
  pub metadata_updates : new.metadata_updates ≡ old.metadata_updates
  pub few_applies : length new.applies.items ≤ length old.applies.items + 1
  pub few_destroys : length new.destroys.items ≤ length old.destroys.items + 1
  pub applies_room : vec_capacity old.applies ≤ vec_capacity new.applies
  pub destroys_room : vec_capacity old.destroys ≤ vec_capacity new.destroys

-- What an action changes is added to the events, and may be stored. Its diagnostic, if it has one, is that of its
-- result.
pub record IsReported (ms : List Meaning) (h : Head) (d : ActionResultView) (diagnostic : Option Diagnostic) (old new : Events) : Type 0 where
  pub added : IsAdded (change_at ms h d) old new
  pub stored : MayBeStored (change_at ms h d)
  pub told : listed (option_map diagnostic_of diagnostic) ≡ diagnostics_at h.place h.op d

-- a call's answer is that of the provider that has the type, to a request with this operation
abbrev pub IsJudged : List Meaning → Op → ActionResultView → Type 0
IsJudged ms op (called asked answer v) = (called asked answer v ≡ call_of ms asked) × (asked.op ≡ op)
IsJudged ms op _ = Unit {0}

-- each of some actions is judged so
abbrev pub AreJudged : List Meaning → List Op → List ActionResultView → Type 0
AreJudged ms (op ∷ ops) (d ∷ done) = IsJudged ms op d × AreJudged ms ops done
AreJudged ms _ _ = Unit {0}

-- the diagnostics of some actions, in their order
abbrev pub told_in : List Head → List ActionResultView → List DiagnosticView
told_in (h ∷ heads) (d ∷ done) = diagnostics_at h.place h.op d ++ told_in heads done
told_in _ _ = []
