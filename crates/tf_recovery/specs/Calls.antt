-- The calls of an apply with providers outside the program.
use Rattle.std.specs.Prelude.{◌≡◌, ◌<◌, ◌⊎◌, ℕ, false, List, length, map}
use Rattle.std.specs.List.{Contains}
use Rattle.tf_plan_data.specs.Plan.{PlanView}
use Rattle.tf_provider_log.specs.LogEntry.{log_entry_of}
use Rattle.tf_provider_protocol.specs.Meaning.{Asked, Meaning}
use Rattle.tf_session.specs.Calls.{IsMade, calls_taken_up}
use Rattle.tf_session.specs.declared.session.Session.{Session}
use Rattle.tf_walk_requests.specs.Progress.{AreReached, IsDue, is_ready}
use Rattle.tf_walk_requests.specs.Stages.{StageView, requested, stage_in, with_reply}

-- Each call that is taken up is due: it is the request of an action of the plan, and the calls of the actions before it ended well, as the
-- log says.
abbrev pub AreDue : List Meaning → PlanView → Session → Session → Type 0
AreDue ms plan old new = (q : Asked) → Contains (calls_taken_up new.calls) q → Contains (calls_taken_up old.calls) q ⊎ IsDue ms plan (map log_entry_of new.calls.entries.items) q

-- A plan is carried out as far as it can be: by what the log says of its actions, none is left that may be requested, and each request
-- without a reply in the log was made, unless nothing more is begun.
pub record IsCarriedOut (ms : List Meaning) (plan : PlanView) (s : Session) : Type 0 where
  pub stages : List StageView
  pub reached : AreReached ms plan (map log_entry_of s.calls.entries.items) stages
  pub none_left : (n : ℕ) → n < length plan.actions → is_ready plan stages n ≡ false
  pub made : (n : ℕ) (q : Asked) → stage_in stages n ≡ requested q → IsMade q s
  pub no_reply : (n : ℕ) (q : Asked) → stage_in stages n ≡ requested q → with_reply ms (map log_entry_of s.calls.entries.items) (requested q) ≡ requested q
