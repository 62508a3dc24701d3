-- How far a plan is carried out.
use Rattle.std.specs.Prelude.{◌≡◌, ◌<◌, ◌&&◌, ◌⊎◌, ℕ, Bool, false, true, List, Option, Some, Err, Ok, length, slice_get, ⊤}
use Rattle.std.specs.List.{Contains, list_all}
use Rattle.tf_graph.specs.Digraph.{predecessors_of}
use Rattle.tf_plan_data.specs.Plan.{PlanView}
use Rattle.tf_plan_object.specs.Instance.{InstanceFaultView}
use Rattle.tf_provider_log.specs.LogEntry.{LogEntryView, replied}
use Rattle.tf_provider_protocol.specs.Meaning.{Answer, Asked, Meaning}
use Rattle.tf_walk_requests.specs.Asks.{IsAskedOf}
use Rattle.tf_walk_requests.specs.Stages.{IsFull, StageView, failed, good, is_good_reply, is_good_stage, is_pending, objects_in, pending, requested, stage_in, with_reply}

-- each action directly before an action ended well
abbrev pub all_good_before : PlanView → List StageView → ℕ → Bool
all_good_before plan stages n = list_all (λ m. is_good_stage (stage_in stages m)) (predecessors_of plan.order n)

-- an action isn't requested yet, and may be: each action directly before it ended well
abbrev pub is_ready : PlanView → List StageView → ℕ → Bool
is_ready plan stages n = is_pending (stage_in stages n) && all_good_before plan stages n

-- A request is that of an action: each action directly before it ended well, and the definition of an apply's requests gives the
-- action this request by their objects.
pub record IsRequestIn (ms : List Meaning) (plan : PlanView) (es : List LogEntryView) (stages : List StageView) (n : ℕ) (q : Asked) : Type 0 where
  pub before : all_good_before plan stages n ≡ true
  pub is_asked : IsAskedOf ms plan n (objects_in es stages) (Ok q)
  pub full : IsFull ms q

-- An action ended well: a place of the log has its request, with a reply whose verdict is good.
pub record EndedWell (ms : List Meaning) (plan : PlanView) (es : List LogEntryView) (stages : List StageView) (n place : ℕ) : Type 0 where
  pub request : Asked
  pub answer : Option Answer
  pub is_request : IsRequestIn ms plan es stages n request
  pub is_entry : slice_get es place ≡ Some (replied request answer)
  pub is_good : is_good_reply ms request answer ≡ true

-- An action failed: a place of the log has its request, with a reply whose verdict isn't good.
pub record EndedBadly (ms : List Meaning) (plan : PlanView) (es : List LogEntryView) (stages : List StageView) (n : ℕ) : Type 0 where
  pub request : Asked
  pub answer : Option Answer
  pub place : ℕ
  pub is_request : IsRequestIn ms plan es stages n request
  pub is_entry : slice_get es place ≡ Some (replied request answer)
  pub is_bad : is_good_reply ms request answer ≡ false

-- The request of an action has a fault, by the objects of the actions directly before it, which all ended well.
pub record HasFault (ms : List Meaning) (plan : PlanView) (es : List LogEntryView) (stages : List StageView) (n : ℕ) : Type 0 where
  pub before : all_good_before plan stages n ≡ true
  pub why : InstanceFaultView
  pub is_fault : IsAskedOf ms plan n (objects_in es stages) (Err why)

-- what the stage of an action says is so
abbrev pub IsReached : List Meaning → PlanView → List LogEntryView → List StageView → ℕ → StageView → Type 0
IsReached ms plan es stages n (requested q) = IsRequestIn ms plan es stages n q
IsReached ms plan es stages n (good place) = EndedWell ms plan es stages n place
IsReached ms plan es stages n pending = ⊤
IsReached ms plan es stages n failed = EndedBadly ms plan es stages n ⊎ HasFault ms plan es stages n

-- each action of a plan has a stage, and what it says is so
pub record AreReached (ms : List Meaning) (plan : PlanView) (es : List LogEntryView) (stages : List StageView) : Type 0 where
  pub all : length stages ≡ length plan.actions
  pub each : (n : ℕ) → IsReached ms plan es stages n (stage_in stages n)

-- the requests of the actions that weren't requested before are among these
abbrev pub AreReturned : List StageView → List StageView → List Asked → Type 0
AreReturned old new requests = (n : ℕ) (q : Asked) → stage_in new n ≡ requested q → (stage_in old n ≡ requested q) ⊎ Contains requests q

-- a request is that of an action that wasn't requested before, and is now
abbrev pub IsNew : List StageView → List StageView → Asked → Type 0
IsNew old new q = (n : ℕ) × (is_pending (stage_in old n) ≡ true) × (stage_in new n ≡ requested q)

-- A request is due: it is that of an action of the plan, and the calls of all actions that come before it ended well, as the log says.
pub record IsDue (ms : List Meaning) (plan : PlanView) (es : List LogEntryView) (q : Asked) : Type 0 where
  pub stages : List StageView
  pub action : ℕ
  pub reached : AreReached ms plan es stages
  pub is_request : IsRequestIn ms plan es stages action q

-- One round of requests, which brings the stages of actions from the first to the second: what these say is so, each reply in the log is
-- noted, the requests are due and new, those of all actions that weren't requested before are among them, and no action is left that is
-- ready.
pub record IsRound (ms : List Meaning) (plan : PlanView) (es : List LogEntryView) (old new : List StageView) (requests : List Asked) : Type 0 where
  pub reached : AreReached ms plan es new
  pub noted : (n : ℕ) (q : Asked) → stage_in old n ≡ requested q → stage_in new n ≡ with_reply ms es (requested q)
  pub due : (q : Asked) → Contains requests q → IsDue ms plan es q
  pub fresh : (q : Asked) → Contains requests q → IsNew old new q
  pub returned : AreReturned old new requests
  pub none_left : (n : ℕ) → n < length plan.actions → is_ready plan new n ≡ false

-- The second part of a round, after each reply is noted: the actions that were requested before stay at their stages.
pub record IsReadyRound (ms : List Meaning) (plan : PlanView) (es : List LogEntryView) (old new : List StageView) (requests : List Asked) : Type 0 where
  pub reached : AreReached ms plan es new
  pub same : (n : ℕ) → is_pending (stage_in old n) ≡ false → stage_in new n ≡ stage_in old n
  pub due : (q : Asked) → Contains requests q → IsDue ms plan es q
  pub fresh : (q : Asked) → Contains requests q → IsNew old new q
  pub returned : AreReturned old new requests
  pub none_left : (n : ℕ) → n < length plan.actions → is_ready plan new n ≡ false
