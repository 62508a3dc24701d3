-- How far the actions of a plan are, by the entries of a log.
use Rattle.std.specs.Prelude.{◌≡◌, ℕ, Bool, true, false, if◌then◌else◌, List, Option, Some, None, IsSomeAnd, slice_get, slice_index_or, ⊤}
use Rattle.std.specs.List.{position_from}
use Rattle.std.specs.Option.{option_map_or}
use Rattle.tf_provider_log.specs.LogEntry.{LogEntryView, begun, replied}
use Rattle.tf_provider_log.specs.Replayed.{is_about}
use Rattle.tf_provider_protocol.specs.Meaning.{Answer, Asked, Meaning, asked, failed as failed_with, gone, object, schema_in}
use Rattle.tf_provider_protocol.specs.Verdict.{asks_fully, is_good_verdict, verdict_on}
use Rattle.tf_value_data.specs.Tree.{Tree, null}
use Rattle.tf_walk_requests.specs.declared.stage.Stage.{Stage}
use Rattle.tf_walk_requests.specs.declared.stage.Stage.TheVariants as stage

-- An action isn't requested yet; it was requested, and has no reply; it ended well, by the reply at this place of the log; or it
-- can't end well.
pub data StageView : Type 0 where
  pending : StageView
  requested : Asked → StageView
  good : ℕ → StageView
  failed : StageView

-- a stage of the code
abbrev pub stage_of : Stage → StageView
stage_of stage.Pending = pending
stage_of (stage.Requested r) = requested (asked r)
stage_of (stage.Good place) = good place
stage_of stage.Failed = failed

abbrev pub is_pending : StageView → Bool
is_pending pending = true
is_pending _ = false

abbrev pub is_good_stage : StageView → Bool
is_good_stage (good place) = true
is_good_stage _ = false

-- the stage of an action
abbrev pub stage_in : List StageView → ℕ → StageView
stage_in stages n = slice_index_or stages n pending

-- the object that an answer has; null if there is none
abbrev pub object_of : Option Answer → Tree
object_of (Some (object t)) = t
object_of (Some gone) = null
object_of (Some (failed_with message left)) = null
object_of None = null

-- the object in the answer of an entry; null if there is none
abbrev pub object_in : Option LogEntryView → Tree
object_in (Some (replied q a)) = object_of a
object_in (Some (begun q)) = null
object_in None = null

-- the object of an action at a stage; null unless it ended well with an object
abbrev pub object_by : List LogEntryView → StageView → Tree
object_by es (good place) = object_in (slice_get es place)
object_by es _ = null

-- the objects of actions
abbrev pub objects_in : List LogEntryView → List StageView → ℕ → Tree
objects_in es stages n = object_by es (stage_in stages n)

-- the verdict on a reply is good, by the schema of the request's type
abbrev pub is_good_reply : List Meaning → Asked → Option Answer → Bool
is_good_reply ms q a = option_map_or (λ s. is_good_verdict (verdict_on q a s)) (schema_in q.type_name ms) false

-- the stage of an action that was requested, by the entry at a place, which is about its request
abbrev pub stage_by : List Meaning → Asked → ℕ → Option LogEntryView → StageView
stage_by ms q place (Some (replied r a)) = if is_good_reply ms q a then good place else failed
stage_by ms q place (Some (begun r)) = requested q
stage_by ms q place None = requested q

-- the stage of an action after the reply that the first entry about its request has
abbrev pub with_reply : List Meaning → List LogEntryView → StageView → StageView
with_reply ms es (requested q) = option_map_or (λ place. stage_by ms q place (slice_get es place)) (position_from (is_about q) 0 es) (requested q)
with_reply ms es s = s

-- a request has what its operation needs, by the schema of its type
abbrev pub IsFull : List Meaning → Asked → Type 0
IsFull ms q = IsSomeAnd (schema_in q.type_name ms) (λ s. asks_fully q s ≡ true)

-- the request of a stage has what its operation needs
abbrev pub IsFullyRequested : List Meaning → StageView → Type 0
IsFullyRequested ms (requested q) = IsFull ms q
IsFullyRequested ms _ = ⊤
