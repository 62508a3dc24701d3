-- The outcomes of a plan's actions, and the metadata updates.
use Rattle.std.specs.Prelude.{List}
use Rattle.tf_plan_data.specs.Plan.{PlanView}
use Rattle.tf_provider_protocol.specs.Meaning.{Meaning}
use Rattle.tf_state_next.specs.Events.{EventsView}
use Rattle.tf_walk_action.specs.Outcome.{ActionResultView}
use Rattle.tf_walk_buffers.specs.Head.{Head}
use Rattle.tf_walk_buffers.specs.MetadataUpdates.{metadata_updates}
use Rattle.tf_walk_report.specs.Change.{applies_in, changes_in, destroys_in}

-- The events of an apply: what each action changes, and the metadata updates.
abbrev pub events : List Meaning → PlanView → List Head → List ActionResultView → EventsView
events ms plan heads done = record { destroys = destroys_in (changes_in ms heads done); applies = applies_in (changes_in ms heads done); metadata_updates = metadata_updates plan }
