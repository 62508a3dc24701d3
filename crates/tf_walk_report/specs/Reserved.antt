-- The buffers for the report on a plan: they are empty, and have space for what is added.
use Rattle.std.specs.Prelude.{◌≡◌, ◌≤◌, ◌+◌, ℕ, List, [], filter, map, vec_len, vec_capacity}
use Rattle.std.specs.List.{range_with_len}
use Rattle.tf_plan_data.specs.Action.{ActionView}
use Rattle.tf_walk_buffers.specs.Head.{AreHeads}
use Rattle.tf_walk_buffers.specs.BuffersHead.{buffers_head}
use Rattle.tf_config_address.specs.ResourceAddr.{ResourceAddrView}
use Rattle.tf_state_next.specs.Events.{metadata_update_of}
use Rattle.tf_state_next.specs.StateDraft.{IsStateDraft}
use Rattle.tf_state_next.specs.declared.events.Events.{Events}
use Rattle.tf_walk_outputs.specs.Outputs.{kept_entries}
use Rattle.tf_walk_outputs.specs.Buffers.{outputs_in}
use Rattle.tf_plan_data.specs.Fits.{is_apply}
use Rattle.tf_plan_data.specs.Plan.{plan_names, plan_of}
use Rattle.tf_plan_data.specs.declared.plan.Plan.{Plan}
use Rattle.tf_state_data.specs.State.{outputs_of}
use Rattle.tf_value_data.specs.Stored.{IsTable}
use Rattle.tf_walk_buffers.specs.MetadataUpdates.{metadata_updates}
use Rattle.tf_walk_report.specs.OutputsBuffers.{places_in, places_of}
use Rattle.tf_walk_report.specs.Settling.{IsReady}
use Rattle.tf_walk_report.specs.declared.reserving.ReportLists.{ReportLists}
use Rattle.tf_walk_report.specs.declared.reserving.ReportBuffers.{ReportBuffers}

-- nothing is reported, and there is space for what is reported of the given numbers of actions and outputs
pub record AreEmptyLists (actions outputs : ℕ) (b : ReportLists) : Type 0 where
  pub outcomes : b.outcomes.items ≡ []
  pub outcomes_room : actions ≤ vec_capacity b.outcomes
  pub diagnostics : b.diagnostics.items ≡ []
  pub diagnostics_room : actions + outputs ≤ vec_capacity b.diagnostics
  pub excused : b.excused.items ≡ []
  pub excused_room : actions + outputs ≤ vec_capacity b.excused

-- nothing is changed, and there is space for what the given number of actions change
pub record AreEmptyEvents (actions : ℕ) (e : Events) : Type 0 where
  pub applies : e.applies.items ≡ []
  pub applies_room : actions ≤ vec_capacity e.applies
  pub destroys : e.destroys.items ≡ []
  pub destroys_room : actions ≤ vec_capacity e.destroys

-- the resources of creates and updates, as often as there are such actions
abbrev pub applied_addrs : List ActionView → List ResourceAddrView
applied_addrs actions = map (λ a. a.addr) (filter (λ a. is_apply a.step) actions)

pub record AreReserved (plan : Plan) (f : ReportBuffers) : Type 0 where
  pub lists : AreEmptyLists (vec_len plan.actions) (vec_len f.output_texts) f.lists
  pub rooms : AreHeads (plan_of plan) (plan_of plan).actions (map buffers_head f.rooms.items)
  pub draft : IsStateDraft (plan_of plan).prior (applied_addrs (plan_of plan).actions) f.draft
  pub events : AreEmptyEvents (vec_len plan.actions) f.events
  pub metadata_updates : map metadata_update_of f.events.metadata_updates.items ≡ metadata_updates (plan_of plan)
  pub ready : IsReady (plan_names (plan_of plan)) f.settling
  pub seen : f.settling.seen.items ≡ range_with_len 0 (vec_len plan.actions)
  pub kept : outputs_of f.settling.kept.entries ≡ kept_entries (plan_of plan).config.outputs (plan_of plan).prior.outputs
  pub kept_stored : IsTable (plan_of plan).prior.outputs → IsTable (outputs_of f.settling.kept.entries)
  pub outputs : outputs_in f.settling.rooms.items ≡ (plan_of plan).config.outputs
  pub output_texts : places_in f.output_texts.items ≡ places_of (plan_of plan).config.outputs
