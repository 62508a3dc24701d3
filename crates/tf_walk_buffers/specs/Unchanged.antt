-- The records without an action, one by one.
use Rattle.std.specs.Prelude.{◌≡◌, ◌<◌, ℕ, Bool, true, nat_lt, if◌then◌else◌, List, [], map, filter, length, Option, Some, None}
use Rattle.std.specs.List.{flat_map}
use Rattle.tf_config_address.specs.ResourceAddr.{ResourceAddrView, addr_of}
use Rattle.tf_graph.specs.NodeSet.{has}
use Rattle.tf_plan_data.specs.Plan.{PlanView, plan_names}
use Rattle.tf_plan_order.specs.ResourceIndex.{numbered, place_in}
use Rattle.tf_state_data.specs.Record.{RecordView, record_of}
use Rattle.tf_state_data.specs.Resource.{ResourceView}
use Rattle.tf_state_next.specs.Events.{MetadataUpdateView}
use Rattle.tf_walk_buffers.specs.MetadataUpdates.{metadata_update_of_record, stays}
use Rattle.tf_walk_buffers.specs.declared.unchanged.UnchangedRecord.{UnchangedRecord}

-- a record that stays, with the address and the number of its resource
pub record UnchangedRecordView : Type 0 where
  pub addr : ResourceAddrView
  pub number : ℕ
  pub kept : RecordView

abbrev pub unchanged_record : ResourceAddrView → ℕ → RecordView → UnchangedRecordView
unchanged_record addr n r = record { addr = addr; number = n; kept = r }

-- Each record of a resource that stays, if the resource's block exists. The number of such a resource is below those of
-- resources without a block.
abbrev pub unchanged_records_at : PlanView → ResourceView → Option ℕ → List UnchangedRecordView
unchanged_records_at plan r None = []
unchanged_records_at plan r (Some n) = if nat_lt n (length (plan_names plan)) then map (unchanged_record r.addr n) (filter (stays plan n) r.records) else []

abbrev pub unchanged_records_of : PlanView → ResourceView → List UnchangedRecordView
unchanged_records_of plan r = unchanged_records_at plan r (place_in (numbered (plan_names plan) plan.prior.resources) r.addr)

-- The records that stay, of all resources of the prior state whose blocks exist.
abbrev pub unchanged_records : PlanView → List UnchangedRecordView
unchanged_records plan = flat_map (unchanged_records_of plan) plan.prior.resources

-- the metadata update of such a record
abbrev pub metadata_update_of_unchanged : PlanView → UnchangedRecordView → MetadataUpdateView
metadata_update_of_unchanged plan u = metadata_update_of_record plan u.addr u.number u.kept

-- the number of its resource is below a count
abbrev pub HasNumberBelow : ℕ → UnchangedRecordView → Type 0
HasNumberBelow count u = u.number < count

-- its resource is requested
abbrev pub IsResourceAsked : List Bool → UnchangedRecordView → Type 0
IsResourceAsked asked u = has asked u.number ≡ true

-- ---- the code's type as plain data

abbrev pub unchanged_record_of : UnchangedRecord → UnchangedRecordView
unchanged_record_of u = record { addr = addr_of u.addr.now; number = u.number; kept = record_of u.kept.now }
