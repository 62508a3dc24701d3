-- The metadata updates of records without an action.
use Rattle.std.specs.Prelude.{ℕ, ◌==◌, ◌&&◌, Bool, true, false, not, nat_lt, if◌then◌else◌, List, [], map, filter, length, Option, Some, None}
use Rattle.std.specs.List.{flat_map, list_any}
use Rattle.tf_config_address.specs.ResourceAddr.{ResourceAddrView}
use Rattle.tf_config_address.specs.ObjectId.{InstanceKeyView}
use Rattle.tf_config_address.specs.Same.{same_instance_key}
use Rattle.tf_plan_data.specs.Action.{ActionView}
use Rattle.tf_plan_data.specs.Fits.{deposed_key}
use Rattle.tf_plan_data.specs.Plan.{PlanView, plan_names}
use Rattle.tf_plan_order.specs.ResourceIndex.{numbered, place_in}
use Rattle.tf_state_data.specs.Record.{RecordView}
use Rattle.tf_state_data.specs.Resource.{ResourceView}
use Rattle.tf_state_next.specs.Events.{MetadataUpdateView}
use Rattle.tf_walk_buffers.specs.Dependencies.{dependencies}

abbrev pub is_none : {A : Type 0} → Option A → Bool
is_none None = true
is_none (Some a) = false

-- an action is about the current object of an instance of the resource with a number
abbrev pub is_about : ℕ → InstanceKeyView → ActionView → Bool
is_about n key a = a.resource == n && is_none (deposed_key a.step) && same_instance_key a.key key

-- A record of the resource with a number stays if its object is current and no action is about it.
abbrev pub stays : PlanView → ℕ → RecordView → Bool
stays plan n r = is_none r.id.deposed && not (list_any (is_about n r.id.key) plan.actions)

-- Such a record gets new metadata: what its resource needs by the configuration, and whether that resource is late.
abbrev pub metadata_update_of_record : PlanView → ResourceAddrView → ℕ → RecordView → MetadataUpdateView
metadata_update_of_record plan addr n r =
    record {
      addr = addr;
      given =
          record {
            key = r.id.key;
            schema_version = r.schema_version;
            dependencies = dependencies plan.needs (plan_names plan) n;
            create_before_destroy = plan.late n;
            deposed_key = None;
          };
    }

-- The metadata update of each record of a resource that stays, if the resource's block exists. The number of such a
-- resource is below those of resources without a block.
abbrev pub metadata_updates_at : PlanView → ResourceView → Option ℕ → List MetadataUpdateView
metadata_updates_at plan r None = []
metadata_updates_at plan r (Some n) = if nat_lt n (length (plan_names plan)) then map (metadata_update_of_record plan r.addr n) (filter (stays plan n) r.records) else []

abbrev pub metadata_updates_of : PlanView → ResourceView → List MetadataUpdateView
metadata_updates_of plan r = metadata_updates_at plan r (place_in (numbered (plan_names plan) plan.prior.resources) r.addr)

-- The metadata updates of a plan: those of the records without an action whose blocks exist.
abbrev pub metadata_updates : PlanView → List MetadataUpdateView
metadata_updates plan = flat_map (metadata_updates_of plan) plan.prior.resources
