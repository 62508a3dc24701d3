-- What an apply without actions changes.
use Rattle.std.specs.Prelude.{◌≡◌, ℕ, Bool, List, [], Option, Some, None}
use Rattle.tf_config_address.specs.ResourceAddr.{ResourceAddrView}
use Rattle.tf_config_address.specs.ObjectId.{ObjectIdView}
use Rattle.tf_walk_action.specs.Outcome.{ActionResultView}
use Rattle.tf_plan_data.specs.Plan.{PlanView}
use Rattle.tf_provider_protocol.specs.Meaning.{Meaning}
use Rattle.tf_walk_report.specs.Report.{IsStateOf}
use Rattle.tf_state_next.specs.After.{renewed}
use Rattle.tf_state_data.specs.Record.{RecordView}
use Rattle.tf_state_data.specs.State.{StateView, record_in}
use Rattle.tf_value_data.specs.Tree.{Entries}

-- An object that had no record still has no record. An object that had one keeps it, possibly with other dependencies and
-- another flag.
abbrev pub IsRenewed : Option RecordView → Option RecordView → Type 0
IsRenewed None after = after ≡ None
IsRenewed (Some r) after = (dependencies : List (List ℕ)) × (late : Bool) × (after ≡ Some (renewed dependencies late r))

-- An apply of a plan without actions adds, changes and removes no object: each record stays, except for its dependencies and
-- its flag `create_before_destroy`, which are updated.
abbrev pub QuietAppliesKeepObjects : Type 0
QuietAppliesKeepObjects =
    (ms : List Meaning) (plan : PlanView) (done : List ActionResultView) (outputs : Entries) (after : StateView)
    → plan.actions ≡ [] → IsStateOf ms plan done outputs after
    → (addr : ResourceAddrView) (id : ObjectIdView) → IsRenewed (record_in addr id plan.prior) (record_in addr id after)
