-- The request of a prepared call, or its fault.
use Rattle.std.specs.Prelude.{ℕ, List, Option, Result, Ok, Err}
use Rattle.tf_plan_data.specs.Action.{ActionView}
use Rattle.tf_plan_object.specs.Instance.{InstanceFaultView, instance_fault_of}
use Rattle.tf_plan_data.specs.Address.{address_text}
use Rattle.tf_provider_protocol.specs.Meaning.{Asked, asked}
use Rattle.tf_provider_protocol.specs.declared.request.Op.{Op}
use Rattle.tf_value_data.specs.Tree.{Tree}
use Rattle.tf_walk_action.specs.declared.prepared_call.PreparedCall.{PreparedCall}
use Rattle.tf_walk_action.specs.declared.action_result.Faulted.{Faulted}

-- the request, or its fault
abbrev pub asked_by : Result PreparedCall Faulted → Result Asked InstanceFaultView
asked_by (Ok asking) = Ok (asked asking.request)
asked_by (Err f) = Err (instance_fault_of f.fault)

-- a request about the instance of an action
abbrev pub prepared_call_of : ActionView → Op → Option (List ℕ) → Option Tree → Option Tree → Asked
prepared_call_of a op deposed prior object =
    record { op = op; address = address_text a.addr a.key; type_name = a.addr.type_name; deposed = deposed; prior = prior; object = object }
