-- Why a request can't be built.
use Rattle.std.specs.Prelude.{◌≡◌, ℕ, List, codes, string_bytes}
use Rattle.tf_config_refusal.specs.Refusal.{DetailView, bare, kind, detail_of}
use Rattle.tf_plan.specs.declared.fault.RequestFault.{RequestFault}
use Rattle.tf_plan.specs.declared.fault.RequestFault.TheVariants.{Argument, OutOfMemory}
use Rattle.tf_plan_object.specs.Instance.{InstanceFaultView, for_each_fault, argument_fault}
use Rattle.tf_plan_object.specs.declared.argument.ArgumentFault.{ArgumentFault}
use Rattle.tf_plan_object.specs.declared.argument.ArgumentFault.TheVariants.{Evaluation, BadArgument}

-- how the evaluation of an argument failed, or nothing for a bad argument
abbrev pub argument_detail : ArgumentFault → DetailView
argument_detail (Evaluation why) = kind why
argument_detail BadArgument = bare

-- the name and the detail of the fault of an action's instance
abbrev pub named_fault : InstanceFaultView → List ℕ × DetailView
named_fault (for_each_fault why) = (codes "for_each", kind why)
named_fault (argument_fault named) = (named.0, argument_detail named.1)

-- the fault of a request has the name and the detail of an instance's fault; out of memory has none
abbrev pub HasFault : InstanceFaultView → RequestFault → Type 0
HasFault why (Argument name detail) = (string_bytes name, detail_of detail) ≡ named_fault why
HasFault why OutOfMemory = ⊥

-- If memory didn't run out, some instance's fault with this property is the fault of the request.
abbrev pub TellsFault : (InstanceFaultView → Type 0) → RequestFault → Type 0
TellsFault P (Argument name detail) = (why : InstanceFaultView) × P why × ((string_bytes name, detail_of detail) ≡ named_fault why)
TellsFault P OutOfMemory = Unit {0}
