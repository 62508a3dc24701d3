-- The refusal of an instance.
use Rattle.std.specs.Prelude.{ℕ, List, ◌∷◌, ◌++◌}
use Rattle.tf_plan_object.specs.Instance.{InstanceFaultView, for_each_fault, argument_fault}
use Rattle.tf_plan_object.specs.declared.argument.ArgumentFault.{ArgumentFault}
use Rattle.tf_plan_object.specs.declared.argument.ArgumentFault.TheVariants.{Evaluation, BadArgument}
use Rattle.tf_plan_decision.specs.Deciding.{RefusedInstanceView}
use Rattle.tf_plan_decision.specs.Decision.{DecisionFaultView, no_provider, unfit, faulty, prevented}
use Rattle.tf_plan_decision.specs.Prior.{PriorFaultView, as_a_whole, at_attribute}
use Rattle.tf_plan_data.specs.Address.{address_text}
use Rattle.tf_config_refusal.specs.declared.code.Code.TheVariants as code
use Rattle.tf_config_refusal.specs.Refusal.{RefusalView, fault, bare, kind}

-- the place of an attribute's fault: the instance's address, a dot and the attribute
abbrev pub attribute_place : List ℕ → List ℕ → List ℕ
attribute_place address name = address ++ 46 ∷ name

-- an evaluation that fails is code 9, a bad argument code 10
abbrev pub argument_told : List ℕ → ArgumentFault → RefusalView
argument_told place (Evaluation why) = fault code.Evaluate place (kind why)
argument_told place BadArgument = fault code.BadArgument place bare

-- A fault of `for_each` is reported with 9 at the instance's address, one of an argument at the attribute.
abbrev pub fault_told : List ℕ → InstanceFaultView → RefusalView
fault_told address (for_each_fault why) = fault code.Evaluate address (kind why)
fault_told address (argument_fault named) = argument_told (attribute_place address named.0) named.1

-- A prior object that doesn't fit, current or deposed, is reported with 13: at the instance's address if the whole
-- object doesn't fit, and else at the attribute.
abbrev pub unfit_told : List ℕ → PriorFaultView → RefusalView
unfit_told address as_a_whole = fault code.BadState address bare
unfit_told address (at_attribute name) = fault code.BadState (attribute_place address name) bare

-- The refusal of the instance at an address: 11 if no provider has its type, 12 if an object of it may not be
-- destroyed.
abbrev pub why_told : List ℕ → DecisionFaultView → RefusalView
why_told address no_provider = fault code.NoProvider address bare
why_told address (unfit why) = unfit_told address why
why_told address (faulty why) = fault_told address why
why_told address prevented = fault code.PreventDestroy address bare

abbrev pub instance_told : RefusedInstanceView → RefusalView
instance_told r = why_told (address_text r.addr r.key) r.why
