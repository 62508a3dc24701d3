-- Decisions and refusals as plain data.
use Rattle.std.specs.Prelude.{ℕ, List, map, String, string_bytes, Result, Ok, Err}
use Rattle.std.specs.declared.alloc.Global.{Global}
use Rattle.tf_plan_object.specs.Instance.{instance_fault_of}
use Rattle.tf_value_data.specs.Tree.{tree_of}
use Rattle.tf_plan_decision.specs.Decision.{DecisionView, nothing, create, update, replace, DecisionFaultView, no_provider, unfit, faulty, prevented}
use Rattle.tf_plan_decision.specs.Prior.{PriorFaultView, as_a_whole, at_attribute}
use Rattle.tf_plan_decision.specs.declared.decision.Decision.{Decision}
use Rattle.tf_plan_decision.specs.declared.decision.Decision.TheVariants as decided
use Rattle.tf_plan_decision.specs.declared.decision.DecisionFault.{DecisionFault}
use Rattle.tf_plan_decision.specs.declared.decision.DecisionFault.TheVariants as refused
use Rattle.tf_plan_decision.specs.declared.prior.PriorFault.{PriorFault}
use Rattle.tf_plan_decision.specs.declared.prior.PriorFault.TheVariants.{Whole, Attribute}

abbrev pub prior_fault_of : PriorFault → PriorFaultView
prior_fault_of Whole = as_a_whole
prior_fault_of (Attribute name) = at_attribute (string_bytes name)

-- texts as lists of bytes
abbrev pub names_of : List (String Global) → List (List ℕ)
names_of = map string_bytes

abbrev pub decision_of : Decision → DecisionView
decision_of decided.Nothing = nothing
decision_of (decided.Create t) = create (tree_of t)
decision_of (decided.Update t names) = update (tree_of t) (names_of names.items)
decision_of (decided.Replace t names) = replace (tree_of t) (names_of names.items)

abbrev pub decision_fault_of : DecisionFault → DecisionFaultView
decision_fault_of refused.NoProvider = no_provider
decision_fault_of (refused.Unfit fault) = unfit (prior_fault_of fault)
decision_fault_of (refused.Faulty why) = faulty (instance_fault_of why)
decision_fault_of refused.Prevented = prevented

-- a decision, or its refusal
abbrev pub answer_of : Result Decision DecisionFault → Result DecisionView DecisionFaultView
answer_of (Ok d) = Ok (decision_of d)
answer_of (Err why) = Err (decision_fault_of why)
