-- The steps that are done to the objects of an instance.
use Rattle.std.specs.Prelude.{ℕ, List, [], ◌∷◌, ◌++◌, map, Option, Some, None}
use Rattle.std.specs.List.{flat_map}
use Rattle.tf_plan_data.specs.Action.{StepView, create, update, replacement, replaced, destroyed, deposed_destroyed}
use Rattle.tf_plan_decision.specs.Decision.{DecisionView, current}
use Rattle.tf_plan_decision.specs.Decision as decision
use Rattle.tf_state_data.specs.Record.{RecordView}
use Rattle.tf_value_data.specs.Tree.{Tree}

-- What a decision does to the current object: nothing, one step, or the two halves of a replace, first the one that
-- creates the new object. Without a current object there is nothing to update or to replace.
abbrev pub current_steps : Option RecordView → DecisionView → List StepView
current_steps prior decision.nothing = []
current_steps prior (decision.create asked) = create asked ∷ []
current_steps None (decision.update asked names) = []
current_steps (Some r) (decision.update asked names) = update r.attributes asked names ∷ []
current_steps None (decision.replace asked names) = []
current_steps (Some r) (decision.replace asked names) = replacement asked names ∷ replaced r.attributes ∷ []

-- the destroy of an object that is the current one, or deposed under a key
abbrev pub destroy_of : Option (List ℕ) → Tree → StepView
destroy_of None prior = destroyed prior
destroy_of (Some key) prior = deposed_destroyed key prior

abbrev pub destroy_if_deposed : Option (List ℕ) → Tree → List StepView
destroy_if_deposed None prior = []
destroy_if_deposed (Some key) prior = deposed_destroyed key prior ∷ []

-- the destroy of a deposed object; the current one stays
abbrev pub deposed_step : RecordView → List StepView
deposed_step r = destroy_if_deposed r.id.deposed r.attributes

-- The steps of an instance that the configuration has: what is decided about its current object, and then a destroy of
-- each deposed one, in the order of their keys.
abbrev pub decided_steps : List RecordView → DecisionView → List StepView
decided_steps records d = current_steps (current records) d ++ flat_map deposed_step records

-- The steps of an instance that the configuration doesn't have: each of its objects is destroyed, the current one
-- before the deposed ones.
abbrev pub removal_steps : List RecordView → List StepView
removal_steps records = map (λ r. destroy_of r.id.deposed r.attributes) records
