-- The outcomes of a resource's members, and the values of its instances that follow.
use Rattle.std.specs.Prelude.{ℕ, ◌+◌, Bool, ◌||◌, if◌then◌else◌, is_ok, List, [], ◌∷◌, Option, Some, None, option_map, option_and_then, Ok, Err}
use Rattle.std.specs.List.{list_all}
use Rattle.std.specs.Option.{option_or}
use Rattle.tf_config_address.specs.ObjectId.{InstanceKeyView, instance_key_cmp}
use Rattle.tf_plan_decision.specs.Outcome.{OutcomeView}
use Rattle.tf_plan_decision.specs.Views.{outcome_of}
use Rattle.tf_plan_decision.specs.declared.settling.Settled.{Settled}
use Rattle.tf_plan_decision.specs.Decision.{current}
use Rattle.tf_expand_keys.specs.InstanceKeys.{InstanceKeysView}
use Rattle.tf_expand_keys.specs.Resolved.{ResolvedView, together}
use Rattle.tf_plan_data.specs.Action.{StepView, create, update, replacement}
use Rattle.tf_plan_order.specs.MemberViews.{member_of}
use Rattle.tf_plan_order.specs.Members.{InstanceToPlanView}
use Rattle.tf_state_data.specs.Order.{at_key}
use Rattle.tf_state_data.specs.Record.{RecordView}
use Rattle.tf_value_data.specs.Tree.{Tree}

-- A member of a resource, with its number and its outcome.
pub record SettledView : Type 0 where
  pub instance : ℕ
  pub member : InstanceToPlanView
  pub outcome : OutcomeView

-- a member with its outcome, as plain data
abbrev pub settled_of : Settled → SettledView
settled_of s = record { instance = s.instance; member = member_of s.member.now; outcome = outcome_of s.outcome }

-- members, which are numbered from one number on, with their outcomes
abbrev pub settled_from : (InstanceToPlanView → OutcomeView) → ℕ → List InstanceToPlanView → List SettledView
settled_from becomes i [] = []
settled_from becomes i (m ∷ ms) = record { instance = i; member = m; outcome = becomes m } ∷ settled_from becomes (i + 1) ms

-- the object that a step asks for
abbrev pub asked_in : StepView → Option Tree
asked_in (create asked) = Some asked
asked_in (update prior asked names) = Some asked
asked_in (replacement asked names) = Some asked
asked_in _ = None

-- the object that steps ask for; the apply of an instance is its first step
abbrev pub asked_by : List StepView → Option Tree
asked_by [] = None
asked_by (step ∷ steps) = asked_in step

-- The planned object of an instance with these records, by its outcome: the object that is asked for, or the current
-- one if no object is asked for, or nothing if the instance is refused.
abbrev pub stood_for : List RecordView → OutcomeView → Option Tree
stood_for records (Ok steps) = option_or (asked_by steps) (option_map (λ r. r.attributes) (current records))
stood_for records (Err why) = None

-- the key of a member
abbrev pub settled_key : SettledView → InstanceKeyView
settled_key s = s.member.key

-- the member with a key, and its outcome
abbrev pub settled_at : InstanceKeyView → List SettledView → Option SettledView
settled_at key ss = at_key settled_key instance_key_cmp key ss

-- the planned object of an instance
abbrev pub settled_object : List SettledView → InstanceKeyView → Option Tree
settled_object ss key = option_and_then (λ s. stood_for s.member.records s.outcome) (settled_at key ss)

-- the configuration has a member, or it isn't refused
abbrev pub is_free : SettledView → Bool
is_free s = s.member.is_declared || is_ok s.outcome

-- no member is refused that the configuration doesn't have
abbrev pub all_free : List SettledView → Bool
all_free ss = list_all is_free ss

-- the value of a resource, by the outcomes of its members
abbrev pub settled_standing : InstanceKeysView → List SettledView → ResolvedView
settled_standing shape ss = together (if all_free ss then Some shape else None) (settled_object ss)
