-- That there is one plan, or one list of refusals, and never both.
use Rattle.std.specs.Prelude.{◌≡◌, ◌^◌, ◌<◌, ◌⊎◌, ℕ, List, Some, length, map, codes}
use Rattle.std.specs.List.{AllByRecursion}
use Rattle.std.specs.List.Sorted.{IsStrictlySortedBy}
use Rattle.tf_config_address.specs.ResourceAddr.{addr_cmp}
use Rattle.tf_config_data.specs.Config.{ConfigView}
use Rattle.tf_config_data.specs.Names.{directly_before, names_of, place_of}
use Rattle.tf_graph.specs.Solutions.{Ranked}
use Rattle.tf_config_names.specs.Needs.{Needs}
use Rattle.tf_plan_planner.specs.Plan.{IsPlan}
use Rattle.tf_plan_planner.specs.Refused.{AreRefused}
use Rattle.tf_plan_data.specs.Plan.{PlanView, plan_names}
use Rattle.tf_plan_text.specs.Text.{plan_text}
use Rattle.tf_provider_protocol.specs.Meaning.{Meaning}
use Rattle.tf_config_refusal.specs.Refusal.{RefusalView}
use Rattle.tf_state_data.specs.Addresses.{AreByAddress}
use Rattle.tf_state_data.specs.Ids.{AreById}
use Rattle.tf_state_data.specs.State.{StateView}
use Rattle.tf_expr_syntax.specs.TemplateNames.{Pair}
use Rattle.tf_value_data.specs.Tree.{Entries}

-- What is shown of the inputs of a plan when they are read: no name of the configuration needs itself; its blocks are in
-- address order, and no block has the type `local`, which names locals; the resources of the prior state are in address order,
-- and the records of each are in the order of their ids.
pub record AreOrderly (config : ConfigView) (prior : StateView) : Type 0 where
  pub ranked : Ranked (directly_before (names_of config))
  pub blocks : IsStrictlySortedBy addr_cmp (map (λ b. b.addr) config.blocks)
  pub own_names : AllByRecursion (λ b. ¬ (b.addr.type_name ≡ codes "local")) config.blocks
  pub resources : AreByAddress prior.resources
  pub records : AllByRecursion (λ r. AreById r.records) prior.resources

-- Two plans are the same: they start from the same state, configuration and values; each name has the same instances and the
-- same needs; the same resources are late; and they have the same actions in the same order.
pub record AreOne (p q : PlanView) : Type 0 where
  pub prior : p.prior ≡ q.prior
  pub config : p.config ≡ q.config
  pub variables : p.variables ≡ q.variables
  pub shapes : (n : ℕ) → n < length (plan_names p) → p.shapes n ≡ q.shapes n
  pub needs : (name : Pair) (n m : ℕ) → place_of (plan_names p) name ≡ Some n → p.needs n m ≡ q.needs n m
  pub late : (n : ℕ) → p.late n ≡ q.late n
  pub actions : p.actions ≡ q.actions
  pub order : p.order ≡ q.order

-- Two plans of one configuration, one list of values and one prior state are the same.
abbrev pub PlansAreOne : Type 0
PlansAreOne =
    (ms : List Meaning) (config : ConfigView) (variables : Entries) (prior : StateView) (p q : PlanView)
    → AreOrderly config prior → IsPlan ms config variables prior p → IsPlan ms config variables prior q → AreOne p q

-- So they have the same text.
abbrev pub PlanTextsAreOne : Type 0
PlanTextsAreOne =
    (ms : List Meaning) (config : ConfigView) (variables : Entries) (prior : StateView) (p q : PlanView)
    → AreOrderly config prior → IsPlan ms config variables prior p → IsPlan ms config variables prior q
    → plan_text p.late p.actions ≡ plan_text q.late q.actions

-- If there is a plan, no list is the list of refusals.
abbrev pub PlansAreNotRefused : Type 0
PlansAreNotRefused =
    (ms : List Meaning) (config : ConfigView) (variables : Entries) (prior : StateView) (plan : PlanView) (refusal_views : List RefusalView)
    → AreOrderly config prior → IsPlan ms config variables prior plan → ¬ AreRefused ms config variables prior refusal_views

-- Two lists of refusals of one configuration, one list of values and one prior state are equal.
abbrev pub RefusalsAreOne : Type 0
RefusalsAreOne =
    (ms : List Meaning) (config : ConfigView) (variables : Entries) (prior : StateView) (refusal_views others : List RefusalView)
    → AreOrderly config prior → AreRefused ms config variables prior refusal_views → AreRefused ms config variables prior others → refusal_views ≡ others

-- If no name of a configuration needs itself, there is a plan or a list of refusals. The configuration has fewer than 2^63
-- names, which is more than any memory holds.
abbrev pub PlannedOrRefused : Type 0
PlannedOrRefused =
    (ms : List Meaning) (config : ConfigView) (variables : Entries) (prior : StateView)
    → length (names_of config) < 2 ^ 63 → ((pair : Pair) → ¬ Needs (names_of config) pair pair)
    → ((plan : PlanView) × IsPlan ms config variables prior plan) ⊎ ((refusal_views : List RefusalView) × AreRefused ms config variables prior refusal_views)
