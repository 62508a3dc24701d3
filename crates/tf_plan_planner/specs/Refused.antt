-- Why nothing is planned.
use Rattle.std.specs.Prelude.{◌≡◌, ◌≢◌, ◌<◌, ◌≤◌, ◌⊎◌, ℕ, List, [], ◌∷◌, length, map, codes, Some}
use Rattle.tf_plan_data.specs.Action.{ActionView}
use Rattle.tf_config_address.specs.ResourceAddr.{ResourceAddrView, addr_text}
use Rattle.tf_config_data.specs.Config.{BlockView, ConfigView}
use Rattle.tf_config_data.specs.Names.{NameView, a_block, meant_at, names_of}
use Rattle.tf_expand_keys.specs.InstanceKeys.{InstanceKeysView}
use Rattle.tf_expand_keys.specs.Stages.{expansion}
use Rattle.tf_expand_keys.specs.Resolved.{ResolvedView, AreResolvedNames}
use Rattle.tf_expand_keys.specs.declared.repetition.RepetitionFault.{RepetitionFault}
use Rattle.tf_expand_keys.specs.declared.repetition.RepetitionFault.TheVariants.{BadCount, BadForEach, UnknownInstances, Evaluation}
use Rattle.tf_expand_keys.specs.Expanding.{IsFirstRefused, AreTooMany}
use Rattle.tf_expand_keys.specs.declared.expansion.ExpansionFault.{ExpansionFault}
use Rattle.tf_expand_keys.specs.declared.expansion.ExpansionFault.TheVariants.{OutOfMemory, Resource, TooMany}
use Rattle.tf_plan_planner.specs.Ordered.{AreTied, action_pairs, max_pairs}
use Rattle.tf_plan_planner.specs.Plan.{max_actions}
use Rattle.tf_plan_planner.specs.Planned.{AreInstances, IsPlanned, PlannedView, unrefused}
use Rattle.tf_plan_planner.specs.declared.refused.Refused.{Refused}
use Rattle.tf_plan_planner.specs.declared.refused.Refused.TheVariants.{NoMemory, These}
use Rattle.tf_plan_order.specs.OrderInput.{OrderInputView}
use Rattle.tf_provider_protocol.specs.Meaning.{Meaning}
use Rattle.tf_config_refusal.specs.declared.code.Code.TheVariants as code
use Rattle.tf_config_refusal.specs.Refusal.{RefusalView, fault, bare, kind, refusal_of}
use Rattle.tf_cli_inputs.specs.Refusals.{at_state}
use Rattle.tf_state.specs.Table.{IsBeyond}
use Rattle.tf_state_data.specs.Resource.{ResourceView}
use Rattle.tf_state_data.specs.State.{StateView}
use Rattle.tf_expr_syntax.specs.ExprTree as expr
use Rattle.tf_value_data.specs.Tree.{Entries}

-- A resource whose instances can't be computed is refused at its address: 6 for a bad `count`, 7 for a bad `for_each`,
-- 8 if either isn't known yet, and 9 if it can't be evaluated.
abbrev pub instances_refusal : ResourceAddrView → RepetitionFault → RefusalView
instances_refusal addr BadCount = fault code.BadCount (addr_text addr) bare
instances_refusal addr BadForEach = fault code.BadForEach (addr_text addr) bare
instances_refusal addr UnknownInstances = fault code.UnknownInstances (addr_text addr) bare
instances_refusal addr (Evaluation why) = fault code.Evaluate (addr_text addr) (kind why)

-- an exceeded limit is refused with 14, at the whole configuration
abbrev pub beyond_limit : RefusalView
beyond_limit = fault code.Limit (codes "configuration") bare

-- The first resource by address whose instances can't be computed in the expansion, among those that need no such
-- resource, is refused alone.
pub record IsUnexpanded (variables : Entries) (names : List NameView) (refusal_views : List RefusalView) : Type 0 where
  pub place : ℕ
  pub why : RepetitionFault
  pub block : BlockView
  pub is_block : meant_at names place ≡ Some (a_block block)
  pub resolved_names : ℕ → ResolvedView
  pub stand : AreResolvedNames expansion variables names resolved_names
  pub first : IsFirstRefused variables names resolved_names place why
  pub refused : refusal_views ≡ instances_refusal block.addr why ∷ []

-- The instances of all resources are computed in the expansion, and there are too many.
pub record AreManyInstances (variables : Entries) (names : List NameView) (refusal_views : List RefusalView) : Type 0 where
  pub resolved_names : ℕ → ResolvedView
  pub stand : AreResolvedNames expansion variables names resolved_names
  pub many : AreTooMany variables names resolved_names
  pub refused : refusal_views ≡ beyond_limit ∷ []

-- All refusals of the instances and of outputs, at least one.
pub record IsUnplanned (ms : List Meaning) (resources : List ResourceView) (variables : Entries) (names : List NameView) (outputs : expr.Entries) (refusal_views : List RefusalView) : Type 0 where
  pub shapes : ℕ → InstanceKeysView
  pub actions : List ActionView
  pub instances : AreInstances variables names shapes
  pub planned : IsPlanned ms resources variables names outputs shapes (record { actions = actions; refusals = refusal_views })
  pub some : refusal_views ≢ []

-- No instance and no output is refused, and there are too many actions.
pub record AreManyActions (ms : List Meaning) (resources : List ResourceView) (variables : Entries) (names : List NameView) (outputs : expr.Entries) (refusal_views : List RefusalView) : Type 0 where
  pub shapes : ℕ → InstanceKeysView
  pub actions : List ActionView
  pub instances : AreInstances variables names shapes
  pub planned : IsPlanned ms resources variables names outputs shapes (unrefused actions)
  pub many : max_actions < length actions
  pub refused : refusal_views ≡ beyond_limit ∷ []

-- by these relations there are too many pairs of actions, one before the other
abbrev pub AreManyPairsBy : OrderInputView → List ActionView → List RefusalView → Type 0
AreManyPairsBy ties actions refusal_views = (max_pairs < length (action_pairs ties actions)) × (refusal_views ≡ beyond_limit ∷ [])

-- There are too many pairs of these actions by the relations of their resources.
pub record HasManyPairs (names : List NameView) (resources : List ResourceView) (actions : List ActionView) (refusal_views : List RefusalView) : Type 0 where
  pub ties : OrderInputView
  pub tied : AreTied names resources ties
  pub many : AreManyPairsBy ties actions refusal_views

-- There aren't too many actions, but too many pairs of them.
pub record AreManyPairs (ms : List Meaning) (resources : List ResourceView) (variables : Entries) (names : List NameView) (outputs : expr.Entries) (refusal_views : List RefusalView) : Type 0 where
  pub shapes : ℕ → InstanceKeysView
  pub actions : List ActionView
  pub instances : AreInstances variables names shapes
  pub planned : IsPlanned ms resources variables names outputs shapes (unrefused actions)
  pub few : length actions ≤ max_actions
  pub pairs : HasManyPairs names resources actions refusal_views

-- the refusals of the expansion
abbrev pub AreUnexpanded : Entries → List NameView → List RefusalView → Type 0
AreUnexpanded variables names refusal_views = IsUnexpanded variables names refusal_views ⊎ AreManyInstances variables names refusal_views

-- the refusals if the instances are computed
abbrev pub AreUnplanned : List Meaning → List ResourceView → Entries → List NameView → expr.Entries → List RefusalView → Type 0
AreUnplanned ms resources variables names outputs refusal_views =
    IsUnplanned ms resources variables names outputs refusal_views
    ⊎ (AreManyActions ms resources variables names outputs refusal_views ⊎ AreManyPairs ms resources variables names outputs refusal_views)

-- The refusals of names, outputs and the resources of a state, in the order of the checks: a resource's instances,
-- their number, what is planned for them, the number of actions, and that of pairs.
abbrev pub AreRefusedOf : List Meaning → List ResourceView → Entries → List NameView → expr.Entries → List RefusalView → Type 0
AreRefusedOf ms resources variables names outputs refusal_views = AreUnexpanded variables names refusal_views ⊎ AreUnplanned ms resources variables names outputs refusal_views

-- The refusals of a configuration whose variables have these values, and of a prior state.
abbrev pub AreRefused : List Meaning → ConfigView → Entries → StateView → List RefusalView → Type 0
AreRefused ms config variables prior refusal_views = AreRefusedOf ms prior.resources variables (names_of config) config.outputs refusal_views

-- a state beyond a limit is refused alone, with 14
abbrev pub IsStateBeyond : StateView → List RefusalView → Type 0
IsStateBeyond prior refusal_views = IsBeyond prior × (refusal_views ≡ at_state code.Limit ∷ [])

-- All refusals of a plan, in the order of the checks: of the prior state, then of the configuration.
abbrev pub ArePlanRefusals : List Meaning → ConfigView → Entries → StateView → List RefusalView → Type 0
ArePlanRefusals ms config variables prior refusal_views = IsStateBeyond prior refusal_views ⊎ AreRefused ms config variables prior refusal_views

-- The error of a planner: refusals with this property, or out of memory.
abbrev pub Tells : (List RefusalView → Type 0) → Refused → Type 0
Tells P NoMemory = Unit {0}
Tells P (These refusals) = P (map refusal_of refusals.items)

-- ---- one stage

-- the refusals of planned instances: all refusals, or else too many actions
abbrev pub AreRefusedIn : PlannedView → List RefusalView → Type 0
AreRefusedIn planned refusal_views =
    ((refusal_views ≢ []) × (planned.refusals ≡ refusal_views)) ⊎ ((planned.refusals ≡ []) × (max_actions < length planned.actions) × (refusal_views ≡ beyond_limit ∷ []))

-- the refusals of one of these
abbrev pub AreRefusedOfSome : (PlannedView → Type 0) → List RefusalView → Type 0
AreRefusedOfSome P refusal_views = (planned : PlannedView) × P planned × AreRefusedIn planned refusal_views

-- ---- one fault of the expansion

-- if a fault of the expansion is that of a resource, the resource exists
abbrev pub IsPlaced : List NameView → ExpansionFault → Type 0
IsPlaced names OutOfMemory = Unit {0}
IsPlaced names (Resource n why) = (n < length names) × ((block : BlockView) × (meant_at names n ≡ Some (a_block block)))
IsPlaced names TooMany = Unit {0}

-- the refusal of a fault of the expansion; out of memory has no such refusal
abbrev pub TellsFault : List NameView → ExpansionFault → RefusalView → Type 0
TellsFault names OutOfMemory t = ⊥
TellsFault names (Resource n why) t = (block : BlockView) × (meant_at names n ≡ Some (a_block block)) × (t ≡ instances_refusal block.addr why)
TellsFault names TooMany t = t ≡ beyond_limit
