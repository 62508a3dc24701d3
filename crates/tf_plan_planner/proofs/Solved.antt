-- What the definitions say by some resolved names holds by all that solve, where no name needs itself: there resolved names are one.
use Rattle.std.proofs.Common.{◌≡◌, ◌∙◌, ◌<◌, ℕ, Result, Ok, List, length, if◌then◌else◌, sym}
use Rattle.tf_config_data.specs.Names.{NameView, directly_before, meant_at}
use Rattle.tf_plan_decision.specs.Stage.{deciding}
use Rattle.tf_expand_keys.proofs.Places.{names_stay}
use Rattle.tf_expand_keys.specs.InstanceKeys.{InstanceKeysView, one}
use Rattle.tf_expand_keys.specs.Stages.{expansion}
use Rattle.tf_expand_keys.specs.Resolved.{ResolvedView, ResourceValuesView, AreResolvedNames, all_stand, rule}
use Rattle.tf_expand_keys.specs.declared.repetition.RepetitionFault.{RepetitionFault}
use Rattle.tf_expand_keys.specs.Expanding.{AreExpanded, AreTooMany, IsFirstRefused, expanded, shape_in}
use Rattle.tf_graph.proofs.Solving.{solution-unique}
use Rattle.tf_graph.specs.Solutions.{Ranked}
use Rattle.tf_plan_planner.proofs.Listing.{planned-there, planned_in}
use Rattle.tf_plan_planner.proofs.Sameness.{environment-same, planned-same, seen-same}
use Rattle.tf_plan_planner.specs.Planned.{AreInstances, IsPlanned, PlannedView}
use Rattle.tf_provider_protocol.specs.Meaning.{Meaning}
use Rattle.tf_state_data.specs.Resource.{ResourceView}
use Rattle.tf_expr_syntax.specs.ExprTree as expr
use Rattle.tf_value_data.specs.Tree.{Entries}

-- a name has one shape
pub one_shape : (s t : InstanceKeysView) (r : Result InstanceKeysView RepetitionFault) → r ≡ Ok s → r ≡ Ok t → s ≡ t
one_shape s t r e f = let same : ◌≡◌ {A = Result InstanceKeysView RepetitionFault} (Ok s) (Ok t) = sym e ∙ f in cc

-- where each name stands for the same, the same becomes of it in the expansion
pub expanded-same : (variables : Entries) (names : List NameView) (kept resolved_names : ℕ → ResolvedView) → ((n : ℕ) → n < length names → kept n ≡ resolved_names n) → (n : ℕ)
    → expanded variables names kept n ≡ expanded variables names resolved_names n
expanded-same variables names kept resolved_names same n =
    let seen = seen-same variables names kept resolved_names same n in
    let env = environment-same variables names kept resolved_names same in
    (λ i. if all_stand (seen i) then shape_in (meant_at names n) (env i) else Ok one)

module _ (variables : Entries) (names : List NameView) (ranked : Ranked (directly_before names)) where
  pub resolved_names-same : (stage : ResourceValuesView) (kept resolved_names : ℕ → ResolvedView) → AreResolvedNames stage variables names kept → AreResolvedNames stage variables names resolved_names → (n : ℕ) → n < length names → kept n ≡ resolved_names n
  resolved_names-same stage kept resolved_names stand solves n h = solution-unique (length names) (directly_before names) (rule stage variables names) kept resolved_names ranked (names_stay names) stand solves n h

  -- the instances of a configuration are those of its expansion by all resolved names
  pub instances-by : (shapes : ℕ → InstanceKeysView) → AreInstances variables names shapes → (resolved_names : ℕ → ResolvedView) → AreResolvedNames expansion variables names resolved_names → AreExpanded variables names resolved_names shapes
  instances-by shapes is resolved_names solves = record {
    each = λ n h. sym (expanded-same variables names is.resolved_names resolved_names (resolved_names-same expansion is.resolved_names resolved_names is.stand solves) n) ∙ is.expanded.each n h;
    few = is.expanded.few;
  }

  -- the first name that is refused by some resolved names is so by all
  pub refused-by : (kept : ℕ → ResolvedView) (n : ℕ) (why : RepetitionFault) → AreResolvedNames expansion variables names kept → IsFirstRefused variables names kept n why → (resolved_names : ℕ → ResolvedView)
      → AreResolvedNames expansion variables names resolved_names → IsFirstRefused variables names resolved_names n why
  refused-by kept n why stand is resolved_names solves =
      let same = expanded-same variables names kept resolved_names (resolved_names-same expansion kept resolved_names stand solves) in
      record {
        inside = is.inside;
        refused = sym (same n) ∙ is.refused;
        first = λ m h. let before = is.first m h in (before.0, sym (same m) ∙ before.1);
      }

  -- there are too many instances by all resolved names where there are by some
  pub many-by : (kept : ℕ → ResolvedView) → AreResolvedNames expansion variables names kept → AreTooMany variables names kept → (resolved_names : ℕ → ResolvedView) → AreResolvedNames expansion variables names resolved_names
      → AreTooMany variables names resolved_names
  many-by kept stand is resolved_names solves =
      let same = expanded-same variables names kept resolved_names (resolved_names-same expansion kept resolved_names stand solves) in
      record { shapes = is.shapes; each = λ n h. sym (same n) ∙ is.each n h; more = is.more }

  -- what is planned is planned by all resolved names
  pub planned-by : (ms : List Meaning) (resources : List ResourceView) (outputs : expr.Entries) (shapes : ℕ → InstanceKeysView) (planned : PlannedView) (is : IsPlanned ms resources variables names outputs shapes planned) (resolved_names : ℕ → ResolvedView)
      → AreResolvedNames (deciding ms resources shapes) variables names resolved_names → planned_in ms resources variables names outputs shapes is.places resolved_names ≡ planned
  planned-by ms resources outputs shapes planned is resolved_names solves =
      sym (planned-same variables names is.resolved_names resolved_names (resolved_names-same (deciding ms resources shapes) is.resolved_names resolved_names is.stand solves) ms resources outputs shapes is.places) ∙ sym (planned-there ms resources variables names outputs shapes planned is)

-- the instances of a configuration are one
pub same_shapes : (variables : Entries) (names : List NameView) (shapes others : ℕ → InstanceKeysView) → Ranked (directly_before names) → AreInstances variables names shapes → AreInstances variables names others
    → (n : ℕ) → n < length names → shapes n ≡ others n
same_shapes variables names shapes others ranked are also n h =
    one_shape (shapes n) (others n) (expanded variables names are.resolved_names n) (are.expanded.each n h) ((instances-by variables names ranked others also are.resolved_names are.stand).each n h)
