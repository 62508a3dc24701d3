-- The result of an expansion.
use Rattle.std.specs.Prelude.{◌≡◌, ◌<◌, ℕ, List, length, None, Result, Ok, Err}
use Rattle.tf_config_data.specs.Names.{NameView}
use Rattle.tf_value_data.specs.Tree.{Entries}
use Rattle.tf_config_names.specs.declared.dependence.Dependence.{Dependence}
use Rattle.tf_expand_keys.specs.Stages.{expansion}
use Rattle.tf_expand_keys.specs.Resolved.{ResolvedView, AreResolvedNames}
use Rattle.tf_expand_keys.specs.Views.{shapes_of}
use Rattle.tf_expand_keys.specs.declared.shape.InstanceKeys.{InstanceKeys}
use Rattle.tf_expand_keys.specs.Expanding.{expanded, AreExpanded, IsFirstRefused, AreTooMany}
use Rattle.tf_expand_keys.specs.Needed.{IsNeeded}
use Rattle.tf_expand_keys.specs.declared.expansion.ExpansionFault.{ExpansionFault}
use Rattle.tf_expand_keys.specs.declared.expansion.ExpansionFault.TheVariants.{OutOfMemory, Resource, TooMany}

-- the first resource that is refused, or too many instances, or out of memory
abbrev pub Refuses : Entries → List NameView → (ℕ → ResolvedView) → ExpansionFault → Type 0
Refuses variables names resolved_names OutOfMemory = Unit {0}
Refuses variables names resolved_names (Resource n why) = IsFirstRefused variables names resolved_names n why
Refuses variables names resolved_names TooMany = AreTooMany variables names resolved_names

-- the instances of each resource, or why they can't be computed
abbrev pub Tells : {X : Type 0} → (X → List InstanceKeys) → Entries → List NameView → (ℕ → ResolvedView) → Result X ExpansionFault → Type 0
Tells view variables names resolved_names (Ok shapes) = AreExpanded variables names resolved_names (shapes_of (view shapes))
Tells view variables names resolved_names (Err fault) = Refuses variables names resolved_names fault

-- The names that a resource needs are resolved in the expansion, and no other name is.
pub record AreNeededNamesResolved (variables : Entries) (names : List NameView) (d : Dependence) (kept : ℕ → ResolvedView) : Type 0 where
  pub needed : (resolved_names : ℕ → ResolvedView) → AreResolvedNames expansion variables names resolved_names → (n : ℕ) → IsNeeded names d n → kept n ≡ resolved_names n
  pub only : (n : ℕ) → n < length names → ¬ IsNeeded names d n → kept n ≡ None

-- a shape for each name, and the right one
pub record HaveShapes (variables : Entries) (names : List NameView) (resolved_names : ℕ → ResolvedView) (shapes : List InstanceKeys) : Type 0 where
  pub long : length shapes ≡ length names
  pub each : (n : ℕ) → n < length names → expanded variables names resolved_names n ≡ Ok (shapes_of shapes n)

-- the shape of each name by some resolved names, or the first name that is refused, or out of memory
abbrev pub Shapes : {X : Type 0} → (X → List InstanceKeys) → Entries → List NameView → (ℕ → ResolvedView) → Result X ExpansionFault → Type 0
Shapes view variables names resolved_names (Ok shapes) = HaveShapes variables names resolved_names (view shapes)
Shapes view variables names resolved_names (Err OutOfMemory) = Unit {0}
Shapes view variables names resolved_names (Err (Resource n why)) = IsFirstRefused variables names resolved_names n why
Shapes view variables names resolved_names (Err TooMany) = ⊥
