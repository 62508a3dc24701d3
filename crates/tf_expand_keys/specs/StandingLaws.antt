-- What holds of resolved names, at every stage.
use Rattle.std.specs.Prelude.{◌≡◌, ◌<◌, ℕ, List, length, Option, Some, Ok}
use Rattle.tf_config_address.specs.ObjectId.{InstanceKeyView}
use Rattle.tf_config_data.specs.Config.{BlockView, RepetitionView}
use Rattle.tf_config_data.specs.Names.{NameView, a_block, meant_at, directly_before, block_refers}
use Rattle.tf_graph.specs.Solutions.{Ranked, seen_by}
use Rattle.tf_value_data.specs.Tree.{Tree, Entries}
use Rattle.tf_value_data.specs.Refinement.{Refines}
use Rattle.tf_expr_eval.specs.Environment.{Environment, RefinesTo}
use Rattle.tf_expr_eval.specs.Locality.{AgreeOn}
use Rattle.tf_expand_keys.specs.Instance.{instance_environment}
use Rattle.tf_expand_keys.specs.Repetition.{instances}
use Rattle.tf_expand_keys.specs.InstanceKeys.{InstanceKeysView}
use Rattle.tf_expand_keys.specs.Stages.{expansion, planning, applying, fine}
use Rattle.tf_expand_keys.specs.Resolved.{ResolvedView, ResourceValuesView, stands, stands_at, where_all, all_stand, environment, environment_at, AreResolvedNames}

-- If no name needs itself, the resolved names at a stage are unique.
abbrev pub ResolvedNamesAreOne : Type 0
ResolvedNamesAreOne =
    (stage : ResourceValuesView) (variables : Entries) (names : List NameView) (resolved_names others : ℕ → ResolvedView)
    → Ranked (directly_before names) → AreResolvedNames stage variables names resolved_names → AreResolvedNames stage variables names others
    → (n : ℕ) → n < length names → resolved_names n ≡ others n

-- If no name needs itself, all names resolve.
abbrev pub ResolvedNamesExist : Type 0
ResolvedNamesExist =
    (stage : ResourceValuesView) (variables : Entries) (names : List NameView)
    → Ranked (directly_before names) → (resolved_names : ℕ → ResolvedView) × AreResolvedNames stage variables names resolved_names

-- A block resolves to the same in environments that agree on what it refers to.
abbrev pub IsLocal : ResourceValuesView → Type 0
IsLocal stage =
    (n : ℕ) (block : BlockView) (one other : Environment) → AgreeOn one other (block_refers block)
    → stands stage n (a_block block) one ≡ stands stage n (a_block block) other

-- At a local stage, the rule for a name gives the same if it sees the values of all names.
abbrev pub AllAreSeen : Type 0
AllAreSeen =
    (stage : ResourceValuesView) (variables : Entries) (names : List NameView) (resolved_names : ℕ → ResolvedView)
    → IsLocal stage → AreResolvedNames stage variables names resolved_names → (n : ℕ) → n < length names
    → resolved_names n ≡ where_all (all_stand (seen_by resolved_names (directly_before names n))) (stands_at stage n (meant_at names n) (environment variables names resolved_names))

-- A planned object depends only on what its block refers to.
abbrev pub IsPlannedLocally : (ℕ → BlockView → Environment → InstanceKeyView → Option Tree) → Type 0
IsPlannedLocally planned =
    (n : ℕ) (block : BlockView) (one other : Environment) (key : InstanceKeyView) → AgreeOn one other (block_refers block)
    → planned n block one key ≡ planned n block other key

abbrev pub ExpansionIsLocal : Type 0
ExpansionIsLocal = IsLocal expansion

abbrev pub PlanningIsLocal : Type 0
PlanningIsLocal =
    (shapes : ℕ → InstanceKeysView) (planned : ℕ → BlockView → Environment → InstanceKeyView → Option Tree)
    → IsPlannedLocally planned → IsLocal (planning shapes planned)

abbrev pub ApplyingIsLocal : Type 0
ApplyingIsLocal = (shapes : ℕ → InstanceKeysView) (objects : ℕ → InstanceKeyView → Tree) → IsLocal (applying shapes objects)

-- if a name has values at two stages, the one at the first refines to the one at the second
abbrev pub Grows : ResolvedView → ResolvedView → Type 0
Grows before after = (v w : Tree) → before ≡ Some (Ok v) → after ≡ Some (Ok w) → Refines v w

-- if what a resource sees at one stage refines to what it sees at another, so does what it resolves to
abbrev pub ResourcesGrow : ResourceValuesView → ResourceValuesView → Entries → List NameView → (ℕ → ResolvedView) → (ℕ → ResolvedView) → Type 0
ResourcesGrow before after variables names resolved_names others =
    (n : ℕ) (block : BlockView) → meant_at names n ≡ Some (a_block block)
    → RefinesTo (environment_at variables names resolved_names n) (environment_at variables names others n)
    → Grows (stands before n (a_block block) (environment_at variables names resolved_names n)) (stands after n (a_block block) (environment_at variables names others n))

-- The values of names at one stage refine to those at another. So do the values of references, all of them and those of
-- each name.
pub record HaveGrown (variables : Entries) (names : List NameView) (resolved_names others : ℕ → ResolvedView) : Type 0 where
  pub each : (n : ℕ) → n < length names → Grows (resolved_names n) (others n)
  pub references : RefinesTo (environment variables names resolved_names) (environment variables names others)
  pub seen : (n : ℕ) → n < length names → RefinesTo (environment_at variables names resolved_names n) (environment_at variables names others n)

-- If resources grow from one stage to another, the values of all names do.
abbrev pub ResolvedNamesGrow : Type 0
ResolvedNamesGrow =
    (before after : ResourceValuesView) (variables : Entries) (names : List NameView) (resolved_names others : ℕ → ResolvedView)
    → Ranked (directly_before names) → AreResolvedNames before variables names resolved_names → AreResolvedNames after variables names others
    → ResourcesGrow before after variables names resolved_names others
    → HaveGrown variables names resolved_names others

-- each resource has the shape that the expansion computes, if it computes one
abbrev pub AreExpanded : Entries → List NameView → (ℕ → ResolvedView) → (ℕ → InstanceKeysView) → Type 0
AreExpanded variables names resolved_names shapes =
    (n : ℕ) (block : BlockView) (shape : InstanceKeysView) → meant_at names n ≡ Some (a_block block)
    → fine (instances block.repetition (environment_at variables names resolved_names n)) ≡ Some shape → shapes n ≡ shape

-- The values of names in the expansion refine to those in a plan with the expansion's instances.
abbrev pub ExpansionGrows : Type 0
ExpansionGrows =
    (variables : Entries) (names : List NameView) (shapes : ℕ → InstanceKeysView) (planned : ℕ → BlockView → Environment → InstanceKeyView → Option Tree)
    (resolved_names others : ℕ → ResolvedView)
    → Ranked (directly_before names) → AreResolvedNames expansion variables names resolved_names → AreResolvedNames (planning shapes planned) variables names others
    → AreExpanded variables names resolved_names shapes
    → HaveGrown variables names resolved_names others

-- each planned object refines to the one that the provider answered
abbrev pub AreAnswered : Entries → List NameView → (ℕ → BlockView → Environment → InstanceKeyView → Option Tree) → (ℕ → InstanceKeyView → Tree) → (ℕ → ResolvedView) → Type 0
AreAnswered variables names planned objects resolved_names =
    (n : ℕ) (block : BlockView) (key : InstanceKeyView) (t : Tree) → meant_at names n ≡ Some (a_block block)
    → planned n block (environment_at variables names resolved_names n) key ≡ Some t → Refines t (objects n key)

-- The values of names in a plan refine to those in an apply whose providers answered what was planned.
abbrev pub PlanGrows : Type 0
PlanGrows =
    (variables : Entries) (names : List NameView) (shapes : ℕ → InstanceKeysView) (planned : ℕ → BlockView → Environment → InstanceKeyView → Option Tree)
    (objects : ℕ → InstanceKeyView → Tree) (resolved_names others : ℕ → ResolvedView)
    → Ranked (directly_before names) → AreResolvedNames (planning shapes planned) variables names resolved_names → AreResolvedNames (applying shapes objects) variables names others
    → AreAnswered variables names planned objects resolved_names
    → HaveGrown variables names resolved_names others

-- If `count` or `for_each` has a value at a later stage too, the instances are the same.
abbrev pub InstancesStay : Type 0
InstancesStay =
    (repetition : RepetitionView) (one other : Environment) (shape later : InstanceKeysView) → RefinesTo one other
    → instances repetition one ≡ Ok shape → instances repetition other ≡ Ok later → shape ≡ later

-- If what a block sees refines, what its instance's arguments see refines too.
abbrev pub InstanceEnvironmentsGrow : Type 0
InstanceEnvironmentsGrow =
    (repetition : RepetitionView) (key : InstanceKeyView) (one other before after : Environment) → RefinesTo one other
    → instance_environment repetition key one ≡ Ok before → instance_environment repetition key other ≡ Ok after → RefinesTo before after
