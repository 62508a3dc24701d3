-- The instances of each resource of a configuration, or why there are none.
use Rattle.std.specs.Prelude.{◌≡◌, ◌≤◌, ◌<◌, ◌+◌, ℕ, zero, suc, if◌then◌else◌, List, length, Option, None, Some, Result, Ok, Err}
use Rattle.tf_config_data.specs.Names.{NameView, Meant, a_local, a_block, meant_at, directly_before}
use Rattle.tf_graph.specs.Solutions.{seen_by}
use Rattle.tf_value_data.specs.Tree.{Entries}
use Rattle.tf_expr_eval.specs.Environment.{Environment}
use Rattle.tf_expand_keys.specs.Repetition.{instances}
use Rattle.tf_expand_keys.specs.InstanceKeys.{InstanceKeysView, one, many, named}
use Rattle.tf_expand_keys.specs.Resolved.{ResolvedView, all_stand, environment}
use Rattle.tf_expand_keys.specs.declared.repetition.RepetitionFault.{RepetitionFault}

-- the most instances that a configuration may have
abbrev pub max_instances : ℕ
max_instances = 2000

-- The shape of a name's meaning: of a resource its instances, or why it is refused. A local is one value.
abbrev pub shape_in : Option Meant → Environment → Result InstanceKeysView RepetitionFault
shape_in None env = Ok one
shape_in (Some (a_local e)) env = Ok one
shape_in (Some (a_block b)) env = instances b.repetition env

-- The expansion of a name: its shape, or why it is refused. A name isn't refused itself if something that it needs is
-- refused.
abbrev pub expanded : Entries → List NameView → (ℕ → ResolvedView) → ℕ → Result InstanceKeysView RepetitionFault
expanded variables names resolved_names n =
    if all_stand (seen_by resolved_names (directly_before names n)) then shape_in (meant_at names n) (environment variables names resolved_names) else Ok one

-- the number of instances of a resource; a local has 0
abbrev pub instance_count : Option Meant → InstanceKeysView → ℕ
instance_count (Some (a_block b)) one = 1
instance_count (Some (a_block b)) (many n) = n
instance_count (Some (a_block b)) (named names) = length names
instance_count (Some (a_local e)) shape = 0
instance_count None shape = 0

-- the number of instances of the names before a place
abbrev pub instances_before : List NameView → (ℕ → InstanceKeysView) → ℕ → ℕ
instances_before names shapes zero = 0
instances_before names shapes (suc n) = instances_before names shapes n + instance_count (meant_at names n) (shapes n)

-- each name has its shape, and there are at most `max_instances` instances
pub record AreExpanded (variables : Entries) (names : List NameView) (resolved_names : ℕ → ResolvedView) (shapes : ℕ → InstanceKeysView) : Type 0 where
  pub each : (n : ℕ) → n < length names → expanded variables names resolved_names n ≡ Ok (shapes n)
  pub few : instances_before names shapes (length names) ≤ max_instances

-- a name is the first that is refused
pub record IsFirstRefused (variables : Entries) (names : List NameView) (resolved_names : ℕ → ResolvedView) (n : ℕ) (why : RepetitionFault) : Type 0 where
  pub inside : n < length names
  pub refused : expanded variables names resolved_names n ≡ Err why
  pub first : (m : ℕ) → m < n → (shape : InstanceKeysView) × (expanded variables names resolved_names m ≡ Ok shape)

-- no name is refused, and there are more than `max_instances` instances
pub record AreTooMany (variables : Entries) (names : List NameView) (resolved_names : ℕ → ResolvedView) : Type 0 where
  pub shapes : ℕ → InstanceKeysView
  pub each : (n : ℕ) → n < length names → expanded variables names resolved_names n ≡ Ok (shapes n)
  pub more : max_instances < instances_before names shapes (length names)
