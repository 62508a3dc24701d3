-- The decisions about each name, by its place.
use Rattle.std.specs.Prelude.{◌≡◌, ◌≢◌, ℕ, Bool, true, List, [], ◌∷◌, ◌++◌, map, Option, Some, None, Contains, slice_get, slice_index_or}
use Rattle.std.specs.List.{AllByRecursion, flat_map}
use Rattle.tf_config_data.specs.Config.{BlockView}
use Rattle.tf_config_data.specs.Names.{NameView, Meant, a_block, directly_before, meant_at}
use Rattle.tf_plan_decision.specs.Deciding.{DecidedView, decided_of, decisions_on}
use Rattle.tf_plan_decision.specs.Stage.{deciding}
use Rattle.tf_plan_decision.specs.Whole.{name_instances, orphan_instances}
use Rattle.tf_plan_decision.specs.declared.collecting.Decided.{Decided}
use Rattle.tf_expand_keys.specs.InstanceKeys.{InstanceKeysView}
use Rattle.tf_expand_keys.specs.Resolved.{ResolvedView, AreResolvedNames}
use Rattle.tf_graph.specs.NodeSet.{has}
use Rattle.tf_plan_order.specs.ResourceIndex.{ResourceRefView, a_name, an_orphan}
use Rattle.tf_provider_protocol.specs.Meaning.{Meaning}
use Rattle.tf_state_data.specs.Resource.{ResourceView}
use Rattle.tf_value_data.specs.Tree.{Entries}

-- no actions and no refusals
abbrev pub nothing_decided : DecidedView
nothing_decided = record { actions = []; refusals = [] }

-- actions and refusals, followed by more
abbrev pub followed_by : DecidedView → DecidedView → DecidedView
followed_by d more = record { actions = d.actions ++ more.actions; refusals = d.refusals ++ more.refusals }

-- the decisions at each place of a list; past its end there are no decisions
abbrev pub rows_of : List Decided → ℕ → DecidedView
rows_of rows n = slice_index_or (map decided_of rows) n nothing_decided

-- all that a block refers to is wanted
abbrev pub NeedsAreWanted : List NameView → List Bool → Type 0
NeedsAreWanted names wanted = (n : ℕ) (block : BlockView) → meant_at names n ≡ Some (a_block block) → AllByRecursion (λ a. has wanted a ≡ true) (directly_before names n)

module _ (ms : List Meaning) (resources : List ResourceView) (variables : Entries) (names : List NameView) (shapes : ℕ → InstanceKeysView) where
  -- the actions and the refusals of a name's instances
  abbrev pub row : (ℕ → ResolvedView) → ℕ → Option Meant → DecidedView
  row resolved_names n None = nothing_decided
  row resolved_names n (Some meant) = decisions_on (name_instances ms resources variables names shapes resolved_names n meant)

  -- for each name in a list, its row holds the decisions about it, by the resolved names of the plan's stage
  abbrev pub AreDecided : List ℕ → (ℕ → DecidedView) → Type 0
  AreDecided order rows =
      (resolved_names : ℕ → ResolvedView) → AreResolvedNames (deciding ms resources shapes) variables names resolved_names
      → (n : ℕ) → Contains order n → rows n ≡ row resolved_names n (meant_at names n)

-- the decisions about what is at a place: the row of a name, or the decisions about an orphan
abbrev pub row_at : List Meaning → (ℕ → DecidedView) → ℕ → Option ResourceRefView → DecidedView
row_at ms rows n None = nothing_decided
row_at ms rows n (Some (a_name name)) = rows n
row_at ms rows n (Some (an_orphan r)) = decisions_on (orphan_instances ms n r)

-- the decisions about what is at each of these places, one place after another
abbrev pub gathered : List Meaning → (ℕ → DecidedView) → List ResourceRefView → List ℕ → DecidedView
gathered ms rows all order =
    record { actions = flat_map (λ n. (row_at ms rows n (slice_get all n)).actions) order; refusals = flat_map (λ n. (row_at ms rows n (slice_get all n)).refusals) order }

-- no place occurs in a list twice
abbrev pub AreOnce : List ℕ → Type 0
AreOnce [] = Unit {0}
AreOnce (n ∷ ns) = AllByRecursion (λ m. m ≢ n) ns × AreOnce ns
