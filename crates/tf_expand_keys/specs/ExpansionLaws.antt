-- What holds of each expansion.
use Rattle.std.specs.Prelude.{◌≡◌, ◌<◌, ℕ, true, is_some, List, length, Ok}
use Rattle.tf_config_data.specs.Names.{NameView, directly_before}
use Rattle.tf_graph.specs.Solutions.{Ranked}
use Rattle.tf_value_data.specs.Tree.{Entries}
use Rattle.tf_expand_keys.specs.InstanceKeys.{InstanceKeysView}
use Rattle.tf_expand_keys.specs.Stages.{expansion}
use Rattle.tf_expand_keys.specs.Resolved.{ResolvedView, AreResolvedNames}
use Rattle.tf_expand_keys.specs.Expanding.{expanded}

-- If no name needs itself and no name is refused, each name resolves.
abbrev pub AllStandWhereNoneIsRefused : Type 0
AllStandWhereNoneIsRefused =
    (variables : Entries) (names : List NameView) (resolved_names : ℕ → ResolvedView) (shapes : ℕ → InstanceKeysView)
    → Ranked (directly_before names) → AreResolvedNames expansion variables names resolved_names
    → ((n : ℕ) → n < length names → expanded variables names resolved_names n ≡ Ok (shapes n))
    → (n : ℕ) → n < length names → is_some (resolved_names n) ≡ true
