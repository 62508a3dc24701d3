-- Names resolve at each stage, and so what holds of all of them holds of some.
use Rattle.std.proofs.Common.{ℕ, List, length}
use Rattle.tf_config_data.specs.Names.{NameView, directly_before}
use Rattle.tf_expand_keys.specs.Resolved.{ResolvedView, ResourceValuesView, AreResolvedNames, rule}
use Rattle.tf_graph.proofs.Solving.{solution-exists}
use Rattle.tf_config_names.specs.Needs.{IsAcyclic, IsDependence}
use Rattle.tf_config_names.specs.declared.dependence.Dependence.{Dependence}
use Rattle.tf_value_data.specs.Tree.{Entries}

pub some_standings : (stage : ResourceValuesView) (variables : Entries) (names : List NameView) (d : Dependence) → IsDependence names d → IsAcyclic d → (resolved_names : ℕ → ResolvedView) × AreResolvedNames stage variables names resolved_names
some_standings stage variables names d is acyclic = solution-exists (length names) (directly_before names) (rule stage variables names) (is.ranked acyclic)
