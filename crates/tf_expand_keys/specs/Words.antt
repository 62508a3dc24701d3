-- What contracts of higher-level crates cite of this crate and of lower-level ones, collected in one place.
pub use Rattle.tf_config_data.specs.Words.{block_at, directly_before, instance_key_of, addr_of, ResourceAddrView, meant_at, named_by, places, put, repetition_of, Tree}
pub use Rattle.tf_config_data.specs.Config.{lifecycle_of}
pub use Rattle.tf_expand_keys.specs.Kept.{AreResolved, OnlyWanted}
pub use Rattle.tf_expand_keys.specs.Stages.{applying, expansion}
pub use Rattle.tf_expand_keys.specs.Resolved.{AreResolvedNames, environment, or_missing, ResolvedView, stands_at}
pub use Rattle.tf_expand_keys.specs.Views.{shape_of, shapes_of, resolved_of, resolved_names_of, worked_out}
pub use Rattle.tf_expr_eval.specs.ExprMeaning.{meaning}
pub use Rattle.tf_graph.specs.NodeSet.{has}
pub use Rattle.tf_graph.specs.Order.{IsInOrder}
pub use Rattle.tf_graph.specs.Solutions.{seen_by}
pub use Rattle.tf_config_names.specs.Needs.{IsAcyclic, IsDependence, order_in}
pub use Rattle.tf_config_names.specs.Table.{declaration_of, names_in}
pub use Rattle.tf_expr_operators.specs.Answer.{Answers}
pub use Rattle.tf_expr_syntax.specs.ExprTree.{get}
pub use Rattle.tf_value_data.specs.Measure.{is_within}
pub use Rattle.tf_value_data.specs.Nulls.{with_nulls}
pub use Rattle.tf_value_data.specs.Sets.{has_no_set}
pub use Rattle.tf_value_data.specs.Stored.{IsTable, may_be_planned}
pub use Rattle.tf_value_data.specs.Tree.{entries_view, no_entries, text, tree_of}
