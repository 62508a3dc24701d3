-- What contracts of higher-level crates cite of this crate and of lower-level ones, collected in one place.
pub use Rattle.tf_config_address.specs.ResourceAddr.{addr_of, ResourceAddrView}
pub use Rattle.tf_config_address.specs.ObjectId.{instance_key_of, InstanceKeyView}
pub use Rattle.tf_config_data.specs.Config.{block_at, blocks_of, BlockView, config_of, repetition_of, variables_of}
pub use Rattle.tf_config_data.specs.Names.{a_block, block_refers, directly_before, addr_pair, meant_at, named_in_repetition, names_of, place_of, places, refers}
pub use Rattle.tf_expr_syntax.specs.ExprNames.{named_below, named_by}
pub use Rattle.tf_expr_syntax.specs.ExprTree.{entries_view, tree_of, trees_view}
pub use Rattle.tf_expr_syntax.specs.TemplateNames.{Pair, reference_of}
pub use Rattle.tf_expr_syntax.specs.TemplateTree.{template_view}
pub use Rattle.tf_value_data.specs.Tree.{put, Tree, unknown}
