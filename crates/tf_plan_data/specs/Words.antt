-- What contracts of higher-level crates cite of this crate and of lower-level ones, collected in one place.
pub use Rattle.tf_config_data.specs.Words.{config_of, instance_key_of, addr_of, meant_at, names_of, unknown}
pub use Rattle.tf_expand_keys.specs.Words.{AreResolvedNames, entries_view, IsAcyclic, IsDependence, names_in, seen_by, shapes_of, resolved_names_of, ResolvedView, tree_of}
pub use Rattle.json.specs.Print.{quoted}
pub use Rattle.serde_json.specs.Written.{comma_if}
pub use Rattle.tf_plan_data.specs.Action.{action_of, step_of}
pub use Rattle.tf_plan_data.specs.Precedence.{ordered}
pub use Rattle.tf_config_names.specs.Needs.{needs_in}
pub use Rattle.tf_plan_data.specs.Fits.{deposed_key, FitsTogether, is_apply, IsDeclared, IsOfBlock, op_of}
pub use Rattle.tf_config_address.specs.ResourceAddr.{addr_text}
pub use Rattle.tf_plan_data.specs.Plan.{plan_names, plan_of}
pub use Rattle.tf_plan_data.specs.Served.{AreServed, IsServedBy}
pub use Rattle.tf_plan_order.specs.OrderInput.{AreSound}
pub use Rattle.tf_plan_order.specs.ResourceLaws.{AreApart}
pub use Rattle.tf_plan_order.specs.ResourceIndex.{a_name, numbered}
pub use Rattle.tf_plan_order.specs.Table.{numbered_in, resources_in}
pub use Rattle.tf_state_data.specs.Record.{record_of}
pub use Rattle.tf_state_data.specs.Resource.{resource_of}
pub use Rattle.tf_state_data.specs.State.{state_of}
pub use Rattle.tf_value_data.specs.Tree.{boolean, items_view, null, texts_view}
