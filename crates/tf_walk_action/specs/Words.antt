-- The definitions of this crate and of lower ones that contracts of higher crates refer to.
pub use Rattle.tf_config_data.specs.Words.{config_of, instance_key_of, addr_of, meant_at, names_of}
pub use Rattle.tf_expand_keys.specs.Words.{entries_view, has, IsAcyclic, IsDependence, IsTable, names_in, seen_by, tree_of, with_nulls}
pub use Rattle.tf_plan_data.specs.Words.{action_of, AreServed, deposed_key, FitsTogether, is_apply, IsDeclared, IsOfBlock, IsServedBy, needs_in, plan_names, plan_of, state_of, step_of}
pub use Rattle.tf_plan_data.specs.Action.{prior_of}
pub use Rattle.tf_config_address.specs.ResourceAddr.{addr_text}
pub use Rattle.tf_plan_object.specs.Bounded.{has_planned_attributes}
pub use Rattle.tf_plan_object.specs.Instance.{instance_fault_of, instance_of}
pub use Rattle.tf_plan_object.specs.Kept.{kept_object}
pub use Rattle.tf_graph.specs.Digraph.{predecessors_of}
pub use Rattle.tf_provider.specs.Entries.{fault_of}
pub use Rattle.tf_config_names.specs.Texts.{put_text}
pub use Rattle.tf_walk_action.specs.Asked.{AreRequests, asked_for, create_of, destroy_of, ignored_by, Requests, unless_faulty, update_of}
pub use Rattle.tf_walk_action.specs.ResultViews.{HasCause, IsByFlag, action_result_of, result_or_skipped, action_results_of, ended_action}
pub use Rattle.tf_walk_action.specs.Storable.{has_stored_attributes}
pub use Rattle.tf_walk_action.specs.Journal.{entered_verdict, IsJournal, IsOfAction, op_at}
pub use Rattle.tf_walk_action.specs.Message.{fault_message}
pub use Rattle.tf_walk_action.specs.Objects.{object_of, objects_seen}
pub use Rattle.tf_walk_action.specs.Outcome.{call_of, call_of_provider, call_with, comes_of, ActionResultView, done_at, is_good, op_of}
pub use Rattle.tf_walk_action.specs.Room.{message_fits}
pub use Rattle.tf_walk_action.specs.Run.{IsRun}
pub use Rattle.tf_provider_protocol.specs.Meaning.{Answer, answered, Asked, asked, schema_in}
pub use Rattle.tf_provider_protocol.specs.Schema.{SchemaView}
pub use Rattle.tf_provider_protocol.specs.Verdict.{asks_fully, has_attributes, verdict_on}
pub use Rattle.tf_provider.specs.Call.{IsServed}
pub use Rattle.tf_state_data.specs.Record.{record_of}
pub use Rattle.tf_state_data.specs.Resource.{resource_of}
pub use Rattle.tf_state_data.specs.State.{outputs_of}
pub use Rattle.tf_value_data.specs.Tree.{keys_of}
