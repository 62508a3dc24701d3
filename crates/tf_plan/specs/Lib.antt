pub mod Fault
pub mod Shown
pub use Rattle.tf_plan_data.specs.Action
pub use Rattle.tf_plan_data.specs.Fits
pub use Rattle.tf_plan_data.specs.Plan as Data
pub use Rattle.tf_plan_data.specs.Served
pub use Rattle.tf_plan_planner.specs.Plan
pub use Rattle.tf_plan_planner.specs.Planned
pub use Rattle.tf_plan_planner.specs.Ordered
pub use Rattle.tf_plan_planner.specs.Refused
pub use Rattle.tf_walk_action.specs.Asked
pub use Rattle.tf_walk_action.specs.Objects
pub use Rattle.tf_walk_requests.specs.Asks
