pub mod Expanded
pub use Rattle.tf_expand_keys.specs.Expanding
pub use Rattle.tf_expand_keys.specs.InstanceKeys
pub use Rattle.tf_expand_keys.specs.Repetition
pub use Rattle.tf_expand_keys.specs.Resolved
pub use Rattle.tf_expand_keys.specs.Stages
pub use Rattle.tf_expand_keys.specs.Views
