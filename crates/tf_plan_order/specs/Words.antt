-- What contracts of this crate and of higher-level ones cite of lower-level crates, collected in one place.
pub use Rattle.tf_config_data.specs.Words.{addr_of, addr_pair, ResourceAddrView}
pub use Rattle.tf_config_names.specs.Places.{found_in}
pub use Rattle.tf_state_data.specs.Record.{record_of}
pub use Rattle.tf_state_data.specs.Resource.{resource_of}
pub use Rattle.tf_state_data.specs.State.{state_of}
