pub mod Call
pub mod Entries
pub use Rattle.tf_provider_protocol.specs.Meaning
pub use Rattle.tf_provider_protocol.specs.Schema
pub use Rattle.tf_provider_protocol.specs.Verdict
