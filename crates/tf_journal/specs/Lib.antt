pub use Rattle.tf_provider.specs.Entries
