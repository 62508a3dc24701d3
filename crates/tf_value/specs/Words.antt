-- The types of the code that definitions of callers name, and the faults of JSON.
pub use Rattle.tf_value_data.specs.declared.value.Value.{Value}
pub use Rattle.tf_value_json.specs.declared.fault.JsonFault.{JsonFault}
pub use Rattle.tf_value_json.specs.declared.fault.JsonFault.TheVariants as JsonFaults
