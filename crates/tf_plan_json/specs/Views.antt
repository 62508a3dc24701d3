-- A change and an object of the prior state with their texts, as the JSON trees that are sent of them.
use Rattle.std.specs.Prelude.{option_map, string_bytes}
use Rattle.serde_json.specs.Data.{Data}
use Rattle.tf_config_address.specs.ResourceAddr.{addr_of}
use Rattle.tf_plan_changes.specs.Views.{change_view}
use Rattle.tf_plan_json.specs.Document.{entry_data}
use Rattle.tf_plan_json.specs.Prior.{stored_data}
use Rattle.tf_plan_json.specs.declared.listing.Entry.{Entry}
use Rattle.tf_plan_json.specs.declared.prior.Stored.{Stored}
use Rattle.tf_state_data.specs.Record.{record_of}

abbrev pub entry_view : Entry → Data
entry_view e = entry_data (option_map (λ s. s.now) e.reason) (string_bytes e.address) (string_bytes e.provider) (change_view e.change)

abbrev pub stored_view : Stored → Data
stored_view s = stored_data (string_bytes s.address) (string_bytes s.provider) (addr_of s.addr.now) (record_of s.instance.now)
