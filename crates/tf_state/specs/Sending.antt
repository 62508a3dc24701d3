-- Members that are sent if they have a value, and resources that are sent if they have records.
use Rattle.std.specs.Prelude.{◌≡◌, ◌+◌, ℕ, Bool, true, false, List, Option, Some, None, option_map}
use Rattle.serde.specs.Event.{Log, Logs, field_key}
use Rattle.serde.specs.declared.name.Case.TheVariants.{AsIs}
use Rattle.serde_json.specs.Data.{Data, string}
use Rattle.serde_json.specs.Events.{SendsValue}
use Rattle.tf_state_data.specs.Record.{RecordView}
use Rattle.tf_state.specs.Text.{dependencies_data, flag_data, key_data, status_data}

-- a member is sent if there is a value for it, otherwise nothing is
abbrev pub SendsSome : List ℕ → Option Data → Log → Log → Type 0
SendsSome key None old new = new ≡ old
SendsSome key (Some d) old new = (named : Log) × Logs old named (field_key key AsIs) × SendsValue d named new

abbrev pub one_if_some : Option Data → ℕ
one_if_some None = 0
one_if_some (Some d) = 1

-- how many members a record has: always two, and each other one that has a value
abbrev pub member_count : RecordView → ℕ
member_count r =
    2 + one_if_some (flag_data r.create_before_destroy) + one_if_some (dependencies_data r.dependencies) + one_if_some (option_map string r.id.deposed)
    + one_if_some (key_data r.id.key) + one_if_some (status_data r.tainted)

-- a tree is sent if the condition holds, otherwise nothing is
abbrev pub SendsWhere : Bool → Data → Log → Log → Type 0
SendsWhere true d old new = SendsValue d old new
SendsWhere false d old new = new ≡ old
