use Rattle.tf_value_json.proofs.Forms.{value_from-form, value_from-none, value_from-value_data}
use Rattle.tf_value_json.proofs.laws.forms_read_back.Goals as goal

pub returns : goal.returns
returns c = record { reads = value_from-form; reads_nothing_else = value_from-none; back = value_from-value_data }
