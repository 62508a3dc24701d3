use Rattle.tf_value_data.proofs.WithNulls.{nulls-stored}
use Rattle.tf_value_data.proofs.Storing.{stored-tested, tested-stored}
use Rattle.tf_value_data.proofs.Tables.{table-put}
use Rattle.tf_value_data.proofs.laws.stored_values_are_known.Goals as goal

pub returns : goal.returns
returns c = record { tested = λ t held sorted. (tested-stored t held sorted, stored-tested t); nulls = nulls-stored; tables = table-put }
