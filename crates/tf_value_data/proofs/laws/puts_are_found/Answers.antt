use Rattle.tf_value_data.proofs.Keys.{get-put, get-put_other}
use Rattle.tf_value_data.proofs.laws.puts_are_found.Goals as goal

pub returns : goal.returns
returns c = record { found = get-put; others = get-put_other }
