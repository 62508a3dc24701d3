use Rattle.tf_config_address.specs.ResourceAddr.{addr_cmp}
use Rattle.tf_state_data.specs.Resource.{ResourceView}
use Rattle.tf_state_data.proofs.OneChanged.{put_changes_one, remove_changes_one}
use Rattle.tf_config_address.proofs.Totals.{addr_total}
use Rattle.tf_state_data.proofs.laws.puts_and_removes_change_one_resource.Goals as goal

pub returns-clause-put : goal.returns-clause-put
returns-clause-put c new s = let one = put_changes_one (λ (r : ResourceView). r.addr) addr_cmp addr_total new s.resources in record { there = one.0; others = one.1 }

pub returns-clause-removed : goal.returns-clause-removed
returns-clause-removed c addr s = let one = remove_changes_one (λ (r : ResourceView). r.addr) addr_cmp addr_total addr s.resources in record { gone = one.0; others = one.1 }
