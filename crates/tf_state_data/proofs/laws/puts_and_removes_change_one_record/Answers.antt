use Rattle.tf_config_address.specs.ObjectId.{object_id_cmp}
use Rattle.tf_state_data.specs.Record.{RecordView}
use Rattle.tf_state_data.proofs.OneChanged.{put_changes_one, remove_changes_one}
use Rattle.tf_config_address.proofs.Totals.{object_id_total}
use Rattle.tf_state_data.proofs.laws.puts_and_removes_change_one_record.Goals as goal

pub returns-clause-put : goal.returns-clause-put
returns-clause-put c new r = let one = put_changes_one (λ (r : RecordView). r.id) object_id_cmp object_id_total new r.records in record { there = one.0; others = one.1 }

pub returns-clause-removed : goal.returns-clause-removed
returns-clause-removed c id r = let one = remove_changes_one (λ (r : RecordView). r.id) object_id_cmp object_id_total id r.records in record { gone = one.0; others = one.1 }
