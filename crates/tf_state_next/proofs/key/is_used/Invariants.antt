use Rattle.std.proofs.Common.{◌≡◌, map, drop}
use Rattle.tf_config_address.specs.ObjectId.{instance_key_of}
use Rattle.tf_state_next.specs.DeposedKey.{is_used}
use Rattle.tf_state_data.specs.Record.{record_of}
use Rattle.tf_state_next.proofs.key.is_used.Given as goal

-- the key is used where one of the records that are left has it
abbrev pub invariant-loop-kept : goal.invariant-loop-kept
invariant-loop-kept l =
    is_used (instance_key_of l.key) (map record_of l.records) l.text ≡ is_used (instance_key_of l.key) (map record_of (drop l.kept-index l.records)) l.text
