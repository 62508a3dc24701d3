use Rattle.std.proofs.Common.{◌≡◌, ◌<◌, ℕ, true, map}
use Rattle.tf_config_address.specs.ObjectId.{instance_key_of}
use Rattle.tf_state_next.specs.DeposedKey.{is_used, key_text, serial_after}
use Rattle.tf_state_data.specs.Record.{record_of}
use Rattle.tf_state_next.proofs.key.deposed_key.Given as goal

-- the key of each serial that was passed is used
abbrev pub invariant-loop-steps : goal.invariant-loop-steps
invariant-loop-steps l = (n : ℕ) → n < l.steps → is_used (instance_key_of l.key) (map record_of l.records) (key_text (serial_after l.serial n)) ≡ true
