use Rattle.std.proofs.Common.{rules}
use Rattle.tf_state_next.proofs.Keys.{key_exists, key_free, key_hex}
use Rattle.tf_state_next.proofs.object_laws.keys_are_free.Goals as goal

pub returns : goal.returns
returns c = record { exists = key_exists; free = key_free; hex = key_hex; one = search rules }
