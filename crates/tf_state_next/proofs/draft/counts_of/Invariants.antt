-- those of the addresses before a place are counted
use Rattle.std.proofs.Common.{◌≡◌, map, take}
use Rattle.tf_config_address.specs.ResourceAddr.{addr_of}
use Rattle.tf_state_next.specs.StateDraft.{counts_at}
use Rattle.tf_state_data.specs.Resource.{resource_of}
use Rattle.tf_state_next.proofs.draft.counts_of.Given as goal

abbrev pub invariant-loop-addr : goal.invariant-loop-addr
invariant-loop-addr l = l.counts.items ≡ counts_at (take l.addr-index (map (λ l. addr_of l.now) l.addrs)) (map resource_of l.resources)
