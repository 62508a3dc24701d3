-- resources are added at the addresses that are left after those at the others
use Rattle.std.proofs.Common.{List, map, drop}
use Rattle.tf_config_address.specs.ResourceAddr.{addr_of}
use Rattle.tf_state_next.specs.StateDraft.{AreAdded}
use Rattle.tf_state_data.specs.Addresses.{AreByAddress}
use Rattle.tf_state_data.specs.Resource.{ResourceView, resource_of}
use Rattle.tf_state_next.proofs.draft.add_all.Given as goal

abbrev pub invariant-loop-addr : goal.invariant-loop-addr
invariant-loop-addr l =
    record {
      added : (after : List ResourceView) → AreAdded (map (λ l. addr_of l.now) (drop l.addr-index l.addrs)) (map resource_of l.resources.items) after
          → AreAdded (map (λ l. addr_of l.now) l.addrs) (map resource_of l.fn.resources.items) after;
      ordered : AreByAddress (map resource_of l.resources.items);
    }
