-- there is room in those before a place
use Rattle.std.proofs.Common.{◌≡◌, map}
use Rattle.tf_config_address.specs.ResourceAddr.{addr_of}
use Rattle.tf_state_next.proofs.Added.{HaveRoomTo}
use Rattle.tf_state_next.specs.StateDraft.{count_of}
use Rattle.tf_state_data.specs.Resource.{resource_of}
use Rattle.tf_state_next.proofs.draft.make_room.Given as goal

abbrev pub invariant-loop-index : goal.invariant-loop-index
invariant-loop-index l =
    record {
      same : map resource_of l.resources ≡ map resource_of l.fn.resources;
      room : HaveRoomTo (count_of (map (λ l. addr_of l.now) l.addrs)) l.index l.resources;
    }
