-- those before a place are copied
use Rattle.std.proofs.Common.{◌≡◌, map, take}
use Rattle.tf_state_data.specs.Resource.{resource_of}
use Rattle.tf_state_next.proofs.draft.copies.Given as goal

abbrev pub invariant-loop-resource : goal.invariant-loop-resource
invariant-loop-resource l = map resource_of l.copies.items ≡ map resource_of (take l.resource-index l.resources)
