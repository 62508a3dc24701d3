-- the resources of the records so far are asked for
use Rattle.std.proofs.Common.{◌≡◌, length, map, take}
use Rattle.std.specs.List.{AllByRecursion}
use Rattle.tf_walk_buffers.specs.Unchanged.{IsResourceAsked, unchanged_record_of}
use Rattle.tf_walk_buffers.proofs.updating.asked_for.Given as goal

abbrev pub invariant-loop-one : goal.invariant-loop-one
invariant-loop-one l = record { long : length l.asked ≡ l.count; asked : AllByRecursion (IsResourceAsked l.asked) (map unchanged_record_of (take l.one-index l.unchanged)) }
