-- What is seen so far is shown of the actions passed, and there is room for the rest.
use Rattle.std.proofs.Common.{◌≡◌, ◌≤◌, length, map, take}
use Rattle.std.specs.Prelude.{vec_capacity}
use Rattle.tf_walk_workers.specs.Reading.{seen_in}
use Rattle.tf_walk_workers.specs.SeenResult.{AreShown}
use Rattle.tf_walk_workers.proofs.cells.Cells.look.Given as goal

abbrev pub invariant-loop-action : goal.invariant-loop-action
invariant-loop-action g l =
    AreShown g.N.WalkBrand.meanings g.N.WalkBrand.plan (take l.action-index l.before) (map seen_in l.readings.items)
    × (length l.readings.items ≡ l.action-index)
    × (length l.before ≤ vec_capacity l.readings)
