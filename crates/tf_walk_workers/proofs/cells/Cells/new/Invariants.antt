-- a cell for each turn, space for the rest, and a part less for each cell
use Rattle.std.proofs.Common.{◌≡◌, ◌≤◌, ◌-◌, [], length}
use Rattle.std.specs.Prelude.{vec_capacity}
use Rattle.tf_walk_workers.specs.Calls.{HasParts}
use Rattle.tf_walk_workers.specs.Ideal.{IsNumbered}
use Rattle.tf_walk_workers.proofs.cells.Cells.new.Given as goal

abbrev pub invariant-loop-n : goal.invariant-loop-n
invariant-loop-n g l =
    IsNumbered l.cells.items × (length l.cells.items ≡ l.n-counter) × (l.count ≤ vec_capacity l.cells)
    × HasParts g.N.WalkBrand.table (l.fn.part.holding.parts - l.n-counter) [] [] l.part
    × (l.part.holding.whole ≡ l.fn.part.holding.whole)
