-- The result that is read from a cell.
use Rattle.std.specs.Prelude.{ℕ, Option, Some, None}
use Rattle.tf_walk_action.specs.ResultViews.{result_or_skipped}
use Rattle.tf_walk_action.specs.Outcome.{ActionResultView, skipped}
use Rattle.tf_walk_workers.specs.declared.kept.CellResult.{CellResult}
use Rattle.tf_walk_workers.specs.declared.reading.Reading.{Reading}

-- the result in an action's cell; an empty cell counts as skipped
abbrev pub done_held : {N : Type 0} → Option (CellResult N) → ActionResultView
done_held (Some kept) = result_or_skipped kept.ended
done_held None = skipped

-- the result of a reading
abbrev pub done_in : {N : Type 0} → Reading N → ActionResultView
done_in r = done_held r.claim.value

-- the action of a reading, and its result
abbrev pub seen_in : {N : Type 0} → Reading N → ℕ × ActionResultView
seen_in r = (r.action, done_in r)
