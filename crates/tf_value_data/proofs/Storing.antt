-- The test of what may be stored.
use Rattle.std.proofs.Common.{◌≡◌, true, leb-true}
use Rattle.std.proofs.lemmas.Bool.{le-leb}
use Rattle.tf_value_data.specs.Measure.{weight, depth, max_weight, max_depth, IsWithinLimits, is_within}
use Rattle.tf_value_data.specs.Stored.{MayBeStored, may_be_planned, may_be_stored}
use Rattle.tf_value_data.specs.Tree.{Tree, IsHeld, IsSorted}
use Rattle.tf_value_data.specs.Known.{known}
use Rattle.tf_value_data.proofs.Conjunction.{and-both, and-first, and-second}

pub within-true : (t : Tree) → IsWithinLimits t → is_within t ≡ true
within-true t w = and-both _ _ (le-leb (weight t) max_weight w.0) (le-leb (depth t) max_depth w.1)

pub within-limits : (t : Tree) → is_within t ≡ true → IsWithinLimits t
within-limits t e = (leb-true (weight t) max_weight (and-first _ _ e), leb-true (depth t) max_depth (and-second _ _ e))

pub stored-tested : (t : Tree) → MayBeStored t → may_be_stored t ≡ true
stored-tested t s = and-both _ _ s.2 (and-both _ _ (within-true t s.3) s.4)

pub tested-stored : (t : Tree) → IsHeld t → IsSorted t → may_be_stored t ≡ true → MayBeStored t
tested-stored t held sorted e =
    let planned = and-second (known t) (may_be_planned t) e in
    (held, sorted, and-first _ _ e, within-limits t (and-first _ _ planned), and-second _ _ planned)
