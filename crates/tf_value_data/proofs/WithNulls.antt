-- Values with null in place of what isn't known.
use Rattle.std.proofs.Common.{◌≡◌, true, false, refl, ◌∙◌}
use Rattle.tf_value_data.specs.Known.{known}
use Rattle.tf_value_data.specs.Measure.{weight, depth, IsWithinLimits}
use Rattle.tf_value_data.specs.Nulls.{with_nulls, entries_with_nulls}
use Rattle.tf_value_data.specs.Parts.{items_rewritten}
use Rattle.tf_value_data.specs.Refinement.{Refines, RefinesItems, RefinesEntries}
use Rattle.tf_value_data.specs.Sets.{has_no_set}
use Rattle.tf_value_data.specs.Stored.{MayBeStored, may_be_planned}
use Rattle.tf_value_data.specs.Tree.{Tree, null, list, map, unknown, Items, no_items, item, Entries, no_entries, entry, IsHeld, IsSorted}
use Rattle.tf_value_data.proofs.Conjunction.{and-first, and-second}
use Rattle.tf_value_data.proofs.Rewriting.{only-all, rewritten-only, rewritten-stays, rewritten-measure, rewritten-keeps}
use Rattle.tf_value_data.proofs.Storing.{within-limits}

-- then all is known
pub nulls-known : (t : Tree) → known (with_nulls t) ≡ true
nulls-known t = rewritten-only true false false true t ∙ only-all t

-- and what was known stays
pub known-nulls : (t : Tree) → known t ≡ true → with_nulls t ≡ t
known-nulls t h = rewritten-stays true false t h

mutual
  pub nulls-refine : (t : Tree) → Refines t (with_nulls t)
  nulls-refine (list ts) = item_nulls-refine ts
  nulls-refine (map es) = entry_nulls-refine es
  nulls-refine null = tt
  nulls-refine unknown = tt
  nulls-refine _ = refl

  item_nulls-refine : (ts : Items) → RefinesItems ts (items_rewritten true false ts)
  item_nulls-refine no_items = tt
  item_nulls-refine (item t ts) = (nulls-refine t, item_nulls-refine ts)

  entry_nulls-refine : (es : Entries) → RefinesEntries es (entries_with_nulls es)
  entry_nulls-refine no_entries = tt
  entry_nulls-refine (entry k t es) = (refl, nulls-refine t, entry_nulls-refine es)

-- neither measure changes
pub nulls-measure : (t : Tree) → (weight (with_nulls t) ≡ weight t) × (depth (with_nulls t) ≡ depth t)
nulls-measure t = rewritten-measure true false t

pub nulls-within : (t : Tree) → IsWithinLimits t → IsWithinLimits (with_nulls t)
nulls-within t h = let p = nulls-measure t in rw (p.0, p.1) h

-- and where there was no set, there is none
pub nulls-no_set : (t : Tree) → has_no_set (with_nulls t) ≡ has_no_set t
nulls-no_set t = rewritten-only true false true false t

pub nulls-stored : (t : Tree) → IsHeld t → IsSorted t → may_be_planned t ≡ true → MayBeStored (with_nulls t)
nulls-stored t held sorted planned =
    let p = rewritten-keeps true false t held sorted in
    (p.0, p.1, nulls-known t, nulls-within t (within-limits t (and-first _ _ planned)), nulls-no_set t ∙ and-second _ _ planned)
