-- Values with a list in place of each set.
use Rattle.std.proofs.Common.{◌≡◌, true, false, subst, ◌∙◌}
use Rattle.tf_value_data.specs.Known.{known}
use Rattle.tf_value_data.specs.Measure.{weight, depth, IsWithinLimits, is_within}
use Rattle.tf_value_data.specs.Parts.{items_rewritten, entries_rewritten}
use Rattle.tf_value_data.specs.Refinement.{Refines, RefinesItems, RefinesEntries}
use Rattle.tf_value_data.specs.Sets.{has_no_set, with_lists}
use Rattle.tf_value_data.specs.Stored.{MayBeStored, may_be_planned}
use Rattle.tf_value_data.specs.Tree.{Tree, null, boolean, whole, text, list, map, set, unknown, Items, no_items, item, Entries, no_entries, entry, IsHeld, IsSorted, text_items}
use Rattle.tf_value_data.proofs.Conjunction.{and-both}
use Rattle.tf_value_data.proofs.Order.{RefinesItems-refl}
use Rattle.tf_value_data.proofs.Rewriting.{only-all, rewritten-only, rewritten-stays, rewritten-measure, rewritten-keeps}

-- then there is no set
pub lists-no_set : (t : Tree) → has_no_set (with_lists t) ≡ true
lists-no_set t = rewritten-only false true true false t ∙ only-all t

-- and what had none stays
pub no_set-lists : (t : Tree) → has_no_set t ≡ true → with_lists t ≡ t
no_set-lists t h = rewritten-stays false true t h

-- as much is known
pub lists-known : (t : Tree) → known (with_lists t) ≡ known t
lists-known t = rewritten-only false true false true t

mutual
  pub lists-refine : (t u : Tree) → Refines t u → Refines (with_lists t) (with_lists u)
  lists-refine unknown u h = tt
  lists-refine null null h = tt
  lists-refine (boolean b) (boolean c) h = h
  lists-refine (whole y) (whole z) h = h
  lists-refine (text s) (text t) h = h
  lists-refine (list ts) (list us) h = item_lists-refine ts us h
  lists-refine (map es) (map fs) h = entry_lists-refine es fs h
  lists-refine (set ss) (set ts) h = subst (λ rs. RefinesItems (text_items ss) (text_items rs)) h (RefinesItems-refl (text_items ss))
  lists-refine _ _ h = absurd (assumption)

  item_lists-refine : (ts us : Items) → RefinesItems ts us → RefinesItems (items_rewritten false true ts) (items_rewritten false true us)
  item_lists-refine no_items no_items h = tt
  item_lists-refine (item t ts) (item u us) h = (lists-refine t u h.0, item_lists-refine ts us h.1)
  item_lists-refine _ _ h = absurd (assumption)

  entry_lists-refine : (es fs : Entries) → RefinesEntries es fs → RefinesEntries (entries_rewritten false true es) (entries_rewritten false true fs)
  entry_lists-refine no_entries no_entries h = tt
  entry_lists-refine (entry k t es) (entry l u fs) h = (h.0, lists-refine t u h.1, entry_lists-refine es fs h.2)
  entry_lists-refine _ _ h = absurd (assumption)

-- neither measure changes
pub lists-measure : (t : Tree) → (weight (with_lists t) ≡ weight t) × (depth (with_lists t) ≡ depth t)
lists-measure t = rewritten-measure false true t

pub lists-planned : (t : Tree) → is_within t ≡ true → may_be_planned (with_lists t) ≡ true
lists-planned t within =
    let p = lists-measure t in and-both _ _ (rw (p.0, p.1) within) (lists-no_set t)

pub lists-stored : (t : Tree) → IsHeld t → IsSorted t → known t ≡ true → IsWithinLimits t → MayBeStored (with_lists t)
lists-stored t held sorted whole_of within =
    let p = rewritten-keeps false true t held sorted in
    let q = lists-measure t in (p.0, p.1, lists-known t ∙ whole_of, (rw q.0 within.0, rw q.1 within.1), lists-no_set t)
