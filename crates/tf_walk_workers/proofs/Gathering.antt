-- The parts of cells are put to one, from the last cell on.
use Rattle.std.proofs.Common.{◌≡◌, ◌<◌, ◌+◌, ℕ, List, [], ◌∷◌, ◌++◌, length, Option, None, get_or, set, replicate, refl, sym, ap, ap₂, subst, append-nil, ◌∙◌, arith}
use Rattle.std.specs.List.{sum_by}
use Rattle.std.proofs.lemmas.List.Sums.{sum_by-append, sum_by-set}
use Rattle.std.proofs.lemmas.List.Folds.{sum_by-replicate}
use Rattle.atomic_table.specs.Seated.{TableId}
use Rattle.tf_tally.specs.declared.holding.Holding.{Holding}
use Rattle.tf_tally.specs.Holdings.{HeldPart, merged}
use Rattle.tf_walk_action.specs.declared.action_result.ActionResult.{ActionResult}
use Rattle.tf_walk_workers.specs.Calls.{HasParts, IsGathered, reported_in, reported_weight}
use Rattle.tf_walk_workers.specs.declared.call_record.CallRecord.{CallRecord}

-- So far: the parts of all but this number of cells were put to a part.
pub record IsGathering (left count : ℕ) (results : List (Option ActionResult)) (old new : HeldPart CallRecord) : Type 0 where
  pub own : new.table ≡ old.table
  pub whole : new.holding.whole ≡ old.holding.whole
  pub parts : new.holding.parts + left ≡ old.holding.parts + count
  pub kept : new.holding.kept ≡ old.holding.kept
  pub reported : (h : CallRecord → ℕ) → sum_by h new.holding.reported ≡ sum_by h old.holding.reported + reported_weight h results

weight_none : (h : CallRecord → ℕ) (count : ℕ) → reported_weight h (replicate count None) ≡ 0
weight_none h count = let e = sum_by-replicate (λ (o : Option ActionResult). sum_by h (reported_in o)) count None in omega (arith, e)

pub gathers-none : (count : ℕ) (results : List (Option ActionResult)) (old : HeldPart CallRecord) → results ≡ replicate count None → IsGathering count count results old old
gathers-none count results old free =
    record {
      own = refl;
      whole = refl;
      parts = refl;
      kept = refl;
      reported = λ h. let w : reported_weight h results ≡ 0 = ap (reported_weight h) free ∙ weight_none h count in omega arith;
    }

module _ (table : TableId) (count : ℕ) (old now new : HeldPart CallRecord) where
  -- one more cell, with or without a result
  pub gathers : (left : ℕ) (results : List (Option ActionResult)) (cell : HeldPart CallRecord) (ended : Option ActionResult) → HasParts table 1 [] (reported_in ended) cell → new.table ≡ now.table → new.holding ≡ merged now.holding cell.holding
      → left < length results → get_or results left None ≡ None → IsGathering (left + 1) count results old now → IsGathering left count (set results left ended) old new
  gathers left results cell ended has own is below free so_far =
      record {
        own = own ∙ so_far.own;
        whole = ap (λ (v : Holding CallRecord). v.whole) is ∙ so_far.whole;
        parts =
            let p : new.holding.parts ≡ now.holding.parts + cell.holding.parts = ap (λ (v : Holding CallRecord). v.parts) is in
            let one = has.counts in
            let before = so_far.parts in
            omega arith;
        kept =
            let k : new.holding.kept ≡ now.holding.kept ++ cell.holding.kept = ap (λ (v : Holding CallRecord). v.kept) is in
            k ∙ ap (λ (ls : List CallRecord). now.holding.kept ++ ls) has.keeps ∙ append-nil now.holding.kept ∙ so_far.kept;
        reported = λ h.
            let t : new.holding.reported ≡ now.holding.reported ++ reported_in ended =
            ap (λ (v : Holding CallRecord). v.reported) is ∙ ap (λ (ls : List CallRecord). now.holding.reported ++ ls) has.reports in
            let s : sum_by h new.holding.reported ≡ sum_by h now.holding.reported + sum_by h (reported_in ended) = ap (sum_by h) t ∙ sum_by-append h now.holding.reported (reported_in ended) in
            let before = so_far.reported h in
            let none : sum_by h (reported_in (get_or results left None)) ≡ 0 = ap (λ (o : Option ActionResult). sum_by h (reported_in o)) free in
            let w : reported_weight h (set results left ended) + sum_by h (reported_in (get_or results left None)) ≡ reported_weight h results + sum_by h (reported_in ended) =
            sum_by-set (λ (o : Option ActionResult). sum_by h (reported_in o)) results left ended None below in
            omega arith;
      }

pub gathered : (count : ℕ) (results : List (Option ActionResult)) (old new : HeldPart CallRecord) → IsGathering 0 count results old new → IsGathered count results old new
gathered count results old new so_far =
    record { own = so_far.own; whole = so_far.whole; parts = let p = so_far.parts in omega arith; kept = so_far.kept; reported = so_far.reported }
