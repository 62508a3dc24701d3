-- All parts together: what the results report is what the journal keeps.
use Rattle.std.proofs.Common.{◌≡◌, ◌+◌, ℕ, List, [], ◌++◌, Option, refl, sym, ap, ◌∙◌, append-nil, arith}
use Rattle.std.specs.List.{sum_by}
use Rattle.atomic_table.specs.Seated.{TableId}
use Rattle.tf_provider.specs.declared.journal.Entry.{Entry}
use Rattle.tf_tally.specs.declared.holding.Holding.{Holding}
use Rattle.tf_tally.specs.Holdings.{HeldPart, IsAll, IsBalanced, merged}
use Rattle.tf_walk_action.specs.declared.action_result.ActionResult.{ActionResult}
use Rattle.tf_walk_workers.specs.Calls.{HasParts, IsGathered, records_of, reported_weight}
use Rattle.tf_walk_workers.specs.declared.call_record.CallRecord.{CallRecord}
use Rattle.tf_walk_workers.proofs.Parts.{merges}

-- a part that lacked the cells' parts has all of them now, and is balanced
pub reported_is_kept : (table : TableId) (entries : List Entry) (count nodes : ℕ) (results : List (Option ActionResult)) (old new : HeldPart CallRecord)
    → HasParts table old.holding.parts (records_of entries) [] old → old.holding.whole ≡ old.holding.parts + nodes → IsGathered count results old new → count ≡ nodes
    → (IsAll new.holding → IsBalanced new.holding) → (h : CallRecord → ℕ) → reported_weight h results ≡ sum_by h (records_of entries)
reported_is_kept table entries count nodes results old new has whole gathered same balanced h =
    let all : new.holding.parts ≡ new.holding.whole = (let p = gathered.parts in let w = gathered.whole in omega arith) in
    let b : sum_by h new.holding.reported ≡ sum_by h new.holding.kept = balanced all h in
    let t = gathered.reported h in
    let none : sum_by h old.holding.reported ≡ 0 = ap (sum_by h) has.reports in
    let k : sum_by h new.holding.kept ≡ sum_by h (records_of entries) = ap (sum_by h) (gathered.kept ∙ has.keeps) in
    omega arith

-- the calling thread's part, the workers' and the journal's
pub record IsMerged (table : TableId) (nodes : ℕ) (kept : List CallRecord) (part : HeldPart CallRecord) : Type 0 where
  pub has : HasParts table part.holding.parts kept [] part
  pub whole : part.holding.whole ≡ part.holding.parts + nodes

pub merged_all : (table : TableId) (count team nodes : ℕ) (ks : List CallRecord) (part idle keeper one two : HeldPart CallRecord)
    → HasParts table 1 [] [] part → HasParts table count [] [] idle → HasParts table 1 ks [] keeper → count ≡ team
    → one.table ≡ table → one.holding ≡ merged part.holding idle.holding → two.table ≡ table → two.holding ≡ merged one.holding keeper.holding
    → part.holding.whole ≡ 2 + team + nodes → IsMerged table nodes ks two
merged_all table count team nodes ks part idle keeper one two has other keeps same own is own' is' whole =
    let first = merges table 1 count [] [] [] [] part idle one has other own is in
    let both = merges table (1 + count) 1 [] ks [] [] one keeper two first keeps own' is' in
    let w : two.holding.whole ≡ part.holding.whole = ap (λ (v : Holding CallRecord). v.whole) is' ∙ ap (λ (v : Holding CallRecord). v.whole) is in
    record {
      has = record { own = both.own; counts = refl; keeps = both.keeps; reports = both.reports };
      whole = let p = both.counts in omega arith;
    }
