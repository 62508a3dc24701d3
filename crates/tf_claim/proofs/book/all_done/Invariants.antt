use Rattle.std.proofs.Common.{◌≡◌, drop}
use Rattle.std.specs.List.{list_all}
use Rattle.tf_claim.specs.Ledger.{is_done, stage_in}
use Rattle.tf_claim.proofs.book.all_done.Given as goal

abbrev pub invariant-loop-action : goal.invariant-loop-action
invariant-loop-action l =
    list_all (λ n. is_done (stage_in l.stages n)) l.actions ≡ list_all (λ n. is_done (stage_in l.stages n)) (drop l.action-index l.actions)
