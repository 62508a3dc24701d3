use Rattle.std.proofs.Common.{◌≡◌, ◌<◌, sym, true, length, refl}
use Rattle.tf_claim.specs.Ledger.{is_taken, stage_in}
use Rattle.tf_claim.proofs.Ledgers.{kept-done}
use Rattle.tf_claim.proofs.book.Book.finish.Goals as goal

pub invariant_of-self : goal.invariant_of-self
invariant_of-self c =
    let taken : is_taken (stage_in c.self.inside.stages.items c.action-action.result) ≡ true =
    rw (← c.deref.ensures.value) (sym c.if-not-is_taken.ensures.taken) in
    let within : c.action-action.result < length c.self.inside.stages.items =
    rw (← c.deref.ensures.value) (c.if-not-is_taken.ensures.within refl) in
    kept-done (record { graph = c.self.inside.graph; stages = c.self.inside.stages.items }) c.action-action.result within taken c.self.invariant

pub returns-clause-kept : goal.returns-clause-kept
returns-clause-kept c = invariant_of-self c
