use Rattle.std.proofs.Common.{sym, ap, ◌∙◌, arith}
use Rattle.tf_claim.specs.Views.{Seated}
use Rattle.tf_claim.specs.Claims.{Shared}
use Rattle.tf_claim.proofs.Words as words
use Rattle.tf_claim.proofs.claims.Claims.split_seat.Goals as goal

pub split_seat-place-requires : goal.split_seat-place-requires
split_seat-place-requires c =
    let words_are = c.self.invariant.1 in (
      ap (λ (z : Seated). z.table) c.seat.view_is ∙ c.requires ∙ sym (ap (λ (z : Shared). z.table) c.self.view_is),
      omega arith,
      words.splits _ _ _ c.seat.invariant.2,
    )
