-- A part and a tally as they lie in memory are those that a contract speaks of.
use Rattle.std.proofs.Common.{◌≡◌, ◌<◌, sym, ap, subst, ◌∙◌}
use Rattle.atomic_table.specs.Seated.{TableId}
use Rattle.tf_tally.specs.Holdings.{HeldPart}

module _ {E : Type 0} where
  pub same_table : (held part : HeldPart E) (lying tally : TableId) → held ≡ part → lying ≡ tally → part.table ≡ tally → held.table ≡ lying
  same_table held part lying tally seen now is =
      ap (λ (p : HeldPart E). p.table) seen ∙ is ∙ sym now

  pub has_two : (held part : HeldPart E) → held ≡ part → 1 < part.holding.parts → 1 < held.holding.parts
  has_two held part seen two = subst (λ (p : HeldPart E). 1 < p.holding.parts) (sym seen) two
