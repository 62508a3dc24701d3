use Rattle.std.proofs.Common.{sym, ◌∙◌, rules}
use Rattle.tf_value_data.proofs.Order.{RefinesItems-length, RefinesEntries-length}
use Rattle.tf_value_data.proofs.refinement.+refines.Goals as goal

pub items_refine-returns-then-len : goal.items_refine-returns-then-len
items_refine-returns-then-len t c =
    (λ h. absurd (cc), λ h. let same = RefinesItems-length c.args.items.now.items c.args.others.now.items h in absurd (search (rules, same)))

pub entries_refine-returns-then-len : goal.entries_refine-returns-then-len
entries_refine-returns-then-len t c =
    (λ h. absurd (cc), λ h. absurd (c.if-len.true (c.len.ensures.len ∙ RefinesEntries-length _ _ h ∙ sym c.len-2.ensures.len)))
