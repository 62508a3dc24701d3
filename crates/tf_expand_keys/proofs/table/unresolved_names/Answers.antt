use Rattle.tf_expand_keys.proofs.Keeping.{nothing_more}
use Rattle.tf_expand_keys.proofs.table.unresolved_names.Goals as goal

pub loop-preserved : goal.loop-preserved
loop-preserved c = nothing_more c.loop.counter c.loop.kept.items c.push.new.self.items c.in_ok-push.ensures.items c.loop.invariant
