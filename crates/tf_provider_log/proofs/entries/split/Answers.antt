use Rattle.tf_provider_log.proofs.Passed.{split_more}
use Rattle.tf_provider_log.proofs.entries.split.Goals as goal

pub loop-provider-preserved : goal.loop-provider-preserved
loop-provider-preserved g c =
    rw c.in_ok-push.ensures.items
    (split_more _ _ _ _ _ _ _ _ _ _ c.loop-provider-test.true c.provider-item.is c.loop-provider.invariant c.in_ok-own.ensures.own c.in_ok-own.ensures.others)
