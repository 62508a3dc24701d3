use Rattle.std.proofs.Common.{◌+◌, length, ap, ◌∙◌}
use Rattle.tf_expand_keys.specs.Views.{resolved_names_of}
use Rattle.tf_expand_keys.specs.declared.resolved.Resolved.TheVariants.{Nothing}
use Rattle.tf_walk_names.proofs.Shared.{nothing_added, one_longer}
use Rattle.tf_walk_names.proofs.sharing.fill.Goals as goal

pub loop-preserved : goal.loop-preserved
loop-preserved c =
    let kept = c.loop.kept.items in
    record {
      long = ap (λ xs. length xs) c.in_ok-push.ensures.items ∙ one_longer kept Nothing ∙ ap (λ k. k + 1) c.loop.invariant.long;
      same = λ n. ap (λ xs. resolved_names_of xs n) c.in_ok-push.ensures.items ∙ nothing_added kept n ∙ c.loop.invariant.same n;
    }

pub returns-in_err-push-clause-same : goal.returns-in_err-push-clause-same
returns-in_err-push-clause-same c = λ n. ap (λ xs. resolved_names_of xs n) c.in_err-push.ensures.items ∙ c.loop.invariant.same n
