use Rattle.std.proofs.Common.{◌≡◌, ◌+◌, Bool, true, refl}
use Rattle.std.proofs.lemmas.List.{length_push}
use Rattle.std.specs.Prelude.{◌↔◌}
use Rattle.tf_expand_keys.proofs.Needing.{marked_more}
use Rattle.tf_expand_keys.specs.Needed.{IsNeededBy}
use Rattle.tf_graph.specs.NodeSet.{has}
use Rattle.tf_expand_keys.proofs.needed.needed_by.Goals as goal

pub loop-place-preserved : goal.loop-place-preserved
loop-place-preserved c =
    let before = c.loop-place.invariant in
    record {
      long = rw (c.in_ok-push.ensures.items, length_push, before.long) refl;
      marked = marked_more (λ n (b : Bool). (b ≡ true) ↔ IsNeededBy (λ a. has c.args.marked.now a ≡ true) c.args.dependence.now n) _ _ _ c.is_needed.result
          c.in_ok-push.ensures.items before.long before.marked c.is_needed.ensures;
    }
