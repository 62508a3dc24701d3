use Rattle.std.proofs.Common.{refl, arith}
use Rattle.std.proofs.lemmas.List.{map_push}
use Rattle.std.proofs.lemmas.List.FromFn.{map-range_with_len_more}
use Rattle.tf_config_address.specs.ObjectId.{number}
use Rattle.tf_expand_keys.proofs.shape.numbers.Goals as goal

pub loop-number-preserved : goal.loop-number-preserved
loop-number-preserved c =
    let n = c.loop-number.number in
    rw (c.in_ok-push.ensures.items, map_push, c.loop-number.invariant, map-range_with_len_more number 0 n n (omega arith)) refl
