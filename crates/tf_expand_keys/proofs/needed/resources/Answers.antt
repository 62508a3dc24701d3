use Rattle.std.proofs.Common.{arith}
use Rattle.tf_config_names.specs.Table.{names_in}
use Rattle.tf_expand_keys.proofs.Needing.{all_marked}
use Rattle.tf_expand_keys.proofs.needed.resources.Goals as goal

pub returns : goal.returns
returns c =
    let names = names_in c.args.names.now in
    let done = c.loop-place.invariant in
    all_marked names c.loop-place.found.items (omega (arith, done.long, c.loop-place-test.false, c.loop-place.auto.place-end, c.len-place-end.ensures)) (λ n h. done.each n (omega (arith, h, c.loop-place-test.false, c.len-place-end.ensures)))
