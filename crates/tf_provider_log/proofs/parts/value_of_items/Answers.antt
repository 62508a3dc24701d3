use Rattle.std.proofs.Common.{◌≤◌, length, sym}
use Rattle.tf_provider_log.proofs.Lined.{many_items}
use Rattle.tf_provider_log.proofs.parts.value_of_items.Goals as goal

pub returns-in_default : goal.returns-in_default
returns-in_default c =
    let many : 2 ≤ length c.args.items.now.items = rw (← c.as_slice.ensures.value) c.in_default.len_at_least in
    sym (many_items c.args.items.now.items many)
