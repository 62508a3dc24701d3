use Rattle.std.proofs.Common.{sym, ◌∙◌}
use Rattle.tf_provider_protocol.proofs.Counted.{same_names-length}
use Rattle.tf_provider_protocol.proofs.verdict.keys_are.Goals as goal

pub returns-then-len-attributes : goal.returns-then-len-attributes
returns-then-len-attributes c =
    sym (same_names-length c.args.entries.now.entries c.args.attributes.now (λ e. c.if-len-attributes.true (c.len.ensures.len ∙ e)))
