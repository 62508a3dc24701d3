use Rattle.std.proofs.Common.{string_bytes}
use Rattle.tf_value_data.proofs.Copied.{copied}
use Rattle.tf_value_data.proofs.copies.copy_texts.Goals as goal

pub returns : goal.returns
returns c = copied _ string_bytes (λ x y e. e) c.args.texts.now.keys c.in_ok-copies.copies.keys c.in_ok-copies.ensures.cases
