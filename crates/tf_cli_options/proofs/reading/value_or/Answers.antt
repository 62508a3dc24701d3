-- The value that `clap` finds for an option, or the default.
use Rattle.std.proofs.Common.{◌∙◌, ap}
use Rattle.std.specs.Prelude.{unwrap_or}
use Rattle.std.proofs.lemmas.Result.{IfOk-weaker}
use Rattle.clap.specs.Words.{found_of}
use Rattle.clap.proofs.WalkLemmas.{first_value-rows}
use Rattle.tf_cli_options.proofs.Workers.{now_or}
use Rattle.tf_cli_options.proofs.reading.value_or.Goals as goal

pub returns : goal.returns
returns c = IfOk-weaker c.from_str.result _ _
    (λ text e. e ∙ ap (λ b. b.now) c.unwrap_or.ensures ∙ now_or c.get_str.result c.args.default
    ∙ ap (λ o. unwrap_or o c.args.default.now) (c.get_str.ensures ∙ first_value-rows (found_of c.args.matches.now) c.args.name.now))
    c.from_str.ensures.ok
