-- Each option that is added adds its rule to what both programs have.
use Rattle.std.proofs.Common.{◌∙◌, ap₂}
use Rattle.std.proofs.lemmas.Result.{IfOk-weaker}
use Rattle.clap.specs.Words.{with_rule}
use Rattle.tf_cli_options.proofs.reading.plan_command.Goals as goal

pub returns : goal.returns
returns c = IfOk-weaker c.arg-2.result _ _
    (λ r adds. adds.shape c.flag_option.ensures.local
    ∙ ap₂ with_rule (c.in_ok-arg.ensures.shape c.graph_option.ensures.local
    ∙ ap₂ with_rule c.in_ok-shared_command.ensures c.graph_option.ensures.rule) c.flag_option.ensures.rule)
    c.arg-2.ensures
