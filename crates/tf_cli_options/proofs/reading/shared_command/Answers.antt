-- Each argument that is added adds its rule.
use Rattle.std.proofs.Common.{◌∙◌, ap, ap₂}
use Rattle.std.proofs.lemmas.Result.{IfOk-weaker}
use Rattle.clap.specs.Simple.{app_of_fields}
use Rattle.clap.specs.Words.{with_rule}
use Rattle.tf_cli_options.specs.Command.{shared_app, with_version}
use Rattle.tf_cli_options.proofs.reading.shared_command.Goals as goal

pub returns : goal.returns
unfolding shared_app
returns c = IfOk-weaker c.arg-11.result _ _
    (λ r adds. adds.shape c.provider_option.ensures.local
    ∙ ap₂ with_rule (c.in_ok-arg-10.ensures.shape c.flag_option-2.ensures.local
    ∙ ap₂ with_rule (c.in_ok-arg-9.ensures.shape c.flag_option.ensures.local
    ∙ ap₂ with_rule (c.in_ok-arg-8.ensures.shape c.explain_option.ensures.local
    ∙ ap₂ with_rule (c.in_ok-arg-7.ensures.shape c.stop_option.ensures.local
    ∙ ap₂ with_rule (c.in_ok-arg-6.ensures.shape c.workers_option.ensures.local
    ∙ ap₂ with_rule (c.in_ok-arg-5.ensures.shape c.default_option-3.ensures.local
    ∙ ap₂ with_rule (c.in_ok-arg-4.ensures.shape c.default_option-2.ensures.local
    ∙ ap₂ with_rule (c.in_ok-arg-3.ensures.shape c.repeated_option-2.ensures.local
    ∙ ap₂ with_rule (c.in_ok-arg-2.ensures.shape c.repeated_option.ensures.local
    ∙ ap₂ with_rule (c.in_ok-arg.ensures.shape c.default_option.ensures.local
    ∙ ap₂ with_rule (ap app_of_fields c.version.ensures ∙ ap with_version c.new.ensures.app) c.default_option.ensures.rule) c.repeated_option.ensures.rule) c.repeated_option-2.ensures.rule) c.default_option-2.ensures.rule) c.default_option-3.ensures.rule) c.workers_option.ensures.rule) c.stop_option.ensures.rule) c.explain_option.ensures.rule) c.flag_option.ensures.rule) c.flag_option-2.ensures.rule) c.provider_option.ensures.rule)
    c.arg-11.ensures
