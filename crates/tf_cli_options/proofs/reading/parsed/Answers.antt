-- What `clap` finds by the command is what it finds by the options.
use Rattle.std.proofs.Common.{◌∙◌, ◌≡◌, ap, subst, refl, true}
use Rattle.std.specs.Prelude.{map, string_bytes}
use Rattle.std.proofs.lemmas.Result.{IfOk-weaker}
use Rattle.clap.specs.Words.{FailsBy, fault_of, is_simple, is_simple_and_free, matches_of}
use Rattle.tf_cli_options.specs.Command.{Forms, options_app, shared_app}
use Rattle.tf_cli_options.specs.declared.words.Program.{Program}
use Rattle.tf_cli_options.specs.declared.words.Program.TheVariants.{Plan, Apply}
use Rattle.tf_cli_options.proofs.reading.parsed.Goals as goal

simple : (program : Program) (forms : Forms) → is_simple (options_app program forms) ≡ true
unfolding shared_app
simple Plan forms = refl
simple Apply forms = refl

simple_and_free : (program : Program) (forms : Forms) → is_simple_and_free (options_app program forms) ≡ true
unfolding shared_app
simple_and_free Plan forms = refl
simple_and_free Apply forms = refl

pub returns-clause-reads : goal.returns-clause-reads
returns-clause-reads c = IfOk-weaker c.try_get_matches_from.result _ _
    (λ m h. (h (ap is_simple c.in_ok-command.ensures ∙ simple c.args.program c.args.forms)).0 ∙ ap (λ a. matches_of a (map (λ w. string_bytes w) c.args.words.now)) c.in_ok-command.ensures)
    c.try_get_matches_from.ensures.matches

pub returns-clause-refuses : goal.returns-clause-refuses
returns-clause-refuses c = subst (λ a. FailsBy (fault_of a (map (λ w. string_bytes w) c.args.words.now)) c.try_get_matches_from.result) c.in_ok-command.ensures
    (c.try_get_matches_from.ensures.kinds (ap is_simple_and_free c.in_ok-command.ensures ∙ simple_and_free c.args.program c.args.forms))
