-- The text is the one that `clap` finds for the option, where it finds one.
use Rattle.std.proofs.Common.{◌∙◌, ap, sym, Some}
use Rattle.std.specs.Prelude.{option_map}
use Rattle.clap.specs.Words.{found_of}
use Rattle.clap.proofs.WalkLemmas.{first_value-rows}
use Rattle.tf_cli_options.proofs.reading.value_of.Goals as goal

pub returns-in_ok-from_str-in-Some : goal.returns-in_ok-from_str-in-Some
returns-in_ok-from_str-in-Some c = ap Some c.in_ok-from_str-in-Some.ensures.ok ∙ ap (option_map (λ s. s.now)) (sym c.in-Some.is)
    ∙ c.get_str.ensures ∙ first_value-rows (found_of c.args.matches.now) c.args.name.now

pub returns-in-None : goal.returns-in-None
returns-in-None c = ap (option_map (λ s. s.now)) (sym c.in-None.is)
    ∙ c.get_str.ensures ∙ first_value-rows (found_of c.args.matches.now) c.args.name.now
