-- The form is the one that is named by the text that `clap` finds, where it finds one.
use Rattle.std.proofs.Common.{◌∙◌, ap, sym, codes}
use Rattle.std.specs.Prelude.{option_and_then, option_map}
use Rattle.clap.specs.Words.{found_of}
use Rattle.clap.proofs.WalkLemmas.{first_value-rows}
use Rattle.tf_cli_options.specs.Reads.{form_named}
use Rattle.tf_cli_options.proofs.reading.graph_in.Goals as goal

pub returns-in-Some : goal.returns-in-Some
returns-in-Some c = c.form_named.ensures ∙ ap (option_and_then form_named)
    (ap (option_map (λ s. s.now)) (sym c.in-Some.is) ∙ c.get_str.ensures ∙ first_value-rows (found_of c.args.matches.now) (codes "graph"))

pub returns-in-None : goal.returns-in-None
returns-in-None c = ap (option_and_then form_named)
    (ap (option_map (λ s. s.now)) (sym c.in-None.is) ∙ c.get_str.ensures ∙ first_value-rows (found_of c.args.matches.now) (codes "graph"))
