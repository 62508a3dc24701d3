-- The texts are those that `clap` finds for the option, where it finds some.
use Rattle.std.proofs.Common.{◌∙◌, [], ap, sym}
use Rattle.std.specs.Prelude.{map, option_map, unwrap_or}
use Rattle.std.proofs.lemmas.Result.{IfOk-weaker}
use Rattle.clap.specs.Words.{found_of}
use Rattle.clap.proofs.WalkLemmas.{raw_values-rows}
use Rattle.tf_cli_options.proofs.texts.texts_of.Goals as goal

pub returns-in-Some : goal.returns-in-Some
returns-in-Some c = IfOk-weaker c.copies.result _ _
    (λ names is. is ∙ ap (λ o. unwrap_or (option_map (λ s. map (λ v. v.now) s.now) o) []) (sym c.in-Some.is)
    ∙ ap (λ o. unwrap_or o []) (c.get_strs.ensures ∙ raw_values-rows (found_of c.args.matches.now) c.args.name.now))
    c.copies.ensures

pub returns-in-None : goal.returns-in-None
returns-in-None c = rw c.new.ensures.items
    (ap (λ o. unwrap_or (option_map (λ s. map (λ v. v.now) s.now) o) []) (sym c.in-None.is)
    ∙ ap (λ o. unwrap_or o []) (c.get_strs.ensures ∙ raw_values-rows (found_of c.args.matches.now) c.args.name.now))
