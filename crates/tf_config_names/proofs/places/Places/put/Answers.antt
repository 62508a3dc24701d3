use Rattle.std.proofs.Common.{◌≡◌, ◌∙◌, Some, if◌then◌else◌, ap, sym}
use Rattle.std.proofs.lemmas.Result.{on_ok_weaker}
use Rattle.tf_config_data.specs.Names.{same_pair}
use Rattle.tf_config_names.proofs.Lookups.{maps-seen}
use Rattle.tf_config_names.specs.Places.{found_in, found_in_maps, places_view}
use Rattle.tf_expr_syntax.specs.TemplateNames.{Pair}
use Rattle.tf_config_names.proofs.places.Places.put.Goals as goal

pub returns : goal.returns
returns c =
    let put : Pair = (c.args.first.now, c.args.name.now) in
    on_ok_weaker c.put_in.result
    (λ done pair.
    sym (maps-seen c.put_in.new.by_first pair)
    ∙ done pair
    ∙ ap (λ o. if same_pair put pair then Some c.args.place else o) (maps-seen c.self.inside.by_first pair ∙ ap (λ v. found_in v pair) c.self.view_is))
    c.put_in.ensures
