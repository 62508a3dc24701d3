use Rattle.std.proofs.Common.{◌∙◌, ap}
use Rattle.tf_config_names.proofs.Lookups.{maps-seen}
use Rattle.tf_config_names.specs.Places.{found_in}
use Rattle.tf_expr_syntax.specs.TemplateNames.{Pair}
use Rattle.tf_config_names.proofs.places.Places.find.Goals as goal

pub returns : goal.returns
returns c =
    let pair : Pair = (c.args.first.now, c.args.name.now) in
    c.place_in.ensures ∙ maps-seen c.self.inside.by_first pair ∙ ap (λ v. found_in v pair) c.self.view_is
