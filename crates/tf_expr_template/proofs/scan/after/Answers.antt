use Rattle.std.proofs.lemmas.Str.{IsCharBoundary-after_ascii}
use Rattle.tf_expr_template.proofs.scan.after.Goals as goal

pub range_from-requires : goal.range_from-requires
range_from-requires c some = IsCharBoundary-after_ascii c.args.text.now c.args.place c.utf8.text c.requires.within c.requires.ascii
