use Rattle.tf_expr_template.proofs.Cuts.{after_run, space_is_ascii}
use Rattle.tf_expr_template.proofs.token.next_token.Goals as goal

pub cut-requires : goal.cut-requires
cut-requires c = after_run _ space_is_ascii c.args.text.now c.utf8.text c.space_len.result c.space_len.ensures
