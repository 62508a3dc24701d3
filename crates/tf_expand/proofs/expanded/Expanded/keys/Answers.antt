use Rattle.std.proofs.Common.{sym}
use Rattle.tf_config_names.proofs.Edging.{place_of-below}
use Rattle.tf_config_names.specs.Table.{names_in}
use Rattle.tf_expand.proofs.expanded.Expanded.keys.Goals as goal

pub keys_at-requires : goal.keys_at-requires
keys_at-requires c = place_of-below (names_in c.args.self.now.names) (c.as_str.result.now, c.as_str-2.result.now) c.in-Some.place (sym c.in-Some.ensures)
