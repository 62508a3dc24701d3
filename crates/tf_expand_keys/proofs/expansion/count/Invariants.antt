use Rattle.std.proofs.Common.{◌≡◌, min}
use Rattle.tf_config_names.specs.Table.{names_in}
use Rattle.tf_expand_keys.specs.Views.{shapes_of}
use Rattle.tf_expand_keys.specs.Expanding.{instances_before}
use Rattle.tf_expand_keys.proofs.expansion.count.Given as goal

abbrev pub invariant-loop-place : goal.invariant-loop-place
invariant-loop-place l = l.total ≡ min (instances_before (names_in l.names) (shapes_of l.shapes) l.place) 18446744073709551615
