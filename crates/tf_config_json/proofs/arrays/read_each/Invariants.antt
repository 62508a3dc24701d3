use Rattle.std.proofs.Common.{map, take}
use Rattle.serde_json.specs.View.{items_view}
use Rattle.tf_config_json.specs.Parts.{EachSays}
use Rattle.tf_config_json.proofs.arrays.read_each.Given as goal

-- the elements so far are read
abbrev pub invariant-loop-position : goal.invariant-loop-position
invariant-loop-position g l = EachSays g.E.Listed.says (items_view (take l.position l.value-items)) (map g.E.Listed.out_view l.all.items)
