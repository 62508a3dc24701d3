use Rattle.std.proofs.Common.{◌≡◌, ◌++◌, map, string_bytes}
use Rattle.tf_plan_order.specs.Dependencies.{text_pairs}
use Rattle.tf_plan_order.specs.Table.{numbered_in}
use Rattle.tf_plan_order.proofs.resource_index.ResourceIndex.add_record.Given as goal

abbrev pub invariant-loop-text : goal.invariant-loop-text
invariant-loop-text l =
    l.pairs.items ++ text_pairs (numbered_in l.self) l.place (map string_bytes l.text-iterator)
    ≡ l.fn.pairs.items ++ text_pairs (numbered_in l.self) l.place (map string_bytes l.kept.dependencies.keys)
