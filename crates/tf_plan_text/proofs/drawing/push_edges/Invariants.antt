-- the text so far, with the lines of the edges that are left
use Rattle.std.proofs.Common.{◌≡◌, ◌++◌, drop, string_bytes}
use Rattle.std.specs.List.{flat_map}
use Rattle.tf_plan_text.specs.Dot.{edge_line}
use Rattle.tf_plan_text.proofs.drawing.push_edges.Given as goal

abbrev pub invariant-loop-from : goal.invariant-loop-from
invariant-loop-from l = string_bytes l.text ++ flat_map edge_line (drop l.from-index l.edges) ≡ string_bytes l.fn.text ++ flat_map edge_line l.edges
