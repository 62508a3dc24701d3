-- the names found so far, with those that are left
use Rattle.std.proofs.Common.{◌≡◌, ◌++◌, drop, map, string_bytes}
use Rattle.tf_plan_decision.specs.Differing.{forcing}
use Rattle.tf_plan_decision.proofs.differing.forcing.Given as goal

abbrev pub invariant-loop-name : goal.invariant-loop-name
invariant-loop-name l =
    map string_bytes l.found.items ++ forcing l.schema (map string_bytes (drop l.name-index l.names)) ≡ forcing l.schema (map string_bytes l.names)
