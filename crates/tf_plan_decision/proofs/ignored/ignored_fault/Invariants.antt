-- the first name so far, with those that are left
use Rattle.std.proofs.Common.{◌≡◌, drop, fold, map, option_map, string_bytes}
use Rattle.tf_plan_decision.specs.Ignored.{unknown_names}
use Rattle.tf_plan_decision.specs.Names.{first_name, sooner_name}
use Rattle.tf_plan_decision.proofs.ignored.ignored_fault.Given as goal

abbrev pub invariant-loop-name : goal.invariant-loop-name
invariant-loop-name l =
    fold sooner_name (option_map (λ s. s.now) l.first) (unknown_names l.schema (map string_bytes (drop l.name-index l.ignored))) ≡ first_name (unknown_names l.schema (map string_bytes l.ignored))
