use Rattle.std.proofs.Common.{◌≡◌, drop, map, string_bytes}
use Rattle.std.specs.List.{list_any}
use Rattle.std.specs.Str.{bytes_eq}
use Rattle.tf_plan_object.proofs.kept.is_ignored.Given as goal

abbrev pub invariant-loop-other : goal.invariant-loop-other
invariant-loop-other l =
    list_any (λ other. bytes_eq other l.name) (map string_bytes l.ignored) ≡ list_any (λ other. bytes_eq other l.name) (map string_bytes (drop l.other-index l.ignored))
