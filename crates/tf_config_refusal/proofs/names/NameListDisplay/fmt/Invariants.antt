use Rattle.std.proofs.Common.{take, map, string_bytes, codes, ◌++◌}
use Rattle.std.specs.Fmt.{HasWritten, IsPlainFormatter}
use Rattle.std.specs.List.{flat_map}
use Rattle.tf_config_refusal.proofs.names.NameListDisplay.fmt.Given as goal

-- the other names so far are written, each behind a comma and a space
abbrev pub invariant-loop-name : goal.invariant-loop-name
invariant-loop-name g l =
    IsPlainFormatter l.initial.f → HasWritten g.W.Write.write_str_gives l.initial.f (flat_map (λ other. codes ", " ++ other) (map string_bytes (take l.name-index l.others))) l.f
