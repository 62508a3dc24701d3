use Rattle.std.proofs.Common.{◌++◌, codes, map, string_bytes}
use Rattle.std.specs.List.{flat_map}
use Rattle.tf_config_refusal.specs.Text.{names_text}
use Rattle.tf_cli_lines.proofs.RefusalLines.{names_told, part_as, whole_as}
use Rattle.tf_cli_lines.proofs.refusing.print_names.Goals as goal

pub returns-in-Some-clause-whole : goal.returns-in-Some-clause-whole
returns-in-Some-clause-whole g c =
    whole_as c.print_list.result _ _ ((codes "(" ++ c.as_str.result.now) ++ (flat_map (λ name. codes ", " ++ string_bytes name) c.in-Some.others.now ++ codes ")")) (codes "(" ++ names_text (map string_bytes c.args.names.now) ++ codes ")")
    (names_told c.args.names.now c.in-Some.first.now c.in-Some.others.now c.as_str.result.now c.in-Some.ensures.cases.0 c.as_str.ensures.value) c.print_list.ensures.whole

pub returns-in-Some-clause-part : goal.returns-in-Some-clause-part
returns-in-Some-clause-part g c =
    part_as _ _ ((codes "(" ++ c.as_str.result.now) ++ (flat_map (λ name. codes ", " ++ string_bytes name) c.in-Some.others.now ++ codes ")")) (codes "(" ++ names_text (map string_bytes c.args.names.now) ++ codes ")")
    (names_told c.args.names.now c.in-Some.first.now c.in-Some.others.now c.as_str.result.now c.in-Some.ensures.cases.0 c.as_str.ensures.value) c.print_list.ensures.part
