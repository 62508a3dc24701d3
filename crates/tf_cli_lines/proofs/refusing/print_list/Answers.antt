use Rattle.std.proofs.Common.{◌++◌, codes, string_bytes}
use Rattle.std.specs.List.{flat_map}
use Rattle.tf_cli_lines.proofs.Writes.{first_part, second_part, third_part}
use Rattle.tf_cli_lines.proofs.refusing.print_list.Goals as goal

pub returns-in_err-print_behind-clause-part : goal.returns-in_err-print_behind-clause-part
returns-in_err-print_behind-clause-part g c =
    first_part _ _ (codes "(" ++ c.args.first.now) (flat_map (λ name. codes ", " ++ string_bytes name) c.args.others.now) (codes ")") c.print_behind.ensures.part

pub returns-in_err-print_others-clause-part : goal.returns-in_err-print_others-clause-part
returns-in_err-print_others-clause-part g c =
    second_part _ _ _ (codes "(" ++ c.args.first.now) (flat_map (λ name. codes ", " ++ string_bytes name) c.args.others.now) (codes ")") c.in_ok-print_behind.ensures.whole c.print_others.ensures.part

pub returns-clause-part : goal.returns-clause-part
returns-clause-part g c =
    third_part _ _ _ _ (codes "(" ++ c.args.first.now) (flat_map (λ name. codes ", " ++ string_bytes name) c.args.others.now) (codes ")") c.in_ok-print_behind.ensures.whole c.in_ok-print_others.ensures.whole c.save.ensures.part
