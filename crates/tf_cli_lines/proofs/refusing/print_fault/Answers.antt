use Rattle.std.proofs.Common.{codes}
use Rattle.tf_config_refusal.specs.Refusal.{detail_of}
use Rattle.tf_config_refusal.specs.Text.{detail_text}
use Rattle.tf_cli_lines.specs.Lines.{fault_opening}
use Rattle.tf_cli_lines.proofs.Writes.{first_part, second_part, third_part}
use Rattle.tf_cli_lines.proofs.refusing.print_fault.Goals as goal

pub returns-in_err-print_opening-clause-part : goal.returns-in_err-print_opening-clause-part
returns-in_err-print_opening-clause-part g c =
    first_part _ _ (fault_opening c.args.code c.args.place.now c.args.name.now) (detail_text (detail_of c.args.detail.now)) (codes "\n") c.print_opening.ensures.part

pub returns-in_err-print_detail-clause-part : goal.returns-in_err-print_detail-clause-part
returns-in_err-print_detail-clause-part g c =
    second_part _ _ _ (fault_opening c.args.code c.args.place.now c.args.name.now) (detail_text (detail_of c.args.detail.now)) (codes "\n") c.in_ok-print_opening.ensures.whole c.print_detail.ensures.part

pub returns-clause-part : goal.returns-clause-part
returns-clause-part g c =
    third_part _ _ _ _ (fault_opening c.args.code c.args.place.now c.args.name.now) (detail_text (detail_of c.args.detail.now)) (codes "\n") c.in_ok-print_opening.ensures.whole c.in_ok-print_detail.ensures.whole c.save.ensures.part
