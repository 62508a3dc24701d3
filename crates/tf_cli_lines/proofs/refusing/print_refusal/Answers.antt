use Rattle.std.proofs.Common.{◌++◌, codes, string_bytes}
use Rattle.tf_config_refusal.specs.Refusal.{detail_of, fault}
use Rattle.tf_config_refusal.specs.Text.{detail_text}
use Rattle.tf_cli_lines.specs.Lines.{fault_opening, refusal_line}
use Rattle.tf_cli_lines.proofs.RefusalLines.{fault_line, part_as, whole_as}
use Rattle.tf_cli_lines.proofs.refusing.print_refusal.Goals as goal

pub returns-in-Fault-clause-whole : goal.returns-in-Fault-clause-whole
returns-in-Fault-clause-whole g c =
    let detail = detail_of c.in-Fault.detail in
    rw c.in-Fault.is (whole_as c.print_fault.result _ _ (fault_opening c.number.result c.as_str.result.now c.name.result.now ++ (detail_text detail ++ codes "\n")) (refusal_line (fault c.in-Fault.code (string_bytes c.in-Fault.place) detail))
    (fault_line c.in-Fault.code c.number.result c.as_str.result.now (string_bytes c.in-Fault.place) c.name.result.now detail c.number.ensures c.as_str.ensures.value c.name.ensures) c.print_fault.ensures.whole)

pub returns-in-Fault-clause-part : goal.returns-in-Fault-clause-part
returns-in-Fault-clause-part g c =
    let detail = detail_of c.in-Fault.detail in
    rw c.in-Fault.is (part_as _ _ (fault_opening c.number.result c.as_str.result.now c.name.result.now ++ (detail_text detail ++ codes "\n")) (refusal_line (fault c.in-Fault.code (string_bytes c.in-Fault.place) detail))
    (fault_line c.in-Fault.code c.number.result c.as_str.result.now (string_bytes c.in-Fault.place) c.name.result.now detail c.number.ensures c.as_str.ensures.value c.name.ensures) c.print_fault.ensures.part)
