use Rattle.std.proofs.Common.{ℕ, List, ◌++◌, ◌∙◌, ap₂, append_assoc, codes, string_bytes}
use Rattle.std.proofs.Output.{has_written_of_eq}
use Rattle.std.specs.Fmt.{decimal}
use Rattle.tf_config_refusal.specs.Refusal.{detail_of}
use Rattle.tf_config_refusal.specs.Text.{detail_text}
use Rattle.tf_config_refusal.proofs.refusal.RefusalDisplay.fmt.Goals as goal

pub returns-in-Fault-clause-writes : goal.returns-in-Fault-clause-writes
returns-in-Fault-clause-writes g c = λ plain ok.
    let text : ℕ → List ℕ → List ℕ = λ number name. codes "error " ++ decimal number ++ codes " at " ++ string_bytes c.in-Fault.place ++ codes ": " ++ name ++ detail_text (detail_of c.in-Fault.detail) in
    rw c.in-Fault.is (has_written_of_eq _ _ _ _ _ (◌∙◌ {b = text c.number-number.result c.name-name.result.now} (simp append_assoc) (ap₂ text c.number-number.ensures c.name-name.ensures)) (c.write-in-Fault.ensures.writes plain ok))
