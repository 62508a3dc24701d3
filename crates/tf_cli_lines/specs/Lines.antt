-- Printed lines, and their beginnings.
use Rattle.std.specs.Prelude.{ℕ, List, [], ◌∷◌, ◌++◌, codes, decimal, Option, Some, None}
use Rattle.tf_config_refusal.specs.Refusal.{RefusalView}
use Rattle.tf_config_refusal.specs.Text.{refusal_text}
use Rattle.tf_provider_protocol.specs.declared.request.Op.{Op}
use Rattle.tf_provider_protocol.specs.declared.request.Op.TheVariants as op

-- the line of a refusal
abbrev pub refusal_line : RefusalView → List ℕ
refusal_line t = refusal_text t ++ 10 ∷ []

-- `error CODE at PLACE: NAME`, up to the detail
abbrev pub fault_opening : ℕ → List ℕ → List ℕ → List ℕ
fault_opening code place name = codes "error " ++ (decimal code ++ (codes " at " ++ (place ++ (codes ": " ++ name))))

-- a space and the verb of an operation, or nothing without one
abbrev pub verb_text : Option Op → List ℕ
verb_text None = []
verb_text (Some op.Create) = codes " create"
verb_text (Some op.Update) = codes " update"
verb_text (Some op.Destroy) = codes " destroy"

-- the line that says that the state isn't written
abbrev pub unwritten_line : List ℕ
unwritten_line = codes "error: state not written\n"
