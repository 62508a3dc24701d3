-- What an apply reports of outputs.
use Rattle.std.specs.Prelude.{ℕ, ◌+◌, List, [], ◌∷◌, ◌++◌, codes, None}
use Rattle.tf_config_refusal.specs.declared.code.Code.TheVariants as code
use Rattle.tf_walk_action.specs.Message.{evaluation_text}
use Rattle.tf_walk_action.specs.declared.excuse.Excuse.{Excuse}
use Rattle.tf_walk_action.specs.declared.excuse.Excuse.TheVariants.{Output}
use Rattle.tf_walk_outputs.specs.declared.ends.OutputResult.{OutputResult}
use Rattle.tf_walk_outputs.specs.declared.ends.OutputResult.TheVariants.{NotEvaluated, NoMemory, Faulted, Valued}
use Rattle.tf_expr_syntax.specs.ExprTree.{Entries, entry}
use Rattle.tf_walk_report.specs.Diagnostics.{DiagnosticView}

-- `output.NAME`
abbrev pub output_place : List ℕ → List ℕ
output_place name = codes "output." ++ name

-- A fault is 24, and running out of memory 26. An output that wasn't evaluated, or has a value, has no diagnostic.
abbrev pub diagnostics_of_output : List ℕ → OutputResult → List DiagnosticView
diagnostics_of_output place (Faulted why) = record { code = code.ArgumentFault; place = place; verb = None; message = evaluation_text why } ∷ []
diagnostics_of_output place NoMemory = record { code = code.NoMemory; place = place; verb = None; message = codes "no memory" } ∷ []
diagnostics_of_output place NotEvaluated = []
diagnostics_of_output place Valued = []

-- the diagnostics of outputs, by name
abbrev pub output_diagnostics : Entries → List OutputResult → List DiagnosticView
output_diagnostics (entry name e es) (end ∷ ends) = diagnostics_of_output (output_place name) end ++ output_diagnostics es ends
output_diagnostics _ _ = []

-- the excuse of the output at an index, if memory ran out for it
abbrev pub output_excuses_at : ℕ → OutputResult → List Excuse
output_excuses_at n NoMemory = Output n ∷ []
output_excuses_at n _ = []

-- the excuses of outputs, each once and by name, if the first one has the given index
abbrev pub output_excuses : ℕ → List OutputResult → List Excuse
output_excuses n [] = []
output_excuses n (end ∷ ends) = output_excuses_at n end ++ output_excuses (n + 1) ends
