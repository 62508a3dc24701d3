-- A refusal as plain data.
use Rattle.std.specs.Prelude.{ℕ, List, map, string_bytes}
use Rattle.tf_expr_syntax.specs.declared.fault.EvalFault.{EvalFault}
use Rattle.tf_config_refusal.specs.declared.code.Code.{Code}
use Rattle.tf_config_refusal.specs.declared.refusal.Detail.{Detail}
use Rattle.tf_config_refusal.specs.declared.refusal.Detail.TheVariants as details
use Rattle.tf_config_refusal.specs.declared.refusal.Refusal.{Refusal}
use Rattle.tf_config_refusal.specs.declared.refusal.Refusal.TheVariants as refusals

-- what follows a refusal's name: nothing, a byte offset, the names of a cycle, or how an evaluation failed
pub data DetailView : Type 0 where
  bare : DetailView
  at : ℕ → DetailView
  names : List (List ℕ) → DetailView
  kind : EvalFault → DetailView

-- a refusal: memory ran out, the number of workers is wrong, or a fault with its code, its place and its detail
pub data RefusalView : Type 0 where
  no_memory : RefusalView
  workers : RefusalView
  fault : Code → List ℕ → DetailView → RefusalView

-- a refusal's code and detail
abbrev pub Way : Type 0
Way = Code × DetailView

abbrev pub detail_of : Detail → DetailView
detail_of details.Bare = bare
detail_of (details.At offset) = at offset
detail_of (details.Names texts) = names (map string_bytes texts.items)
detail_of (details.Kind why) = kind why

abbrev pub refusal_of : Refusal → RefusalView
refusal_of refusals.OutOfMemory = no_memory
refusal_of refusals.Workers = workers
refusal_of (refusals.Fault code place detail) = fault code (string_bytes place) (detail_of detail)
