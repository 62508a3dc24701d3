-- How one output is reported and saved.
use Rattle.std.specs.Prelude.{◌≡◌, ℕ, List, ⊤, ◌⊎◌}
use Rattle.tf_walk_outputs.specs.Outputs.{OutputResultView, not_evaluated, excused, valued, faulted, end_of, with_output}
use Rattle.tf_walk_outputs.specs.declared.ends.EvaluatedOutput.{EvaluatedOutput}
use Rattle.tf_walk_outputs.specs.declared.ends.EvaluatedOutput.TheVariants.{NotEvaluated, NoMemory, Faulted, Valued}
use Rattle.tf_walk_outputs.specs.declared.ends.OutputResult.{OutputResult}
use Rattle.tf_value_data.specs.Stored.{MayBeStored}
use Rattle.tf_value_data.specs.Tree.{Entries, tree_of}

-- an output's outcome as plain data
abbrev pub done_of : EvaluatedOutput → OutputResultView
done_of NotEvaluated = not_evaluated
done_of NoMemory = excused
done_of (Faulted why) = faulted why
done_of (Valued object) = valued (tree_of object.value)

-- the value, if there is one, may be stored
abbrev pub MayBeSaved : OutputResultView → Type 0
MayBeSaved (valued t) = MayBeStored t
MayBeSaved _ = ⊤

-- the final outcome of an output: the same, or excused if memory runs out for the entry of its value
abbrev pub IsSameOrExcused : OutputResultView → OutputResultView → Type 0
IsSameOrExcused (valued t) kept = (kept ≡ valued t) ⊎ (kept ≡ excused)
IsSameOrExcused done kept = kept ≡ done

-- an output is reported and saved by its outcome
pub record IsKept (name : List ℕ) (done : OutputResultView) (end : OutputResult) (before after : Entries) : Type 0 where
  pub kept : OutputResultView
  pub same : IsSameOrExcused done kept
  pub told : end ≡ end_of kept
  pub saves : after ≡ with_output name kept before
