-- The outcomes of outputs after an apply.
use Rattle.std.specs.Prelude.{◌≡◌, ◌||◌, ℕ, Bool, true, false, if◌then◌else◌, List, [], ◌∷◌, map, Ok, Err, MatchBool, ⊤}
use Rattle.std.specs.Str.{bytes_eq}
use Rattle.tf_config_address.specs.ObjectId.{InstanceKeyView}
use Rattle.tf_config_data.specs.Names.{NameView}
use Rattle.tf_expand_keys.specs.InstanceKeys.{InstanceKeysView}
use Rattle.tf_expand_keys.specs.Stages.{applying}
use Rattle.tf_expand_keys.specs.Resolved.{ResolvedView, AreResolvedNames, environment}
use Rattle.tf_expr_eval.specs.ExprMeaning.{meaning}
use Rattle.tf_expr_operators.specs.Answer.{Answer}
use Rattle.tf_expr_syntax.specs.declared.fault.EvalFault.{EvalFault}
use Rattle.tf_expr_syntax.specs.declared.fault.EvalFault.TheVariants.{TooLarge}
use Rattle.tf_walk_outputs.specs.Settled.{names_are_settled}
use Rattle.tf_walk_outputs.specs.declared.ends.OutputResult.{OutputResult}
use Rattle.tf_walk_outputs.specs.declared.ends.OutputResult.TheVariants.{NotEvaluated, NoMemory, Faulted, Valued}
use Rattle.tf_walk_names.specs.Resolving.{without_sets}
use Rattle.tf_expr_syntax.specs.ExprTree as expr
use Rattle.tf_value_data.specs.Measure.{is_within}
use Rattle.tf_value_data.specs.Nulls.{with_nulls}
use Rattle.tf_value_data.specs.Tree.{Tree, null, Entries, no_entries, entry, put}

-- The outcome of an output: it isn't evaluated, memory runs out for it, it has a value, or it has a fault.
pub data OutputResultView : Type 0 where
  not_evaluated : OutputResultView
  excused : OutputResultView
  valued : Tree → OutputResultView
  faulted : EvalFault → OutputResultView

-- The outcome for an expression's answer: a value beyond the limits is a fault, and null is saved for each unknown
-- part.
abbrev pub done_with : Answer → OutputResultView
done_with (Ok t) = if is_within t then valued (with_nulls t) else faulted TooLarge
done_with (Err why) = faulted why

-- The outcome of an output's expression. The names have values in the apply. For all values that they may have there,
-- the outcome is that of the expression's meaning, with lists in place of sets.
pub record IsMeant (variables : Entries) (names : List NameView) (shapes : ℕ → InstanceKeysView) (objects : ℕ → InstanceKeyView → Tree) (e : expr.Tree) (done : OutputResultView) : Type 0 where
  pub resolved_names : ℕ → ResolvedView
  pub are_standings : AreResolvedNames (applying shapes objects) variables names resolved_names
  pub means : (others : ℕ → ResolvedView) → AreResolvedNames (applying shapes objects) variables names others → done ≡ done_with (without_sets (meaning (environment variables names others) e))

-- The outcome of an evaluated output: what its expression means, or excused because memory runs out.
abbrev pub IsEvaluated : Entries → List NameView → (ℕ → InstanceKeysView) → (ℕ → InstanceKeyView → Tree) → expr.Tree → OutputResultView → Type 0
IsEvaluated variables names shapes objects e not_evaluated = ⊥
IsEvaluated variables names shapes objects e excused = ⊤
IsEvaluated variables names shapes objects e done = IsMeant variables names shapes objects e done

-- An output is evaluated exactly if each name in it is settled.
abbrev pub IsOutputDone : Entries → List NameView → (ℕ → InstanceKeysView) → (ℕ → InstanceKeyView → Tree) → (ℕ → Bool) → expr.Tree → OutputResultView → Type 0
IsOutputDone variables names shapes objects settled e done =
    MatchBool (names_are_settled names settled e) (IsEvaluated variables names shapes objects e done) (done ≡ not_evaluated)

-- the outcome of each output, in byte order of their names
abbrev pub AreOutputsDone : Entries → List NameView → (ℕ → InstanceKeysView) → (ℕ → InstanceKeyView → Tree) → (ℕ → Bool) → expr.Entries → List OutputResultView → Type 0
AreOutputsDone variables names shapes objects settled expr.no_entries [] = ⊤
AreOutputsDone variables names shapes objects settled expr.no_entries (d ∷ ds) = ⊥
AreOutputsDone variables names shapes objects settled (expr.entry name e es) [] = ⊥
AreOutputsDone variables names shapes objects settled (expr.entry name e es) (d ∷ ds) =
    IsOutputDone variables names shapes objects settled e d × AreOutputsDone variables names shapes objects settled es ds

abbrev pub is_null : Tree → Bool
is_null null = true
is_null _ = false

-- entries without the one of a name, if there is one
abbrev pub without : List ℕ → Entries → Entries
without name no_entries = no_entries
without name (entry k t es) = if bytes_eq name k then es else entry k t (without name es)

-- A value is saved under the output's name, in place of an earlier entry. If it is null there is no entry. Without a
-- value the earlier entry stays.
abbrev pub with_output : List ℕ → OutputResultView → Entries → Entries
with_output name (valued t) found = if is_null t then without name found else put name t found
with_output name _ found = found

abbrev pub with_outputs : expr.Entries → List OutputResultView → Entries → Entries
with_outputs (expr.entry name e es) (d ∷ ds) found = with_outputs es ds (with_output name d found)
with_outputs _ _ found = found

-- whether an output of a name is declared
abbrev pub is_declared : expr.Entries → List ℕ → Bool
is_declared expr.no_entries name = false
is_declared (expr.entry k e es) name = bytes_eq name k || is_declared es name

-- the prior entries of outputs that are still declared
abbrev pub kept_entries : expr.Entries → Entries → Entries
kept_entries es no_entries = no_entries
kept_entries es (entry k t found) = if is_declared es k then entry k t (kept_entries es found) else kept_entries es found

-- The outputs after an apply, in byte order of their names: for each declared one the entry of its value, or its prior
-- entry if it has no value.
abbrev pub outputs_after : Entries → expr.Entries → List OutputResultView → Entries
outputs_after prior es ds = with_outputs es ds (kept_entries es prior)

-- the outputs after the first apply
abbrev pub saved_outputs : expr.Entries → List OutputResultView → Entries
saved_outputs es ds = with_outputs es ds no_entries

-- the reported outcome of an output
abbrev pub end_of : OutputResultView → OutputResult
end_of not_evaluated = NotEvaluated
end_of excused = NoMemory
end_of (valued t) = Valued
end_of (faulted why) = Faulted why

-- Each output has an outcome. These are reported, and saved into the entries that were kept.
pub record AreOutputsEnded (variables : Entries) (names : List NameView) (shapes : ℕ → InstanceKeysView) (objects : ℕ → InstanceKeyView → Tree) (settled : ℕ → Bool) (kept : Entries) (outputs : expr.Entries) (ends : List OutputResult) (saved : Entries) : Type 0 where
  pub dones : List OutputResultView
  pub each : AreOutputsDone variables names shapes objects settled outputs dones
  pub told : ends ≡ map end_of dones
  pub saves : saved ≡ with_outputs outputs dones kept
