-- Laws on settled names and on outputs.
use Rattle.std.specs.Prelude.{◌≡◌, ◌<◌, ◌↔◌, ℕ, Bool, true, List, Some, Contains, length}
use Rattle.tf_config_address.specs.ObjectId.{InstanceKeyView}
use Rattle.tf_config_data.specs.Config.{BlockView}
use Rattle.tf_config_data.specs.Names.{NameView, a_local, a_block, meant_at, directly_before, places}
use Rattle.tf_expand_keys.specs.InstanceKeys.{InstanceKeysView}
use Rattle.tf_graph.specs.Solutions.{Ranked}
use Rattle.tf_walk_outputs.specs.Outputs.{OutputResultView, excused, IsOutputDone}
use Rattle.tf_walk_outputs.specs.Settled.{AreSettled, names_are_settled}
use Rattle.tf_expr_syntax.specs.ExprNames.{named_by}
use Rattle.tf_expr_syntax.specs.ExprTree as expr
use Rattle.tf_value_data.specs.Tree.{Tree, Entries}

-- If no name needs itself, there is at most one set of settled names.
abbrev pub SettledAreOne : Type 0
SettledAreOne =
    (names : List NameView) (good settled others : ℕ → Bool) → Ranked (directly_before names)
    → AreSettled names good settled → AreSettled names good others → (n : ℕ) → n < length names → settled n ≡ others n

abbrev pub SettledExist : Type 0
SettledExist = (names : List NameView) (good : ℕ → Bool) → Ranked (directly_before names) → (settled : ℕ → Bool) × AreSettled names good settled

-- A name leads to a resource, itself or through locals: it is the resource's own name, or that of a local that refers
-- to a name that leads to it.
pub data StandsFor (names : List NameView) : ℕ → ℕ → Type 0 where
  itself : (n : ℕ) (block : BlockView) → meant_at names n ≡ Some (a_block block) → StandsFor names n n
  through : (n a b : ℕ) (e : expr.Tree) → meant_at names n ≡ Some (a_local e) → Contains (directly_before names n) a → StandsFor names a b → StandsFor names n b

-- An output's resources are those that it names itself or through locals, and not those that such a resource needs. The
-- output is evaluated exactly if all creates and updates of each of its resources are good.
abbrev pub EvaluatedWhereGood : Type 0
EvaluatedWhereGood =
    (names : List NameView) (good settled : ℕ → Bool) (e : expr.Tree) → Ranked (directly_before names) → AreSettled names good settled
    → (names_are_settled names settled e ≡ true) ↔ ((a b : ℕ) → Contains (places names (named_by e)) a → StandsFor names a b → good b ≡ true)

-- An output has at most one outcome, apart from being excused.
abbrev pub OutputsAreOne : Type 0
OutputsAreOne =
    (variables : Entries) (names : List NameView) (shapes : ℕ → InstanceKeysView) (objects : ℕ → InstanceKeyView → Tree) (settled : ℕ → Bool) (e : expr.Tree) (d other : OutputResultView)
    → Ranked (directly_before names) → IsOutputDone variables names shapes objects settled e d → IsOutputDone variables names shapes objects settled e other
    → (d ≡ excused → ⊥) → (other ≡ excused → ⊥) → d ≡ other
