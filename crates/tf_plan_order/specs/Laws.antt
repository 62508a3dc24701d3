-- What holds of the order of actions, whatever the state has stored and whichever resources are late.
use Rattle.std.specs.Prelude.{◌≡◌, ◌≢◌, ◌≤◌, ◌<◌, ◌↔◌, ℕ, Bool, true, false, List, length, Contains}
use Rattle.tf_graph.specs.Closure.{IsClosure, Table, reaches}
use Rattle.tf_graph.specs.Digraph.{Digraph, edge_at}
use Rattle.tf_graph.specs.Path.{Path, IsAcyclic}
use Rattle.tf_plan_order.specs.Before.{Before, is_before}
use Rattle.tf_plan_order.specs.Late.{AreLate}
use Rattle.tf_plan_order.specs.Order.{action_at, pairs}
use Rattle.tf_plan_order.specs.OrderInput.{OrderInputView, order_input_of, AreSound, IsStrict}
use Rattle.tf_plan_order.specs.declared.action.OrderedAction.{OrderedAction}
use Rattle.tf_plan_order.specs.declared.action.ActionKind.{ActionKind}
use Rattle.tf_plan_order.specs.declared.action.ActionKind.TheVariants.{Apply, Destroy, DestroyDeposed}
use Rattle.tf_plan_order.specs.declared.order_input.OrderInput.{OrderInput}

-- The test is true exactly if the one is before the other.
abbrev pub BeforeIsTested : Type 0
BeforeIsTested = (t : OrderInputView) (x y : OrderedAction) → (is_before t x y ≡ true) ↔ Before t x y

-- No chain leads from an action back to it.
abbrev pub NoChainLeadsBack : Type 0
NoChainLeadsBack = (t : OrderInputView) → AreSound t → (x : OrderedAction) → Path (Before t) x x → ⊥

abbrev pub stage_by : ActionKind → Bool → ℕ
stage_by Apply late = 1
stage_by Destroy false = 0
stage_by Destroy true = 2
stage_by DestroyDeposed false = 0
stage_by DestroyDeposed true = 2

-- the three stages: destroys that aren't late, creates and updates, late destroys
abbrev pub stage : OrderInputView → OrderedAction → ℕ
stage t x = stage_by x.kind (t.late x.resource)

-- No pair leads to an earlier stage.
abbrev pub StagesNeverFall : Type 0
StagesNeverFall = (t : OrderInputView) → AreSound t → (x y : OrderedAction) → Before t x y → stage t x ≤ stage t y

-- Within a stage, *before* is a strict order.
abbrev pub StageIsStrict : Type 0
StageIsStrict =
    (t : OrderInputView) → AreSound t
    → ((x : OrderedAction) → Before t x x → ⊥)
    × ((x y z : OrderedAction) → stage t x ≡ stage t y → stage t y ≡ stage t z → Before t x y → Before t y z → Before t x z)

-- The list of pairs holds exactly those whose first is before the second, and each once.
abbrev pub PairsAreThose : Type 0
PairsAreThose =
    (t : OrderInputView) (actions : List OrderedAction)
    → ((a b : ℕ) → Contains (pairs t actions) (a, b) ↔ ((a < length actions) × (b < length actions) × Before t (action_at actions a) (action_at actions b)))
    × ((i j : ℕ) → i < j → j < length (pairs t actions) → edge_at (pairs t actions) i ≢ edge_at (pairs t actions) j)

-- If no node of a graph reaches itself, its closure is a strict order.
abbrev pub AcyclicIsStrict : Type 0
AcyclicIsStrict = (g : Digraph) (table : Table) → IsAcyclic g → IsClosure g table → IsStrict (λ a b. reaches table b a)

-- The order's input is sound if nothing needs itself by the configuration, whatever the state has stored and whatever
-- is marked.
abbrev pub OrderInputIsSound : Type 0
OrderInputIsSound =
    (needs needed : Digraph) (marked : List Bool) (t : OrderInput)
    → IsStrict (order_input_of t).needs → IsClosure needed t.by_state.now → AreLate needs needed marked t.late.now
    → AreSound (order_input_of t)

-- So no chain leads back, whatever the state has stored and whatever is marked.
abbrev pub NoStateLeadsBack : Type 0
NoStateLeadsBack =
    (needs needed : Digraph) (marked : List Bool) (t : OrderInput)
    → IsStrict (order_input_of t).needs → IsClosure needed t.by_state.now → AreLate needs needed marked t.late.now
    → (x : OrderedAction) → Path (Before (order_input_of t)) x x → ⊥
