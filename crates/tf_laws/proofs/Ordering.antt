-- The order of actions is one.
use Rattle.std.proofs.Common.{◌≡◌, ◌∙◌, ◌<◌, ◌≤◌, ◌+◌, ◌++◌, ◌&&◌, ◌||◌, ℕ, zero, suc, Bool, true, not, if◌then◌else◌, List, [], ◌∷◌, Some, length, map, refl, sym, ap, arith}
use Rattle.std.specs.List.{AllByRecursion, flat_map, range_with_len}
use Rattle.tf_plan_data.specs.Action.{ActionView, StepView, create, update, replacement, replaced, destroyed, deposed_destroyed}
use Rattle.tf_plan_data.specs.Precedence.{kind_of, ordered}
use Rattle.tf_config_data.specs.Config.{BlockView}
use Rattle.tf_config_data.specs.Names.{NameView, a_block, meant_at}
use Rattle.tf_graph.specs.Digraph.{Digraph}
use Rattle.tf_plan_planner.proofs.Tied.{late_same, needed_same}
use Rattle.tf_plan_planner.specs.Ordered.{AreTied, IsOrdered, action_pairs}
use Rattle.tf_plan_data.specs.Fits.{IsDeclared, is_apply}
use Rattle.tf_plan_order.specs.Before.{are_halves, is_before, is_before_by}
use Rattle.tf_plan_order.specs.Order.{action_at, pair, pairs, pairs_into}
use Rattle.tf_plan_order.specs.OrderInput.{OrderInputView}
use Rattle.tf_plan_order.specs.declared.action.OrderedAction.{OrderedAction}
use Rattle.tf_plan_order.specs.declared.action.ActionKind.{ActionKind}
use Rattle.tf_plan_order.specs.declared.action.ActionKind.TheVariants.{Apply, Destroy, DestroyDeposed}
use Rattle.tf_state_data.specs.Resource.{ResourceView}

-- ---- lists

flat_same : {A B : Type 0} (f g : A → List B) (xs : List A) → AllByRecursion (λ x. f x ≡ g x) xs → flat_map f xs ≡ flat_map g xs
flat_same f g [] h = refl
flat_same f g (x ∷ xs) h = let first = h.0 in let rest = flat_same f g xs h.1 in λ i. first i ++ rest i

in_range : (P : ℕ → Type 0) (a n : ℕ) → ((k : ℕ) → a ≤ k → k < a + n → P k) → AllByRecursion P (range_with_len a n)
in_range P a zero h = tt
in_range P a (suc n) h = (h a (omega arith) (omega arith), in_range P (a + 1) n (λ k low high. h k (omega (arith, low)) (omega (arith, high))))

-- ---- by the same ties the same is before

-- what ties resources together, but for what they need by the configuration
pub record AreTiedAlike (t u : OrderInputView) : Type 0 where
  pub needed : (a b : ℕ) → t.needed a b ≡ u.needed a b
  pub late : (n : ℕ) → t.late n ≡ u.late n

-- what an action's resource needs is the same where the action makes or changes an object
abbrev NeedsAlike : OrderInputView → OrderInputView → OrderedAction → Type 0
NeedsAlike t u x = x.kind ≡ Apply → (m : ℕ) → t.needs x.resource m ≡ u.needs x.resource m

module _ (t u : OrderInputView) (alike : AreTiedAlike t u) where
  destroyed_same : (x y : OrderedAction) → (t.needed x.resource y.resource && not (t.needed y.resource x.resource)) ≡ (u.needed x.resource y.resource && not (u.needed y.resource x.resource))
  destroyed_same x y = let one = alike.needed x.resource y.resource in let other = alike.needed y.resource x.resource in λ i. one i && not (other i)

  before_by : (x y : OrderedAction) (k l : ActionKind) → x.kind ≡ k → y.kind ≡ l → NeedsAlike t u x → NeedsAlike t u y → is_before_by t x y k l ≡ is_before_by u x y k l
  before_by x y Apply Apply e f own other = other f x.resource
  before_by x y Apply Destroy e f own other =
      let late = alike.late y.resource in
      let needs = own e y.resource in
      let needed = alike.needed x.resource y.resource in
      λ i. late i && (are_halves x y || (needs i || needed i))
  before_by x y Apply DestroyDeposed e f own other =
      let late = alike.late y.resource in
      let needs = own e y.resource in
      let needed = alike.needed x.resource y.resource in
      λ i. late i && (needs i || needed i)
  before_by x y Destroy Apply e f own other = let late = alike.late x.resource in λ i. are_halves x y && not (late i)
  before_by x y Destroy Destroy e f own other = destroyed_same x y
  before_by x y Destroy DestroyDeposed e f own other = destroyed_same x y
  before_by x y DestroyDeposed Apply e f own other = refl
  before_by x y DestroyDeposed Destroy e f own other = destroyed_same x y
  before_by x y DestroyDeposed DestroyDeposed e f own other = destroyed_same x y

  before_same : (x y : OrderedAction) → NeedsAlike t u x → NeedsAlike t u y → is_before t x y ≡ is_before u x y
  before_same x y own other = before_by x y x.kind y.kind refl refl own other

  pair_same : (actions : List OrderedAction) (second first : ℕ) → NeedsAlike t u (action_at actions first) → NeedsAlike t u (action_at actions second) → pair t actions second first ≡ pair u actions second first
  pair_same actions second first own other = ap (λ (b : Bool). if b then (first, second) ∷ [] else []) (before_same (action_at actions first) (action_at actions second) own other)

  pairs_same : (actions : List OrderedAction) → ((k : ℕ) → k < length actions → NeedsAlike t u (action_at actions k)) → pairs t actions ≡ pairs u actions
  pairs_same actions each =
      flat_same (pairs_into t actions) (pairs_into u actions) (range_with_len 0 (length actions))
      (in_range (λ second. pairs_into t actions second ≡ pairs_into u actions second) 0 (length actions)
      (λ second low high.
      flat_same (pair t actions second) (pair u actions second) (range_with_len 0 (length actions))
      (in_range (λ first. pair t actions second first ≡ pair u actions second first) 0 (length actions) (λ first low_too high_too. pair_same actions second first (each first (omega (arith, high_too))) (each second (omega (arith, high)))))))

-- ---- actions that make or change an object are of blocks

applies : (s : StepView) → kind_of s ≡ Apply → is_apply s ≡ true
applies (create asked) e = refl
applies (update prior asked names) e = refl
applies (replacement asked names) e = refl
applies (replaced prior) e = absurd (cc)
applies (destroyed prior) e = absurd (cc)
applies (deposed_destroyed key prior) e = absurd (cc)

-- what each block needs is the same
abbrev pub BlocksNeedAlike : List NameView → (ℕ → ℕ → Bool) → (ℕ → ℕ → Bool) → Type 0
BlocksNeedAlike names needs others = (n : ℕ) (block : BlockView) → meant_at names n ≡ Some (a_block block) → (m : ℕ) → needs n m ≡ others n m

alike_at : (names : List NameView) (t u : OrderInputView) → BlocksNeedAlike names t.needs u.needs → (actions : List ActionView) → AllByRecursion (IsDeclared names) actions → (k : ℕ) → k < length (map ordered actions)
    → NeedsAlike t u (action_at (map ordered actions) k)
alike_at names t u blocks [] declared k h = absurd (omega (arith, h))
alike_at names t u blocks (a ∷ actions) declared zero h = λ kind m. let of_block = declared.0 (applies a.step kind) in blocks a.resource of_block.block of_block.stands m
alike_at names t u blocks (a ∷ actions) declared (suc k) h = alike_at names t u blocks actions declared.1 k (omega (arith, h))

-- by two ties of one configuration and one state the same pairs of actions are in order
pub one_pairs : (names : List NameView) (resources : List ResourceView) (t u : OrderInputView) → AreTied names resources t → AreTied names resources u → BlocksNeedAlike names t.needs u.needs → (actions : List ActionView)
    → AllByRecursion (IsDeclared names) actions → action_pairs t actions ≡ action_pairs u actions
one_pairs names resources t u tied also blocks actions declared =
    pairs_same t u (record { needed = needed_same names resources t u tied also; late = late_same names resources resources t u tied also refl refl }) (map ordered actions) (alike_at names t u blocks actions declared)

-- so the order of actions is one
pub one_ordered : (names : List NameView) (resources : List ResourceView) (needs others : ℕ → ℕ → Bool) (late later : ℕ → Bool) (actions same : List ActionView) (order also : Digraph) → BlocksNeedAlike names needs others
    → AllByRecursion (IsDeclared names) actions → actions ≡ same → IsOrdered names resources needs late actions order → IsOrdered names resources others later same also → order ≡ also
one_ordered names resources needs others late later actions same order also blocks declared e is too =
    let t : OrderInputView = record { needs = needs; needed = is.needed; late = late } in
    let u : OrderInputView = record { needs = others; needed = too.needed; late = later } in
    let nodes : order.nodes ≡ also.nodes = is.nodes ∙ ap (λ (xs : List ActionView). length xs) e ∙ sym too.nodes in
    let edges : order.edges ≡ also.edges = is.edges ∙ one_pairs names resources t u is.tied too.tied blocks actions declared ∙ ap (action_pairs u) e ∙ sym too.edges in
    λ i. record { nodes = nodes i; edges = edges i }
