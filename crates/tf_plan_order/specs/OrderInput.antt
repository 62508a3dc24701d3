-- The dependencies and lateness of resources. A resource is a number.
use Rattle.std.specs.Prelude.{◌≡◌, ℕ, Bool, true, false, slice_index_or}
use Rattle.tf_graph.specs.Closure.{reaches}
use Rattle.tf_plan_order.specs.declared.order_input.OrderInput.{OrderInput}

-- `needs a b`: by the configuration a needs b. `needed a b`: by the dependencies that the state has stored, a needed b
-- when it was made. The replacement of an object of a late resource is created before that object is destroyed.
pub record OrderInputView : Type 0 where
  pub needs : ℕ → ℕ → Bool
  pub needed : ℕ → ℕ → Bool
  pub late : ℕ → Bool

-- two tables, which lead from what is needed to what needs it, and a mark for each resource
abbrev pub order_input_of : OrderInput → OrderInputView
order_input_of t = record {
  needs = λ a b. reaches t.by_configuration.now b a;
  needed = λ a b. reaches t.by_state.now b a;
  late = λ a. slice_index_or t.late.now a false;
}

-- nothing needs itself, and need is transitive
pub record IsStrict (needs : ℕ → ℕ → Bool) : Type 0 where
  pub irreflexive : (a : ℕ) → needs a a ≡ false
  pub transitive : (a b c : ℕ) → needs a b ≡ true → needs b c ≡ true → needs a c ≡ true

-- Nothing needs itself by the configuration, but what the state has stored may have cycles. The relation `needed` is
-- transitive, and what a late resource needed is late.
pub record AreSound (t : OrderInputView) : Type 0 where
  pub strict : IsStrict t.needs
  pub onward : (a b c : ℕ) → t.needed a b ≡ true → t.needed b c ≡ true → t.needed a c ≡ true
  pub spreads : (a b : ℕ) → t.late a ≡ true → t.needed a b ≡ true → t.late b ≡ true
