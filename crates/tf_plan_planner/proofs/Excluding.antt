-- Where the instances of all resources can be told, and aren't too many, nothing is refused of them.
use Rattle.std.proofs.Common.{◌≡◌, ◌∙◌, ◌<◌, ◌+◌, ℕ, zero, suc, List, length, Result, Ok, Err, refl, sym, ap, ap₂, arith}
use Rattle.tf_config_data.specs.Names.{NameView, directly_before, meant_at}
use Rattle.tf_expand_keys.specs.InstanceKeys.{InstanceKeysView}
use Rattle.tf_expand_keys.specs.declared.repetition.RepetitionFault.{RepetitionFault}
use Rattle.tf_expand_keys.specs.Expanding.{expanded, instance_count, instances_before}
use Rattle.tf_graph.specs.Solutions.{Ranked}
use Rattle.tf_plan_planner.proofs.Solved.{instances-by, one_shape}
use Rattle.tf_plan_planner.specs.Planned.{AreInstances}
use Rattle.tf_plan_planner.specs.Refused.{AreManyInstances, IsUnexpanded}
use Rattle.tf_config_refusal.specs.Refusal.{RefusalView}
use Rattle.tf_value_data.specs.Tree.{Entries}

-- what has a shape isn't refused
pub no_fault : (s : InstanceKeysView) (why : RepetitionFault) (r : Result InstanceKeysView RepetitionFault) → r ≡ Ok s → r ≡ Err why → ⊥
no_fault s why r e f = let no : ◌≡◌ {A = Result InstanceKeysView RepetitionFault} (Ok s) (Err why) = sym e ∙ f in absurd (cc)

-- the same shapes have as many instances
pub same_count : (names : List NameView) (shapes others : ℕ → InstanceKeysView) (n : ℕ) → ((m : ℕ) → m < n → shapes m ≡ others m) → instances_before names shapes n ≡ instances_before names others n
same_count names shapes others zero same = refl
same_count names shapes others (suc n) same =
    ap₂ (λ (a b : ℕ). a + b) (same_count names shapes others n (λ m h. same m (omega (arith, h)))) (ap (λ (s : InstanceKeysView). instance_count (meant_at names n) s) (same n (omega arith)))

module _ (variables : Entries) (names : List NameView) (ranked : Ranked (directly_before names)) (shapes : ℕ → InstanceKeysView) (instances : AreInstances variables names shapes) where
  pub none_unexpanded : (refusal_views : List RefusalView) → IsUnexpanded variables names refusal_views → ⊥
  none_unexpanded refusal_views h =
      no_fault (shapes h.place) h.why (expanded variables names h.resolved_names h.place) ((instances-by variables names ranked shapes instances h.resolved_names h.stand).each h.place h.first.inside) h.first.refused

  pub not_many : (refusal_views : List RefusalView) → AreManyInstances variables names refusal_views → ⊥
  not_many refusal_views h =
      let own = instances-by variables names ranked shapes instances h.resolved_names h.stand in
      let same : instances_before names shapes (length names) ≡ instances_before names h.many.shapes (length names) =
      same_count names shapes h.many.shapes (length names) (λ m below. one_shape (shapes m) (h.many.shapes m) (expanded variables names h.resolved_names m) (own.each m below) (h.many.each m below)) in
      absurd (omega (arith, same, h.many.more, own.few))
