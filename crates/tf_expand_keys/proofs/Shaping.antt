-- Shapes, name after name.
use Rattle.std.proofs.Common.{◌≡◌, ◌<◌, ◌≤◌, ◌+◌, ℕ, Bool, true, false, if◌then◌else◌, List, [], ◌∷◌, ◌++◌, map, length, min, Option, Some, Result, Ok, Err, refl, sym, ap, ◌∙◌, arith, inl, inr}
use Rattle.std.proofs.lemmas.Bool.{cases_eq}
use Rattle.std.proofs.lemmas.List.{get_or_append_left, get_or_push, length_push, length-map, map_push}
use Rattle.std.specs.List.{AllByRecursion}
use Rattle.tf_config_data.specs.Names.{NameView, Meant, a_block, meant_at, block_refers, directly_before}
use Rattle.tf_graph.specs.Solutions.{seen_by}
use Rattle.tf_graph.proofs.Edges.{all_by_contained}
use Rattle.tf_graph.proofs.Solving.{seen_by-same}
use Rattle.tf_config_names.specs.Needs.{IsDependence}
use Rattle.tf_config_names.specs.declared.dependence.Dependence.{Dependence}
use Rattle.tf_value_data.specs.Tree.{Entries}
use Rattle.tf_expr_eval.proofs.Locality.{expressions_local}
use Rattle.tf_expand_keys.specs.InstanceKeys.{InstanceKeysView, one}
use Rattle.tf_expand_keys.specs.Resolved.{ResolvedView, all_stand, environment}
use Rattle.tf_expand_keys.specs.Views.{shape_of, shapes_of}
use Rattle.tf_expand_keys.specs.declared.repetition.RepetitionFault.{RepetitionFault}
use Rattle.tf_expand_keys.specs.declared.shape.InstanceKeys.{InstanceKeys}
use Rattle.tf_expand_keys.proofs.Locals.{block_local}
use Rattle.tf_expand_keys.proofs.Seen.{agree_on}
use Rattle.tf_expand_keys.specs.Expanding.{max_instances, shape_in, expanded, instances_before, AreExpanded, IsFirstRefused, AreTooMany}
use Rattle.tf_expand_keys.specs.Needed.{is_resource, IsNeeded}
use Rattle.tf_expand_keys.specs.Told.{HaveShapes, Shapes, Refuses}
use Rattle.tf_expand_keys.specs.declared.expansion.ExpansionFault.{ExpansionFault}
use Rattle.tf_expand_keys.specs.declared.expansion.ExpansionFault.TheVariants.{OutOfMemory, Resource, TooMany}

-- the shapes of the names before a place
pub record HaveShapesBefore (variables : Entries) (names : List NameView) (resolved_names : ℕ → ResolvedView) (n : ℕ) (shapes : List InstanceKeys) : Type 0 where
  pub long : length shapes ≡ n
  pub each : (m : ℕ) → m < n → expanded variables names resolved_names m ≡ Ok (shapes_of shapes m)

-- one shape more
pub shapes_more : (variables : Entries) (names : List NameView) (resolved_names : ℕ → ResolvedView) (n : ℕ) (shapes now : List InstanceKeys) (shape : InstanceKeys) → now ≡ shapes ++ shape ∷ []
    → Ok (shape_of shape) ≡ expanded variables names resolved_names n → HaveShapesBefore variables names resolved_names n shapes → HaveShapesBefore variables names resolved_names (n + 1) now
shapes_more variables names resolved_names n shapes now shape is worked inv = rw is (record {
  long = length_push shapes shape ∙ ap (λ k. k + 1) inv.long;
  each = λ m h. rw (map_push shape_of shapes shape)
      let long : length (map shape_of shapes) ≡ n = length-map shapes shape_of ∙ inv.long in
      elim (cases_eq m n) [
        | inl here ↦ rw (get_or_push (map shape_of shapes) (shape_of shape) one m (long ∙ sym here), here) (sym worked)
        | inr other ↦ rw (get_or_append_left (map shape_of shapes) (shape_of shape ∷ []) one m (omega (arith, long))) (inv.each m (omega arith))
      ];
})

-- the first that is refused
pub first_refused : (variables : Entries) (names : List NameView) (resolved_names : ℕ → ResolvedView) (n : ℕ) (shapes : List InstanceKeys) (why : RepetitionFault) → n < length names
    → Err why ≡ expanded variables names resolved_names n → HaveShapesBefore variables names resolved_names n shapes → IsFirstRefused variables names resolved_names n why
first_refused variables names resolved_names n shapes why h refused inv = record { inside = h; refused = sym refused; first = λ m k. (shapes_of shapes m, inv.each m k) }

one_anyway : (b : Bool) → ◌≡◌ {A = Result InstanceKeysView RepetitionFault} (if b then Ok one else Ok one) (Ok one)
one_anyway true = refl
one_anyway false = refl

-- resolved names that are the same where a resource needs something give each name the same
expanded_same : (variables : Entries) (names : List NameView) (d : Dependence) (kept resolved_names : ℕ → ResolvedView) → IsDependence names d
    → ((a : ℕ) → IsNeeded names d a → kept a ≡ resolved_names a) → (n : ℕ) → expanded variables names kept n ≡ expanded variables names resolved_names n
expanded_same variables names d kept resolved_names is h n = by_meaning (meant_at names n) refl
  where
    shaped : Option Meant → (ℕ → ResolvedView) → Result InstanceKeysView RepetitionFault
    shaped m by = if all_stand (seen_by by (directly_before names n)) then shape_in m (environment variables names by) else Ok one

    by_meaning : (m : Option Meant) → meant_at names n ≡ m → shaped m kept ≡ shaped m resolved_names
    by_meaning (Some (a_block b)) here =
        let along : AllByRecursion (λ a. kept a ≡ resolved_names a) (directly_before names n) =
        all_by_contained (λ a. kept a ≡ resolved_names a) (directly_before names n) (λ a held. h a (record { name = n; is_one = ap is_resource here; needs = is.direct n a held })) in
        let agree = agree_on variables names kept resolved_names (block_refers b) (rw here at along) in
        rw (
          seen_by-same kept resolved_names (directly_before names n) along,
          block_local expressions_local b (environment variables names kept) (environment variables names resolved_names) agree,
        ) refl
    by_meaning _ here = one_anyway (all_stand (seen_by kept (directly_before names n))) ∙ sym (one_anyway (all_stand (seen_by resolved_names (directly_before names n))))

pub all_expanded : (variables : Entries) (names : List NameView) (d : Dependence) (kept resolved_names : ℕ → ResolvedView) (shapes : List InstanceKeys) → IsDependence names d → ((a : ℕ) → IsNeeded names d a → kept a ≡ resolved_names a)
    → HaveShapes variables names kept shapes → min (instances_before names (shapes_of shapes) (length names)) 18446744073709551615 ≤ max_instances → AreExpanded variables names resolved_names (shapes_of shapes)
all_expanded variables names d kept resolved_names shapes is same have few = record {
  each = λ n h. sym (expanded_same variables names d kept resolved_names is same n) ∙ have.each n h;
  few = omega arith;
}

pub too_many : (variables : Entries) (names : List NameView) (d : Dependence) (kept resolved_names : ℕ → ResolvedView) (shapes : List InstanceKeys) → IsDependence names d → ((a : ℕ) → IsNeeded names d a → kept a ≡ resolved_names a)
    → HaveShapes variables names kept shapes → max_instances < min (instances_before names (shapes_of shapes) (length names)) 18446744073709551615 → AreTooMany variables names resolved_names
too_many variables names d kept resolved_names shapes is same have more = record {
  shapes = shapes_of shapes;
  each = λ n h. sym (expanded_same variables names d kept resolved_names is same n) ∙ have.each n h;
  more = omega arith;
}

-- what is refused by resolved names that are the same where a resource needs something
pub refused_same : {X : Type 0} → (view : X → List InstanceKeys) (variables : Entries) (names : List NameView) (d : Dependence) (kept resolved_names : ℕ → ResolvedView) (fault : ExpansionFault) → IsDependence names d → ((a : ℕ) → IsNeeded names d a → kept a ≡ resolved_names a)
    → Shapes {X = X} view variables names kept (Err fault) → Refuses variables names resolved_names fault
refused_same view variables names d kept resolved_names OutOfMemory is same h = tt
refused_same view variables names d kept resolved_names TooMany is same h = absurd h
refused_same view variables names d kept resolved_names (Resource n why) is same h = record {
  inside = h.inside;
  refused = sym (expanded_same variables names d kept resolved_names is same n) ∙ h.refused;
  first = λ m k. let before = h.first m k in (before.0, sym (expanded_same variables names d kept resolved_names is same m) ∙ before.1);
}
