-- What is seen of actions, one after another.
use Rattle.std.proofs.Common.{◌≡◌, ◌<◌, ◌+◌, ◌++◌, ◌∷◌, [], ◌∙◌, ◌&&◌, ℕ, Bool, true, List, length, take, get_or, refl, sym, ap, ap₂}
use Rattle.std.proofs.lemmas.List.{map_push, take_more}
use Rattle.std.proofs.lemmas.List.Folds.{list_all-append}
use Rattle.tf_graph.specs.Solutions.{seen_by}
use Rattle.tf_walk_action.specs.Outcome.{ActionResultView, is_good, all_good}
use Rattle.tf_plan_data.specs.Plan.{PlanView}
use Rattle.tf_provider_protocol.specs.Meaning.{Meaning}
use Rattle.tf_walk_workers.specs.Ideal.{InEachIdeal}
use Rattle.tf_walk_workers.specs.SeenResult.{AreShown}

-- one more good action
good-push : (seen : List (ℕ × ActionResultView)) (n : ℕ) (d : ActionResultView) → all_good seen ≡ true → is_good d ≡ true → all_good (seen ++ (n, d) ∷ []) ≡ true
good-push seen n d all good = list_all-append (λ (e : ℕ × ActionResultView). is_good e.1) seen ((n, d) ∷ []) ∙ ap₂ (λ (a b : Bool). a && (b && true)) all good

seen-push : (ideal : ℕ → ActionResultView) (nodes : List ℕ) (i : ℕ) (seen : List (ℕ × ActionResultView)) (n : ℕ) (d : ActionResultView) → i < length nodes → n ≡ get_or nodes i 0 → d ≡ ideal n
    → seen ≡ seen_by ideal (take i nodes) → seen ++ (n, d) ∷ [] ≡ seen_by ideal (take (i + 1) nodes)
seen-push ideal nodes i seen n d below at same so_far =
    ap₂ (λ (xs : List (ℕ × ActionResultView)) (e : ActionResultView). xs ++ (n, e) ∷ []) so_far same
    ∙ ap (λ (k : ℕ). seen_by ideal (take i nodes) ++ (k, ideal k) ∷ []) at
    ∙ sym (map_push (λ (k : ℕ). (k, ideal k)) (take i nodes) (get_or nodes i 0))
    ∙ ap (seen_by ideal) (sym (take_more nodes i 0 below))

module _ (ms : List Meaning) (plan : PlanView) where
  pub shown-none : AreShown ms plan [] []
  shown-none = (refl, λ requests ideal is. refl)

  pub shown-more : (nodes : List ℕ) (i : ℕ) (seen : List (ℕ × ActionResultView)) (n : ℕ) (d : ActionResultView) → i < length nodes → n ≡ get_or nodes i 0 → is_good d ≡ true → InEachIdeal ms plan (λ ideal. d ≡ ideal n)
      → AreShown ms plan (take i nodes) seen → AreShown ms plan (take (i + 1) nodes) (seen ++ (n, d) ∷ [])
  shown-more nodes i seen n d below at good same so_far =
      (good-push seen n d so_far.0 good, λ requests ideal is. seen-push ideal nodes i seen n d below at (same requests ideal is) (so_far.1 requests ideal is))
