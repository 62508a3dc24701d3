-- What is known of each action before its call is one.
use Rattle.std.proofs.Common.{◌≡◌, ◌∙◌, ◌+◌, ℕ, List, [], ◌∷◌, Option, Some, None, refl, sym, ap, ap₂}
use Rattle.std.proofs.lemmas.Bool.{true≢false}
use Rattle.tf_plan_data.specs.Action.{ActionView}
use Rattle.tf_walk_buffers.specs.Head.{AreHeads, Head, IsHeadOf, IsKeyFor, IsTargetOf, Target, key_in, records_at, target_with}
use Rattle.tf_plan_data.specs.Plan.{PlanView}
use Rattle.tf_state_next.specs.ObjectLaws.{KeyIsOne}

module _ (law : KeyIsOne) (plan : PlanView) where
  key_one : (a : ActionView) (k l : Option (List ℕ)) → IsKeyFor plan a k → IsKeyFor plan a l → k ≡ l
  key_one a None None h g = refl
  key_one a None (Some l) h g = absurd (true≢false (sym g.0 ∙ h))
  key_one a (Some k) None h g = absurd (true≢false (sym h.0 ∙ g))
  key_one a (Some k) (Some l) h g = ap Some (law (plan.prior.serial + 1) a.key (records_at a.addr plan.prior) k l h.1 g.1)

  target_one : (a : ActionView) (t u : Target) → IsTargetOf plan a t → IsTargetOf plan a u → t ≡ u
  target_one a t u h g = h.same ∙ ap (target_with plan a) (key_one a (key_in t) (key_in u) h.key g.key) ∙ sym g.same

  head_one : (a : ActionView) (h k : Head) → IsHeadOf plan a h → IsHeadOf plan a k → h ≡ k
  head_one a h k p q =
      let place = p.place ∙ sym q.place in
      let op = p.op ∙ sym q.op in
      let addr = p.addr ∙ sym q.addr in
      let target = target_one a h.target k.target p.target q.target in
      λ i. record { place = place i; op = op i; addr = addr i; target = target i }

  pub heads_one : (actions : List ActionView) (hs ks : List Head) → AreHeads plan actions hs → AreHeads plan actions ks → hs ≡ ks
  heads_one [] [] [] h g = refl
  heads_one [] [] (k ∷ ks) h g = absurd g
  heads_one [] (x ∷ hs) ks h g = absurd h
  heads_one (a ∷ actions) [] ks h g = absurd h
  heads_one (a ∷ actions) (x ∷ hs) [] h g = absurd g
  heads_one (a ∷ actions) (x ∷ hs) (k ∷ ks) h g = ap₂ (λ y ys. y ∷ ys) (head_one a x k h.0 g.0) (heads_one actions hs ks h.1 g.1)
