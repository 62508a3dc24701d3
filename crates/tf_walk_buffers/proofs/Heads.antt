-- What is known of one action more.
use Rattle.std.proofs.Common.{◌≡◌, ◌∙◌, ◌<◌, ◌+◌, ◌++◌, ◌∷◌, [], ℕ, zero, suc, true, Some, List, length, map, get_or, take, sym, ap, subst, arith}
use Rattle.std.proofs.lemmas.List.{map-append}
use Rattle.tf_plan_data.specs.Action.{ActionView}
use Rattle.tf_config_data.specs.Names.{NameView, Meant, a_block, meant_at}
use Rattle.tf_plan_data.specs.Fits.{IsDeclared, is_apply}
use Rattle.tf_plan_data.specs.Plan.{PlanView}
use Rattle.tf_walk_buffers.specs.Head.{AreHeads, Head, IsHeadOf}
use Rattle.tf_walk_buffers.proofs.Lists.{take-next}

heads_more : (plan : PlanView) (actions : List ActionView) (heads : List Head) (a : ActionView) (h : Head) → AreHeads plan actions heads → IsHeadOf plan a h → AreHeads plan (actions ++ a ∷ []) (heads ++ h ∷ [])
heads_more plan [] [] a h are is = (is, tt)
heads_more plan [] (k ∷ heads) a h are is = absurd are
heads_more plan (b ∷ actions) [] a h are is = absurd are
heads_more plan (b ∷ actions) (k ∷ heads) a h are is = (are.0, heads_more plan actions heads a h are.1 is)

-- the heads of those that were seen, with that of one more
pub heads-next : {A B : Type 0} (plan : PlanView) (f : A → Head) (g : B → ActionView) (rooms : List A) (xs : List B) (i : ℕ) (room : A) (x : B) → i < length xs → x ≡ get_or xs i x
    → AreHeads plan (map g (take i xs)) (map f rooms) → IsHeadOf plan (g x) (f room) → AreHeads plan (map g (take (i + 1) xs)) (map f (rooms ++ room ∷ []))
heads-next plan f g rooms xs i room x below e are is =
    let seen : map g (take (i + 1) xs) ≡ map g (take i xs) ++ g x ∷ [] = ap (map g) (take-next xs i x below e) ∙ map-append g (take i xs) (x ∷ []) in
    let made : map f (rooms ++ room ∷ []) ≡ map f rooms ++ f room ∷ [] = map-append f rooms (room ∷ []) in
    subst (λ ys. AreHeads plan ys (map f (rooms ++ room ∷ []))) (sym seen) (subst (λ zs. AreHeads plan (map g (take i xs) ++ g x ∷ []) zs) (sym made) (heads_more plan (map g (take i xs)) (map f rooms) (g x) (f room) are is))

meant_within : (names : List NameView) (n : ℕ) (m : Meant) → meant_at names n ≡ Some m → n < length names
meant_within [] n m e = absurd (cc)
meant_within (x ∷ xs) zero m e = omega arith
meant_within (x ∷ xs) (suc n) m e = let below = meant_within xs n m e in omega (arith, below)

-- the resource of a create or an update is one of the configuration
pub declared-within : (names : List NameView) (a : ActionView) → IsDeclared names a → is_apply a.step ≡ true → a.resource < length names
declared-within names a declared applies = let b = declared applies in meant_within names a.resource (a_block b.block) b.stands
