-- What comes of the action at a place of a plan.
use Rattle.std.proofs.Common.{◌≡◌, ◌<◌, ℕ, zero, suc, List, [], ◌∷◌, length, get_or, map, Option, Some, ap, ap₂, sym, ◌∙◌, subst, arith}
use Rattle.std.specs.Prelude.{slice_get}
use Rattle.std.specs.List.{AllByRecursion}
use Rattle.std.specs.Option.{option_map_or}
use Rattle.tf_config_data.specs.Names.{NameView}
use Rattle.tf_plan_data.specs.Action.{ActionView}
use Rattle.tf_plan_data.specs.Plan.{PlanView, plan_names}
use Rattle.tf_provider_protocol.specs.Meaning.{Meaning}
use Rattle.tf_walk_action.specs.Outcome.{ActionResultView, skipped, Requests, call_at, call_with, objects_by, objects_seen}
use Rattle.tf_walk_action.specs.Run.{IsRun}

-- what an index reads of a list that is seen in another way
pub slice_get-map : {A B : Type 0} (f : A → B) (xs : List A) (n : ℕ) (x : A) → n < length xs → x ≡ get_or xs n x → slice_get (map f xs) n ≡ Some (f x)
slice_get-map f [] n x h e = absurd (omega arith)
slice_get-map f (y ∷ ys) zero x h e = ap (λ z. Some (f z)) (sym e)
slice_get-map f (y ∷ ys) (suc n) x h e = slice_get-map f ys n x (omega arith) e

-- what holds of each holds of what is read
pub all_at : {A : Type 0} (P : A → Type 0) (xs : List A) (n : ℕ) (x : A) → AllByRecursion P xs → slice_get xs n ≡ Some x → P x
all_at P [] n x h e = absurd (cc)
all_at P (y ∷ ys) zero x h e = let same : y ≡ x = cc in subst P same h.0
all_at P (y ∷ ys) (suc n) x h e = all_at P ys n x h.1 e

-- what holds of each, seen in another way, holds of what an index reads
pub read_at : {A B : Type 0} (f : A → B) (P : B → Type 0) (xs : List A) (n : ℕ) (x : A) → AllByRecursion P (map f xs) → n < length xs → x ≡ get_or xs n x → P (f x)
read_at f P xs n x h below e = all_at P (map f xs) n (f x) h (slice_get-map f xs n x below e)

-- what comes of the action at a place
pub call_at-is : (ms : List Meaning) (requests : Requests) (plan : PlanView) (n : ℕ) (seen : List (ℕ × ActionResultView)) (a : ActionView) → slice_get plan.actions n ≡ Some a
    → call_at ms requests plan n seen ≡ call_with ms requests plan (objects_by plan seen) a
call_at-is ms requests plan n seen a e = ap (λ (o : Option ActionView). option_map_or {U = ActionResultView} (call_with ms requests plan (objects_by plan seen)) o skipped) e

-- an action whose request was made has what comes of that
pub run_at : (ms : List Meaning) (requests : Requests) (plan : PlanView) (n : ℕ) (seen : List (ℕ × ActionResultView)) (a : ActionView) (call d : ActionResultView) → slice_get plan.actions n ≡ Some a
    → call ≡ call_with ms requests plan (objects_by plan seen) a → IsRun call d → IsRun (call_at ms requests plan n seen) d
run_at ms requests plan n seen a call d here is h = subst (λ (x : ActionResultView). IsRun x d) (is ∙ sym (call_at-is ms requests plan n seen a here)) h

-- what instances stand for by the parts of a plan is what they stand for by the plan
pub seen_objects : (plan : PlanView) (names : List NameView) (actions : List ActionView) (seen also : List (ℕ × ActionResultView)) → names ≡ plan_names plan → actions ≡ plan.actions → seen ≡ also
    → objects_seen names plan.prior actions seen ≡ objects_by plan also
seen_objects plan names actions seen also same alike is =
    ap (λ (ns : List NameView). objects_seen ns plan.prior actions seen) same
    ∙ ap₂ (λ (xs : List ActionView) (ds : List (ℕ × ActionResultView)). objects_seen (plan_names plan) plan.prior xs ds) alike is
