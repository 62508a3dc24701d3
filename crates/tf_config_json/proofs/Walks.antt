-- Checking one thing after another: those so far are met, and the others are left.
use Rattle.std.proofs.Common.{◌≡◌, ◌∙◌, ◌+◌, ◌<◌, ℕ, suc, List, [], ◌∷◌, ◌++◌, length, get_or, drop, drop-cons, refl, sym, ap, subst, append_assoc, add-one}
use Rattle.tf_config_refusal.proofs.Checks.{AllMet-append, IsFirst-left, IsFirst-right}
use Rattle.tf_config_refusal.specs.Check.{Check, AllMet}
use Rattle.tf_config_json.specs.Demand.{RefusesBy}
use Rattle.tf_config_refusal.specs.Refusal.{RefusalView, no_memory, workers, fault, Way}

-- what is left of a list, one element further on
pub drop_next : {A : Type 0} → (all : List A) (i : ℕ) (x : A) → i < length all → x ≡ get_or all i x → drop i all ≡ x ∷ drop (i + 1) all
drop_next all i x within is = rw add-one (drop-cons all i x within ∙ ap (λ y. y ∷ drop (suc i) all) (sym is))

module _ {D : Type 0} (IsMet : D → Type 0) where
  -- of all checks these are left, and those before them are met
  abbrev pub IsLeft : List (Check D) → List (Check D) → Type 0
  IsLeft all left = (met : List (Check D)) × (all ≡ met ++ left) × AllMet IsMet met

  pub left_first : (all : List (Check D)) → IsLeft all all
  left_first all = ([], refl, tt)

  pub left_more : (all own left : List (Check D)) → IsLeft all (own ++ left) → AllMet IsMet own → IsLeft all left
  left_more all own left h known = (h.0 ++ own, h.1 ∙ sym (append_assoc h.0 own left), AllMet-append IsMet h.0 own h.2 known)

  pub left_none : (all : List (Check D)) → IsLeft all [] → AllMet IsMet all
  left_none all h = subst (AllMet IsMet) (sym h.1) (AllMet-append IsMet h.0 [] h.2 tt)

module _ {D : Type 0} (IsMet : D → Type 0) (Fails : D → Way → Type 0) where
  refused_behind : (met own left : List (Check D)) (t : RefusalView) → AllMet IsMet met → RefusesBy IsMet Fails own t → RefusesBy IsMet Fails (met ++ (own ++ left)) t
  refused_behind met own left no_memory known h = tt
  refused_behind met own left workers known h = absurd h
  refused_behind met own left (fault code place detail) known h = IsFirst-right IsMet Fails place (code, detail) met (own ++ left) known (IsFirst-left IsMet Fails place (code, detail) own left h)

  -- the first fault among the checks that are left is the first of all
  pub left_refused : (all own left : List (Check D)) (t : RefusalView) → IsLeft IsMet all (own ++ left) → RefusesBy IsMet Fails own t → RefusesBy IsMet Fails all t
  left_refused all own left t h first = subst (λ checks. RefusesBy IsMet Fails checks t) (sym h.1) (refused_behind h.0 own left t h.2 first)
