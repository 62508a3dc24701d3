-- Checking names one after another: those so far are known, and the others are left.
use Rattle.std.proofs.Common.{◌≡◌, ◌∙◌, [], ◌++◌, refl, sym, subst, append_assoc}
use Rattle.tf_config_refusal.proofs.Checks.{AllMet-append, IsFirst-left, IsFirst-right}
use Rattle.tf_config_names.specs.KnownNames.{Declared, NameChecks, IsKnown, IsUnknown, AreKnown, RefusesNames}
use Rattle.tf_config_refusal.specs.Refusal.{RefusalView, no_memory, workers, fault}

-- of all checks these are left, and those before them are met
abbrev pub IsLeft : Declared → NameChecks → NameChecks → Type 0
IsLeft d all left = (met : NameChecks) × (all ≡ met ++ left) × AreKnown d met

module _ (d : Declared) where
  pub left_first : (all : NameChecks) → IsLeft d all all
  left_first all = ([], refl, tt)

  pub left_more : (all own left : NameChecks) → IsLeft d all (own ++ left) → AreKnown d own → IsLeft d all left
  left_more all own left h known = (h.0 ++ own, h.1 ∙ sym (append_assoc h.0 own left), AllMet-append (IsKnown d) h.0 own h.2 known)

  pub left_none : (all : NameChecks) → IsLeft d all [] → AreKnown d all
  left_none all h = subst (AreKnown d) (sym h.1) (AllMet-append (IsKnown d) h.0 [] h.2 tt)

  refused_behind : (met own left : NameChecks) (t : RefusalView) → AreKnown d met → RefusesNames d own t → RefusesNames d (met ++ (own ++ left)) t
  refused_behind met own left no_memory known h = tt
  refused_behind met own left workers known h = absurd h
  refused_behind met own left (fault code place detail) known h =
      IsFirst-right (IsKnown d) (IsUnknown d) place (code, detail) met (own ++ left) known (IsFirst-left (IsKnown d) (IsUnknown d) place (code, detail) own left h)

  -- the first name that isn't known among those that are left is the first of all
  pub left_refused : (all own left : NameChecks) (t : RefusalView) → IsLeft d all (own ++ left) → RefusesNames d own t → RefusesNames d all t
  left_refused all own left t h first = subst (λ checks. RefusesNames d checks t) (sym h.1) (refused_behind h.0 own left t h.2 first)

  -- of two parts, one behind the other
  refused_left : (xs ys : NameChecks) (t : RefusalView) → RefusesNames d xs t → RefusesNames d (xs ++ ys) t
  refused_left xs ys t h = refused_behind [] xs ys t tt h

  refused_right : (xs ys : NameChecks) (t : RefusalView) → AreKnown d xs → RefusesNames d ys t → RefusesNames d (xs ++ ys) t
  refused_right xs ys no_memory known h = tt
  refused_right xs ys workers known h = absurd h
  refused_right xs ys (fault code place detail) known h = IsFirst-right (IsKnown d) (IsUnknown d) place (code, detail) xs ys known h

  -- of three parts, one behind another
  pub first_refused : (a b c : NameChecks) (t : RefusalView) → RefusesNames d a t → RefusesNames d (a ++ b ++ c) t
  first_refused a b c t h = refused_left (a ++ b) c t (refused_left a b t h)

  pub second_refused : (a b c : NameChecks) (t : RefusalView) → AreKnown d a → RefusesNames d b t → RefusesNames d (a ++ b ++ c) t
  second_refused a b c t known h = refused_left (a ++ b) c t (refused_right a b t known h)

  pub third_refused : (a b c : NameChecks) (t : RefusalView) → AreKnown d a → AreKnown d b → RefusesNames d c t → RefusesNames d (a ++ b ++ c) t
  third_refused a b c t known also h = refused_right (a ++ b) c t (AllMet-append (IsKnown d) a b known also) h

  pub three_known : (a b c : NameChecks) → AreKnown d a → AreKnown d b → AreKnown d c → AreKnown d (a ++ b ++ c)
  three_known a b c h k l = AllMet-append (IsKnown d) (a ++ b) c (AllMet-append (IsKnown d) a b h k) l
