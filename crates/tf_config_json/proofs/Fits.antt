-- What is demanded and what is said fit together: something is said exactly if all checks are met, and one thing at
-- most. What a walk adds has no fault.
use Rattle.std.proofs.Common.{◌≡◌, ℕ, ◌+◌, List, [], ◌∷◌, refl}
use Rattle.serde_json.specs.Data.{Data, null, boolean, number, string, array, object, Items, no_items, item}
use Rattle.tf_config_refusal.proofs.Checks.{AllMet-append, AllMet-left, AllMet-right}
use Rattle.tf_config_refusal.proofs.Walks.{Builds-met}
use Rattle.tf_config_refusal.specs.Walk.{each_item}
use Rattle.tf_config_json.specs.Building.{BuildsFrom, IsSound, Adds, AddsNamed}
use Rattle.tf_config_json.specs.Configuration.{PropertyChecks, below, object_checks, named_checks}
use Rattle.tf_config_json.specs.Demand.{AreMet, IsMet}
use Rattle.tf_config_json.specs.Parts.{PartChecks, IsPartSound, wrong, element_checks, array_checks, EachSays, SaysList}

-- a part says something exactly if its checks are met, and one thing at most
pub record Fits (A : Type 0) (checks : PartChecks) (Says : Data → A → Type 0) : Type 0 where
  pub met : (place : List (List ℕ)) (d : Data) (a : A) → Says d a → AreMet (checks place d)
  pub from_met : (place : List (List ℕ)) (d : Data) → AreMet (checks place d) → (a : A) × Says d a
  pub same : (d : Data) (a b : A) → Says d a → Says d b → a ≡ b

-- A step that adds what a value says has no fault in the value.
abbrev pub IsStepSound : (B : Type 0) → PartChecks → (Data → B → B → Type 0) → Type 0
IsStepSound B checks Step = (place : List (List ℕ)) (d : Data) (a b : B) → Step d a b → AreMet (checks place d)

-- ---- steps

pub nothing_sound : (B : Type 0) → IsStepSound B (λ place d. []) (λ d a b. a ≡ b)
nothing_sound B place d a b h = tt

pub wrong_sound : (B : Type 0) → IsStepSound B (λ place d. wrong place) (λ d a b. ⊥)
wrong_sound B place d a b h = absurd h

pub adds_sound : (A B : Type 0) (checks : PartChecks) (Says : Data → A → Type 0) (with : B → A → B) → IsPartSound Says checks → IsStepSound B checks (λ d a b. Adds Says d (with a) b)
adds_sound A B checks Says with sound place d a b h = sound place d h.0 h.1

pub named_sound : (A B : Type 0) (checks : PartChecks) (Says : Data → A → Type 0) (k : List ℕ) (with : B → A → B) → IsPartSound Says checks
    → IsStepSound B (λ place d. named_checks checks place k d) (λ d a b. AddsNamed Says k d (with a) b)
named_sound A B checks Says k with sound place d a b h = (h.0, sound place d h.1.0 h.1.1)

-- a step within a part of what was said before
pub part_sound : (B C : Type 0) (checks : PartChecks) (Step : Data → B → B → Type 0) (part : C → B) (with : C → B → C) → IsStepSound B checks Step
    → IsStepSound C checks (λ d a c. Adds (λ e. Step e (part a)) d (with a) c)
part_sound B C checks Step part with sound place d a c h = sound place d (part a) h.0 h.1

-- ---- objects

pub object_sound : (B : Type 0) (checks : PropertyChecks) (Step : List ℕ → Data → B → B → Type 0) → IsSound Step checks → IsStepSound B (object_checks checks) (BuildsFrom Step)
object_sound B checks Step sound place null a b h = absurd h
object_sound B checks Step sound place (boolean x) a b h = absurd h
object_sound B checks Step sound place (number x) a b h = absurd h
object_sound B checks Step sound place (string x) a b h = absurd h
object_sound B checks Step sound place (array x) a b h = absurd h
object_sound B checks Step sound place (object ms) a b h = Builds-met Step IsMet (below checks place) (λ k d a b. sound k (k ∷ place) d a b) ms a b h

-- ---- arrays

module _ (A : Type 0) (checks : PartChecks) (Says : Data → A → Type 0) (sound : IsPartSound Says checks) where
  pub items_met : (place : List (List ℕ)) (n : ℕ) (ds : Items) (xs : List A) → EachSays Says ds xs → AreMet (each_item (element_checks checks place) n ds)
  items_met place n no_items [] h = tt
  items_met place n no_items (x ∷ xs) h = absurd h
  items_met place n (item d ds) [] h = absurd h
  items_met place n (item d ds) (x ∷ xs) h =
      AllMet-append IsMet (element_checks checks place n d) (each_item (element_checks checks place) (n + 1) ds) (sound _ d x h.0) (items_met place (n + 1) ds xs h.1)

module _ (A : Type 0) (checks : PartChecks) (Says : Data → A → Type 0) (fits : Fits A checks Says) where
  items_from_met : (place : List (List ℕ)) (n : ℕ) (ds : Items) → AreMet (each_item (element_checks checks place) n ds) → (xs : List A) × EachSays Says ds xs
  items_from_met place n no_items h = ([], tt)
  items_from_met place n (item d ds) h =
      let own = element_checks checks place n d in
      let others = each_item (element_checks checks place) (n + 1) ds in
      let first = fits.from_met _ d (AllMet-left IsMet own others h) in
      let later = items_from_met place (n + 1) ds (AllMet-right IsMet own others h) in
      (first.0 ∷ later.0, (first.1, later.1))

  items_same : (ds : Items) (xs ys : List A) → EachSays Says ds xs → EachSays Says ds ys → xs ≡ ys
  items_same no_items [] [] h j = refl
  items_same no_items [] (y ∷ ys) h j = absurd j
  items_same no_items (x ∷ xs) ys h j = absurd h
  items_same (item d ds) [] ys h j = absurd h
  items_same (item d ds) (x ∷ xs) [] h j = absurd j
  items_same (item d ds) (x ∷ xs) (y ∷ ys) h j = rw (fits.same d x y h.0 j.0, items_same ds xs ys h.1 j.1) refl

  list_met : (place : List (List ℕ)) (d : Data) (xs : List A) → SaysList Says d xs → AreMet (array_checks checks place d)
  list_met place null xs h = absurd h
  list_met place (boolean x) xs h = absurd h
  list_met place (number x) xs h = absurd h
  list_met place (string x) xs h = absurd h
  list_met place (array ds) xs h = items_met A checks Says fits.met place 0 ds xs h
  list_met place (object x) xs h = absurd h

  list_from_met : (place : List (List ℕ)) (d : Data) → AreMet (array_checks checks place d) → (xs : List A) × SaysList Says d xs
  list_from_met place null h = absurd h.0
  list_from_met place (boolean x) h = absurd h.0
  list_from_met place (number x) h = absurd h.0
  list_from_met place (string x) h = absurd h.0
  list_from_met place (array ds) h = items_from_met place 0 ds h
  list_from_met place (object x) h = absurd h.0

  list_same : (d : Data) (xs ys : List A) → SaysList Says d xs → SaysList Says d ys → xs ≡ ys
  list_same null xs ys h j = absurd h
  list_same (boolean x) xs ys h j = absurd h
  list_same (number x) xs ys h j = absurd h
  list_same (string x) xs ys h j = absurd h
  list_same (array ds) xs ys h j = items_same ds xs ys h j
  list_same (object x) xs ys h j = absurd h

  pub list_fits : Fits (List A) (array_checks checks) (SaysList Says)
  list_fits = record { met = list_met; from_met = list_from_met; same = list_same }
