-- Among some records fewer keys are used than there are records and one.
use Rattle.std.proofs.Common.{◌≡◌, ℕ, zero, suc, ◌≤◌, ◌<◌, ◌^◌, Bool, true, false, cond, ◌||◌, List, [], ◌∷◌, length, Some, refl, sym, ap, ◌∙◌, arith, eqb, eqb-true, ne_eqb}
use Rattle.std.proofs.lemmas.Map.Steps.{length-le_from_distinct_below}
use Rattle.std.specs.List.{list_any, AllByRecursion, IsDistinct}
use Rattle.tf_config_address.specs.ObjectId.{InstanceKeyView}
use Rattle.tf_config_address.specs.Same.{same_object_id, object_id_Decides}
use Rattle.tf_state_next.specs.After.{object_at}
use Rattle.tf_state_next.specs.DeposedKey.{is_used, key_text, serial_after}
use Rattle.tf_state_next.proofs.Hex.{steps_apart}
use Rattle.tf_state_data.specs.Record.{RecordView}

-- where the first element stands that passes a test
place_of : {A : Type 0} → (A → Bool) → List A → ℕ
place_of test [] = 0
place_of test (x ∷ xs) = cond (test x) 0 (suc (place_of test xs))

place_at : {A : Type 0} (test : A → Bool) (b : Bool) (x : A) (xs : List A) → test x ≡ b → (list_any test xs ≡ true → place_of test xs < length xs) → list_any test (x ∷ xs) ≡ true → place_of test (x ∷ xs) < length (x ∷ xs)
unfolding place_of
place_at test true x xs e rest some = rw e (omega arith)
place_at test false x xs e rest some = let more = rest (sym (rw e refl) ∙ some) in rw e (omega arith)

-- it stands in the list, where one passes
place_within : {A : Type 0} (test : A → Bool) (xs : List A) → list_any test xs ≡ true → place_of test xs < length xs
place_within test [] some = absurd (cc)
place_within test (x ∷ xs) some = place_at test (test x) x xs refl (place_within test xs) some

-- an element passes both tests
abbrev Both : {A : Type 0} → (A → Bool) → (A → Bool) → Type 0
Both {A} p q = (x : A) × (p x ≡ true) × (q x ≡ true)

both_at : {A : Type 0} (p q : A → Bool) (b c : Bool) (x : A) (xs : List A) → p x ≡ b → q x ≡ c
    → (list_any p xs ≡ true → list_any q xs ≡ true → place_of p xs ≡ place_of q xs → Both p q)
    → list_any p (x ∷ xs) ≡ true → list_any q (x ∷ xs) ≡ true → place_of p (x ∷ xs) ≡ place_of q (x ∷ xs) → Both p q
unfolding place_of
both_at p q true true x xs e f rest s t same = (x, e, f)
both_at p q true false x xs e f rest s t same = let is : 0 ≡ suc (place_of q xs) = rw (e, f) at same in absurd (omega arith)
both_at p q false true x xs e f rest s t same = let is : suc (place_of p xs) ≡ 0 = rw (e, f) at same in absurd (omega arith)
both_at p q false false x xs e f rest s t same =
    let is : suc (place_of p xs) ≡ suc (place_of q xs) = rw (e, f) at same in
    rest (sym (rw e refl) ∙ s) (sym (rw f refl) ∙ t) (omega arith)

-- two tests that find their first at one place both pass it
both_there : {A : Type 0} (p q : A → Bool) (xs : List A) → list_any p xs ≡ true → list_any q xs ≡ true → place_of p xs ≡ place_of q xs → Both p q
both_there p q [] s t same = absurd (cc)
both_there p q (x ∷ xs) s t same = both_at p q (p x) (q x) x xs refl refl (both_there p q xs) s t same

-- what a function makes of the numbers below another one
images : (ℕ → ℕ) → ℕ → List ℕ
images f zero = []
images f (suc n) = f n ∷ images f n

images_length : (f : ℕ → ℕ) (n : ℕ) → length (images f n) ≡ n
unfolding images
images_length f zero = refl
images_length f (suc n) = ap suc (images_length f n)

images_apart : (f : ℕ → ℕ) (m n : ℕ) → n ≤ m → ((i : ℕ) → i < m → ¬ (f m ≡ f i)) → AllByRecursion (λ y. eqb (f m) y ≡ false) (images f n)
unfolding images
images_apart f m zero h one = tt
images_apart f m (suc n) h one = (ne_eqb (f m) (f n) (one n (omega arith)), images_apart f m n (omega arith) one)

images_distinct : (f : ℕ → ℕ) (n : ℕ) → ((i j : ℕ) → i < n → j < n → f i ≡ f j → i ≡ j) → IsDistinct eqb (images f n)
unfolding images IsDistinct
images_distinct f zero one = tt
images_distinct f (suc n) one =
    (images_apart f n n (omega arith) (λ i h e. let same = one n i (omega arith) (omega arith) e in omega arith), images_distinct f n (λ i j h g e. one i j (omega arith) (omega arith) e))

below_at : (q x m : ℕ) (b c : Bool) → eqb q x ≡ b → x < m → (c ≡ true → q < m) → (b || c) ≡ true → q < m
below_at q x m true c e h rest some = let same = eqb-true q x e in omega arith
below_at q x m false c e h rest some = rest some

images_below : (f : ℕ → ℕ) (m n : ℕ) → ((i : ℕ) → i < n → f i < m) → (q : ℕ) → list_any (eqb q) (images f n) ≡ true → q < m
unfolding images
images_below f m zero into q some = absurd (cc)
images_below f m (suc n) into q some =
    below_at q (f n) m (eqb q (f n)) (list_any (eqb q) (images f n)) refl (into n (omega arith)) (images_below f m n (λ i h. into i (omega arith)) q) some

-- one to one into fewer numbers there is no function
pigeonhole : (n m : ℕ) (f : ℕ → ℕ) → ((i : ℕ) → i < n → f i < m) → ((i j : ℕ) → i < n → j < n → f i ≡ f j → i ≡ j) → n ≤ m
pigeonhole n m f into one = let few = length-le_from_distinct_below (images f n) m (images_distinct f n one) (images_below f m n into) in omega (arith, images_length f n)

-- where so many serials have used keys, there are no fewer records
pub keys_crowded : (serial n : ℕ) (key : InstanceKeyView) (records : List RecordView) → n ≤ 2 ^ 32
    → ((i : ℕ) → i < n → is_used key records (key_text (serial_after serial i)) ≡ true) → n ≤ length records
keys_crowded serial n key records few used =
    let test : ℕ → RecordView → Bool = λ i r. same_object_id r.id (object_at key (Some (key_text (serial_after serial i)))) in
    pigeonhole n (length records) (λ i. place_of (test i) records) (λ i h. place_within (test i) records (used i h))
    (λ i j h g e.
    let both = both_there (test i) (test j) records (used i h) (used j g) e in
    let first = (object_id_Decides both.0.id (object_at key (Some (key_text (serial_after serial i))))).0 both.1 in
    let second = (object_id_Decides both.0.id (object_at key (Some (key_text (serial_after serial j))))).0 both.2 in
    let one : key_text (serial_after serial i) ≡ key_text (serial_after serial j) = cc in
    steps_apart serial i j (omega arith) (omega arith) one)
