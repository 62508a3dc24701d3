-- Tests of all elements of a list, one after another, and what is put into a body.
use Rattle.std.proofs.Common.{◌≡◌, ℕ, zero, suc, ◌+◌, ◌<◌, ◌≤◌, ◌||◌, Bool, true, false, cond, Option, Some, is_some, is_eq, List, [], ◌∷◌, ◌++◌, String, Global, string_bytes, nat_cmp, length, get_or, take, drop, map, refl, sym, ap, ◌∙◌, arith, append_assoc}
use Rattle.std.proofs.lemmas.List.{take_more, length-map}
use Rattle.std.proofs.lemmas.Map.Text.{is_eq-slice_cmp}
use Rattle.std.specs.BTreeMap.{is_at}
use Rattle.std.specs.Cmp.Lexicographic.{slice_cmp}
use Rattle.std.specs.List.{list_all}
use Rattle.std.specs.Map.{lookup}
use Rattle.std.specs.Ordering.{is_lt}
use Rattle.tf_config_data.specs.Config.{variables_of}
use Rattle.tf_config_data.specs.declared.variable.Variable.{Variable}
use Rattle.tf_config_names.proofs.Tables.{drop_all, drop_next}
use Rattle.tf_config_names.specs.KnownNames.{PropertyView, Body, has_variable, put_property}

module _ {A B : Type 0} (p : B → Bool) (f : A → B) where
  -- whether all pass depends on those from a position on
  abbrev pub RestsOn : List A → ℕ → Type 0
  RestsOn all i = list_all p (map f all) ≡ list_all p (map f (drop i all))

  pub rests_first : (all : List A) → RestsOn all 0
  rests_first all = refl

  pub rests_more : (all : List A) (i : ℕ) (x : A) → drop i all ≡ x ∷ drop (i + 1) all → p (f x) ≡ true → RestsOn all i → RestsOn all (i + 1)
  rests_more all i x step passes h = h ∙ rw (step, passes) refl

  pub rests_fail : (all : List A) (i : ℕ) (x : A) → drop i all ≡ x ∷ drop (i + 1) all → p (f x) ≡ false → RestsOn all i → false ≡ list_all p (map f all)
  rests_fail all i x step fails h = sym (h ∙ rw (step, fails) refl)

  pub rests_none : (all : List A) (i : ℕ) → length all ≤ i → RestsOn all i → true ≡ list_all p (map f all)
  rests_none all i past h = sym (h ∙ rw (drop_all all i past) refl)

-- ---- variables

or_some : {V : Type 0} (b : Bool) (v : V) (rest : Option V) (r : Bool) → is_some rest ≡ r → is_some (cond b (Some v) rest) ≡ (b || r)
or_some true v rest r h = refl
or_some false v rest r h = h

-- whether a variable is found in a `BTreeMap`
pub has_variable-lookup : (name : List ℕ) (entries : List (String Global × Variable)) → is_some (lookup (is_at (λ k. slice_cmp nat_cmp name (string_bytes k))) entries) ≡ has_variable (variables_of entries) name
has_variable-lookup name [] = refl
has_variable-lookup name (e ∷ entries) = rw (← is_eq-slice_cmp name (string_bytes e.0)) (or_some (is_eq (slice_cmp nat_cmp name (string_bytes e.0))) e.1 _ _ (has_variable-lookup name entries))

-- ---- bodies

pub map_insert : {A B : Type 0} (f : A → B) (xs : List A) (n : ℕ) (x : A) → map f (take n xs ++ x ∷ drop n xs) ≡ take n (map f xs) ++ f x ∷ drop n (map f xs)
map_insert f [] zero x = refl
map_insert f [] (suc n) x = refl
map_insert f (y ∷ ys) zero x = refl
map_insert f (y ∷ ys) (suc n) x = ap (λ zs. f y ∷ zs) (map_insert f ys n x)

-- the first properties are below a name
abbrev pub AreBelow : List ℕ → Body → ℕ → Type 0
AreBelow name all i = (value : PropertyView) → put_property (name, value) all ≡ take i all ++ put_property (name, value) (drop i all)

pub below_none : (name : List ℕ) (all : Body) → AreBelow name all 0
below_none name all value = refl

get_or-map : {A B : Type 0} (f : A → B) (xs : List A) (i : ℕ) (x : A) → i < length xs → get_or (map f xs) i (f x) ≡ f (get_or xs i x)
get_or-map f [] i x h = absurd (omega arith)
get_or-map f (y ∷ ys) zero x h = refl
get_or-map f (y ∷ ys) (suc i) x h = get_or-map f ys i x (omega arith)

-- what is read of a list, seen
pub seen_at : {A B : Type 0} (f : A → B) (all : List A) (i : ℕ) (x : A) → i < length all → x ≡ get_or all i x → f x ≡ get_or (map f all) i (f x)
seen_at f all i x h is = ap f is ∙ sym (get_or-map f all i x h)

pub seen_within : {A B : Type 0} (f : A → B) (all : List A) (i : ℕ) → i < length all → i < length (map f all)
seen_within f all i h = omega (arith, length-map all f)

pub below_here : (name : List ℕ) (all : Body) (i : ℕ) (q : List ℕ × PropertyView) → i < length all → q ≡ get_or all i q → is_lt (slice_cmp nat_cmp q.0 name) ≡ false → AreBelow name all i
    → (value : PropertyView) → put_property (name, value) all ≡ take i all ++ (name, value) ∷ drop i all
below_here name all i q h is fails below value =
    let step : drop i all ≡ q ∷ drop (i + 1) all = drop_next all i q h is in
    below value ∙ rw (step, fails) refl

pub below_more : (name : List ℕ) (all : Body) (i : ℕ) (q : List ℕ × PropertyView) → i < length all → q ≡ get_or all i q → is_lt (slice_cmp nat_cmp q.0 name) ≡ true → AreBelow name all i → AreBelow name all (i + 1)
below_more name all i q h is passes below value =
    let step : drop i all ≡ q ∷ drop (i + 1) all = drop_next all i q h is in
    let taken : take (i + 1) all ≡ take i all ++ q ∷ [] = take_more all i q h ∙ ap (λ x. take i all ++ x ∷ []) (sym is) in
    below value ∙ rw (step, passes, taken, append_assoc (take i all) (q ∷ []) (put_property (name, value) (drop (i + 1) all))) refl

pub below_all : (name : List ℕ) (all : Body) (i : ℕ) → length all ≤ i → AreBelow name all i → (value : PropertyView) → put_property (name, value) all ≡ take i all ++ (name, value) ∷ drop i all
below_all name all i past below value = below value ∙ rw (drop_all all i past) refl
