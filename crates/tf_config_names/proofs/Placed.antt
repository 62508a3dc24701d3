-- A table of the places of any names.
use Rattle.std.proofs.Common.{◌≡◌, ◌∙◌, ◌+◌, ◌&&◌, ℕ, zero, suc, Bool, true, false, cond, List, [], ◌∷◌, Option, None, Some, option_map, option_and_then, bytes_eq, if◌then◌else◌, refl, sym, ap, subst, arith}
use Rattle.std.proofs.lemmas.Bool.{both_ways, false_from_ne_true}
use Rattle.std.specs.Cmp.Lexicographic.{bytes_decides}
use Rattle.tf_config_data.specs.Names.{NameView, place_of, same_pair}
use Rattle.tf_config_names.specs.Places.{PlacesView, found_in, under}
use Rattle.tf_expr_syntax.specs.TemplateNames.{Pair}

-- ---- another value under a text

-- in place of the first that stands there, or behind all
abbrev pub put_under : {A : Type 0} → List (List ℕ × A) → List ℕ → (Option A → A) → List (List ℕ × A)
put_under [] text f = (text, f None) ∷ []
put_under (e ∷ es) text f = if bytes_eq text e.0 then (text, f (Some e.1)) ∷ es else e ∷ put_under es text f

turned : (a b : List ℕ) → bytes_eq a b ≡ bytes_eq b a
turned a b = by_test (bytes_eq a b) refl
  where
    by_test : (t : Bool) → bytes_eq a b ≡ t → bytes_eq a b ≡ bytes_eq b a
    by_test true is = is ∙ sym ((bytes_decides b a).1 (sym ((bytes_decides a b).0 is)))
    by_test false is = is ∙ sym (false_from_ne_true (bytes_eq b a) (λ y. both_ways (bytes_eq a b) is ((bytes_decides a b).1 (sym ((bytes_decides b a).0 y)))))

module _ {A : Type 0} (text q : List ℕ) (f : Option A → A) where
  same_test : (x : Option A) (y : A) (o : Option A) (c d : Bool) → d ≡ c → cond c x o ≡ cond c x (cond d (Some y) o)
  same_test x y o true d e = refl
  same_test x y o false d e = sym (ap (λ t. cond t (Some y) o) e)

  other_test : (x : Option A) (y : A) (o : Option A) (c d : Bool) → (d ≡ true → c ≡ false) → cond d (Some y) (cond c x o) ≡ cond c x (cond d (Some y) o)
  other_test x y o c true h = sym (ap (λ t. cond t x (Some y)) (h refl))
  other_test x y o c false h = refl

  apart : (own : List ℕ) → bytes_eq text own ≡ false → bytes_eq q own ≡ true → bytes_eq q text ≡ false
  apart own unlike like = false_from_ne_true (bytes_eq q text) (λ y. both_ways (bytes_eq text own) unlike ((bytes_decides text own).1 (sym ((bytes_decides q text).0 y) ∙ (bytes_decides q own).0 like)))

  pub under-put : (t : List (List ℕ × A)) → under (put_under t text f) q ≡ cond (bytes_eq q text) (Some (f (under t text))) (under t q)
  under-put [] = refl
  under-put (e ∷ es) = step (bytes_eq text e.0) refl (under-put es)
    where
      step : (b : Bool) → bytes_eq text e.0 ≡ b → under (put_under es text f) q ≡ cond (bytes_eq q text) (Some (f (under es text))) (under es q)
          → under (cond b ((text, f (Some e.1)) ∷ es) (e ∷ put_under es text f)) q ≡ cond (bytes_eq q text) (Some (f (cond b (Some e.1) (under es text)))) (cond (bytes_eq q e.0) (Some e.1) (under es q))
      step true is rest = same_test (Some (f (Some e.1))) e.1 (under es q) (bytes_eq q text) (bytes_eq q e.0) (ap (bytes_eq q) (sym ((bytes_decides text e.0).0 is)))
      step false is rest =
          ap (λ o. cond (bytes_eq q e.0) (Some e.1) o) rest
          ∙ other_test (Some (f (under es text))) e.1 (under es q) (bytes_eq q text) (bytes_eq q e.0) (apart e.0 is)

-- ---- a place for one more name

abbrev or_nothing : Option (List (List ℕ × ℕ)) → List (List ℕ × ℕ)
or_nothing None = []
or_nothing (Some names) = names

-- instead of the one that it had
abbrev pub placed : PlacesView → Pair → ℕ → PlacesView
placed places pair place = put_under places pair.0 (λ names. put_under (or_nothing names) pair.1 (λ old. place))

found-nothing : (o : Option (List (List ℕ × ℕ))) (name : List ℕ) → under (or_nothing o) name ≡ option_and_then (λ names. under names name) o
found-nothing None name = refl
found-nothing (Some names) name = refl

pub found-placed : (places : PlacesView) (pair : Pair) (place : ℕ) (q : Pair) → found_in (placed places pair place) q ≡ cond (same_pair pair q) (Some place) (found_in places q)
found-placed places pair place q =
    let names = put_under (or_nothing (under places pair.0)) pair.1 (λ old. place) in
    ap (option_and_then (λ ns. under ns q.1)) (under-put pair.0 q.0 (λ names. put_under (or_nothing names) pair.1 (λ old. place)) places)
    ∙ ap (λ b. option_and_then (λ ns. under ns q.1) (cond b (Some names) (under places q.0))) (turned q.0 pair.0)
    ∙ by_first (bytes_eq pair.0 q.0) refl
  where
    by_first : (b : Bool) → bytes_eq pair.0 q.0 ≡ b
        → option_and_then (λ ns. under ns q.1) (cond b (Some (put_under (or_nothing (under places pair.0)) pair.1 (λ old. place))) (under places q.0)) ≡ cond (b && bytes_eq pair.1 q.1) (Some place) (found_in places q)
    by_first false is = refl
    by_first true is =
        under-put pair.1 q.1 (λ old. place) (or_nothing (under places pair.0))
        ∙ ap (λ b. cond b (Some place) (under (or_nothing (under places pair.0)) q.1)) (turned q.1 pair.1)
        ∙ ap (cond (bytes_eq pair.1 q.1) (Some place)) (ap (λ first. under (or_nothing (under places first)) q.1) ((bytes_decides pair.0 q.0).0 is) ∙ found-nothing (under places q.0) q.1)

-- ---- the places of names

from : (names : List NameView) (k : ℕ) → (places : PlacesView) × ((q : Pair) → found_in places q ≡ option_map (λ n. n + k) (place_of names q))
from [] k = ([], λ q. refl)
from (n ∷ names) k =
    let rest = from names (suc k) in
    (placed rest.0 n.name k, λ q. found-placed rest.0 n.name k q ∙ by_head (same_pair n.name q) (found_in rest.0 q) (place_of names q) (rest.1 q))
  where
    further : (o : Option ℕ) → option_map (λ m. m + suc k) o ≡ option_map (λ m. m + k) (option_map suc o)
    further None = refl
    further (Some m) = ap Some (omega arith)

    by_head : (b : Bool) (found o : Option ℕ) → found ≡ option_map (λ m. m + suc k) o → cond b (Some k) found ≡ option_map (λ m. m + k) (cond b (Some zero) (option_map suc o))
    by_head true found o h = ap Some (omega arith)
    by_head false found o h = h ∙ further o

-- any names have a table of their places
pub some_places : (names : List NameView) → (places : PlacesView) × ((q : Pair) → found_in places q ≡ place_of names q)
some_places names = let all = from names 0 in (all.0, λ q. all.1 q ∙ as_is (place_of names q))
  where
    as_is : (o : Option ℕ) → option_map (λ n. n + 0) o ≡ o
    as_is None = refl
    as_is (Some n) = ap Some (omega arith)
