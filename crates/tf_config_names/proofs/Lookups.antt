-- What a map finds under a text, and what its entries have there.
use Rattle.std.proofs.Common.{◌≡◌, ◌∙◌, ℕ, Bool, true, false, cond, List, [], ◌∷◌, Option, None, Some, option_map, map, refl, sym, ap, string_bytes, Global, String}
use Rattle.std.proofs.lemmas.Map.Text.{is_eq-slice_cmp}
use Rattle.std.specs.BTreeMap.{BTreeMap, get_by_text, is_at}
use Rattle.std.specs.Cmp.Lexicographic.{slice_cmp}
use Rattle.std.specs.Map.{lookup}
use Rattle.std.specs.Ordering.{nat_cmp}
use Rattle.std.specs.Str.{bytes_eq}
use Rattle.std.specs.Option.{option_and_then}
use Rattle.tf_config_names.specs.Places.{found_in, found_in_maps, places_view, under}
use Rattle.tf_expr_syntax.specs.TemplateNames.{Pair}

-- a map's entries by the bytes of their texts, each with what it is worth
abbrev pub seen : {A B : Type 0} → (A → B) → List (String Global × A) → List (List ℕ × B)
seen f es = map (λ e. (string_bytes e.0, f e.1)) es

either : {A B : Type 0} (f : A → B) (b : Bool) (x : A) (o : Option A) (u : Option B) → option_map f o ≡ u → option_map f (cond b (Some x) o) ≡ cond b (Some (f x)) u
either f true x o u h = refl
either f false x o u h = h

along : {A B : Type 0} (f : A → B) (text : List ℕ) (es : List (String Global × A)) → option_map f (lookup (is_at (λ k. slice_cmp nat_cmp text (string_bytes k))) es) ≡ under (seen f es) text
along f text [] = refl
along f text (e ∷ es) =
    let rest = lookup (is_at (λ k. slice_cmp nat_cmp text (string_bytes k))) es in
    ap (λ b. option_map f (cond b (Some e.1) rest)) (is_eq-slice_cmp text (string_bytes e.0))
    ∙ either f (bytes_eq text (string_bytes e.0)) e.1 rest (under (seen f es) text) (along f text es)

pub under-seen : {A B : Type 0} (f : A → B) (m : BTreeMap (String Global) A) (text : List ℕ) → option_map f (get_by_text m text) ≡ under (seen f m.entries) text
under-seen f m text = along f text m.entries

as_is : {A : Type 0} (o : Option A) → option_map (λ x. x) o ≡ o
as_is None = refl
as_is (Some x) = refl

-- a map of maps has the places that its entries have
pub maps-seen : (by_first : BTreeMap (String Global) (BTreeMap (String Global) ℕ)) (pair : Pair) → found_in_maps by_first pair ≡ found_in (places_view by_first.entries) pair
maps-seen by_first pair =
    let own : BTreeMap (String Global) ℕ → List (List ℕ × ℕ) = λ names. seen (λ n. n) names.entries in
    by_option (get_by_text by_first pair.0) ∙ ap (option_and_then (λ names. under names pair.1)) (under-seen own by_first pair.0)
  where
    by_option : (o : Option (BTreeMap (String Global) ℕ)) → option_and_then (λ names. get_by_text names pair.1) o ≡ option_and_then (λ names. under names pair.1) (option_map (λ names. seen (λ n. n) names.entries) o)
    by_option None = refl
    by_option (Some names) = sym (as_is (get_by_text names pair.1)) ∙ under-seen (λ n. n) names pair.1
