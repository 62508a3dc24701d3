-- What a name sees of all names.
use Rattle.std.proofs.Common.{◌≡◌, ℕ, Bool, true, false, if◌then◌else◌, ◌==◌, List, [], ◌∷◌, Option, Some, None, refl, sym, ap, codes}
use Rattle.std.proofs.lemmas.Bool.{eq-eqb, eqb-true}
use Rattle.std.specs.List.{AllByRecursion}
use Rattle.std.specs.Str.{bytes_eq}
use Rattle.tf_config_data.specs.Names.{NameView, place_of, place_before, places}
use Rattle.tf_graph.specs.Solutions.{seen_by}
use Rattle.tf_graph.proofs.Solving.{all_by_weaker}
use Rattle.tf_expr_operators.specs.Answer.{present_value}
use Rattle.tf_value_data.specs.Tree.{Entries, get}
use Rattle.tf_expr_syntax.specs.TemplateNames.{Pair}
use Rattle.tf_expr_eval.specs.Locality.{AgreeOn}
use Rattle.tf_expand_keys.specs.Resolved.{ResolvedView, answer_at, or_missing, environment, result_in}

agree_at : (resolved_names others : ℕ → ResolvedView) (place : Option ℕ) (ns : List ℕ) → AllByRecursion (λ n. resolved_names n ≡ others n) (place_before place ns)
    → (answer_at resolved_names place ≡ answer_at others place) × AllByRecursion (λ n. resolved_names n ≡ others n) ns
agree_at resolved_names others None ns h = (refl, h)
agree_at resolved_names others (Some n) ns h = (ap or_missing h.0, h.1)

-- environments of resolved names that agree on what some names stand for agree on these
pub agree_on : (variables : Entries) (names : List NameView) (resolved_names others : ℕ → ResolvedView) (pairs : List Pair)
    → AllByRecursion (λ n. resolved_names n ≡ others n) (places names pairs) → AgreeOn (environment variables names resolved_names) (environment variables names others) pairs
agree_on variables names resolved_names others [] h = tt
agree_on variables names resolved_names others (pair ∷ pairs) h =
    let both = agree_at resolved_names others (place_of names pair) (places names pairs) h in (
      ap (λ a. if bytes_eq pair.0 (codes "var") then present_value (get pair.1 variables) else a) both.0,
      agree_on variables names resolved_names others pairs both.1,
    )

seen_again : (resolved_names : ℕ → ResolvedView) (a n : ℕ) (here : Bool) (rest : ResolvedView) → (here ≡ true → a ≡ n) → resolved_names n ≡ rest → resolved_names n ≡ (if here then resolved_names a else rest)
seen_again resolved_names a n true rest same h = ap resolved_names (sym (same refl))
seen_again resolved_names a n false rest same h = h

-- what is seen of each node is its result
pub same_seen : (resolved_names : ℕ → ResolvedView) (nodes : List ℕ) → AllByRecursion (λ n. resolved_names n ≡ result_in (seen_by resolved_names nodes) n) nodes
same_seen resolved_names [] = tt
same_seen resolved_names (a ∷ nodes) = (
  rw (eq-eqb a a refl) refl,
  all_by_weaker _ _ nodes (λ n h. seen_again resolved_names a n (a == n) (result_in (seen_by resolved_names nodes) n) (eqb-true a n) h) (same_seen resolved_names nodes),
)
