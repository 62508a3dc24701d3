-- Of some checks it can be told that all are met, or which is the first that isn't, where each is decided.
use Rattle.std.proofs.Common.{◌≡◌, ◌+◌, ◌<◌, ◌≤◌, ◌⊎◌, ℕ, zero, suc, Bool, true, false, List, [], ◌∷◌, Option, Some, None, IsUtf8, length, inl, inr, refl, subst, arith}
use Rattle.std.proofs.lemmas.Bool.{cases_Bool, cases_eq, cases_lt}
use Rattle.std.proofs.lemmas.List.{get_or_past}
use Rattle.std.proofs.lemmas.Str.{IsUtf8-from_is_utf8, is_utf8-from_IsUtf8}
use Rattle.std.specs.Prelude.{slice_index}
use Rattle.std.specs.Str.{is_utf8}
use Rattle.serde_json.specs.Data.{Data}
use Rattle.serde_json.specs.Read.{read}
use Rattle.tf_config_json.specs.Demand.{Demand, Fails, IsMet, bad_shape, holds, nothing_fits, of_expression}
use Rattle.tf_config_json.specs.Reading.{IsTree}
use Rattle.tf_expr_json.specs.Demand as expr
use Rattle.tf_expr_json.specs.Opening.{IsPlain, OpensAt, opens}
use Rattle.tf_expr_json.specs.declared.fault.ExprCause.TheVariants.{BadShape, TooDeep}
use Rattle.tf_config_refusal.specs.Check.{AllMet, Check, IsFirst}
use Rattle.tf_expr_json.specs.Refusing.{way_of}
use Rattle.tf_config_refusal.specs.declared.code.Code.{Code}
use Rattle.tf_config_refusal.specs.Refusal.{DetailView, fault, no_memory, Way}
use Rattle.tf_expr_syntax.specs.TemplateTree.{Woven, template_depth}
use Rattle.tf_value_json.specs.Json.{whole_from}
use Rattle.tf_value_data.specs.Known.{known}

pub not_memory : (code : Code) (place : List ℕ) (detail : DetailView) → fault code place detail ≡ no_memory → ⊥
not_memory code place detail e = absurd (cc)

-- ---- the first of some checks

-- a demand is met, or it fails in some way
abbrev pub IsDecidedBy : {D : Type 0} → (D → Type 0) → (D → Way → Type 0) → D → Type 0
IsDecidedBy Met Fail d = Met d ⊎ ((way : Way) × Fail d way)

-- some check is the first that isn't met
abbrev pub HasFirst : {D : Type 0} → (D → Type 0) → (D → Way → Type 0) → List (Check D) → Type 0
HasFirst Met Fail checks = (place : List ℕ) × (way : Way) × IsFirst Met Fail place way checks

pub first_told : {D : Type 0} (Met : D → Type 0) (Fail : D → Way → Type 0) (checks : List (Check D)) → AllMet (IsDecidedBy Met Fail) checks → AllMet Met checks ⊎ HasFirst Met Fail checks
first_told Met Fail [] decided = inl tt
first_told Met Fail (check ∷ checks) decided = elim decided.0 [
  | inr fails ↦ inr (check.place, fails.0, inl (refl, fails.1))
  | inl met ↦ elim (first_told Met Fail checks decided.1) [ inl all ↦ inl (met, all) | inr first ↦ inr (first.0, first.1, inr (met, first.2)) ]
]

-- where each demand is decided, or what follows from its being so holds anyway, so it is with all
pub all_decided : {D : Type 0} (R : Type 0) (P : D → Type 0) → ((d : D) → (P d → R) → R) → (checks : List (Check D)) → (AllMet P checks → R) → R
all_decided R P each [] on = on tt
all_decided R P each (check ∷ checks) on = each check.demand (λ decided. all_decided R P each checks (λ rest. on (decided, rest)))

pub each_decided : {D : Type 0} (P : D → Type 0) → ((d : D) → P d) → (checks : List (Check D)) → AllMet P checks
each_decided P each [] = tt
each_decided P each (check ∷ checks) = (each check.demand, each_decided P each checks)

-- ---- names of properties

-- an interpolation or a directive opens somewhere, or nowhere before a place
opening_before : (text : List ℕ) (n : ℕ) → ((m : ℕ) × OpensAt text m) ⊎ ((m : ℕ) → m < n → OpensAt text m → ⊥)
opening_before text zero = inr (λ m h. absurd (omega (arith, h)))
opening_before text (suc n) = elim (opening_before text n) [
  | inl found ↦ inl found
  | inr none ↦ elim (cases_Bool (opens (slice_index text n) (slice_index text (n + 1)))) [
    | inl here ↦ inl (n, here)
    | inr not ↦ inr (λ m h is. elim (cases_eq m n) [ inl same ↦ closed (opens (slice_index text n) (slice_index text (n + 1))) not (subst (OpensAt text) same is) | inr other ↦ none m (omega (arith, h, other)) is ])
  ]
]
  where
    closed : (b : Bool) → b ≡ false → b ≡ true → ⊥
    closed b no_one holds_too = absurd (cc)

-- past the end nothing opens
past_end : (text : List ℕ) (m : ℕ) → length text ≤ m → OpensAt text m → ⊥
past_end text m h is =
    let nothing : slice_index text m ≡ 0 = get_or_past text m 0 h in
    let closed : opens 0 (slice_index text (m + 1)) ≡ true = subst (λ (first : ℕ). opens first (slice_index text (m + 1)) ≡ true) nothing is in
    absurd (cc)

pub plain_decided : (text : List ℕ) → IsPlain text ⊎ (IsPlain text → ⊥)
plain_decided text = elim (opening_before text (length text)) [
  | inl found ↦ inr (λ plain. plain found.0 found.1)
  | inr none ↦ inl (λ m is. elim (cases_lt m (length text)) [ inl inside ↦ none m inside is | inr past ↦ past_end text m past is ])
]

-- ---- demands

-- what holds of a template, or of none
abbrev pub IsTemplateDecided : List ℕ → Type 0
IsTemplateDecided text = ((w : Woven) × expr.IsTemplate w text) ⊎ ((w : Woven) → ¬ expr.IsTemplate w text)

abbrev pub IsDemandDecided : Demand → Type 0
IsDemandDecided = IsDecidedBy IsMet Fails

condition_decided : (condition : Bool) → IsDemandDecided (holds condition)
condition_decided true = inl refl
condition_decided false = inr (bad_shape, (refl, refl))

whole_decided : (n : _) (b : Bool) → known (whole_from n) ≡ b → IsDemandDecided (of_expression (expr.a_whole_number n))
whole_decided n true e = inl e
whole_decided n false e = inr (way_of BadShape, (BadShape, (e, refl), refl))

name_decided : (text : List ℕ) → IsPlain text ⊎ (IsPlain text → ⊥) → IsDemandDecided (of_expression (expr.a_plain_name text))
name_decided text (inl plain) = inl plain
name_decided text (inr not) = inr (way_of BadShape, (BadShape, (not, refl), refl))

-- where there is no template, each that is spelled is too deep
template_decided : (text : List ℕ) → IsTemplateDecided text → IsDemandDecided (of_expression (expr.a_template text))
template_decided text (inl template) = inl template
template_decided text (inr none) =
    inr (
      way_of TooDeep,
      (TooDeep, λ w spelled. elim (cases_lt 64 (template_depth w)) [ inl deep ↦ deep | inr fits ↦ absurd (none w (spelled, fits)) ], refl),
    )

pub demand_decided : (R : Type 0) → ((text : List ℕ) → (IsTemplateDecided text → R) → R) → (d : Demand) → (IsDemandDecided d → R) → R
demand_decided R template nothing_fits on = on (inr (bad_shape, refl))
demand_decided R template (holds condition) on = on (condition_decided condition)
demand_decided R template (of_expression (expr.a_plain_name text)) on = on (name_decided text (plain_decided text))
demand_decided R template (of_expression (expr.a_whole_number n)) on = on (whole_decided n (known (whole_from n)) refl)
demand_decided R template (of_expression (expr.a_template text)) on = template text (λ decided. on (template_decided text decided))

-- ---- trees

pub tree_told : (bytes : List ℕ) → ((tree : Data) × IsTree bytes tree) ⊎ ((tree : Data) → ¬ IsTree bytes tree)
tree_told bytes = elim (cases_Bool (is_utf8 bytes)) [
  | inl utf8 ↦ by_read (IsUtf8-from_is_utf8 bytes utf8) (read bytes) refl
  | inr other ↦ inr (λ tree is. not_both (is_utf8 bytes) other (is_utf8-from_IsUtf8 bytes is.0))
]
  where
    not_both : (b : Bool) → b ≡ false → b ≡ true → ⊥
    not_both b no_one holds_too = absurd (cc)

    no_tree : (o : Option Data) (tree : Data) → o ≡ None → o ≡ Some tree → ⊥
    no_tree o tree e f = absurd (cc)

    by_read : IsUtf8 bytes → (o : Option Data) → read bytes ≡ o → ((tree : Data) × IsTree bytes tree) ⊎ ((tree : Data) → ¬ IsTree bytes tree)
    by_read utf8 (Some tree) e = inl (tree, (utf8, e))
    by_read utf8 None e = inr (λ tree is. no_tree (read bytes) tree e is.1)
