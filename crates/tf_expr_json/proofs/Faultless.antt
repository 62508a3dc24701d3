-- What is demanded of a JSON tree beside the expression that it is.
use Rattle.std.proofs.Common.{◌≡◌, ◌^◌, ℕ, ℤ, pos, negsuc, ◌+◌, Bool, true, false, List, [], ◌∷◌, inl, inr, cond, nat_lt, refl, sym, ap, ◌∙◌, arith}
use Rattle.std.specs.Fmt.{decimal}
use Rattle.serde_json.specs.Data as json
use Rattle.tf_expr_template.proofs.Alone.{one_template}
use Rattle.tf_config_refusal.proofs.Checks.{AllMet-append, AllMet-left, AllMet-right, IsFirst-unmet}
use Rattle.tf_config_refusal.specs.Check.{Check, IsFirst}
use Rattle.tf_value_json.specs.Json.{whole_from}
use Rattle.tf_value_data.specs.Known.{known}
use Rattle.tf_value_data.specs.Tree as values
use Rattle.tf_expr_json.specs.Demand.{Demand, a_plain_name, a_whole_number, a_template, AreMet, IsMet, Fails}
use Rattle.tf_expr_json.specs.Reading.{expr_checks, item_checks, member_checks, IsExpr, AreExprs, HoldExprs}
use Rattle.tf_expr_syntax.specs.ExprTree.{Tree, null, boolean, whole, template, list, map, Trees, no_trees, tree, Entries, no_entries, entry}
use Rattle.tf_expr_json.specs.declared.fault.ExprCause.{ExprCause}
use Rattle.tf_expr_json.specs.declared.fault.ExprCause.TheVariants.{BadShape, At, TooDeep}

-- ---- an expression's checks are met

mutual
  pub expr_met : (place : List (List ℕ)) (d : json.Data) (e : Tree) → IsExpr d e → AreMet (expr_checks place d)
  expr_met place json.null null h = tt
  expr_met place (json.boolean b) (boolean c) h = tt
  expr_met place (json.number n) (whole z) h = (ap known h, tt)
  expr_met place (json.string s) (template w) h = ((w, h), tt)
  expr_met place (json.array ds) (list ts) h = items_met place 0 ds ts h
  expr_met place (json.object ms) (map es) h = members_met place ms es h
  expr_met _ _ _ h = absurd (assumption)

  pub items_met : (place : List (List ℕ)) (n : ℕ) (ds : json.Items) (ts : Trees) → AreExprs ds ts → AreMet (item_checks place n ds)
  items_met place n json.no_items no_trees h = tt
  items_met place n (json.item d ds) (tree t ts) h =
      AllMet-append IsMet (expr_checks (decimal n ∷ place) d) (item_checks place (n + 1) ds) (expr_met (decimal n ∷ place) d t h.0) (items_met place (n + 1) ds ts h.1)
  items_met _ _ _ _ h = absurd (assumption)

  pub members_met : (place : List (List ℕ)) (ms : json.Members) (es : Entries) → HoldExprs ms es → AreMet (member_checks place ms)
  members_met place json.no_members no_entries h = tt
  members_met place (json.member k d ms) (entry l t es) h =
      (h.1, AllMet-append IsMet (expr_checks (k ∷ place) d) (member_checks place ms) (expr_met (k ∷ place) d t h.2) (members_met place ms es h.3))
  members_met _ _ _ h = absurd (assumption)

-- ---- what meets its checks is an expression

whole_if : (b : Bool) (z : ℤ) → known (cond b (values.whole z) values.unknown) ≡ true → cond b (values.whole z) values.unknown ≡ values.whole z
whole_if true z h = refl
whole_if false z h = absurd (cc)

whole_of : (n : json.Num) → known (whole_from n) ≡ true → (z : ℤ) × (whole_from n ≡ values.whole z)
whole_of (json.unsigned n) h = (pos n, whole_if (nat_lt n (2 ^ 63)) (pos n) h)
whole_of (json.negative (pos n)) h = absurd (cc)
whole_of (json.negative (negsuc n)) h = (negsuc n, whole_if (nat_lt n (2 ^ 63)) (negsuc n) h)
whole_of (json.float x) h = absurd (cc)

mutual
  pub expr_from_met : (place : List (List ℕ)) (d : json.Data) → AreMet (expr_checks place d) → (e : Tree) × IsExpr d e
  expr_from_met place json.null h = (null, tt)
  expr_from_met place (json.boolean b) h = (boolean b, refl)
  expr_from_met place (json.number n) h = let z = whole_of n h.0 in (whole z.0, z.1)
  expr_from_met place (json.string s) h = (template h.0.0, h.0.1)
  expr_from_met place (json.array ds) h = let ts = items_from_met place 0 ds h in (list ts.0, ts.1)
  expr_from_met place (json.object ms) h = let es = members_from_met place ms h in (map es.0, es.1)

  items_from_met : (place : List (List ℕ)) (n : ℕ) (ds : json.Items) → AreMet (item_checks place n ds) → (ts : Trees) × AreExprs ds ts
  items_from_met place n json.no_items h = (no_trees, tt)
  items_from_met place n (json.item d ds) h =
      let own = expr_checks (decimal n ∷ place) d in
      let others = item_checks place (n + 1) ds in
      let t = expr_from_met (decimal n ∷ place) d (AllMet-left IsMet own others h) in
      let ts = items_from_met place (n + 1) ds (AllMet-right IsMet own others h) in
      (tree t.0 ts.0, (t.1, ts.1))

  members_from_met : (place : List (List ℕ)) (ms : json.Members) → AreMet (member_checks place ms) → (es : Entries) × HoldExprs ms es
  members_from_met place json.no_members h = (no_entries, tt)
  members_from_met place (json.member k d ms) h =
      let own = expr_checks (k ∷ place) d in
      let others = member_checks place ms in
      let t = expr_from_met (k ∷ place) d (AllMet-left IsMet own others h.1) in
      let es = members_from_met place ms (AllMet-right IsMet own others h.1) in
      (entry k t.0 es.0, (refl, h.0, t.1, es.1))

-- ---- a JSON tree is one expression at most

mutual
  pub expr_one : (d : json.Data) (e f : Tree) → IsExpr d e → IsExpr d f → e ≡ f
  expr_one json.null null null h k = refl
  expr_one (json.boolean b) (boolean c) (boolean d) h k = ap boolean (sym h ∙ k)
  expr_one (json.number n) (whole y) (whole z) h k = let same : values.whole y ≡ values.whole z = sym h ∙ k in cc
  expr_one (json.string s) (template v) (template w) h k = ap template (one_template s v w h.0 k.0)
  expr_one (json.array ds) (list ts) (list us) h k = ap list (items_one ds ts us h k)
  expr_one (json.object ms) (map es) (map fs) h k = ap map (members_one ms es fs h k)
  expr_one _ _ _ h k = absurd (assumption)

  items_one : (ds : json.Items) (ts us : Trees) → AreExprs ds ts → AreExprs ds us → ts ≡ us
  items_one json.no_items no_trees no_trees h k = refl
  items_one (json.item d ds) (tree t ts) (tree u us) h k =
      let first = expr_one d t u h.0 k.0 in let others = items_one ds ts us h.1 k.1 in cc
  items_one _ _ _ h k = absurd (assumption)

  members_one : (ms : json.Members) (es fs : Entries) → HoldExprs ms es → HoldExprs ms fs → es ≡ fs
  members_one json.no_members no_entries no_entries h k = refl
  members_one (json.member n d ms) (entry l t es) (entry m u fs) h k =
      let named : l ≡ m = sym h.0 ∙ k.0 in let first = expr_one d t u h.2 k.2 in let others = members_one ms es fs h.3 k.3 in cc
  members_one _ _ _ h k = absurd (assumption)

-- ---- a first fault

apart : (d : Demand) (cause : ExprCause) → IsMet d → Fails d cause → ⊥
apart (a_plain_name s) cause met fails = fails.0 met
apart (a_whole_number n) cause met fails = absurd (cc (met, fails.0))
apart (a_template s) BadShape met fails = fails
apart (a_template s) (At offset) met fails = fails met.0 met.1.0
apart (a_template s) TooDeep met fails = let deep = fails met.0 met.1.0 in absurd (omega (arith, deep, met.1.1))

pub faulty_none : (place : List (List ℕ)) (d : json.Data) (e : Tree) (at : List ℕ) (cause : ExprCause) → IsFirst IsMet Fails at cause (expr_checks place d) → ¬ IsExpr d e
faulty_none place d e at cause first is = IsFirst-unmet IsMet Fails apart (expr_checks place d) at cause (expr_met place d e is) first

pub first_place : (checks : List (Check Demand)) (at at' : List ℕ) (cause cause' : ExprCause) → IsFirst IsMet Fails at cause checks → IsFirst IsMet Fails at' cause' checks → at ≡ at'
first_place [] at at' cause cause' h k = absurd h
first_place (x ∷ xs) at at' cause cause' h k =
    elim h [
      | inl here ↦ elim k [
        | inl other ↦ here.0 ∙ sym other.0
        | inr later ↦ absurd (apart x.demand cause later.0 here.1)
      ]
      | inr later ↦ elim k [
        | inl here ↦ absurd (apart x.demand cause' later.0 here.1)
        | inr other ↦ first_place xs at at' cause cause' later.1 other.1
      ]
    ]
