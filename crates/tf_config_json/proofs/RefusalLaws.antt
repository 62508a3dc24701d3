-- One fault is told of a text at most, and none of a configuration.
use Rattle.std.proofs.Common.{◌≡◌, ◌⊎◌, ◌∙◌, ℕ, ◌≤◌, List, length, [], ◌∷◌, Some, sym, ap, subst, inl, inr, arith}
use Rattle.serde_json.specs.Data.{Data}
use Rattle.tf_config_json.proofs.BuiltSections.{text_built}
use Rattle.tf_config_json.proofs.One.{configuration_one}
use Rattle.tf_config_json.specs.Building.{BuildsConfiguration}
use Rattle.tf_config_json.specs.Configuration.{configuration_checks, whole_file, IsConfiguration}
use Rattle.tf_config_json.specs.Demand.{Demand, nothing_fits, holds, of_expression, Checks, IsMet, Fails, Refuses, TellsAt}
use Rattle.tf_config_json.specs.Laws.{SpellsNone, IsUnspelled, IsTemplateWay, RefusedOnce, RefusedIsNotRead}
use Rattle.tf_config_json.specs.Reading.{max_bytes, IsTree, IsNotJson, IsMisshapen, HasTooMany, IsRefused, IsWithinCounts}
use Rattle.tf_config_data.specs.Config.{ConfigView}
use Rattle.tf_expr_json.specs.Demand as expr
use Rattle.tf_expr_json.specs.declared.fault.ExprCause.{ExprCause}
use Rattle.tf_expr_json.specs.declared.fault.ExprCause.TheVariants.{BadShape, At, TooDeep}
use Rattle.tf_config_refusal.proofs.Checks.{IsFirst-unmet}
use Rattle.tf_config_refusal.specs.Check.{IsFirst}
use Rattle.tf_expr_json.specs.Refusing.{way_of}
use Rattle.tf_config_refusal.specs.Place.{dotted}
use Rattle.tf_config_refusal.specs.declared.code.Code.{Code}
use Rattle.tf_config_refusal.specs.declared.code.Code.TheVariants as code
use Rattle.tf_config_refusal.specs.Refusal.{bare, DetailView, RefusalView, no_memory, workers, fault, Way}

-- ---- demands

-- what is met of an expression does not fail
pub expression_apart : (d : expr.Demand) (cause : ExprCause) → expr.IsMet d → expr.Fails d cause → ⊥
expression_apart (expr.a_plain_name s) cause met fails = fails.0 met
expression_apart (expr.a_whole_number n) cause met fails = absurd (cc (met, fails.0))
expression_apart (expr.a_template s) BadShape met fails = fails
expression_apart (expr.a_template s) (At offset) met fails = fails met.0 met.1.0
expression_apart (expr.a_template s) TooDeep met fails = let deep = fails met.0 met.1.0 in absurd (omega (arith, deep, met.1.1))

pub apart : (d : Demand) (way : Way) → IsMet d → Fails d way → ⊥
apart nothing_fits way met fails = met
apart (holds condition) way met fails = absurd (cc (met, fails.0))
apart (of_expression d) way met fails = expression_apart d fails.0 met fails.1

template_ways : (s : List ℕ) (cause cause' : ExprCause) (way way' : Way) → expr.IsNoTemplate s cause → way ≡ way_of cause → expr.IsNoTemplate s cause' → way' ≡ way_of cause'
    → (way ≡ way') ⊎ (SpellsNone (of_expression (expr.a_template s)) tt × IsTemplateWay way × IsTemplateWay way')
template_ways s BadShape cause' way way' h is k is' = absurd h
template_ways s (At n) BadShape way way' h is k is' = absurd k
template_ways s (At n) (At m) way way' h is k is' = inr (h, inl (n, is), inl (m, is'))
template_ways s (At n) TooDeep way way' h is k is' = inr (h, inl (n, is), inr is')
template_ways s TooDeep BadShape way way' h is k is' = absurd k
template_ways s TooDeep (At m) way way' h is k is' = inr (k, inr is, inl (m, is'))
template_ways s TooDeep TooDeep way way' h is k is' = inl (is ∙ sym is')

-- a demand fails in one way, or its text spells no template
two_ways : (d : Demand) (way way' : Way) → Fails d way → Fails d way' → (way ≡ way') ⊎ (SpellsNone d tt × IsTemplateWay way × IsTemplateWay way')
two_ways nothing_fits way way' h k = inl (h ∙ sym k)
two_ways (holds condition) way way' h k = inl (h.1 ∙ sym k.1)
two_ways (of_expression (expr.a_plain_name s)) way way' h k = inl (h.2 ∙ ap way_of (h.1.1 ∙ sym k.1.1) ∙ sym k.2)
two_ways (of_expression (expr.a_whole_number n)) way way' h k = inl (h.2 ∙ ap way_of (h.1.1 ∙ sym k.1.1) ∙ sym k.2)
two_ways (of_expression (expr.a_template s)) way way' h k = template_ways s h.0 k.0 way way' h.1 h.2 k.1 k.2

first_once : (checks : Checks) (place place' : List ℕ) (way way' : Way) → IsFirst IsMet Fails place way checks → IsFirst IsMet Fails place' way' checks
    → (place ≡ place') × ((way ≡ way') ⊎ (IsFirst IsMet SpellsNone place tt checks × IsTemplateWay way × IsTemplateWay way'))
first_once [] place place' way way' h k = absurd h
first_once (x ∷ xs) place place' way way' h k =
    elim h [
      | inl here ↦ elim k [
        | inl other ↦ (
          here.0 ∙ sym other.0,
          elim (two_ways x.demand way way' here.1 other.1) [ inl same ↦ inl same | inr none ↦ inr (inl (here.0, none.0), none.1, none.2) ],
        )
        | inr other ↦ absurd (apart x.demand way other.0 here.1)
      ]
      | inr later ↦ elim k [
        | inl other ↦ absurd (apart x.demand way' later.0 other.1)
        | inr other ↦ let once = first_once xs place place' way way' later.1 other.1 in (
          once.0,
          elim once.1 [ inl same ↦ inl same | inr none ↦ inr (inr (later.0, none.0), none.1, none.2) ],
        )
      ]
    ]

-- ---- texts

one_tree : (bytes : List ℕ) (t u : Data) → IsTree bytes t → IsTree bytes u → t ≡ u
one_tree bytes t u h k = let same : Some t ≡ Some u = sym h.1 ∙ k.1 in cc

one_config : (bytes : List ℕ) (t u : Data) (a b : ConfigView) → IsTree bytes t → IsTree bytes u → IsConfiguration t a → IsConfiguration u b → a ≡ b
one_config bytes t u a b text text' h k = configuration_one u a b (subst (λ d. IsConfiguration d a) (one_tree bytes t u text text') h) k

-- a text that stands for a configuration has no fault in its shape
standing : (bytes : List ℕ) (code : Code) (place : List ℕ) (detail : DetailView) (tree : Data) (config : ConfigView) → IsTree bytes tree → IsConfiguration tree config
    → IsMisshapen bytes (fault code place detail) → ⊥
standing bytes code place detail tree config text stands h =
    let same : h.0 ≡ tree = one_tree bytes h.0 tree h.1 text in
    IsFirst-unmet IsMet Fails apart (configuration_checks tree) place (code, detail) stands.checks
    (subst (λ t. Refuses (configuration_checks t) (fault code place detail)) same h.2)

-- ---- two refusals

one_fault : (place place' : List ℕ) (way way' : Way) → place ≡ place' → way ≡ way' → fault way.0 place way.1 ≡ fault way'.0 place' way'.1
one_fault place place' way way' here same = ap (λ p. fault way.0 p way.1) here ∙ ap (λ (w : Way). fault w.0 place' w.1) same

module _ (bytes : List ℕ) (code code' : Code) (place place' : List ℕ) (detail detail' : DetailView) where
  abbrev One : Type 0
  One = fault code place detail ≡ fault code' place' detail'

  abbrev Once : Type 0
  Once = (place ≡ place') × (One ⊎ (IsUnspelled bytes place × IsTemplateWay (code, detail) × IsTemplateWay (code', detail')))

  once : One → Once
  once same = (cc, inl same)

  both_misshapen : IsMisshapen bytes (fault code place detail) → IsMisshapen bytes (fault code' place' detail') → Once
  both_misshapen h k =
      let same : h.0 ≡ k.0 = one_tree bytes h.0 k.0 h.1 k.1 in
      let first = subst (λ t. Refuses (configuration_checks t) (fault code place detail)) same h.2 in
      let both = first_once (configuration_checks k.0) place place' (code, detail) (code', detail') first k.2 in
      (both.0, elim both.1 [ inl one ↦ inl (one_fault place place' (code, detail) (code', detail') both.0 one) | inr none ↦ inr ((k.0, k.1, none.0), none.1, none.2) ])

  both_too_many : HasTooMany bytes (fault code place detail) → HasTooMany bytes (fault code' place' detail') → Once
  both_too_many h k = once (h.5 ∙ sym k.5)

  abbrev IsRead : RefusalView → Type 0
  IsRead refusal = IsMisshapen bytes refusal ⊎ HasTooMany bytes refusal

  read_once : IsRead (fault code place detail) → IsRead (fault code' place' detail') → Once
  read_once h k =
      elim h [
        | inl misshapen ↦ elim k [ inl other ↦ both_misshapen misshapen other | inr many ↦ absurd (standing bytes code place detail many.0 many.2 many.1 many.3 misshapen) ]
        | inr many ↦ elim k [ inl misshapen ↦ absurd (standing bytes code' place' detail' many.0 many.2 many.1 many.3 misshapen) | inr other ↦ both_too_many many other ]
      ]

  read_tree : (refusal : RefusalView) → IsRead refusal → (tree : Data) × IsTree bytes tree
  read_tree refusal h = elim h [ inl misshapen ↦ (misshapen.0, misshapen.1) | inr many ↦ (many.0, many.1) ]

  text_once : IsNotJson bytes (fault code place detail) ⊎ IsRead (fault code place detail) → IsNotJson bytes (fault code' place' detail') ⊎ IsRead (fault code' place' detail') → Once
  text_once h k =
      elim h [
        | inl no_json ↦ elim k [
          | inl other ↦ once (no_json.1 ∙ sym other.1)
          | inr other ↦ let text = read_tree (fault code' place' detail') other in absurd (no_json.0 text.0 text.1)
        ]
        | inr one ↦ elim k [
          | inl no_json ↦ let text = read_tree (fault code place detail) one in absurd (no_json.0 text.0 text.1)
          | inr other ↦ read_once one other
        ]
      ]

pub refused_once : RefusedOnce
refused_once bytes code code' place place' detail detail' h k =
    elim h [
      | inl long ↦ elim k [ inl other ↦ once bytes code code' place place' detail detail' (long.1 ∙ sym other.1) | inr small ↦ absurd (omega (arith, long.0, small.0)) ]
      | inr small ↦ elim k [ inl long ↦ absurd (omega (arith, long.0, small.0)) | inr other ↦ text_once bytes code code' place place' detail detail' small.1 other.1 ]
    ]

-- ---- none of a configuration

pub refused_not_read : RefusedIsNotRead
refused_not_read bytes code place detail tree config h small text stands few =
    elim h [
      | inl long ↦ absurd (omega (arith, long.0))
      | inr within ↦ elim within.1 [
        | inl no_json ↦ no_json.0 tree text
        | inr read ↦ elim read [
          | inl misshapen ↦ standing bytes code place detail tree config text stands misshapen
          | inr many ↦
              let same : many.2 ≡ config = one_config bytes many.0 tree many.2 config many.1 text many.3 stands in
              many.4 (subst IsWithinCounts (sym same) few)
        ]
      ]
    ]

-- ---- a configuration with too much of something

pub too_many : (bytes : List ℕ) (tree : Data) (config : ConfigView) (refusal : RefusalView) → length bytes ≤ max_bytes → IsTree bytes tree → BuildsConfiguration tree config → ¬ IsWithinCounts config
    → TellsAt (dotted whole_file) (code.Limit, bare) refusal → IsRefused bytes refusal
too_many bytes tree config no_memory small is builds many h = tt
too_many bytes tree config workers small is builds many h = absurd h
too_many bytes tree config (fault which place detail) small is builds many h =
    let same = ap (λ (p : List ℕ). fault which p detail) h.0 ∙ ap (λ (w : Way). fault w.0 (dotted whole_file) w.1) h.1 in
    inr (small, inr (inr (tree, is, config, text_built bytes tree config is builds, many, same)))
