-- Of texts that were read nothing is told but of the state.
use Rattle.std.proofs.Common.{◌≡◌, ◌∙◌, ℕ, true, false, List, [], ◌∷◌, Option, Some, None, IsTrue, inl, inr, refl, sym, subst, arith}
use Rattle.serde_json.specs.Data.{Data}
use Rattle.tf_config_json.proofs.RefusalLaws.{apart}
use Rattle.tf_config_json.specs.Demand.{AreMet, IsMet, Fails}
use Rattle.tf_config_json.specs.Laws.{RefusedIsNotRead}
use Rattle.tf_config_json.specs.Reading.{IsRefused}
use Rattle.tf_config_data.specs.Config.{ConfigView, VariableView}
use Rattle.tf_config_data.specs.Names.{NameView, names_of}
use Rattle.tf_graph.proofs.Edges.{contains_head}
use Rattle.tf_cli_inputs.specs.Texts.{AreNamesGood, AreTheValues, IsRead}
use Rattle.tf_config_refusal.proofs.Checks.{IsFirst-unmet}
use Rattle.tf_config_refusal.specs.Check.{AllMet}
use Rattle.tf_config_names.specs.Cyclic.{RefusesCycle}
use Rattle.tf_config_names.specs.Judging.{RefusesItsNames}
use Rattle.tf_config_names.specs.KnownNames.{AreKnown, IsKnown, IsUnknown, RefusesNames, config_checks, declared_in}
use Rattle.tf_config_names.specs.Needs.{AreCyclic, Needs}
use Rattle.tf_config_refusal.specs.declared.code.Code.{Code}
use Rattle.tf_config_refusal.specs.Refusal.{RefusalView, fault, no_memory, workers}
use Rattle.tf_expr_syntax.specs.TemplateNames.{Pair}
use Rattle.tf_config_json.specs.VariableLaws.{ValuesAreFaultless}
use Rattle.tf_config_json.specs.VariablesRead.{IsFaulty, IsFile, IsFileOf, IsNoFile, IsRefusedAs, is_object}
use Rattle.tf_config_json.specs.VariablesRead as variables
use Rattle.tf_config_json.specs.Values.{HasNone, file_checks, value_checks}
use Rattle.tf_value_data.specs.Tree.{Entries}
use Rattle.tf_laws.proofs.Reading.{one_tree}

-- ---- the configuration

pub config_read : RefusedIsNotRead → (bytes : List ℕ) (config : ConfigView) (refusal : RefusalView) → (refusal ≡ no_memory → ⊥) → IsRead bytes config → IsRefused bytes refusal → ⊥
config_read law bytes config no_memory some read h = some refl
config_read law bytes config workers some read h = h
config_read law bytes config (fault code place detail) some read h = law bytes code place detail read.tree config h read.size read.is_tree read.stands read.counts

-- ---- names

pub names_known : (config : ConfigView) (refusal : RefusalView) → (refusal ≡ no_memory → ⊥) → AreKnown (declared_in config) (config_checks config) → RefusesNames (declared_in config) (config_checks config) refusal → ⊥
names_known config no_memory some known h = some refl
names_known config workers some known h = h
names_known config (fault code place detail) some known h =
    IsFirst-unmet (IsKnown (declared_in config)) (IsUnknown (declared_in config)) (λ d way met fails. absurd (cc (met, fails.0))) (config_checks config) place (code, detail) known h

no_cycle : (names : List NameView) (texts : List (List ℕ)) → ((pair : Pair) → Needs names pair pair → ⊥) → AreCyclic names texts → (texts ≡ [] → ⊥) → ⊥
no_cycle names [] none cyclic some = some refl
no_cycle names (t ∷ texts) none cyclic some = let led = cyclic.led t (contains_head t t texts refl) in none led.0 led.1

names_acyclic : (names : List NameView) (refusal : RefusalView) → (refusal ≡ no_memory → ⊥) → ((pair : Pair) → Needs names pair pair → ⊥) → RefusesCycle names refusal → ⊥
names_acyclic names no_memory some none h = some refl
names_acyclic names workers some none h = h
names_acyclic names (fault code place detail) some none h = no_cycle names h.2.0 none h.2.2 h.2.3

pub names_good : (config : ConfigView) (refusal : RefusalView) → (refusal ≡ no_memory → ⊥) → AreNamesGood config → RefusesItsNames config refusal → ⊥
names_good config refusal some good h = elim h [ inl unknown ↦ names_known config refusal some good.known unknown | inr cycle ↦ names_acyclic (names_of config) refusal some good.acyclic cycle.1 ]

-- ---- variables

pub not_faulty : (file : Option Data) (vs : List VariableView) (code : Code) (place : List ℕ) (detail : _) → AreMet (file_checks file vs) → AllMet IsTrue (value_checks file vs) → IsFaulty file vs (fault code place detail) → ⊥
not_faulty file vs code place detail literal valued h = elim h [
  | inl wrong ↦ IsFirst-unmet IsMet Fails apart (file_checks file vs) place (code, detail) literal wrong
  | inr none ↦ IsFirst-unmet IsTrue HasNone (λ has way met fails. absurd (cc (met, fails.0))) (value_checks file vs) place (code, detail) valued none.1
]

pub is_file : (bytes : List ℕ) (tree : Data) (refusal : RefusalView) → IsFile bytes tree → IsNoFile bytes refusal → ⊥
is_file bytes tree refusal file h = elim h [
  | inl long ↦ absurd (omega (arith, long.0, file.0))
  | inr small ↦ elim small.1 [
    | inl no_json ↦ no_json.0 tree file.1
    | inr other ↦
        let same : other.0 ≡ tree = one_tree bytes other.0 tree other.1 file.1 in
        let no : true ≡ false = sym file.2 ∙ subst (λ (t : Data). is_object t ≡ false) same other.2 in
        absurd (cc)
  ]
]

not_refused_as : (vars : Option (List ℕ)) (file : Option Data) (vs : List VariableView) (code : Code) (place : List ℕ) (detail : _) → IsFileOf vars file → AreMet (file_checks file vs) → AllMet IsTrue (value_checks file vs)
    → IsRefusedAs vars vs (fault code place detail) → ⊥
not_refused_as None None vs code place detail is literal valued h = not_faulty None vs code place detail literal valued h
not_refused_as None (Some tree) vs code place detail is literal valued h = is
not_refused_as (Some bytes) None vs code place detail is literal valued h = is
not_refused_as (Some bytes) (Some tree) vs code place detail is literal valued h = elim h [
  | inl none ↦ is_file bytes tree (fault code place detail) is none
  | inr faulty ↦
      not_faulty (Some tree) vs code place detail literal valued
      (subst (λ (t : Data). IsFaulty (Some t) vs (fault code place detail)) (one_tree bytes faulty.0 tree faulty.1.1 is.1) faulty.2)
]

pub values_good : ValuesAreFaultless → (vars : Option (List ℕ)) (config : ConfigView) (values : Entries) (refusal : RefusalView) → (refusal ≡ no_memory → ⊥) → AreTheValues vars config values
    → variables.IsRefused vars config.variables refusal → ⊥
values_good law vars config values no_memory some valued h = some refl
values_good law vars config values workers some valued h = h
values_good law vars config values (fault code place detail) some valued h =
    not_refused_as vars valued.file config.variables code place detail valued.is_file valued.literal (law valued.file config.variables values valued.valued) h
