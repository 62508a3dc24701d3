-- Texts that can't be read are refused for one fault.
use Rattle.std.proofs.Common.{◌≡◌, ◌∙◌, ℕ, ◌+◌, List, [], ◌∷◌, Option, Some, None, Contains, IsTrue, inl, inr, refl, sym, ap, subst, arith}
use Rattle.std.proofs.lemmas.Cmp.{nat_list_cmp_total}
use Rattle.std.specs.Cmp.Lexicographic.{slice_cmp}
use Rattle.std.specs.Fmt.{decimal}
use Rattle.std.specs.Ordering.{nat_cmp}
use Rattle.serde_json.specs.Data.{Data, null, boolean, number, string, array, object, Items, no_items, item, Members, no_members, member}
use Rattle.tf_laws.proofs.Faultless.{is_file, names_known}
use Rattle.tf_laws.proofs.Reading.{one_tree}
use Rattle.tf_config_json.proofs.RefusalLaws.{apart}
use Rattle.tf_config_json.specs.Demand.{AreMet, Checks, Demand, Fails, IsMet, Refuses, holds, nothing_fits, of_expression}
use Rattle.tf_config_json.specs.Laws.{RefusedOnce}
use Rattle.tf_config_json.specs.Parts.{item_number_checks, member_number_checks, number_checks}
use Rattle.tf_config_json.specs.Reading as config
use Rattle.tf_config_data.specs.Config.{ConfigView, VariableView}
use Rattle.tf_config_data.specs.Names.{NameView, names_of}
use Rattle.tf_expr_json.specs.Demand as expr
use Rattle.tf_cli_inputs.specs.Refusals.{fault_told}
use Rattle.tf_cli_inputs.specs.Texts.{Texts}
use Rattle.tf_config_refusal.proofs.Checks.{AllMet-append, IsFirst-same, IsFirst-unmet}
use Rattle.tf_config_refusal.specs.Check.{AllMet, IsFirst}
use Rattle.tf_config_names.specs.Cyclic.{RefusesCycle}
use Rattle.tf_config_names.specs.Judging.{RefusesItsNames}
use Rattle.tf_config_names.specs.KnownNames.{Declared, IsKnown, IsUnknown, NameChecks, RefusesNames, config_checks, declared_in}
use Rattle.tf_config_names.specs.Needs.{AreCyclic}
use Rattle.tf_expr_json.specs.Refusing.{way_of}
use Rattle.tf_config_refusal.specs.declared.code.Code.{Code}
use Rattle.tf_config_refusal.specs.Refusal as refusals
use Rattle.tf_config_refusal.specs.Refusal.{DetailView, RefusalView, fault, no_memory, workers, Way}
use Rattle.tf_state.proofs.Permuted.{one_order}
use Rattle.tf_state.specs.Table.{IsUnread}
use Rattle.tf_state.specs.declared.fault.StateFault.{StateFault}
use Rattle.tf_state.specs.declared.fault.StateFault.TheVariants.{BadState, Limit, OutOfMemory}
use Rattle.tf_config_json.specs.VariablesRead.{IsFaulty, IsNoFile, IsRefused, IsRefusedAs}
use Rattle.tf_config_json.specs.Values.{HasNone, RefusesValues, file_checks, given, literal_at, value_checks}
use Rattle.tf_laws.specs.Refusals.{TellTheSameFault}

-- ---- the configuration's text

pub config_once : RefusedOnce → (texts : Texts) (first second : RefusalView) → (first ≡ no_memory → ⊥) → (second ≡ no_memory → ⊥) → config.IsRefused texts.config first → config.IsRefused texts.config second → TellTheSameFault texts first second
config_once law texts no_memory second some more h k = absurd (some refl)
config_once law texts workers second some more h k = absurd h
config_once law texts (fault code place detail) no_memory some more h k = absurd (more refl)
config_once law texts (fault code place detail) workers some more h k = absurd k
config_once law texts (fault code place detail) (fault other there more_detail) some more h k =
    let both = law texts.config code other place there detail more_detail h k in
    elim both.1 [
      | inl same ↦ inl same
      | inr none ↦
          inr
          (record {
            place = place;
            way = (code, detail);
            other = (other, more_detail);
            unspelled = none.0;
            told = (refl, none.1);
            told_too = (ap (λ (p : List ℕ). fault other p more_detail) (sym both.0), none.2);
          })
    ]

-- ---- what tells one fault at most

one_fault : (place there : List ℕ) (way other : Way) → place ≡ there → way ≡ other → fault way.0 place way.1 ≡ fault other.0 there other.1
one_fault place there way other here same = ap (λ (p : List ℕ). fault way.0 p way.1) here ∙ ap (λ (w : Way). fault w.0 there w.1) same

-- of two faults that it tells it tells one
abbrev TellsOneFault : (RefusalView → Type 0) → Type 0
TellsOneFault P = (code other : Code) (place there : List ℕ) (detail more : DetailView) → P (fault code place detail) → P (fault other there more) → fault code place detail ≡ fault other there more

told_once : (P : RefusalView → Type 0) → (P workers → ⊥) → TellsOneFault P → (first second : RefusalView) → (first ≡ no_memory → ⊥) → (second ≡ no_memory → ⊥) → P first → P second → first ≡ second
told_once P none one no_memory second some more h k = absurd (some refl)
told_once P none one workers second some more h k = absurd (none h)
told_once P none one (fault code place detail) no_memory some more h k = absurd (more refl)
told_once P none one (fault code place detail) workers some more h k = absurd (none k)
told_once P none one (fault code place detail) (fault other there further) some more h k = one code other place there detail further h k

-- ---- names

known_once : (declared : Declared) (checks : NameChecks) → TellsOneFault (RefusesNames declared checks)
known_once declared checks code other place there detail more h k =
    let same =
    IsFirst-same (IsKnown declared) (IsUnknown declared) (λ d way met fails. absurd (cc (met, fails.0))) (λ d way also a b. a.1 ∙ sym b.1) checks place there (code, detail) (other, more) h k in
    one_fault place there (code, detail) (other, more) same.0 same.1

led_too : (names : List NameView) (texts others : List (List ℕ)) → AreCyclic names texts → AreCyclic names others → (text : List ℕ) → Contains texts text → Contains others text
led_too names texts others h k text c = let led = h.led text c in subst (Contains others) led.2 (k.found led.0 led.1)

one_cycle : (names : List NameView) (texts others : List (List ℕ)) → AreCyclic names texts → AreCyclic names others → texts ≡ others
one_cycle names texts others h k = one_order (slice_cmp nat_cmp) nat_list_cmp_total texts others h.in_order k.in_order (led_too names texts others h k) (led_too names others texts k h)

cycles_once : (list : List NameView) → TellsOneFault (RefusesCycle list)
cycles_once list code other place there detail more h k =
    let codes_same : code ≡ other = h.0 ∙ sym k.0 in
    let places_same : place ≡ there = h.1 ∙ sym k.1 in
    let details_same : detail ≡ more = h.2.1 ∙ ap refusals.names (one_cycle list h.2.0 k.2.0 h.2.2 k.2.2) ∙ sym k.2.1 in
    λ i. fault (codes_same i) (places_same i) (details_same i)

pub names_once : (c : ConfigView) (first second : RefusalView) → (first ≡ no_memory → ⊥) → (second ≡ no_memory → ⊥) → RefusesItsNames c first → RefusesItsNames c second → first ≡ second
names_once c first second some more h k = elim h [
  | inl unknown ↦ elim k [
    | inl other ↦ told_once (RefusesNames (declared_in c) (config_checks c)) (λ no. no) (known_once (declared_in c) (config_checks c)) first second some more unknown other
    | inr cycle ↦ absurd (names_known c first some cycle.0 unknown)
  ]
  | inr cycle ↦ elim k [
    | inl unknown ↦ absurd (names_known c second more cycle.0 unknown)
    | inr other ↦ told_once (RefusesCycle (names_of c)) (λ no. no) (cycles_once (names_of c)) first second some more cycle.1 other.1
  ]
]

-- ---- literal values: none of what is demanded of them is a template

abbrev IsNoText : Demand → Type 0
IsNoText (of_expression (expr.a_template text)) = ⊥
IsNoText _ = Unit {0}

-- a demand that isn't for a template fails
abbrev FailsSimply : Demand → Way → Type 0
FailsSimply demand way = IsNoText demand × Fails demand way

simply : (checks : Checks) (place : List ℕ) (way : Way) → AllMet IsNoText checks → IsFirst IsMet Fails place way checks → IsFirst IsMet FailsSimply place way checks
simply [] place way simple h = h
simply (x ∷ xs) place way simple h = elim h [ inl here ↦ inl (here.0, (simple.0, here.1)) | inr later ↦ inr (later.0, simply xs place way simple.1 later.1) ]

one_way : (d : Demand) (way other : Way) → FailsSimply d way → FailsSimply d other → way ≡ other
one_way nothing_fits way other h k = h.1 ∙ sym k.1
one_way (holds condition) way other h k = h.1.1 ∙ sym k.1.1
one_way (of_expression (expr.a_plain_name s)) way other h k = h.1.2 ∙ ap way_of (h.1.1.1 ∙ sym k.1.1.1) ∙ sym k.1.2
one_way (of_expression (expr.a_whole_number n)) way other h k = h.1.2 ∙ ap way_of (h.1.1.1 ∙ sym k.1.1.1) ∙ sym k.1.2
one_way (of_expression (expr.a_template s)) way other h k = absurd h.0

mutual
  simple_numbers : (place : List (List ℕ)) (d : Data) → AllMet IsNoText (number_checks place d)
  simple_numbers place null = tt
  simple_numbers place (boolean b) = tt
  simple_numbers place (number n) = (tt, tt)
  simple_numbers place (string s) = tt
  simple_numbers place (array ds) = simple_items place 0 ds
  simple_numbers place (object ms) = simple_members place ms

  simple_items : (place : List (List ℕ)) (n : ℕ) (ds : Items) → AllMet IsNoText (item_number_checks place n ds)
  simple_items place n no_items = tt
  simple_items place n (item d ds) =
      AllMet-append IsNoText (number_checks (decimal n ∷ place) d) (item_number_checks place (n + 1) ds) (simple_numbers (decimal n ∷ place) d) (simple_items place (n + 1) ds)

  simple_members : (place : List (List ℕ)) (ms : Members) → AllMet IsNoText (member_number_checks place ms)
  simple_members place no_members = tt
  simple_members place (member k d ms) =
      AllMet-append IsNoText (number_checks (k ∷ place) d) (member_number_checks place ms) (simple_numbers (k ∷ place) d) (simple_members place ms)

simple_literal : (name : List ℕ) (o : Option Data) → AllMet IsNoText (literal_at name o)
simple_literal name None = tt
simple_literal name (Some value) = AllMet-append IsNoText (number_checks (name ∷ []) value) _ (simple_numbers (name ∷ []) value) (tt, tt)

simple_file : (file : Option Data) (vs : List VariableView) → AllMet IsNoText (file_checks file vs)
simple_file file [] = tt
simple_file file (v ∷ vs) = AllMet-append IsNoText (literal_at v.name (given file v.name)) (file_checks file vs) (simple_literal v.name (given file v.name)) (simple_file file vs)

-- ---- variables

module _ (file : Option Data) (vs : List VariableView) where
  literals_once : TellsOneFault (Refuses (file_checks file vs))
  literals_once code other place there detail more h k =
      let same =
      IsFirst-same IsMet FailsSimply (λ d way met fails. apart d way met fails.1) one_way (file_checks file vs) place there (code, detail) (other, more)
      (simply (file_checks file vs) place (code, detail) (simple_file file vs) h) (simply (file_checks file vs) there (other, more) (simple_file file vs) k) in
      one_fault place there (code, detail) (other, more) same.0 same.1

  none_once : TellsOneFault (RefusesValues (value_checks file vs))
  none_once code other place there detail more h k =
      let same = IsFirst-same IsTrue HasNone (λ has way met fails. absurd (cc (met, fails.0))) (λ has way also a b. a.1 ∙ sym b.1) (value_checks file vs) place there (code, detail) (other, more) h k in
      one_fault place there (code, detail) (other, more) same.0 same.1

  literal_apart : (code : Code) (place : List ℕ) (detail : DetailView) → AreMet (file_checks file vs) → Refuses (file_checks file vs) (fault code place detail) → ⊥
  literal_apart code place detail met h = IsFirst-unmet IsMet Fails apart (file_checks file vs) place (code, detail) met h

  faulty_once : TellsOneFault (IsFaulty file vs)
  faulty_once code other place there detail more h k = elim h [
    | inl wrong ↦ elim k [
      | inl also ↦ literals_once code other place there detail more wrong also
      | inr none ↦ absurd (literal_apart code place detail none.0 wrong)
    ]
    | inr none ↦ elim k [
      | inl wrong ↦ absurd (literal_apart other there more none.0 wrong)
      | inr also ↦ none_once code other place there detail more none.1 also.1
    ]
  ]

-- a text that is no file is refused in one way
no_file_once : (bytes : List ℕ) (first second : RefusalView) → IsNoFile bytes first → IsNoFile bytes second → first ≡ second
no_file_once bytes first second h k = elim h [
  | inl long ↦ elim k [ inl also ↦ long.1 ∙ sym also.1 | inr small ↦ absurd (omega (arith, long.0, small.0)) ]
  | inr small ↦ elim k [
    | inl long ↦ absurd (omega (arith, long.0, small.0))
    | inr also ↦ elim small.1 [
      | inl no_json ↦ elim also.1 [ inl other ↦ no_json.1 ∙ sym other.1 | inr tree ↦ absurd (no_json.0 tree.0 tree.1) ]
      | inr tree ↦ elim also.1 [ inl no_json ↦ absurd (no_json.0 tree.0 tree.1) | inr other ↦ tree.3 ∙ sym other.3 ]
    ]
  ]
]

refused_as_once : (vars : Option (List ℕ)) (vs : List VariableView) → TellsOneFault (IsRefusedAs vars vs)
refused_as_once None vs code other place there detail more h k = faulty_once None vs code other place there detail more h k
refused_as_once (Some bytes) vs code other place there detail more h k = elim h [
  | inl none ↦ elim k [
    | inl also ↦ no_file_once bytes (fault code place detail) (fault other there more) none also
    | inr faulty ↦ absurd (is_file bytes faulty.0 (fault code place detail) faulty.1 none)
  ]
  | inr faulty ↦ elim k [
    | inl none ↦ absurd (is_file bytes faulty.0 (fault other there more) faulty.1 none)
    | inr also ↦
        faulty_once (Some also.0) vs code other place there detail more
        (subst (λ (t : Data). IsFaulty (Some t) vs (fault code place detail)) (one_tree bytes faulty.0 also.0 faulty.1.1 also.1.1) faulty.2) also.2
  ]
]

pub variables_once : (vars : Option (List ℕ)) (vs : List VariableView) (first second : RefusalView) → (first ≡ no_memory → ⊥) → (second ≡ no_memory → ⊥) → IsRefused vars vs first → IsRefused vars vs second → first ≡ second
variables_once vars vs first second some more h k =
    told_once (IsRefused vars vs) (λ no. no) (λ code other place there detail further. refused_as_once vars vs code other place there detail further) first second some more h k

-- ---- the state

pub state_once : (bytes : List ℕ) (why other : StateFault) → (fault_told why ≡ no_memory → ⊥) → (fault_told other ≡ no_memory → ⊥) → IsUnread bytes why → IsUnread bytes other → fault_told why ≡ fault_told other
state_once bytes BadState BadState some more h k = refl
state_once bytes BadState Limit some more h k = absurd (h k.0 k.1)
state_once bytes BadState OutOfMemory some more h k = absurd (more refl)
state_once bytes Limit BadState some more h k = absurd (k h.0 h.1)
state_once bytes Limit Limit some more h k = refl
state_once bytes Limit OutOfMemory some more h k = absurd (more refl)
state_once bytes OutOfMemory other some more h k = absurd (some refl)
