-- Texts can be read, or a refusal is told of them.
use Rattle.std.proofs.Common.{◌≡◌, ◌∙◌, ◌≤◌, ◌⊎◌, ℕ, Bool, true, false, List, [], ◌∷◌, Option, Some, None, IsTrue, codes, length, inl, inr, refl, ap, arith}
use Rattle.std.proofs.lemmas.Bool.{cases_Bool, cases_lt}
use Rattle.serde_json.specs.Data.{Data}
use Rattle.tf_laws.proofs.Reading.{one_tree}
use Rattle.tf_config_json.specs.Config.{names_in}
use Rattle.tf_config_json.specs.Configuration.{configuration_checks, whole_file}
use Rattle.tf_config_json.specs.Demand.{AreMet, Checks, Fails, IsMet}
use Rattle.tf_config_json.specs.Laws.{FaultlessStands}
use Rattle.tf_config_json.specs.Reading as config
use Rattle.tf_config_json.specs.Reading.{IsTree, IsWithinCounts, max_declared}
use Rattle.tf_config_data.specs.Config.{ConfigView, VariableView}
use Rattle.tf_config_data.specs.Names.{names_of}
use Rattle.tf_cli_inputs.specs.Refusals.{HasFault, IsToldOf, IsToldOfState, at_state}
use Rattle.tf_cli_inputs.specs.Texts.{AreNamesGood, AreTheValues, IsPrior, IsRead, Texts}
use Rattle.tf_config_refusal.specs.Check.{AllMet}
use Rattle.tf_config_refusal.specs.Place.{dotted}
use Rattle.tf_config_names.specs.Judging.{AllAreKnown, RefusesItsNames}
use Rattle.tf_config_names.specs.KnownNames.{Declared, IsKnown, IsUnknown, NameDemand, config_checks, declared_in, holds, unknown_name}
use Rattle.tf_config_names.specs.Needs.{AreCyclic}
use Rattle.tf_config_refusal.specs.declared.code.Code.TheVariants as code
use Rattle.tf_config_refusal.specs.declared.code.Code.{Code}
use Rattle.tf_config_refusal.specs.Refusal as refusals
use Rattle.tf_config_refusal.specs.Refusal.{DetailView, RefusalView, bare, fault}
use Rattle.tf_state.proofs.ByTable.{state_said, state_says}
use Rattle.tf_state.specs.Reading.{state_in}
use Rattle.tf_state.specs.Table.{IsBeyond, Reads, last_serial, max_resources}
use Rattle.tf_state.specs.declared.fault.StateFault.TheVariants.{BadState, Limit}
use Rattle.tf_state_data.specs.State.{StateView, empty_state}
use Rattle.tf_value_data.specs.Tree.{Entries}
use Rattle.tf_config_json.specs.VariableLaws.{FaultlessHaveValues}
use Rattle.tf_config_json.specs.VariablesRead as variables
use Rattle.tf_config_json.specs.VariablesRead.{IsFaulty, IsFile, IsFileOf, is_object}
use Rattle.tf_config_json.specs.Values.{AreValues, HasNone, file_checks, value_checks}
use Rattle.tf_laws.proofs.Circles.{some_cyclic}
use Rattle.tf_laws.proofs.DecidedChecks.{IsDecidedBy, IsDemandDecided, each_decided, first_told, not_memory, tree_told}
use Rattle.tf_laws.specs.OneOfTwo.{AreRead, AreToldOf}

-- some fault is refused
abbrev pub SomeFault : (RefusalView → Type 0) → Type 0
SomeFault P = (its_code : Code) × (place : List ℕ) × (detail : DetailView) × P (fault its_code place detail)

fault_of : (P : RefusalView → Type 0) (its_code : Code) (place : List ℕ) (detail : DetailView) → P (fault its_code place detail) → SomeFault P
fault_of P its_code place detail h = (its_code, place, detail, h)

-- ---- counts

few_or_many : (n : ℕ) → (n ≤ max_declared) ⊎ (n ≤ max_declared → ⊥)
few_or_many n = elim (cases_lt max_declared n) [ inl many ↦ inr (λ few. omega (arith, many, few)) | inr few ↦ inl few ]

counts_told : (c : ConfigView) → IsWithinCounts c ⊎ (IsWithinCounts c → ⊥)
counts_told c = elim (few_or_many (length c.variables)) [
  | inr many ↦ inr (λ h. many h.0)
  | inl variables ↦ elim (few_or_many (length (names_in c.locals))) [
    | inr many ↦ inr (λ h. many h.1)
    | inl locals ↦ elim (few_or_many (length (names_in c.outputs))) [
      | inr many ↦ inr (λ h. many h.2)
      | inl outputs ↦ elim (few_or_many (length c.blocks)) [ inr many ↦ inr (λ h. many h.3) | inl blocks ↦ inl (variables, locals, outputs, blocks) ]
    ]
  ]
]

-- ---- names

name_decided : (declared : Declared) (d : NameDemand) → IsDecidedBy (IsKnown declared) (IsUnknown declared) d
name_decided declared d = elim (cases_Bool (holds declared d)) [ inl known ↦ inl known | inr other ↦ inr (unknown_name, (other, refl)) ]

by_texts : (c : ConfigView) (texts : List (List ℕ)) → AllAreKnown c → AreCyclic (names_of c) texts → AreNamesGood c ⊎ SomeFault (RefusesItsNames c)
by_texts c [] known cyclic = inl (record { known = known; acyclic = λ pair needs. let led = cyclic.found pair needs in omega (arith, led.1) })
by_texts c (text ∷ texts) known cyclic =
    inr (fault_of (RefusesItsNames c) code.Cycle (codes "configuration") (refusals.names (text ∷ texts)) (inr (known, (refl, refl, (text ∷ texts, refl, cyclic, λ (e : text ∷ texts ≡ []). absurd (cc))))))

pub names_told : (c : ConfigView) → AreNamesGood c ⊎ SomeFault (RefusesItsNames c)
names_told c =
    let declared : Declared = declared_in c in
    elim (first_told (IsKnown declared) (IsUnknown declared) (config_checks c) (each_decided (IsDecidedBy (IsKnown declared) (IsUnknown declared)) (name_decided declared) (config_checks c))) [
      | inr first ↦ inr (fault_of (RefusesItsNames c) first.1.0 first.0 first.1.1 (inl first.2))
      | inl known ↦ let cyclic = some_cyclic (names_of c) in by_texts c cyclic.0 known cyclic.1
    ]

-- ---- states

no_state : (bytes : List ℕ) → ((s : StateView) → Reads bytes s → ⊥) → HasFault bytes (at_state code.BadState)
no_state bytes none = record { why = BadState; unread = none; refused = refl }

beyond : (bytes : List ℕ) (s : StateView) → Reads bytes s → IsBeyond s → HasFault bytes (at_state code.Limit)
beyond bytes s reads more = record { why = Limit; unread = (s, reads, more); refused = refl }

said_none : (o : Option StateView) (s : StateView) → o ≡ None → o ≡ Some s → ⊥
said_none o s e f = absurd (cc)

by_state : (bytes : List ℕ) (lineage : List ℕ) (tree : Data) → IsTree bytes tree → (o : Option StateView) → state_in tree ≡ o → ((prior : StateView) × IsPrior (Some bytes) lineage prior) ⊎ SomeFault (HasFault bytes)
by_state bytes lineage tree is None e =
    inr (fault_of (HasFault bytes) code.BadState (codes "state") bare
    (no_state bytes (λ s reads. said_none (state_in tree) s e (ap state_in (one_tree bytes tree reads.0 is (reads.1, reads.2)) ∙ state_said reads.0 s reads.3))))
by_state bytes lineage tree is (Some s) e =
    let reads : Reads bytes s = (tree, is.0, is.1, state_says tree s e) in
    elim (cases_lt max_resources (length s.resources)) [
      | inl many ↦ inr (fault_of (HasFault bytes) code.Limit (codes "state") bare (beyond bytes s reads (inl many)))
      | inr few ↦ elim (cases_lt s.serial last_serial) [
        | inr last ↦ inr (fault_of (HasFault bytes) code.Limit (codes "state") bare (beyond bytes s reads (inr last)))
        | inl before ↦ inl (s, (reads, (few, before)))
      ]
    ]

pub state_told : (state : Option (List ℕ)) (lineage : List ℕ) → ((prior : StateView) × IsPrior state lineage prior) ⊎ SomeFault (IsToldOfState state)
state_told None lineage = inl (empty_state lineage, refl)
state_told (Some bytes) lineage = elim (tree_told bytes) [
  | inl tree ↦ by_state bytes lineage tree.0 tree.1 (state_in tree.0) refl
  | inr none ↦ inr (fault_of (HasFault bytes) code.BadState (codes "state") bare (no_state bytes (λ s reads. none reads.0 (reads.1, reads.2))))
]

-- ---- the laws that all this rests on

pub record Resolved : Type 0 where
  pub stands : FaultlessStands
  pub values : FaultlessHaveValues

-- ---- where each check is decided, or what follows from that holds anyway

module _ (laws : Resolved) (R : Type 0) (decided : (checks : Checks) → (AllMet IsDemandDecided checks → R) → R) where
  module _ (bytes : List ℕ) (read : (c : ConfigView) → IsRead bytes c → R) (refused : SomeFault (config.IsRefused bytes) → R) where
    by_counts : (tree : Data) → length bytes ≤ config.max_bytes → IsTree bytes tree → AllMet IsMet (configuration_checks tree) → R
    by_counts tree small is met =
        let found = laws.stands tree met in
        elim (counts_told found.0) [
          | inl few ↦ read found.0 (record { tree = tree; is_tree = is; stands = found.1; size = small; counts = few })
          | inr many ↦ refused (fault_of (config.IsRefused bytes) code.Limit (dotted whole_file) bare (inr (small, inr (inr (tree, is, found.0, found.1, many, refl)))))
        ]

    pub config_told : R
    config_told = elim (cases_lt config.max_bytes (length bytes)) [
      | inl long ↦ refused (fault_of (config.IsRefused bytes) code.Limit (dotted whole_file) bare (inl (long, refl)))
      | inr small ↦ elim (tree_told bytes) [
        | inr none ↦ refused (fault_of (config.IsRefused bytes) code.NotJson (dotted whole_file) bare (inr (small, inl (none, refl))))
        | inl tree ↦ decided (configuration_checks tree.0) (λ each. elim (first_told IsMet Fails (configuration_checks tree.0) each) [
          | inl met ↦ by_counts tree.0 small tree.1 met
          | inr first ↦ refused (fault_of (config.IsRefused bytes) first.1.0 first.0 first.1.1 (inr (small, inr (inl (tree.0, tree.1, first.2)))))
        ])
      ]
    ]

  -- what is told of a file and of variables
  faulty_told : (file : Option Data) (vs : List VariableView) → (AllMet IsMet (file_checks file vs) → (values : Entries) → AreValues file vs values → R) → (SomeFault (IsFaulty file vs) → R) → R
  faulty_told file vs good refused = decided (file_checks file vs) (λ each. elim (first_told IsMet Fails (file_checks file vs) each) [
    | inr first ↦ refused (fault_of (IsFaulty file vs) first.1.0 first.0 first.1.1 (inl first.2))
    | inl met ↦ elim (first_told IsTrue HasNone (value_checks file vs) (each_decided (IsDecidedBy IsTrue HasNone) value_decided (value_checks file vs))) [
      | inr first ↦ refused (fault_of (IsFaulty file vs) first.1.0 first.0 first.1.1 (inr (met, first.2)))
      | inl valued ↦ let values = laws.values file vs valued in good met values.0 values.1
    ]
  ])
    where
      value_decided : (b : Bool) → IsDecidedBy IsTrue HasNone b
      value_decided true = inl refl
      value_decided false = inr ((code.BadArgument, bare), (refl, refl))

  module _ (vs : List VariableView) where
    -- of the values of variables, by a file where there is one
    abbrev HasValues : Option (List ℕ) → Type 0
    HasValues vars = (file : Option Data) × IsFileOf vars file × AreMet (file_checks file vs) × ((values : Entries) × AreValues file vs values)

    by_tree : (bytes : List ℕ) (tree : Data) → length bytes ≤ variables.max_bytes → IsTree bytes tree → (b : Bool) → is_object tree ≡ b
        → (HasValues (Some bytes) → R) → (SomeFault (variables.IsRefused (Some bytes) vs) → R) → R
    by_tree bytes tree small is true e good refused =
        let file : IsFile bytes tree = (small, is, e) in
        faulty_told (Some tree) vs (λ met values valued. good (Some tree, file, met, (values, valued))) (λ f. refused (f.0, f.1, f.2, inr (tree, file, f.3)))
    by_tree bytes tree small is false e good refused =
        refused (fault_of (variables.IsRefused (Some bytes) vs) code.BadShape (dotted variables.the_file) bare (inl (inr (small, inr (tree, is, e, refl)))))

    pub values_told : (vars : Option (List ℕ)) → (HasValues vars → R) → (SomeFault (variables.IsRefused vars vs) → R) → R
    values_told None good refused = faulty_told None vs (λ met values valued. good (None, tt, met, (values, valued))) (λ f. refused (f.0, f.1, f.2, f.3))
    values_told (Some bytes) good refused = elim (cases_lt variables.max_bytes (length bytes)) [
      | inl long ↦ refused (fault_of (variables.IsRefused (Some bytes) vs) code.Limit (dotted variables.the_file) bare (inl (inl (long, refl))))
      | inr small ↦ elim (tree_told bytes) [
        | inr none ↦ refused (fault_of (variables.IsRefused (Some bytes) vs) code.NotJson (dotted variables.the_file) bare (inl (inr (small, inl (none, refl)))))
        | inl tree ↦ by_tree bytes tree.0 small tree.1 (is_object tree.0) refl good refused
      ]
    ]

  -- ---- all texts

  module _ (texts : Texts) (lineage : List ℕ) (read : AreRead texts lineage → R) (refused : AreToldOf texts → R) where
    some_told : SomeFault (IsToldOf texts) → R
    some_told f = refused (fault f.0 f.1 f.2, not_memory f.0 f.1 f.2, f.3)

    by_values : (c : ConfigView) → IsRead texts.config c → AreNamesGood c → HasValues c.variables texts.vars → R
    by_values c is good h =
        let valued : AreTheValues texts.vars c h.3.0 = record { file = h.0; is_file = h.1; literal = h.2; valued = h.3.1 } in
        elim (state_told texts.state lineage) [
          | inl prior ↦ read (c, h.3.0, prior.0, record { read = is; names = good; valued = valued; before = prior.1 })
          | inr f ↦ some_told (f.0, f.1, f.2, inr (inr (inr (record { config = c; values = h.3.0; read = is; names = good; valued = valued; refused = f.3 }))))
        ]

    by_config : (c : ConfigView) → IsRead texts.config c → R
    by_config c is = elim (names_told c) [
      | inr f ↦ some_told (f.0, f.1, f.2, inr (inl (record { config = c; read = is; refused = f.3 })))
      | inl good ↦
          values_told c.variables texts.vars (by_values c is good)
          (λ f. some_told (f.0, f.1, f.2, inr (inr (inl (record { config = c; read = is; names = good; refused = f.3 })))))
    ]

    pub texts_told : R
    texts_told = config_told texts.config by_config (λ f. some_told (f.0, f.1, f.2, inl f.3))
