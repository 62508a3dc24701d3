-- What is refused of the texts of an apply that went well, over the text of the state that it left.
use Rattle.std.proofs.Common.{◌≡◌, ℕ, List, [], ◌∷◌, Ok, String, Global, inl, inr, subst, string_bytes}
use Rattle.tf_cli.specs.Applies.{IsApplied, state_in}
use Rattle.tf_cli.specs.Refusals.{IsPlanRefused, IsRefusedAlone}
use Rattle.tf_cli_text.specs.declared.applied.Applied.{Applied}
use Rattle.tf_config_json.specs.Laws.{RefusedIsNotRead}
use Rattle.tf_config_data.specs.Config.{ConfigView}
use Rattle.tf_config_data.specs.Names.{names_of}
use Rattle.tf_laws.specs.Reapply.{StateAfterIsAtRest}
use Rattle.tf_laws.specs.Rest.{NothingIsPlannedAtRest}
use Rattle.tf_cli_inputs.specs.Refusals.{AreNamesRefused, AreValuesRefused, IsStateRefused, at_state, fault_told}
use Rattle.tf_cli_inputs.specs.Texts.{AreTheValues, Texts}
use Rattle.tf_config_names.specs.Judging.{RefusesItsNames}
use Rattle.tf_plan_planner.specs.Refused.{AreRefused, AreRefusedOf}
use Rattle.tf_provider_protocol.specs.Meaning.{Meaning}
use Rattle.tf_config_refusal.specs.declared.code.Code.TheVariants as code
use Rattle.tf_config_refusal.specs.Refusal.{RefusalView, no_memory}
use Rattle.tf_state.specs.Laws.{TextIsOfOne, TextReadsAsState}
use Rattle.tf_state.specs.Table.{IsBeyond, IsUnread, Reads}
use Rattle.tf_state.specs.declared.fault.StateFault.{StateFault}
use Rattle.tf_state.specs.declared.fault.StateFault.TheVariants.{BadState, Limit, OutOfMemory}
use Rattle.tf_state_data.specs.State.{StateView}
use Rattle.tf_value_data.specs.Tree.{Entries}
use Rattle.tf_config_json.specs.VariableLaws.{ValuesAreFaultless}
use Rattle.tf_config_json.specs.VariablesRead as variables
use Rattle.tf_laws.proofs.TextsAgain.{saved_reads}
use Rattle.tf_laws.proofs.Faultless.{config_read, names_good, values_good}
use Rattle.tf_laws.proofs.PlannedOverTexts.{Laws}
use Rattle.tf_laws.proofs.Reading.{one_config, one_values}
use Rattle.tf_laws.proofs.Unplanned.{serial_after, unplanned_after}
use Rattle.tf_laws.specs.ReapplyTexts.{AreUnplannedAgain, HaveSchemas, HasLastSerial, OnlyInstancesAreRefused, WentWell, over}

-- the laws that this rests on beside those
pub record Others : Type 0 where
  pub not_read : RefusedIsNotRead
  pub faultless : ValuesAreFaultless
  pub back : TextReadsAsState
  pub one : TextIsOfOne
  pub rest : StateAfterIsAtRest
  pub quiet : NothingIsPlannedAtRest

-- a state's text that reads is refused as beyond a limit alone
beyond : TextIsOfOne → (bytes : List ℕ) (s : StateView) (why : StateFault) (refusal : RefusalView) → Reads bytes s → (refusal ≡ no_memory → ⊥) → IsUnread bytes why → refusal ≡ fault_told why → (refusal ≡ at_state code.Limit) × IsBeyond s
beyond one bytes s BadState refusal reads some unread is = absurd (unread s reads)
beyond one bytes s Limit refusal reads some unread is = (is, subst IsBeyond (one bytes unread.0 s unread.1 reads) unread.2)
beyond one bytes s OutOfMemory refusal reads some unread is = absurd (some is)

module _ (laws : Laws) (others : Others) (ms : List Meaning) (texts : Texts) (lineage : List ℕ) (a : Applied) (saved : String Global) (refusal_views : List RefusalView)
    (schemas : HaveSchemas ms) (applied : IsApplied ms texts lineage a) (well : WentWell a) (h : a.state ≡ Ok saved) where
  reads : Reads (string_bytes saved) (state_in a)
  reads = saved_reads others.back others.one ms texts lineage a applied saved h

  alone : IsRefusedAlone (over texts (string_bytes saved)) refusal_views → HasLastSerial a refusal_views
  alone is =
      let stand = applied.planned.stand in
      let config = applied.planned.config in
      let state_refused : IsStateRefused (over texts (string_bytes saved)) is.refusal → HasLastSerial a refusal_views = λ it.
      let found = beyond others.one (string_bytes saved) (state_in a) it.refused.why is.refusal reads is.some it.refused.unread it.refused.refused in
      (subst (λ (t : RefusalView). refusal_views ≡ t ∷ []) found.0 is.alone, serial_after laws others.rest others.quiet ms lineage a schemas texts applied well found.1) in
      let names_refused : AreNamesRefused (over texts (string_bytes saved)) is.refusal → ⊥ = λ it.
      names_good config is.refusal is.some stand.names (subst (λ (c : ConfigView). RefusesItsNames c is.refusal) (one_config laws.one texts.config it.config config it.read stand.read) it.refused) in
      let values_refused : AreValuesRefused (over texts (string_bytes saved)) is.refusal → ⊥ = λ it.
      values_good others.faultless texts.vars config applied.planned.values is.refusal is.some stand.valued
      (subst (λ (c : ConfigView). variables.IsRefused texts.vars c.variables is.refusal) (one_config laws.one texts.config it.config config it.read stand.read) it.refused) in
      elim is.said [
        | inl config_refused ↦ absurd (config_read others.not_read texts.config config is.refusal is.some stand.read config_refused)
        | inr rest ↦ elim rest [
          | inl names ↦ absurd (names_refused names)
          | inr later ↦ elim later [ inl values ↦ absurd (values_refused values) | inr state ↦ state_refused state ]
        ]
      ]

  planned : IsPlanRefused ms (over texts (string_bytes saved)) refusal_views → AreUnplannedAgain ms texts a refusal_views
  planned is =
      let first = applied.planned in
      let same : is.config ≡ first.config = one_config laws.one texts.config is.config first.config is.stand.read first.stand.read in
      let alike : is.values ≡ first.values =
      one_values laws.values texts.vars first.config is.values first.values (subst (λ (c : ConfigView). AreTheValues texts.vars c is.values) same is.stand.valued) first.stand.valued in
      let before : is.prior ≡ state_in a = others.one (string_bytes saved) is.prior (state_in a) is.stand.before.0 reads in
      let refused : AreRefusedOf ms (state_in a).resources first.values (names_of first.config) first.config.outputs refusal_views =
      subst (λ (s : StateView). AreRefused ms first.config first.values s refusal_views) before
      (subst (λ (v : Entries). AreRefused ms first.config v is.prior refusal_views) alike (subst (λ (c : ConfigView). AreRefused ms c is.values is.prior refusal_views) same is.refused)) in
      record {
        config = first.config;
        values = first.values;
        read = first.stand.read;
        valued = first.stand.valued;
        refused = unplanned_after laws others.rest others.quiet ms lineage a schemas texts applied well refusal_views refused;
      }

pub only_instances_are_refused : Laws → Others → OnlyInstancesAreRefused
only_instances_are_refused laws others ms texts lineage a saved refusal_views schemas applied well h refused = elim refused [
  | inl one ↦ inl (alone laws others ms texts lineage a saved refusal_views schemas applied well h one)
  | inr more ↦ inr (planned laws others ms texts lineage a saved refusal_views schemas applied well h more)
]
