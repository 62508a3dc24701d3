-- Laws of texts whose apply went well: the same configuration and variables plan nothing more.
use Rattle.std.specs.Prelude.{◌≡◌, ◌≤◌, ◌⊎◌, ℕ, false, if◌then◌else◌, List, [], ◌∷◌, codes, Some, Result, Ok, Err, String, string_bytes}
use Rattle.std.specs.List.{AllByRecursion}
use Rattle.std.specs.declared.alloc.AllocError.{AllocError}
use Rattle.std.specs.declared.alloc.Global.{Global}
use Rattle.tf_config_address.specs.ResourceAddr.{ResourceAddrView}
use Rattle.tf_config_address.specs.ObjectId.{ObjectIdView}
use Rattle.tf_cli.specs.Applies.{IsApplied, IsPlanText, state_in}
use Rattle.tf_cli.specs.Refusals.{AreRefusals}
use Rattle.tf_cli_text.specs.Shown.{applied_status}
use Rattle.tf_cli_text.specs.declared.applied.Applied.{Applied}
use Rattle.tf_config_data.specs.Config.{ConfigView}
use Rattle.tf_config_data.specs.Names.{names_of}
use Rattle.tf_laws.specs.Quiet.{IsRenewed}
use Rattle.tf_cli_inputs.specs.Refusals.{at_state}
use Rattle.tf_cli_inputs.specs.Texts.{AreTheValues, IsRead, Texts, the_texts}
use Rattle.tf_walk_action.specs.declared.excuse.Outcome.TheVariants.{Judged}
use Rattle.tf_plan_planner.specs.Refused.{IsUnplanned}
use Rattle.tf_provider_protocol.specs.Meaning.{Meaning}
use Rattle.tf_provider_protocol.specs.Schema.{SchemaView, IsSchema}
use Rattle.tf_provider_protocol.specs.declared.verdict.Verdict.TheVariants.{Good}
use Rattle.tf_config_refusal.specs.declared.code.Code.TheVariants as code
use Rattle.tf_config_refusal.specs.Refusal.{RefusalView}
use Rattle.tf_walk_report.specs.Report.{report_of}
use Rattle.tf_state.specs.Table.{last_serial}
use Rattle.tf_state_data.specs.State.{record_in}
use Rattle.tf_value_data.specs.Tree.{Entries}

-- Each schema that a provider has for a type is one as `Schema::new` makes it: at most 200 attributes, in byte order of their
-- names, which are distinct, valid and not reserved.
abbrev pub HasSchemas : Meaning → Type 0
HasSchemas m = (name : List ℕ) (schema : SchemaView) → m.schema_of name ≡ Some schema → IsSchema schema

-- each of some providers has such schemas
abbrev pub HaveSchemas : List Meaning → Type 0
HaveSchemas ms = AllByRecursion HasSchemas ms

-- An apply went well if each outcome in its report is a good verdict: no action was skipped, excused or at fault.
abbrev pub WentWell : Applied → Type 0
WentWell a = AllByRecursion (λ o. o ≡ Judged Good) (report_of a.walked).outcomes.items

-- the same configuration and variables, with this as the prior state's text
abbrev pub over : Texts → List ℕ → Texts
over texts state = the_texts texts.config texts.vars (Some state)

-- the text of a plan without actions
abbrev pub no_changes : List ℕ
no_changes = codes "No changes.\n"

-- ---- over the state that an apply left

-- An apply of texts went well, and there was memory for the text of the state that it left. If the same configuration and
-- variables have a plan over that text, its text is `No changes.` in a line.
abbrev pub NothingIsPlannedAgain : Type 0
NothingIsPlannedAgain =
    (ms : List Meaning) (texts : Texts) (lineage : List ℕ) (a : Applied) (saved : String Global) (text : List ℕ)
    → HaveSchemas ms → IsApplied ms texts lineage a → WentWell a → a.state ≡ Ok saved
    → IsPlanText ms (over texts (string_bytes saved)) text → text ≡ no_changes

-- A second apply did nothing after a first one. Its plan's text is `No changes.` in a line; its report has no outcome, and its
-- journal has no entry. Each record stays, except for its dependencies and its flag `create_before_destroy`, which are updated.
pub record DidNothing (first second : Applied) : Type 0 where
  pub shown : string_bytes second.plan ≡ no_changes
  pub no_outcomes : (report_of second.walked).outcomes.items ≡ []
  pub no_calls : (report_of second.walked).journal.entries ≡ []
  pub kept : (addr : ResourceAddrView) (id : ObjectIdView) → IsRenewed (record_in addr id (state_in first)) (record_in addr id (state_in second))

-- An apply over that text, if it returns an answer, does nothing.
abbrev pub NothingIsDoneAgain : Type 0
NothingIsDoneAgain =
    (ms : List Meaning) (texts : Texts) (lineage other : List ℕ) (a : Applied) (saved : String Global) (again : Applied)
    → HaveSchemas ms → IsApplied ms texts lineage a → WentWell a → a.state ≡ Ok saved
    → IsApplied ms (over texts (string_bytes saved)) other again → DidNothing a again

-- ---- by the status

-- the texts with what was written as the prior state's text, if there was memory for it
abbrev pub with_written : Texts → Result (String Global) AllocError → Texts
with_written texts (Ok saved) = over texts (string_bytes saved)
with_written texts (Err why) = texts

-- The texts that exist after an apply: the state's text is written exactly if the state changed, and the other texts stay.
abbrev pub texts_after : Texts → Applied → Texts
texts_after texts a = if a.changed then with_written texts a.state else texts

-- If the status of an apply is 0, and the texts after it have a plan, that plan's text is `No changes.` in a line.
abbrev pub NothingIsPlannedAfterSuccess : Type 0
NothingIsPlannedAfterSuccess =
    (ms : List Meaning) (texts : Texts) (lineage : List ℕ) (a : Applied) (text : List ℕ)
    → HaveSchemas ms → IsApplied ms texts lineage a → applied_status a ≡ 0
    → IsPlanText ms (texts_after texts a) text → text ≡ no_changes

-- ---- what may be refused

-- Instances or outputs are refused over the state that an apply left, and these are all the refusals.
pub record AreUnplannedAgain (ms : List Meaning) (texts : Texts) (a : Applied) (refusal_views : List RefusalView) : Type 0 where
  pub config : ConfigView
  pub values : Entries
  pub read : IsRead texts.config config
  pub valued : AreTheValues texts.vars config values
  pub refused : IsUnplanned ms (state_in a).resources values (names_of config) config.outputs refusal_views

-- The new state itself is refused, only with 14: it has the last serial, so no other can follow.
abbrev pub HasLastSerial : Applied → List RefusalView → Type 0
HasLastSerial a refusal_views = (refusal_views ≡ at_state code.Limit ∷ []) × (last_serial ≤ (state_in a).serial)

-- Over that text, only the state itself is refused, or instances and outputs. No fault of the configuration, of its names or of
-- the variables is reported, and the numbers of instances and actions are not refused.
abbrev pub OnlyInstancesAreRefused : Type 0
OnlyInstancesAreRefused =
    (ms : List Meaning) (texts : Texts) (lineage : List ℕ) (a : Applied) (saved : String Global) (refusal_views : List RefusalView)
    → HaveSchemas ms → IsApplied ms texts lineage a → WentWell a → a.state ≡ Ok saved
    → AreRefusals ms (over texts (string_bytes saved)) refusal_views → HasLastSerial a refusal_views ⊎ AreUnplannedAgain ms texts a refusal_views
