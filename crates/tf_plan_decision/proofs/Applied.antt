-- What was decided, asked for and answered well is followed by nothing.
use Rattle.std.proofs.Common.{◌≡◌, ℕ, Bool, true, false, cond, List, [], ◌∷◌, Option, Some, None, Result, Ok, refl, ap, ◌∙◌}
use Rattle.std.specs.Prelude.{is_none}
use Rattle.std.specs.Option.{option_or}
use Rattle.tf_config_data.specs.Config.{LifecycleView}
use Rattle.tf_provider_protocol.specs.Schema.{SchemaView}
use Rattle.tf_provider_protocol.specs.Verdict.{contradiction, well_formed}
use Rattle.tf_state_data.specs.Record.{RecordView}
use Rattle.tf_value_data.specs.Tree.{Tree}
use Rattle.tf_plan_decision.specs.Decision.{DecisionView, nothing, create, update, replace, change, DecisionFaultView, unless_prevented, decided, unless_unfit, current}
use Rattle.tf_plan_decision.specs.Ignored.{with_ignored_changes, ignored_fault}
use Rattle.tf_plan_decision.specs.Laws.{AnswersStay, IsAnswer, asked}
use Rattle.tf_plan_decision.specs.Prior.{PriorFaultView, first_unfit, prior_fault, record_fault}
use Rattle.tf_plan_decision.proofs.Causes.{fit_is}
use Rattle.tf_plan_decision.proofs.Fitting.{good_fit}
use Rattle.tf_plan_decision.proofs.Replies.{good_is, replies_stay}

abbrev accepted : DecisionView → Result DecisionView DecisionFaultView
accepted d = Ok d

ok_is : (c d : DecisionView) → accepted c ≡ accepted d → c ≡ d
ok_is c d e = cc

prevented_keeps : (b : Bool) (c d : DecisionView) → unless_prevented b c ≡ Ok d → c ≡ d
prevented_keeps false c d e = ok_is c d e
prevented_keeps true nothing d e = ok_is nothing d e
prevented_keeps true (create t) d e = ok_is (create t) d e
prevented_keeps true (update t names) d e = ok_is (update t names) d e
prevented_keeps true (replace t names) d e = absurd (cc)

-- where something is decided, no name is at fault
heeded : (schema : SchemaView) (lifecycle : LifecycleView) (prior : Option RecordView) (planned : Tree) (d : DecisionView) (name : Option (List ℕ)) → decided schema lifecycle prior (with_ignored_changes name (Ok planned)) ≡ Ok d
    → (name ≡ None) × (change schema lifecycle.ignore_changes prior planned ≡ d)
heeded schema lifecycle prior planned d None e = (refl, prevented_keeps lifecycle.prevent_destroy (change schema lifecycle.ignore_changes prior planned) d e)
heeded schema lifecycle prior planned d (Some name) e = absurd (cc)

-- the record of an answer fits, and is the current one
answer_fits : (schema : SchemaView) (t : Tree) (r : RecordView) → IsAnswer schema t r → record_fault schema r ≡ None
answer_fits schema t r a =
    let fine = good_is (well_formed schema r.attributes) (contradiction schema t r.attributes) a.good in
    ap (λ (v : ℕ). prior_fault schema v r.attributes) a.version ∙ good_fit schema r.attributes fine.0

answer_current : (schema : SchemaView) (t : Tree) (r : RecordView) → IsAnswer schema t r → current (r ∷ []) ≡ Some r
answer_current schema t r a = ap (λ (o : Option (List ℕ)). cond (is_none o) (Some r) None) a.current

nothing_prevented : (b : Bool) → unless_prevented b nothing ≡ Ok nothing
nothing_prevented true = refl
nothing_prevented false = refl

pub answers_stay : AnswersStay
answers_stay schema lifecycle records r planned t d good named decides asks answer settled =
    let prior = current records in
    let all = heeded schema lifecycle prior planned d (ignored_fault schema lifecycle.ignore_changes) (fit_is (first_unfit schema records) _ d decides) in
    let none : change schema lifecycle.ignore_changes (Some r) planned ≡ nothing = replies_stay schema lifecycle.ignore_changes prior r planned t good named (ap asked all.1 ∙ asks) answer.good settled answer.untainted in
    ap (λ (o : Option PriorFaultView). unless_unfit (option_or o None) (decided schema lifecycle (current (r ∷ [])) (with_ignored_changes (ignored_fault schema lifecycle.ignore_changes) (Ok planned)))) (answer_fits schema t r answer)
    ∙ (ap (λ (o : Option RecordView). decided schema lifecycle o (with_ignored_changes (ignored_fault schema lifecycle.ignore_changes) (Ok planned))) (answer_current schema t r answer)
    ∙ (ap (λ (o : Option (List ℕ)). decided schema lifecycle (Some r) (with_ignored_changes o (Ok planned))) all.0
    ∙ (ap (unless_prevented lifecycle.prevent_destroy) none ∙ nothing_prevented lifecycle.prevent_destroy)))
