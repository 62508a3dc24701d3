-- What two reports tell of the same ends is the same.
use Rattle.std.proofs.Common.{◌≡◌, ◌∙◌, List, map, sym, subst}
use Rattle.std.proofs.lemmas.List.{append_cancel_left}
use Rattle.tf_walk_buffers.specs.Head.{Head}
use Rattle.tf_config_data.specs.Names.{directly_before}
use Rattle.tf_graph.specs.Solutions.{Ranked}
use Rattle.tf_state_next.specs.Events.{ends_in, given_in}
use Rattle.tf_state_next.specs.Laws.{IsInOrder, StateAfterIsOne}
use Rattle.tf_state_next.specs.StateAfter.{IsStateAfter}
use Rattle.tf_walk_action.specs.Outcome.{ActionResultView}
use Rattle.tf_walk_outputs.specs.OutputLaws.{OutputsAreOne, SettledAreOne}
use Rattle.tf_walk_outputs.specs.Outputs.{OutputResultView, end_of, outputs_after}
use Rattle.tf_plan_data.specs.Plan.{PlanView, plan_names}
use Rattle.tf_provider_protocol.specs.Meaning.{Meaning}
use Rattle.tf_walk_report.proofs.Joined.{each_ordered}
use Rattle.tf_walk_report.specs.Events.{events}
use Rattle.tf_walk_report.specs.Good.{are_good_at}
use Rattle.tf_walk_report.specs.Outcomes.{excuses_from}
use Rattle.tf_walk_report.specs.OutputsTold.{output_excuses}
use Rattle.tf_walk_report.specs.Report.{AreOutputsOf, IsStateOf, IsTold, objects_after}
use Rattle.tf_walk_report.specs.declared.report.Report.{Report}
use Rattle.tf_state_next.specs.ObjectLaws.{KeyIsOne}
use Rattle.tf_state_data.specs.State.{StateView, state_of}
use Rattle.tf_state_data.specs.declared.state.State.{State}
use Rattle.tf_value_data.specs.Tree.{Entries}
use Rattle.tf_laws.proofs.Ended.{outputs_one}
use Rattle.tf_laws.proofs.Heads.{heads_one}
use Rattle.tf_laws.specs.One.{TellTheSame}

-- the resources and the records of each state are in order
in_order : (s : State) → IsInOrder (state_of s)
in_order s = record { resources = s.ordered; records = each_ordered s.resources.items }

module _ (keys : KeyIsOne) (after : StateAfterIsOne) (ms : List Meaning) (plan : PlanView) (done : List ActionResultView) where
  -- the state after is one
  state_one : (outputs : Entries) (s t : StateView) → IsInOrder s → IsInOrder t → IsStateOf ms plan done outputs s → IsStateOf ms plan done outputs t → s ≡ t
  state_one outputs s t first second h g =
      let same : g.heads ≡ h.heads = heads_one keys plan plan.actions g.heads h.heads g.are_heads h.are_heads in
      let moved : IsStateAfter plan.prior (given_in (events ms plan h.heads done)) (ends_in (events ms plan h.heads done)) outputs t =
      subst (λ (ks : List Head). IsStateAfter plan.prior (given_in (events ms plan ks done)) (ends_in (events ms plan ks done)) outputs t) same g.after in
      after plan.prior (given_in (events ms plan h.heads done)) (ends_in (events ms plan h.heads done)) outputs s t first second h.after moved

  -- two reports on the same ends tell the same
  tell_same : (outputs : List OutputResultView) (report other : Report) → IsTold ms plan done outputs report → IsTold ms plan done outputs other → TellTheSame report other
  tell_same outputs report other h g = record {
    outcomes = h.outcomes ∙ sym g.outcomes;
    state = state_one (outputs_after plan.prior.outputs plan.config.outputs outputs) (state_of report.state) (state_of other.state) (in_order report.state) (in_order other.state) h.state g.state;
    diagnostics = h.diagnostics_told ∙ sym g.diagnostics_told;
    good = h.good ∙ sym g.good;
  }

-- what came of the outputs of a plan is one, by what came of its actions and by the excuses of outputs
outputs_of_one : SettledAreOne → OutputsAreOne → (plan : PlanView) (done : List ActionResultView) (outputs others : List OutputResultView) → Ranked (directly_before (plan_names plan)) → AreOutputsOf plan done outputs → AreOutputsOf plan done others
    → output_excuses 0 (map end_of outputs) ≡ output_excuses 0 (map end_of others) → outputs ≡ others
outputs_of_one settled law plan done outputs others ranked h g x =
    outputs_one law plan.variables (plan_names plan) plan.shapes (objects_after plan done) h.0 g.0 ranked (settled (plan_names plan) (are_good_at plan.actions done) h.0 g.0 ranked h.1 g.1) plan.config.outputs
    outputs others 0 h.2 g.2 x

-- the same, and the reports tell the same
pub told_one : KeyIsOne → StateAfterIsOne → SettledAreOne → OutputsAreOne → (ms : List Meaning) (plan : PlanView) (done : List ActionResultView) (outputs others : List OutputResultView) (report other : Report)
    → Ranked (directly_before (plan_names plan)) → IsTold ms plan done outputs report → IsTold ms plan done others other → report.excused.items ≡ other.excused.items
    → (outputs ≡ others) × TellTheSame report other
told_one keys after settled law ms plan done outputs others report other ranked h g x =
    let excuses : output_excuses 0 (map end_of outputs) ≡ output_excuses 0 (map end_of others) =
    append_cancel_left (excuses_from 0 done) (output_excuses 0 (map end_of outputs)) (output_excuses 0 (map end_of others)) (sym h.lawful ∙ x ∙ g.lawful) in
    let same : outputs ≡ others = outputs_of_one settled law plan done outputs others ranked h.outputs_done g.outputs_done excuses in (
      same,
      tell_same keys after ms plan done outputs report other h (subst (λ (os : List OutputResultView). IsTold ms plan done os other) (sym same) g),
    )
