-- Over a state at rest outputs have the values again that the apply gave them.
use Rattle.std.proofs.Common.{◌≡◌, ◌∙◌, ◌<◌, ℕ, Bool, true, List, [], ◌∷◌, Option, Some, None, length, refl, sym, ap, subst}
use Rattle.std.specs.List.{AllByRecursion, range_with_len}
use Rattle.std.specs.Option.{option_map_or}
use Rattle.tf_plan_data.specs.Action.{ActionView}
use Rattle.tf_config_address.specs.ObjectId.{InstanceKeyView}
use Rattle.tf_config_data.specs.Config.{BlockView, ConfigView}
use Rattle.tf_config_data.specs.Names.{Meant, a_local, a_block, directly_before, meant_at, names_of}
use Rattle.tf_plan_decision.specs.Decision.{current}
use Rattle.tf_expand_keys.specs.InstanceKeys.{InstanceKeysView, instance_keys}
use Rattle.tf_expand_keys.specs.Stages.{applying}
use Rattle.tf_expand_keys.specs.Resolved.{ResolvedView, AreResolvedNames, all_stand, environment, result_in, rule, stands_at, together, where_all}
use Rattle.tf_expr_eval.specs.Environment.{Environment}
use Rattle.tf_graph.proofs.Solving.{solution-exists}
use Rattle.tf_graph.specs.Solutions.{seen_by}
use Rattle.tf_plan_order.specs.Members.{is_among}
use Rattle.tf_walk_action.specs.Objects.{objects_seen, prior_object}
use Rattle.tf_walk_action.specs.Outcome.{ActionResultView, done_at}
use Rattle.tf_walk_outputs.specs.Outputs.{AreOutputsDone, IsOutputDone, OutputResultView, excused, faulted, not_evaluated, valued}
use Rattle.tf_walk_outputs.specs.Settled.{names_are_settled}
use Rattle.tf_plan_planner.proofs.Solved.{same_shapes}
use Rattle.tf_plan_planner.specs.Planned.{AreInstances}
use Rattle.tf_plan_data.specs.Plan.{PlanView}
use Rattle.tf_provider_protocol.specs.Meaning.{Meaning}
use Rattle.tf_walk_report.specs.Report.{AreOutputsOf, objects_after}
use Rattle.tf_state_next.specs.After.{object_at}
use Rattle.tf_state_data.specs.Record.{RecordView}
use Rattle.tf_state_data.specs.State.{StateView, record_in}
use Rattle.tf_expr_syntax.specs.ExprTree as expr
use Rattle.tf_value_data.specs.Tree.{Tree, Entries, null}
use Rattle.tf_laws.proofs.Again.{decided}
use Rattle.tf_laws.proofs.Homes.{IsAtRest, home}
use Rattle.tf_laws.proofs.OneRecord.{current_known}
use Rattle.tf_laws.proofs.Outputs.{AreRepeated, IsRepeated}
use Rattle.tf_laws.proofs.Still.{current_is, together_same}
use Rattle.tf_laws.specs.Reapply.{IsValued}

module _ (ms : List Meaning) (config : ConfigView) (variables : Entries) (s : StateView) (at : IsAtRest ms config variables s)
    (again : PlanView) (done : List ActionResultView) (none : again.actions ≡ []) (instances : AreInstances variables (names_of config) again.shapes) where
  abbrev objects : ℕ → InstanceKeyView → Tree
  objects = objects_after (home config variables s again) done

  -- each instance stands for its object at rest
  objects_again : (n : ℕ) (block : BlockView) (key : InstanceKeyView) → meant_at (names_of config) n ≡ Some (a_block block) → is_among (instance_keys (at.shapes n)) key ≡ true
      → objects_after (home config variables s again) done n key ≡ at.objects n key
  objects_again n block key meant among =
      let names = names_of config in
      let resolved_names = solution-exists (length names) (directly_before names) (rule (applying at.shapes at.objects) variables names) at.ranked in
      let resting = at.rests.rest resolved_names.0 resolved_names.1 n block key meant among in
      let found : record_in block.addr (object_at key None) s ≡ Some resting.only =
      sym (current_known block.addr key s) ∙ ap current resting.alone ∙ current_is resting.only resting.current in
      ap (λ (xs : List ActionView). objects_seen names s again.actions (seen_by (done_at done) (range_with_len 0 (length xs))) n key) none
      ∙ ap (prior_object s key) meant
      ∙ ap (λ (o : Option RecordView). option_map_or {U = Tree} (λ r. r.attributes) o null) found
      ∙ resting.stands

  shapes_again : (n : ℕ) → n < length (names_of config) → at.shapes n ≡ again.shapes n
  shapes_again n h = same_shapes variables (names_of config) at.shapes again.shapes at.ranked at.instances instances n h

  stands_again : (n : ℕ) (m : Option Meant) (env : Environment) → meant_at (names_of config) n ≡ m → n < length (names_of config)
      → stands_at (applying at.shapes at.objects) n m env ≡ stands_at (applying again.shapes (objects_after (home config variables s again) done)) n m env
  stands_again n None env meant h = refl
  stands_again n (Some (a_local e)) env meant h = refl
  stands_again n (Some (a_block block)) env meant h =
      together_same (λ key. Some (at.objects n key)) (λ key. Some (objects_after (home config variables s again) done n key)) (at.shapes n) (λ key among. ap Some (sym (objects_again n block key meant among)))
      ∙ ap (λ (shape : InstanceKeysView). together (Some shape) (λ key. Some (objects_after (home config variables s again) done n key))) (shapes_again n h)

  -- so names stand for the same
  standings_again : (resolved_names : ℕ → ResolvedView) → AreResolvedNames (applying at.shapes at.objects) variables (names_of config) resolved_names
      → AreResolvedNames (applying again.shapes (objects_after (home config variables s again) done)) variables (names_of config) resolved_names
  standings_again resolved_names solves k below =
      let names = names_of config in
      solves k below
      ∙ ap (where_all (all_stand (seen_by resolved_names (directly_before names k))))
      (stands_again k (meant_at names k) (environment variables names (result_in (seen_by resolved_names (directly_before names k)))) refl below)

  module _ (settled others : ℕ → Bool) (resolved_names : ℕ → ResolvedView) (solves : AreResolvedNames (applying at.shapes at.objects) variables (names_of config) resolved_names) where
    repeated_one : (e : expr.Tree) (d f : OutputResultView) → IsValued d → IsOutputDone variables (names_of config) at.shapes at.objects settled e d
        → IsOutputDone variables (names_of config) again.shapes (objects_after (home config variables s again) done) others e f → IsRepeated d f
    repeated_one e d not_evaluated v own also = tt
    repeated_one e d excused v own also = tt
    repeated_one e d (faulted why) v own also = tt
    repeated_one e d (valued u) v own also =
        let names = names_of config in
        let first : IsOutputDone variables names at.shapes at.objects settled e (valued v.0) = subst (λ (x : OutputResultView). IsOutputDone variables names at.shapes at.objects settled e x) v.1 own in
        let evaluated = decided (names_are_settled names settled e) first (λ (no_value : valued v.0 ≡ not_evaluated). absurd (cc)) in
        let evaluated_too = decided (names_are_settled names others e) also (λ (no_value : valued u ≡ not_evaluated). absurd (cc)) in
        v.1 ∙ evaluated.means resolved_names solves ∙ sym (evaluated_too.means resolved_names (standings_again resolved_names solves))

    repeated_all : (es : expr.Entries) (ds fs : List OutputResultView) → AllByRecursion IsValued ds → AreOutputsDone variables (names_of config) at.shapes at.objects settled es ds
        → AreOutputsDone variables (names_of config) again.shapes (objects_after (home config variables s again) done) others es fs → AreRepeated es ds fs
    repeated_all expr.no_entries ds fs v own also = tt
    repeated_all (expr.entry name e es) [] fs v own also = absurd own
    repeated_all (expr.entry name e es) (d ∷ ds) [] v own also = tt
    repeated_all (expr.entry name e es) (d ∷ ds) (f ∷ fs) v own also = (repeated_one e d f v.0 own.0 also.0, repeated_all es ds fs v.1 own.1 also.1)

  -- each output has the value again that it had, or none
  pub repeated : (settled : ℕ → Bool) (ds fs : List OutputResultView) → AllByRecursion IsValued ds → AreOutputsDone variables (names_of config) at.shapes at.objects settled config.outputs ds
      → AreOutputsOf (home config variables s again) done fs → AreRepeated config.outputs ds fs
  repeated settled ds fs v own also =
      let names = names_of config in
      let resolved_names = solution-exists (length names) (directly_before names) (rule (applying at.shapes at.objects) variables names) at.ranked in
      repeated_all settled also.0 resolved_names.0 resolved_names.1 config.outputs ds fs v own also.2
