-- Nothing is refused over the state after an apply that went well, where nothing has come to be at fault.
use Rattle.std.proofs.Common.{◌≡◌, ◌∙◌, inl, inr, ℕ, Bool, true, false, List, [], ◌∷◌, Option, Some, None, Ok, Err, refl, ap, ap₂, subst}
use Rattle.std.specs.List.{AllByRecursion}
use Rattle.std.specs.Option.{option_or}
use Rattle.std.specs.Prelude.{MatchBool, is_none}
use Rattle.tf_config_address.specs.ObjectId.{InstanceKeyView}
use Rattle.tf_plan_object.specs.Instance.{instance_object}
use Rattle.tf_config_data.specs.Config.{BlockView}
use Rattle.tf_config_data.specs.Names.{NameView, a_block, meant_at}
use Rattle.tf_plan_decision.specs.Deciding.{version_of}
use Rattle.tf_plan_decision.proofs.Fitting.{good_fit}
use Rattle.tf_plan_decision.specs.Prior.{PriorFaultView, first_unfit, prior_fault, record_fault}
use Rattle.tf_expand_keys.specs.InstanceKeys.{InstanceKeysView}
use Rattle.tf_expand_keys.specs.Stages.{applying}
use Rattle.tf_expand_keys.specs.Resolved.{ResolvedView, AreResolvedNames, environment}
use Rattle.tf_expr_eval.specs.ExprMeaning.{meaning}
use Rattle.tf_plan_order.specs.Members.{is_among}
use Rattle.tf_expr_operators.specs.Answer.{Answer}
use Rattle.tf_walk_action.specs.Objects.{object_of}
use Rattle.tf_walk_action.specs.Outcome.{done_at}
use Rattle.tf_walk_outputs.specs.Outputs.{AreOutputsDone, IsOutputDone, OutputResultView, done_with, not_evaluated, valued}
use Rattle.tf_walk_outputs.specs.Settled.{names_are_settled}
use Rattle.tf_plan_planner.proofs.Distinct.{at-contained}
use Rattle.tf_plan_data.specs.Plan.{plan_names}
use Rattle.tf_walk_report.specs.Report.{objects_after}
use Rattle.tf_walk_names.specs.Resolving.{without_sets}
use Rattle.tf_expr_syntax.specs.ExprTree as expr
use Rattle.tf_value_data.specs.Tree.{Tree, Entries}
use Rattle.tf_laws.proofs.After.{IsKept, at_index, kept_at}
use Rattle.tf_laws.proofs.Agree.{IsApplyOf}
use Rattle.tf_laws.proofs.Answers.{good_formed}
use Rattle.tf_laws.proofs.Applied.{Applied, setting}
use Rattle.tf_laws.proofs.Declared.{found_contains, keys_at, records_in}
use Rattle.tf_laws.proofs.Grown.{made_requested}
use Rattle.tf_laws.proofs.Rests.{records_are}
use Rattle.tf_laws.proofs.Stands.{addr_of}
use Rattle.tf_laws.proofs.Stored.{each_fits}
use Rattle.tf_plan_object.specs.Laws.{InstancesGrow}
use Rattle.tf_expand_keys.specs.StandingLaws.{ResolvedNamesGrow}
use Rattle.tf_laws.specs.Known.{ExpressionsStayKnown}
use Rattle.tf_laws.specs.Reapply.{AreStillMade, IsValued, ValuedOutputsMean}
use Rattle.tf_laws.specs.Rest.{AreUnrefused, EachMeans}

-- ---- outputs

pub decided : {P Q : Type 0} (b : Bool) → MatchBool b P Q → (Q → ⊥) → P
decided true h no_other = h
decided false h no_other = absurd (no_other h)

has_value : (a : Answer) (t : Tree) → valued t ≡ done_with (without_sets a) → (u : Tree) × (a ≡ Ok u)
has_value (Ok u) t e = (u, refl)
has_value (Err why) t e = absurd (cc)

all_mean : (variables : Entries) (names : List NameView) (shapes : ℕ → InstanceKeysView) (objects : ℕ → InstanceKeyView → Tree) (settled : ℕ → Bool) (resolved_names : ℕ → ResolvedView) (es : expr.Entries) (ds : List OutputResultView)
    → AreResolvedNames (applying shapes objects) variables names resolved_names → AreOutputsDone variables names shapes objects settled es ds → AllByRecursion IsValued ds → EachMeans (environment variables names resolved_names) es
all_mean variables names shapes objects settled resolved_names expr.no_entries ds solves h v = tt
all_mean variables names shapes objects settled resolved_names (expr.entry name e es) [] solves h v = absurd h
all_mean variables names shapes objects settled resolved_names (expr.entry name e es) (d ∷ ds) solves h v =
    let own : IsOutputDone variables names shapes objects settled e (valued v.0.0) = subst (λ (x : OutputResultView). IsOutputDone variables names shapes objects settled e x) v.0.1 h.0 in
    let evaluated = decided (names_are_settled names settled e) own (λ (no_value : valued v.0.0 ≡ not_evaluated). absurd (cc)) in
    (has_value (meaning (environment variables names resolved_names) e) v.0.0 (evaluated.means resolved_names solves), all_mean variables names shapes objects settled resolved_names es ds solves h.1 v.1)

pub outputs_mean : ValuedOutputsMean
outputs_mean plan done outputs resolved_names are all solves =
    all_mean plan.variables (plan_names plan) plan.shapes (objects_after plan done) are.0 resolved_names plan.config.outputs outputs solves are.2 all

-- ---- instances

module _ (x : Applied) (law : ExpressionsStayKnown) (grows : InstancesGrow) (grow : ResolvedNamesGrow) (made : AreStillMade x.ms x.plan x.done) where
  only_fits : (n : ℕ) (block : BlockView) (key : InstanceKeyView) → meant_at (plan_names x.plan) n ≡ Some (a_block block) → (kept : IsKept x n block key) (resolved_names : ℕ → ResolvedView)
      → AreResolvedNames (applying x.plan.shapes (objects_after x.plan x.done)) x.plan.variables (plan_names x.plan) resolved_names → record_fault kept.by_plan.schema kept.only ≡ None
  only_fits n block key meant kept resolved_names solves =
      let q = kept.by_plan in
      elim kept.how [
        | inl m ↦
            let r = made_requested x resolved_names solves n block key meant kept m in
            let own = (q.only m.a (at-contained x.plan.actions m.k m.a m.at) m.is.addr_is m.is.key_is).1 in
            let version : kept.only.schema_version ≡ q.schema.version = m.version ∙ own.version ∙ ap version_of q.has in
            let formed = good_formed q.schema r.asked.object (object_of (done_at x.done m.k)) r.well in
            ap₂ (λ (v : ℕ) (t : Tree). prior_fault q.schema v t) version m.attributes ∙ good_fit q.schema (object_of (done_at x.done m.k)) formed
        | inr u ↦
            ap₂ (λ (v : ℕ) (t : Tree). prior_fault q.schema v t) u.version u.attributes
            ∙ each_fits q.schema (records_in (setting x) block key) u.old q.is.fits (found_contains (λ y. is_none y.id.deposed) (records_in (setting x) block key) u.old u.found)
      ]

  still_made : (n : ℕ) (block : BlockView) (key : InstanceKeyView) → meant_at (plan_names x.plan) n ≡ Some (a_block block) → is_among (keys_at (setting x) n) key ≡ true → (kept : IsKept x n block key) (resolved_names : ℕ → ResolvedView)
      → AreResolvedNames (applying x.plan.shapes (objects_after x.plan x.done)) x.plan.variables (plan_names x.plan) resolved_names
      → (t : Tree) × (instance_object kept.by_plan.schema block key (environment x.plan.variables (plan_names x.plan) resolved_names) ≡ Ok t)
  still_made n block key meant among kept resolved_names solves = elim kept.how [
    | inl m ↦ let r = made_requested x resolved_names solves n block key meant kept m in (r.made, r.makes)
    | inr u ↦
        made.instances resolved_names solves n block key kept.by_plan.schema meant among kept.by_plan.has
        (λ a c applies resource key_is.
        let k = at_index x.plan.actions a c in
        let own : IsApplyOf x.plan.actions n key k.0 = record { a = a; at = k.1; applies = applies; resource = resource; key_is = key_is } in
        u.none k.0 a k.1 (record { applies = applies; addr_is = addr_of x n block key k.0 meant own; key_is = key_is }))
  ]

  -- nothing is refused
  pub none_refused : AreUnrefused x.ms x.plan.variables (plan_names x.plan) x.plan.config.outputs x.plan.shapes (objects_after x.plan x.done) x.after.resources
  none_refused = record {
    instances = λ resolved_names solves n block key meant among.
        let kept = kept_at x n block key meant among in
        let object = still_made n block key meant among kept resolved_names solves in
        record {
          schema = kept.by_plan.schema;
          served = kept.by_plan.has;
          fits = ap (first_unfit kept.by_plan.schema) (records_are x law grows grow resolved_names solves n block key meant kept) ∙ ap (λ (o : Option PriorFaultView). option_or o None) (only_fits n block key meant kept resolved_names solves);
          heeded = kept.by_plan.is.heeds;
          made = object.0;
          makes = object.1;
        };
    outputs_mean = made.outputs_mean;
  }
