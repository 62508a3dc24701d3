-- Where the wanted names stand for the same, the same is planned.
use Rattle.std.proofs.Common.{◌≡◌, ◌≢◌, ◌∙◌, ◌++◌, ◌∷◌, ℕ, Some, length, Result, Ok, Err, IfOk, List, [], map, if◌then◌else◌, refl, ap, subst, inl, inr}
use Rattle.std.specs.List.{AllByRecursion}
use Rattle.std.specs.Prelude.{Contains, slice_get}
use Rattle.std.specs.declared.alloc.AllocError.{AllocError}
use Rattle.tf_plan_order.specs.AddressOrder.{AreInAddressOrder, is_resource}
use Rattle.tf_config_data.specs.Names.{NameView, places}
use Rattle.tf_plan_decision.proofs.Appending.{gathered_is}
use Rattle.tf_plan_decision.specs.Deciding.{DecidedView}
use Rattle.tf_plan_decision.specs.Rows.{AreDecided, AreOnce, gathered, row}
use Rattle.tf_plan_decision.specs.Stage.{deciding}
use Rattle.tf_expand_keys.proofs.Seen.{agree_on}
use Rattle.tf_expand_keys.specs.InstanceKeys.{InstanceKeysView}
use Rattle.tf_expand_keys.specs.Resolved.{ResolvedView, AreResolvedNames, all_stand, environment}
use Rattle.tf_expr_eval.proofs.Locality.{both_halves, expressions_local}
use Rattle.tf_expr_eval.specs.ExprMeaning.{meaning}
use Rattle.tf_graph.proofs.Edges.{all_by_contained}
use Rattle.tf_graph.proofs.Solving.{seen_by-same}
use Rattle.tf_graph.specs.Solutions.{seen_by}
use Rattle.tf_config_names.proofs.Tables.{places-append}
use Rattle.tf_config_names.specs.Needs.{IsAcyclic, IsDependence, order_in}
use Rattle.tf_config_names.specs.declared.dependence.Dependence.{Dependence}
use Rattle.tf_plan_planner.proofs.Existing.{some_standings}
use Rattle.tf_plan_planner.proofs.Distinct.{AreDistinct}
use Rattle.tf_plan_planner.proofs.Fitting.{name-stands}
use Rattle.tf_plan_planner.proofs.Listing.{planned_in}
use Rattle.tf_plan_planner.proofs.Ranges.{places-distinct}
use Rattle.tf_plan_planner.specs.Outputs.{output_fault, output_refusal, output_refusals}
use Rattle.tf_plan_planner.specs.Planned.{IsPlanned, PlannedView, planned_of, with_outputs}
use Rattle.tf_plan_planner.specs.Told.{instance_told}
use Rattle.tf_plan_planner.specs.Wanted.{IsWanted}
use Rattle.tf_plan_planner.specs.declared.deciding.PlannedInstances.{PlannedInstances}
use Rattle.tf_provider_protocol.specs.Meaning.{Meaning}
use Rattle.tf_plan_order.specs.ResourceIndex.{ResourceRefView, a_name, numbered}
use Rattle.tf_state_data.specs.Resource.{ResourceView}
use Rattle.tf_expr_syntax.specs.ExprNames.{named_below, named_by}
use Rattle.tf_expr_syntax.specs.ExprTree as expr
use Rattle.tf_value_data.specs.Tree.{Entries}

module _ (variables : Entries) (names : List NameView) (kept resolved_names : ℕ → ResolvedView) where
  abbrev IsSame : ℕ → Type 0
  IsSame a = kept a ≡ resolved_names a

  output-looked : (name : List ℕ) (e : expr.Tree) → AllByRecursion IsSame (places names (named_by e)) → output_refusal variables names kept name e ≡ output_refusal variables names resolved_names name e
  output-looked name e along =
      let seen : seen_by kept (places names (named_by e)) ≡ seen_by resolved_names (places names (named_by e)) = seen_by-same kept resolved_names (places names (named_by e)) along in
      let means : meaning (environment variables names kept) e ≡ meaning (environment variables names resolved_names) e =
      expressions_local (environment variables names kept) (environment variables names resolved_names) e (agree_on variables names kept resolved_names (named_by e) along) in
      (λ i. if all_stand (seen i) then output_fault name (means i) else [])

  outputs-looked : (outputs : expr.Entries) → AllByRecursion IsSame (places names (named_below outputs)) → output_refusals variables names kept outputs ≡ output_refusals variables names resolved_names outputs
  outputs-looked expr.no_entries along = refl
  outputs-looked (expr.entry name e es) along =
      let halves = both_halves IsSame (places names (named_by e)) (places names (named_below es)) (subst (AllByRecursion IsSame) (places-append names (named_by e) (named_below es)) along) in
      let first = output-looked name e halves.0 in
      let rest = outputs-looked es halves.1 in
      (λ i. first i ++ rest i)

-- What is planned of what is kept of each name is what all names plan.
module _ (variables : Entries) (names : List NameView) (d : Dependence) (outputs : expr.Entries) (is : IsDependence names d) (acyclic : IsAcyclic d) (ms : List Meaning) (resources : List ResourceView) (shapes : ℕ → InstanceKeysView) (kept : ℕ → ResolvedView)
    (rows : ℕ → DecidedView) (resolved_names : ℕ → ResolvedView) (solves : AreResolvedNames (deciding ms resources shapes) variables names resolved_names) (same : (n : ℕ) → IsWanted names d outputs n → kept n ≡ resolved_names n)
    (done : AreDecided ms resources variables names shapes (order_in d) rows) where
  row-right : (n : ℕ) (name : NameView) → slice_get (numbered names resources) n ≡ Some (a_name name) → rows n ≡ row ms resources variables names shapes resolved_names n (Some name.meant)
  row-right n name e =
      let stands = name-stands names resources n name e in
      done resolved_names solves n (is.whole acyclic n stands.0) ∙ ap (row ms resources variables names shapes resolved_names n) stands.1

  planned-looked : (order : List ℕ) → with_outputs variables names kept outputs (gathered ms rows (numbered names resources) order) ≡ planned_in ms resources variables names outputs shapes order resolved_names
  planned-looked order =
      let decides = gathered_is ms resources variables names shapes resolved_names rows row-right order in
      let told = outputs-looked variables names kept resolved_names outputs (all_by_contained (λ a. kept a ≡ resolved_names a) (places names (named_below outputs)) (λ a held. same a (inr (inl held)))) in
      (λ i. record { actions = (decides i).actions; refusals = map instance_told (decides i).refusals ++ told i })

-- what is planned where the wanted names resolve to the very same, and what is kept of each is what is decided of it
pub planned-is : (ms : List Meaning) (resources : List ResourceView) (variables : Entries) (names : List NameView) (outputs : expr.Entries) (shapes : ℕ → InstanceKeysView) (order : List ℕ) (kept : ℕ → ResolvedView) (rows : ℕ → DecidedView) (d : Dependence)
    (result : Result PlannedInstances AllocError) → IsDependence names d → IsAcyclic d → AreInAddressOrder (numbered names resources) order
    → ((resolved_names : ℕ → ResolvedView) → AreResolvedNames (deciding ms resources shapes) variables names resolved_names → (n : ℕ) → IsWanted names d outputs n → kept n ≡ resolved_names n)
    → AreDecided ms resources variables names shapes (order_in d) rows
    → IfOk result (λ p. planned_of p ≡ with_outputs variables names kept outputs (gathered ms rows (numbered names resources) order)) → IfOk result (λ p. IsPlanned ms resources variables names outputs shapes (planned_of p))
planned-is ms resources variables names outputs shapes order kept rows d (Ok p) is acyclic sorted same done made =
    let found = some_standings (deciding ms resources shapes) variables names d is acyclic in
    let planned = made ∙ planned-looked variables names d outputs is acyclic ms resources shapes kept rows found.0 found.1 (same found.0 found.1) done order in
    record {
      places = order;
      in_order = sorted;
      resolved_names = found.0;
      stand = found.1;
      actions = ap (λ (p : PlannedView). p.actions) planned;
      refusals = ap (λ (p : PlannedView). p.refusals) planned;
    }
planned-is ms resources variables names outputs shapes order kept rows d (Err e) is acyclic sorted same done made = made

once-distinct : (ns : List ℕ) → AreDistinct ns → AreOnce ns
once-distinct [] d = tt
once-distinct (n ∷ ns) d = (all_by_contained (λ m. m ≢ n) ns (λ m held same. d.0 (subst (λ k. Contains ns k) same held)), once-distinct ns d.1)

-- no place stands twice in the order of addresses
pub once-placed : (all : List ResourceRefView) (places : List ℕ) → AreInAddressOrder all places → AreOnce places
once-placed all places sorted = once-distinct places (places-distinct (is_resource all) (length all) places sorted.each)
