-- States at rest, and what an apply of the same configuration gives their records anew.
use Rattle.std.proofs.Common.{◌≡◌, ◌∙◌, ℕ, Bool, true, List, [], ◌∷◌, Option, Some, None, length, map, inl, inr, sym, ap, subst}
use Rattle.std.specs.List.{AllByRecursion}
use Rattle.std.specs.Option.{option_map_or}
use Rattle.std.specs.Prelude.{Contains}
use Rattle.tf_walk_buffers.specs.Dependencies.{dependencies}
use Rattle.tf_config_address.specs.ResourceAddr.{ResourceAddrView}
use Rattle.tf_config_address.specs.ObjectId.{InstanceKeyView, ObjectIdView}
use Rattle.tf_plan_object.specs.Laws.{InstancesGrow}
use Rattle.tf_config_data.specs.Config.{BlockView, ConfigView}
use Rattle.tf_config_data.specs.Names.{a_block, directly_before, addr_pair, meant_at, names_of}
use Rattle.tf_plan_decision.specs.Stage.{records_at}
use Rattle.tf_expand_keys.proofs.Refining.{followed}
use Rattle.tf_expand_keys.specs.StandingLaws.{ResolvedNamesGrow}
use Rattle.tf_expand_keys.specs.InstanceKeys.{InstanceKeysView, instance_keys}
use Rattle.tf_expand_keys.specs.Stages.{applying}
use Rattle.tf_expand_keys.specs.Resolved.{rule}
use Rattle.tf_graph.proofs.Edges.{contains_cases}
use Rattle.tf_graph.proofs.Solving.{solution-exists}
use Rattle.tf_graph.specs.Solutions.{Ranked}
use Rattle.tf_plan_order.specs.Members.{is_among, is_of, records_of}
use Rattle.tf_state_next.proofs.Changing.{found_addr}
use Rattle.tf_state_next.specs.Laws.{IsInOrder}
use Rattle.tf_state_next.specs.StateAfter.{has_records}
use Rattle.tf_walk_action.specs.Outcome.{ActionResultView}
use Rattle.tf_plan_planner.proofs.Blocks.{names-apart}
use Rattle.tf_plan_planner.specs.Ordered.{AreTied}
use Rattle.tf_plan_planner.specs.Plan.{IsPlan}
use Rattle.tf_plan_planner.proofs.Solved.{same_shapes}
use Rattle.tf_plan_planner.proofs.Tied.{block_found}
use Rattle.tf_plan_planner.specs.Planned.{AreInstances}
use Rattle.tf_plan_data.specs.Plan.{PlanView}
use Rattle.tf_plan_order.specs.OrderInput.{OrderInputView}
use Rattle.tf_provider_protocol.specs.Meaning.{Meaning}
use Rattle.tf_walk_report.specs.Report.{objects_after}
use Rattle.tf_plan_order.specs.ResourceLaws as resources_laws
use Rattle.tf_plan_order.specs.ResourceIndex.{a_name, has_block}
use Rattle.tf_state_next.proofs.Places.{found_id}
use Rattle.tf_state_next.specs.After.{object_at, renewed}
use Rattle.tf_state_data.specs.Record.{RecordView}
use Rattle.tf_state_data.specs.Resource.{ResourceView, record_at}
use Rattle.tf_state_data.specs.State.{StateView, record_in, resource_at}
use Rattle.tf_value_data.specs.Tree.{Tree, Entries}
use Rattle.tf_laws.proofs.Anew.{given_anew}
use Rattle.tf_laws.proofs.Declared.{found_contains, has_stands}
use Rattle.tf_laws.proofs.Lists.{all_contained, nothing_in, to_filter}
use Rattle.tf_laws.proofs.Members.{same_key}
use Rattle.tf_laws.proofs.Quiet.{quiet_keeps}
use Rattle.tf_laws.proofs.Still.{nothing_at_rest}
use Rattle.tf_laws.proofs.Tied.{dependencies_same}
use Rattle.tf_laws.proofs.Whole.{own_ranked, rest_same, state_rests}
use Rattle.tf_laws.specs.Reapply.{IsCarriedOut, IsSound}
use Rattle.tf_laws.specs.Known.{ExpressionsStayKnown}
use Rattle.tf_laws.specs.Quiet.{IsRenewed}
use Rattle.tf_laws.specs.Rest.{AreAtRest}
use Rattle.tf_laws.specs.Twice.{HasOwnNames, IsAppliedAgain}

-- ---- a plan with the configuration, the variables and the state that it is of

abbrev pub home : ConfigView → Entries → StateView → PlanView → PlanView
home config variables prior plan = record plan { prior = prior; config = config; variables = variables }

pub homed : (ms : List Meaning) (config : ConfigView) (variables : Entries) (prior : StateView) (plan : PlanView) → IsPlan ms config variables prior plan → plan ≡ home config variables prior plan
homed ms config variables prior plan is i = record {
  prior = is.prior i;
  config = is.config i;
  variables = is.variables i;
  needs = plan.needs;
  shapes = plan.shapes;
  late = plan.late;
  actions = plan.actions;
  order = plan.order;
}

-- ---- a state at rest

pub record IsAtRest (ms : List Meaning) (config : ConfigView) (variables : Entries) (s : StateView) : Type 0 where
  pub shapes : ℕ → InstanceKeysView
  pub objects : ℕ → InstanceKeyView → Tree
  pub ranked : Ranked (directly_before (names_of config))
  pub instances : AreInstances variables (names_of config) shapes
  pub apart : resources_laws.AreApart (map a_name (names_of config))
  pub rests : AreAtRest ms variables (names_of config) shapes objects s.resources
  pub in_order : IsInOrder s
  pub present : AllByRecursion (λ r. has_records r ≡ true) s.resources

-- the block that an object is of, which is an instance's current one
pub record IsInPlace (config : ConfigView) (shapes : ℕ → InstanceKeysView) (addr : ResourceAddrView) (id : ObjectIdView) : Type 0 where
  pub n : ℕ
  pub block : BlockView
  pub meant : meant_at (names_of config) n ≡ Some (a_block block)
  pub own : block.addr ≡ addr
  pub among : is_among (instance_keys (shapes n)) id.key ≡ true
  pub current : id.deposed ≡ None

only_one : (x y : RecordView) → Contains (x ∷ []) y → x ≡ y
only_one x y c = elim (contains_cases y x [] c) [
  | inl here ↦ here
  | inr rest ↦ absurd (nothing_in y rest)
]

module _ (ms : List Meaning) (config : ConfigView) (variables : Entries) (s : StateView) (at : IsAtRest ms config variables s) where
  pub in_place : (addr : ResourceAddrView) (id : ObjectIdView) (y : RecordView) → record_in addr id s ≡ Some y → IsInPlace config at.shapes addr id
  in_place addr id y known =
      let names = names_of config in
      let r = followed (resource_at addr s.resources) (λ (r : ResourceView). record_at id r.records) y known in
      let there : Contains s.resources r.0 = found_contains _ s.resources r.0 r.1 in
      let has : has_block names r.0.addr ≡ true = all_contained (λ (x : ResourceView). has_block names x.addr ≡ true) s.resources r.0 at.rests.blocks there in
      let block = has_stands names r.0.addr has in
      let own : block.1.addr ≡ addr = block.3 ∙ found_addr addr s.resources r.0 r.1 in
      let id_is : y.id ≡ id = found_id id y r.0.records r.2 in
      let resource : resource_at block.1.addr s.resources ≡ Some r.0 = ap (λ (l : ResourceAddrView). resource_at l s.resources) own ∙ r.1 in
      let listed : Contains (records_at block.1.addr s.resources) y = subst (λ (o : Option ResourceView). Contains (option_map_or (λ z. z.records) o []) y) (sym resource) (found_contains _ r.0.records y r.2) in
      let among : is_among (instance_keys (at.shapes block.0)) y.id.key ≡ true =
      all_contained (λ (x : RecordView). is_among (instance_keys (at.shapes block.0)) x.id.key ≡ true) (records_at block.1.addr s.resources) y (at.rests.declared block.0 block.1 block.2) listed in
      let resolved_names = solution-exists (length names) (directly_before names) (rule (applying at.shapes at.objects) variables names) at.ranked in
      let resting = at.rests.rest resolved_names.0 resolved_names.1 block.0 block.1 y.id.key block.2 among in
      let mine : Contains (records_of y.id.key (records_at block.1.addr s.resources)) y = to_filter (is_of y.id.key) (records_at block.1.addr s.resources) y listed (same_key y.id.key) in
      let is_only : resting.only ≡ y = only_one resting.only y (subst (λ (rs : List RecordView). Contains rs y) resting.alone mine) in
      record {
        n = block.0;
        block = block.1;
        meant = block.2;
        own = own;
        among = ap (λ (i : ObjectIdView). is_among (instance_keys (at.shapes block.0)) i.key) (sym id_is) ∙ among;
        current = ap (λ (i : ObjectIdView). i.deposed) (sym id_is) ∙ ap (λ (x : RecordView). x.id.deposed) (sym is_only) ∙ resting.current;
      }

  -- the same configuration and variables plan nothing over it
  pub nothing_again : (again : PlanView) → IsPlan ms config variables s again → again.actions ≡ []
  nothing_again again is =
      let names = names_of config in
      nothing_at_rest ms variables names config.outputs again.shapes at.objects s.resources again.actions at.ranked
      (rest_same ms variables names at.shapes again.shapes at.objects s.resources (same_shapes variables names at.shapes again.shapes at.ranked at.instances is.planned.instances) at.rests)
      is.planned.planned

  -- what isn't known stays so
  pub none_again : (again : PlanView) (later : StateView) → IsAppliedAgain ms config variables s (home config variables s again) later → (addr : ResourceAddrView) (id : ObjectIdView) → record_in addr id s ≡ None → record_in addr id later ≡ None
  none_again again later is addr id e =
      subst (λ (o : Option RecordView). IsRenewed o (record_in addr id later)) e
      (quiet_keeps ms (home config variables s again) is.done _ later (nothing_again (home config variables s again) is.planned) is.state addr id)

  -- each record is given anew what its resource needs, and whether that is late
  pub given_again : (again : PlanView) (later : StateView) → IsAppliedAgain ms config variables s (home config variables s again) later → (addr : ResourceAddrView) (id : ObjectIdView) (y : RecordView) → record_in addr id s ≡ Some y
      → (p : IsInPlace config at.shapes addr id) → record_in addr id later ≡ Some (renewed (dependencies again.needs (names_of config) p.n) (again.late p.n) y)
  given_again again later is addr id y known p =
      let id_is : id ≡ object_at id.key None = λ i. record { key = id.key; deposed = p.current i } in
      let there : record_in p.block.addr (object_at id.key None) s ≡ Some y = ap (λ (l : ResourceAddrView). record_in l (object_at id.key None) s) p.own ∙ ap (λ (i : ObjectIdView). record_in addr i s) (sym id_is) ∙ known in
      ap (λ (i : ObjectIdView). record_in addr i later) id_is ∙ ap (λ (l : ResourceAddrView). record_in l (object_at id.key None) later) (sym p.own)
      ∙ given_anew ms (home config variables s again) is.done _ later (nothing_again (home config variables s again) is.planned) is.state at.apart at.in_order.resources p.n p.block id.key y p.meant there

-- ---- the state after an apply that went well is at rest

module _ (law : ExpressionsStayKnown) (grows : InstancesGrow) (grow : ResolvedNamesGrow) (ms : List Meaning) (config : ConfigView) (variables : Entries) (prior : StateView) (plan : PlanView) (done : List ActionResultView) (outputs : Entries) (after : StateView)
    (sound : IsSound ms config variables prior) (carried : IsCarriedOut ms config variables prior (home config variables prior plan) done outputs after) where
  abbrev pub first_rests : IsAtRest ms config variables after
  first_rests = record {
    shapes = plan.shapes;
    objects = objects_after (home config variables prior plan) done;
    ranked = own_ranked ms config variables prior (home config variables prior plan) done outputs after sound carried;
    instances = carried.planned.planned.instances;
    apart = names-apart config sound.blocks;
    rests = state_rests law grows grow ms config variables prior (home config variables prior plan) done outputs after sound carried;
    in_order = carried.in_order;
    present = carried.state.after.present;
  }

-- ---- what resources need

-- records list what their resources need
abbrev pub Depends : ConfigView → (ℕ → ℕ → Bool) → StateView → Type 0
Depends config needs s =
    (addr : ResourceAddrView) (id : ObjectIdView) (y : RecordView) (n : ℕ) (block : BlockView) → record_in addr id s ≡ Some y → meant_at (names_of config) n ≡ Some (a_block block) → block.addr ≡ addr
    → y.dependencies ≡ dependencies needs (names_of config) n

-- plans of one configuration give the same
pub needs_alike : (config : ConfigView) (rs qs : List ResourceView) (one two : OrderInputView) → HasOwnNames config → resources_laws.AreApart (map a_name (names_of config)) → AreTied (names_of config) rs one → AreTied (names_of config) qs two
    → (n : ℕ) (block : BlockView) → meant_at (names_of config) n ≡ Some (a_block block) → dependencies one.needs (names_of config) n ≡ dependencies two.needs (names_of config) n
needs_alike config rs qs one two named apart tied also n block meant =
    dependencies_same (names_of config) tied.dependence also.dependence one.needs two.needs tied.is_dependence also.is_dependence tied.needs also.needs (addr_pair block.addr) n
    (block_found config named apart n block meant)
