-- After an apply that went well a second one changes flags at most, and a third one nothing.
use Rattle.std.proofs.Common.{◌≡◌, ◌∙◌, ◌+◌, ℕ, Bool, true, false, not, cond, List, [], ◌∷◌, ◌++◌, Option, Some, None, map, option_map, refl, sym, ap}
use Rattle.std.specs.List.{AllByRecursion}
use Rattle.std.specs.Option.{option_map_or}
use Rattle.tf_walk_buffers.specs.Dependencies as additions
use Rattle.tf_config_address.specs.ResourceAddr.{ResourceAddrView}
use Rattle.tf_config_address.specs.ObjectId.{ObjectIdView}
use Rattle.tf_plan_object.specs.Laws.{InstancesGrow}
use Rattle.tf_config_data.specs.Config.{BlockView, ConfigView}
use Rattle.tf_config_data.specs.Names.{NameView, a_block, meant_at, names_of}
use Rattle.tf_expand_keys.specs.StandingLaws.{ResolvedNamesGrow}
use Rattle.tf_state_next.proofs.One.{state_after_one}
use Rattle.tf_state_next.specs.Events.{ends_in, given_in}
use Rattle.tf_state_next.specs.StateAfter.{IsStateAfter, next_serial}
use Rattle.tf_walk_action.specs.Outcome.{ActionResultView}
use Rattle.tf_walk_outputs.specs.Outputs.{outputs_after}
use Rattle.tf_plan_data.specs.Plan.{PlanView}
use Rattle.tf_plan_order.specs.OrderInput.{OrderInputView}
use Rattle.tf_provider_protocol.specs.Meaning.{Meaning}
use Rattle.tf_walk_report.specs.Events.{events}
use Rattle.tf_plan_order.specs.Dependencies.{dependencies}
use Rattle.tf_plan_order.specs.ResourceIndex.{ResourceRefView, a_name, an_orphan, has_block, numbered, orphans}
use Rattle.tf_state_next.specs.After.{renewed}
use Rattle.tf_state_data.specs.Equality.{state_Decides}
use Rattle.tf_state_data.specs.Provider.{provider_text}
use Rattle.tf_state_data.specs.Record.{RecordView}
use Rattle.tf_state_data.specs.Resource.{ResourceView}
use Rattle.tf_state_data.specs.State.{StateView, record_in, resource_at}
use Rattle.tf_value_data.specs.Tree.{Entries}
use Rattle.tf_laws.proofs.Declared.{blocks_one}
use Rattle.tf_laws.proofs.Flagless.{AreLike, resources_like, same_stored}
use Rattle.tf_laws.proofs.Homes.{Depends, IsAtRest, first_rests, given_again, home, in_place, needs_alike, none_again}
use Rattle.tf_laws.proofs.Stays.{rest_still}
use Rattle.tf_plan_planner.proofs.Tied.{late_same}
use Rattle.tf_laws.proofs.Whole.{own_depends}
use Rattle.tf_laws.specs.Reapply.{IsCarriedOut, IsSound}
use Rattle.tf_laws.specs.Known.{ExpressionsStayKnown}
use Rattle.tf_laws.specs.Twice.{HasOwnNames, IsAppliedAgain, record_without_flag, resource_without_flags}

no_orphans : (names : List NameView) (rs : List ResourceView) → AllByRecursion (λ r. has_block names r.addr ≡ true) rs → orphans names rs ≡ []
no_orphans names [] h = refl
no_orphans names (r ∷ rs) h = by_test (has_block names r.addr) h.0 (no_orphans names rs h.1)
  where
    by_test : (b : Bool) → b ≡ true → orphans names rs ≡ [] → cond (not b) (r ∷ orphans names rs) (orphans names rs) ≡ []
    by_test true e again = again
    by_test false e again = absurd (cc)

-- where each resource has a block, the names alone are numbered
numbers_are : (names : List NameView) (rs : List ResourceView) → AllByRecursion (λ r. has_block names r.addr ≡ true) rs → numbered names rs ≡ map a_name names ++ []
numbers_are names rs h = ap (λ (qs : List ResourceView). map a_name names ++ map an_orphan qs) (no_orphans names rs h)

abbrev ties : (again : PlanView) → (ℕ → ℕ → Bool) → OrderInputView
ties again needed = record { needs = again.needs; needed = needed; late = again.late }

-- ---- one apply over a state at rest

module _ (ms : List Meaning) (config : ConfigView) (variables : Entries) (s : StateView) (at : IsAtRest ms config variables s) (again : PlanView) (later : StateView)
    (is : IsAppliedAgain ms config variables s (home config variables s again) later) where
  providers_stay : (addr : ResourceAddrView) (r q : ResourceView) → resource_at addr later.resources ≡ Some r → resource_at addr s.resources ≡ Some q → r.provider ≡ q.provider
  providers_stay addr r q e f = is.state.after.providers addr r e ∙ ap (λ (o : Option ResourceView). option_map_or (λ r. r.provider) o (provider_text addr.type_name)) f

  like : AreLike later s
  like = record { ordered = is.in_order; sorted = at.in_order; present = is.state.after.present; there = at.present; providers = providers_stay }

  -- what the records of the state after are given
  pub record IsGiven (n : ℕ) (y : RecordView) : Type 0 where
    pub needs : y.dependencies ≡ additions.dependencies again.needs (names_of config) n
    pub late : y.create_before_destroy ≡ again.late n

  pub given_later : (addr : ResourceAddrView) (id : ObjectIdView) (y : RecordView) (n : ℕ) (block : BlockView) → record_in addr id later ≡ Some y → meant_at (names_of config) n ≡ Some (a_block block) → block.addr ≡ addr → IsGiven n y
  given_later addr id y n block known meant own = by_record (record_in addr id s) refl
    where
      by_record : (o : Option RecordView) → record_in addr id s ≡ o → IsGiven n y
      by_record None e = let no : None ≡ Some y = sym (none_again ms config variables s at again later is addr id e) ∙ known in absurd (cc)
      by_record (Some z) e =
          let p = in_place ms config variables s at addr id z e in
          let both : Some (renewed (additions.dependencies again.needs (names_of config) p.n) (again.late p.n) z) ≡ Some y = sym (given_again ms config variables s at again later is addr id z e p) ∙ known in
          let same : renewed (additions.dependencies again.needs (names_of config) p.n) (again.late p.n) z ≡ y = (cc) in
          let number : p.n ≡ n = blocks_one (names_of config) at.apart p.n n p.block block p.meant meant (p.own ∙ sym own) in
          record {
            needs = sym (ap (λ (r : RecordView). r.dependencies) same) ∙ ap (additions.dependencies again.needs (names_of config)) number;
            late = sym (ap (λ (r : RecordView). r.create_before_destroy) same) ∙ ap again.late number;
          }

  module _ (needs : ℕ → ℕ → Bool) (depends : Depends config needs s)
      (alike : (n : ℕ) (block : BlockView) → meant_at (names_of config) n ≡ Some (a_block block) → additions.dependencies again.needs (names_of config) n ≡ additions.dependencies needs (names_of config) n) where
    known_alike : (addr : ResourceAddrView) (id : ObjectIdView) → option_map record_without_flag (record_in addr id later) ≡ option_map record_without_flag (record_in addr id s)
    known_alike addr id = by_record (record_in addr id s) refl
      where
        by_record : (o : Option RecordView) → record_in addr id s ≡ o → option_map record_without_flag (record_in addr id later) ≡ option_map record_without_flag (record_in addr id s)
        by_record None e = ap (option_map record_without_flag) (none_again ms config variables s at again later is addr id e) ∙ sym (ap (option_map record_without_flag) e)
        by_record (Some y) e =
            let p = in_place ms config variables s at addr id y e in
            ap (option_map record_without_flag) (given_again ms config variables s at again later is addr id y e p)
            ∙ ap (λ (ds : List (List ℕ)). Some (record_without_flag (renewed ds (again.late p.n) y))) (alike p.n p.block p.meant ∙ sym (depends addr id y p.n p.block e p.meant p.own))
            ∙ sym (ap (option_map record_without_flag) e)

    -- the resources are the same but for flags
    pub resources_stay : map resource_without_flags later.resources ≡ map resource_without_flags s.resources
    resources_stay = resources_like later s like known_alike

    -- and at rest
    abbrev pub rests_later : IsAtRest ms config variables later
    rests_later = record {
      shapes = at.shapes;
      objects = at.objects;
      ranked = at.ranked;
      instances = at.instances;
      apart = at.apart;
      rests = rest_still ms variables (names_of config) at.shapes at.objects s.resources later.resources at.rests resources_stay;
      in_order = is.in_order;
      present = is.state.after.present;
    }

-- ---- the second apply

module _ (law : ExpressionsStayKnown) (grows : InstancesGrow) (grow : ResolvedNamesGrow) (ms : List Meaning) (config : ConfigView) (variables : Entries) (prior : StateView) (plan : PlanView) (done : List ActionResultView) (outputs : Entries) (after : StateView)
    (sound : IsSound ms config variables prior) (named : HasOwnNames config) (carried : IsCarriedOut ms config variables prior (home config variables prior plan) done outputs after) where
  abbrev pub rested : IsAtRest ms config variables after
  rested = first_rests law grows grow ms config variables prior plan done outputs after sound carried

  pub first_depends : Depends config plan.needs after
  first_depends addr id y n block known meant own =
      let p = in_place ms config variables after rested addr id y known in
      let number : p.n ≡ n = blocks_one (names_of config) rested.apart p.n n p.block block p.meant meant (p.own ∙ sym own) in
      let id_is : id ≡ record { key = id.key; deposed = None } = λ i. record { key = id.key; deposed = p.current i } in
      let there : record_in p.block.addr (record { key = id.key; deposed = None }) after ≡ Some y =
      ap (λ (l : ResourceAddrView). record_in l (record { key = id.key; deposed = None }) after) p.own ∙ ap (λ (i : ObjectIdView). record_in addr i after) (sym id_is) ∙ known in
      own_depends ms config variables prior (home config variables prior plan) done outputs after sound carried p.n p.block id.key y p.meant p.among there
      ∙ ap (additions.dependencies plan.needs (names_of config)) number

  module _ (again : PlanView) (later : StateView) (is : IsAppliedAgain ms config variables after (home config variables after again) later) where
    pub first_alike : (n : ℕ) (block : BlockView) → meant_at (names_of config) n ≡ Some (a_block block) → additions.dependencies again.needs (names_of config) n ≡ additions.dependencies plan.needs (names_of config) n
    first_alike n block meant =
        let second = is.planned.planned.ordered in
        let first = carried.planned.planned.ordered in
        needs_alike config after.resources prior.resources (ties again second.needed) (ties plan first.needed) named rested.apart second.tied first.tied n block meant

    pub second_resources : map resource_without_flags later.resources ≡ map resource_without_flags after.resources
    second_resources = resources_stay ms config variables after rested again later is plan.needs first_depends first_alike

    abbrev pub second_rests : IsAtRest ms config variables later
    second_rests = rests_later ms config variables after rested again later is plan.needs first_depends first_alike

    -- ---- the third

    module _ (third : PlanView) (last : StateView) (also : IsAppliedAgain ms config variables later (home config variables later third) last) where
      second_alike : (n : ℕ) (block : BlockView) → meant_at (names_of config) n ≡ Some (a_block block) → additions.dependencies third.needs (names_of config) n ≡ additions.dependencies again.needs (names_of config) n
      second_alike n block meant =
          let third_ordered = also.planned.planned.ordered in
          let second = is.planned.planned.ordered in
          needs_alike config later.resources after.resources (ties third third_ordered.needed) (ties again second.needed) named rested.apart third_ordered.tied second.tied n block meant

      late_alike : (n : ℕ) → third.late n ≡ again.late n
      late_alike n =
          let third_ordered = also.planned.planned.ordered in
          let second = is.planned.planned.ordered in
          let numbers = numbers_are (names_of config) later.resources second_rests.rests.blocks ∙ sym (numbers_are (names_of config) after.resources rested.rests.blocks) in
          late_same (names_of config) later.resources after.resources (ties third third_ordered.needed) (ties again second.needed) third_ordered.tied second.tied numbers
          (ap (λ (all : List ResourceRefView). dependencies all later.resources) numbers ∙ same_stored (numbered (names_of config) after.resources) later.resources after.resources second_resources) n

      -- it changes no record
      pub third_records : (addr : ResourceAddrView) (id : ObjectIdView) → record_in addr id last ≡ record_in addr id later
      third_records addr id = by_record (record_in addr id later) refl
        where
          by_record : (o : Option RecordView) → record_in addr id later ≡ o → record_in addr id last ≡ record_in addr id later
          by_record None e = none_again ms config variables later second_rests third last also addr id e ∙ sym e
          by_record (Some y) e =
              let p = in_place ms config variables later second_rests addr id y e in
              let given = given_later ms config variables after rested again later is addr id y p.n p.block e p.meant p.own in
              given_again ms config variables later second_rests third last also addr id y e p
              ∙ ap (λ (ds : List (List ℕ)). Some (renewed ds (third.late p.n) y)) (second_alike p.n p.block p.meant ∙ sym given.needs)
              ∙ ap (λ (b : Bool). Some (renewed y.dependencies b y)) (late_alike p.n ∙ sym given.late)
              ∙ sym e

      -- nor anything else than outputs, with the serial for them
      pub third_is : last ≡ record later { serial = next_serial later (record later { outputs = outputs_after later.outputs config.outputs also.outputs }); outputs = outputs_after later.outputs config.outputs also.outputs }
      third_is =
          let entries = outputs_after later.outputs config.outputs also.outputs in
          let same : StateView = record later { serial = next_serial later (record later { outputs = outputs_after later.outputs config.outputs also.outputs }); outputs = outputs_after later.outputs config.outputs also.outputs } in
          let own_given = given_in (events ms (home config variables later third) also.state.heads also.done) in
          let own_ends = ends_in (events ms (home config variables later third) also.state.heads also.done) in
          let own : IsStateAfter later own_given own_ends entries same =
          record {
            records = λ addr id. sym (third_records addr id) ∙ also.state.after.records addr id;
            present = is.state.after.present;
            providers = λ addr r e. sym (ap (λ (o : Option ResourceView). option_map_or (λ r. r.provider) o (provider_text addr.type_name)) e);
            outputs_are = refl;
            lineage = refl;
            version = refl;
            serial = refl;
          } in
          state_after_one later own_given own_ends entries last same also.in_order (record { resources = is.in_order.resources; records = is.in_order.records }) also.state.after own

      pub third_resources : last.resources ≡ later.resources
      third_resources = ap (λ (t : StateView). t.resources) third_is

      -- so nothing at all, where it changes no output
      pub third_same : outputs_after later.outputs config.outputs also.outputs ≡ later.outputs → last ≡ later
      third_same same =
          third_is ∙ ap (λ (es : Entries). record later { serial = next_serial later (record later { outputs = es }); outputs = es }) same
          ∙ ap (λ (b : Bool). record later { serial = cond b later.serial (later.serial + 1) }) ((state_Decides later later).1 refl)
