-- What a plan does about each instance: of one that the configuration has, the steps of its decision and no others; and each
-- other object is destroyed.
use Rattle.std.proofs.Common.{◌≡◌, ◌∙◌, ◌||◌, ◌⊎◌, inl, inr, ℕ, zero, suc, Bool, true, false, if◌then◌else◌, List, [], ◌∷◌, Option, Some, None, Ok, Err, map, refl, sym, ap, subst}
use Rattle.std.specs.List.{AllByRecursion, find}
use Rattle.std.specs.Option.{option_map_or}
use Rattle.std.specs.Prelude.{Contains, slice_get}
use Rattle.tf_plan_data.specs.Action.{ActionView, StepView}
use Rattle.tf_config_address.proofs.Totals.{addr_total, object_id_total}
use Rattle.tf_config_address.specs.ResourceAddr.{ResourceAddrView, addr_cmp}
use Rattle.tf_config_address.specs.ObjectId.{InstanceKeyView, ObjectIdView, object_id_cmp}
use Rattle.tf_config_address.specs.Same.{addr_Decides}
use Rattle.tf_plan_object.specs.Instance.{instance_object}
use Rattle.tf_config_data.specs.Config.{BlockView}
use Rattle.tf_config_data.specs.Names.{NameView, Meant, a_local, a_block, meant_at, directly_before}
use Rattle.tf_plan_decision.specs.Deciding.{of_at}
use Rattle.tf_plan_decision.specs.Outcome.{OutcomeView, by_removal, declared_outcome, member_outcome, orphan_outcome, removal_outcome}
use Rattle.tf_plan_decision.specs.Stage.{deciding, records_at}
use Rattle.tf_plan_decision.specs.Steps.{decided_steps, destroy_of, removal_steps}
use Rattle.tf_plan_decision.specs.Decision as choices
use Rattle.tf_plan_decision.specs.Decision.{DecisionView, DecisionFaultView, no_provider, removal_fault}
use Rattle.tf_expand_keys.specs.InstanceKeys.{InstanceKeysView, instance_keys}
use Rattle.tf_expand_keys.specs.Resolved.{ResolvedView, AreResolvedNames, environment}
use Rattle.tf_expr_eval.specs.Environment.{Environment}
use Rattle.tf_graph.specs.Solutions.{Ranked}
use Rattle.tf_plan_order.specs.Members.{InstanceToPlanView, is_among, is_of, member, members, records_of}
use Rattle.tf_state_next.proofs.Changing.{found_addr}
use Rattle.tf_state_next.proofs.Finding.{all_found, found_holds}
use Rattle.tf_plan_planner.proofs.Distinct.{to_map}
use Rattle.tf_plan_planner.proofs.Steps.{removal-destroys}
pub use Rattle.tf_plan_planner.proofs.Tied.{blocks_one}
use Rattle.tf_plan_planner.specs.Planned.{IsPlanned, unrefused}
use Rattle.tf_plan_data.specs.Fits.{deposed_key, is_apply}
use Rattle.tf_provider_protocol.specs.Meaning.{Meaning, schema_in}
use Rattle.tf_provider_protocol.specs.Schema.{SchemaView}
use Rattle.tf_plan_order.proofs.Standing.{each-placed, places-true}
use Rattle.tf_plan_order.specs.ResourceLaws as resources_laws
use Rattle.tf_plan_order.specs.ResourceIndex.{ResourceRefView, a_name, an_orphan, address_of, block_address, has_block, is_address, is_at, numbered}
use Rattle.tf_state_next.proofs.Places.{found_id}
use Rattle.tf_state_data.specs.Addresses.{AreByAddress}
use Rattle.tf_state_data.specs.Ids.{AreById}
use Rattle.tf_state_data.specs.Record.{RecordView}
use Rattle.tf_state_data.specs.Resource.{ResourceView, record_at}
use Rattle.tf_state_data.specs.State.{resource_at}
use Rattle.tf_expr_syntax.specs.ExprTree as expr
use Rattle.tf_value_data.specs.Tree.{Tree, Entries}
use Rattle.tf_laws.proofs.Decided.{IsDecided, IsFine, decided_member, decision_is}
use Rattle.tf_laws.proofs.Fine.{block_fine, orphan_fine}
use Rattle.tf_laws.proofs.Lists.{all_contained, all_from, or_first, or_second, to_filter}
use Rattle.tf_laws.proofs.Members.{instance_holds, member_is, member_there, record_recorded, recorded_holds, recorded_there, same_key}
use Rattle.tf_laws.proofs.Origins.{IsOfMember, IsStepOf, block_step, orphan_step, origin}
use Rattle.tf_laws.proofs.Places.{at_name, meant_within, orphan_of}
use Rattle.tf_laws.proofs.Standing.{before_stand}

-- A plan without a refusal, what names stand for in it, and that no two blocks are at one address.
pub record Setting : Type 0 where
  pub ms : List Meaning
  pub variables : Entries
  pub names : List NameView
  pub outputs : expr.Entries
  pub shapes : ℕ → InstanceKeysView
  pub resources : List ResourceView
  pub actions : List ActionView
  pub planned : IsPlanned ms resources variables names outputs shapes (unrefused actions)
  pub resolved_names : ℕ → ResolvedView
  pub solves : AreResolvedNames (deciding ms resources shapes) variables names resolved_names
  pub ranked : Ranked (directly_before names)
  pub apart : resources_laws.AreApart (map a_name names)
  pub by_address : AreByAddress resources
  pub by_id : AllByRecursion (λ r. AreById r.records) resources

abbrev pub env_of : Setting → Environment
env_of p = environment p.variables p.names p.resolved_names

abbrev pub keys_at : Setting → ℕ → List InstanceKeyView
keys_at p n = instance_keys (p.shapes n)

-- the records of an instance of a block
abbrev pub records_in : Setting → BlockView → InstanceKeyView → List RecordView
records_in p block key = records_of key (records_at block.addr p.resources)

-- ---- blocks and their addresses

pub block_has : (names : List NameView) (n : ℕ) (block : BlockView) → meant_at names n ≡ Some (a_block block) → has_block names block.addr ≡ true
block_has [] n block e = absurd (cc)
block_has (x ∷ names) zero block e =
    let is : x.meant ≡ a_block block = (cc) in
    or_first (is_at block.addr (a_name x)) (has_block names block.addr) (ap (λ (m : Meant). is_address block.addr (block_address m)) is ∙ (addr_Decides block.addr block.addr).1 refl)
block_has (x ∷ names) (suc n) block e = or_second (is_at block.addr (a_name x)) (has_block names block.addr) (block_has names n block e)

at_addr : (addr : ResourceAddrView) (m : Meant) → is_address addr (block_address m) ≡ true → (block : BlockView) × (m ≡ a_block block) × (block.addr ≡ addr)
at_addr addr (a_local e) h = absurd (cc)
at_addr addr (a_block block) h = (block, refl, (addr_Decides block.addr addr).0 h)

-- where there is a block at an address, it stands somewhere
pub has_stands : (names : List NameView) (addr : ResourceAddrView) → has_block names addr ≡ true → (n : ℕ) × (block : BlockView) × (meant_at names n ≡ Some (a_block block)) × (block.addr ≡ addr)
has_stands [] addr h = absurd (cc)
has_stands (x ∷ names) addr h = by_test (is_at addr (a_name x)) refl h (has_stands names addr)
  where
    by_test : (b : Bool) → is_at addr (a_name x) ≡ b → (b || has_block names addr) ≡ true
        → (has_block names addr ≡ true → (n : ℕ) × (block : BlockView) × (meant_at names n ≡ Some (a_block block)) × (block.addr ≡ addr))
        → (n : ℕ) × (block : BlockView) × (meant_at (x ∷ names) n ≡ Some (a_block block)) × (block.addr ≡ addr)
    by_test true is g again = let own = at_addr addr x.meant is in (0, own.0, ap Some own.1, own.2)
    by_test false is g again = let later = again g in (suc later.0, later.1, later.2, later.3)

-- ---- what is found of resources and records

pub found_contains : {A : Type 0} (q : A → Bool) (xs : List A) (y : A) → find q xs ≡ Some y → Contains xs y
found_contains {A} q xs y e = found_holds (Contains xs) q xs y (all_from (Contains xs) xs (λ x c. c)) e

pub resources_found : (rs : List ResourceView) → AreByAddress rs → AllByRecursion (λ r. resource_at r.addr rs ≡ Some r) rs
resources_found rs sorted =
    all_found (λ (r : ResourceView). r.addr) addr_cmp addr_total (λ r. resource_at r.addr rs ≡ Some r) rs sorted (λ k y e. ap (λ (l : ResourceAddrView). resource_at l rs) (found_addr k rs y e) ∙ e)

pub records_found : (rs : List RecordView) → AreById rs → AllByRecursion (λ x. record_at x.id rs ≡ Some x) rs
records_found rs sorted =
    all_found (λ (x : RecordView). x.id) object_id_cmp object_id_total (λ x. record_at x.id rs ≡ Some x) rs sorted (λ k y e. ap (λ (i : ObjectIdView). record_at i rs) (found_id k y rs e) ∙ e)

-- ---- one instance of the configuration

-- What is planned of an instance of a block: a decision, by what the block makes; each of its steps is an action, and each
-- action of the instance is one of its steps.
pub record IsPlannedAt (p : Setting) (n : ℕ) (block : BlockView) (key : InstanceKeyView) : Type 0 where
  pub schema : SchemaView
  pub has : schema_in block.addr.type_name p.ms ≡ Some schema
  pub decision : DecisionView
  pub decides : choices.decision schema block.lifecycle (records_in p block key) (instance_object schema block key (env_of p)) ≡ Ok decision
  pub is : IsDecided schema block.lifecycle (records_in p block key) (instance_object schema block key (env_of p)) decision
  pub done : (s : StepView) → Contains (decided_steps (records_in p block key) decision) s → (a : ActionView) × Contains p.actions a × IsStepOf (of_at p.ms n block.addr) key s a
  pub only : (a : ActionView) → Contains p.actions a → a.addr ≡ block.addr → a.key ≡ key → Contains (decided_steps (records_in p block key) decision) a.step × IsStepOf (of_at p.ms n block.addr) key a.step a

steps_one : (o : OutcomeView) (xs ys : List StepView) → o ≡ Ok xs → o ≡ Ok ys → xs ≡ ys
steps_one o xs ys e f = let same : ◌≡◌ {A = OutcomeView} (Ok xs) (Ok ys) = sym e ∙ f in cc

module _ (p : Setting) where
  member_fine : (n : ℕ) (block : BlockView) → meant_at p.names n ≡ Some (a_block block)
      → AllByRecursion (λ m. IsFine (member_outcome (schema_in block.addr.type_name p.ms) block (env_of p) m)) (members (keys_at p n) (records_at block.addr p.resources))
  member_fine n block meant =
      block_fine p.ms p.variables p.names p.outputs p.shapes p.resources p.actions p.planned p.resolved_names p.solves p.ranked n block meant
      (before_stand p.ms p.variables p.names p.outputs p.shapes p.resources p.actions p.planned p.resolved_names p.solves p.ranked n (meant_within p.names n (a_block block) meant))

  of_block : (n : ℕ) (block : BlockView) (a : ActionView) → meant_at p.names n ≡ Some (a_block block) → Contains p.actions a → a.addr ≡ block.addr
      → IsOfMember (of_at p.ms n block.addr) (member_outcome (schema_in block.addr.type_name p.ms) block (env_of p)) (members (keys_at p n) (records_at block.addr p.resources)) a
  of_block n block a meant c addr = elim (origin p.ms p.variables p.names p.outputs p.shapes p.resources p.actions p.planned p.resolved_names p.solves p.ranked a c) [
    | inl b ↦
        let n_same : b.n ≡ n = blocks_one p.names p.apart b.n n b.block block b.meant meant (sym b.own.is.addr ∙ addr) in
        let stands : Some (a_block b.block) ≡ Some (a_block block) = sym b.meant ∙ ap (meant_at p.names) n_same ∙ meant in
        let block_same : b.block ≡ block = (cc) in
        let at_n : IsOfMember (of_at p.ms n b.block.addr) (member_outcome (schema_in b.block.addr.type_name p.ms) b.block (env_of p)) (members (keys_at p n) (records_at b.block.addr p.resources)) a =
        subst (λ (k : ℕ). IsOfMember (of_at p.ms k b.block.addr) (member_outcome (schema_in b.block.addr.type_name p.ms) b.block (env_of p)) (members (keys_at p k) (records_at b.block.addr p.resources)) a) n_same b.own in
        subst (λ (x : BlockView). IsOfMember (of_at p.ms n x.addr) (member_outcome (schema_in x.addr.type_name p.ms) x (env_of p)) (members (keys_at p n) (records_at x.addr p.resources)) a) block_same at_n
    | inr o ↦
        let none = (orphan_of p.names p.resources o.n o.resource o.stands).1 in
        let some : has_block p.names o.resource.addr ≡ true = ap (has_block p.names) (sym o.own.is.addr ∙ addr) ∙ block_has p.names n block meant in
        absurd (cc)
  ]

  -- what is planned of an instance of a block
  pub planned_at : (n : ℕ) (block : BlockView) (key : InstanceKeyView) → meant_at p.names n ≡ Some (a_block block) → is_among (keys_at p n) key ≡ true → IsPlannedAt p n block key
  planned_at n block key meant among =
      let records = records_at block.addr p.resources in
      let found = schema_in block.addr.type_name p.ms in
      let env = env_of p in
      let keys = keys_at p n in
      let m = decided_member found block env keys records key among (instance_holds (λ m. IsFine (member_outcome found block env m)) keys records key (member_fine n block meant) among) in
      record {
        schema = m.schema;
        has = m.has;
        decision = m.choice;
        decides = m.decides;
        is = decision_is m.schema block.lifecycle (records_of key records) (instance_object m.schema block key env) m.choice m.decides;
        done = λ s c.
            block_step p.ms p.variables p.names p.outputs p.shapes p.resources p.actions p.planned p.resolved_names p.solves p.ranked n block (member keys records key) (decided_steps (records_of key records) m.choice) s meant
            (before_stand p.ms p.variables p.names p.outputs p.shapes p.resources p.actions p.planned p.resolved_names p.solves p.ranked n (meant_within p.names n (a_block block) meant))
            (member_there keys records key among) m.outcome c;
        only = λ a c addr key_is.
            let own = of_block n block a meant c addr in
            let is_member : own.member ≡ member keys records key = member_is keys records own.member own.there ∙ ap (member keys records) (sym own.is.key_is ∙ key_is) in
            let outcome : member_outcome found block env (member keys records key) ≡ Ok own.steps = ap (member_outcome found block env) (sym is_member) ∙ own.outcome in
            let steps = steps_one (member_outcome found block env (member keys records key)) own.steps (decided_steps (records_of key records) m.choice) outcome m.outcome in (
              subst (λ (xs : List StepView). Contains xs a.step) steps own.step,
              record { resource = own.is.resource; addr = own.is.addr; key_is = key_is; step = refl; version = own.is.version },
            );
      }

  -- ---- instances that are made or changed

  removed : (o : Option DecisionFaultView) (records : List RecordView) (steps : List StepView) → by_removal records o ≡ Ok steps → removal_steps records ≡ steps
  removed None records steps e = cc
  removed (Some why) records steps e = absurd (cc)

  not_applied : (o : Option DecisionFaultView) (records : List RecordView) (steps : List StepView) (s : StepView) → by_removal records o ≡ Ok steps → Contains steps s → is_apply s ≡ true → ⊥
  not_applied o records steps s e c applies =
      let none : is_apply s ≡ false = all_contained (λ x. is_apply x ≡ false) steps s (subst (AllByRecursion (λ x. is_apply x ≡ false)) (removed o records steps e) (removal-destroys records)) c in
      absurd (cc)

  applied_among : (found : Option SchemaView) (block : BlockView) (keys : List InstanceKeyView) (records : List RecordView) (key : InstanceKeyView) (steps : List StepView) (s : StepView) (b : Bool) → is_among keys key ≡ b
      → member_outcome found block (env_of p) (member keys records key) ≡ Ok steps → Contains steps s → is_apply s ≡ true → is_among keys key ≡ true
  applied_among found block keys records key steps s true among e c applies = among
  applied_among None block keys records key steps s false among e c applies = absurd (cc)
  applied_among (Some schema) block keys records key steps s false among e c applies =
      let m = member keys records key in
      let outcome = λ (x : Bool). if x then declared_outcome schema block (env_of p) m else removal_outcome schema (Some block.lifecycle) m in
      absurd (not_applied (removal_fault schema (Some block.lifecycle) m.records) m.records steps s (sym (ap outcome among) ∙ e) c applies)

  -- an instance of a block
  pub record IsDeclaredAt (addr : ResourceAddrView) (key : InstanceKeyView) : Type 0 where
    pub n : ℕ
    pub block : BlockView
    pub meant : meant_at p.names n ≡ Some (a_block block)
    pub own : block.addr ≡ addr
    pub among : is_among (keys_at p n) key ≡ true

  orphan_not_applied : (found : Option SchemaView) (m : InstanceToPlanView) (steps : List StepView) (s : StepView) → orphan_outcome found m ≡ Ok steps → Contains steps s → is_apply s ≡ true → ⊥
  orphan_not_applied None m steps s e c applies = absurd (cc)
  orphan_not_applied (Some schema) m steps s e c applies = not_applied (removal_fault schema None m.records) m.records steps s e c applies

  -- only instances that blocks have are made or changed
  pub apply_declared : (a : ActionView) → Contains p.actions a → is_apply a.step ≡ true → IsDeclaredAt a.addr a.key
  apply_declared a c applies = elim (origin p.ms p.variables p.names p.outputs p.shapes p.resources p.actions p.planned p.resolved_names p.solves p.ranked a c) [
    | inl b ↦
        let keys = keys_at p b.n in
        let records = records_at b.block.addr p.resources in
        let found = schema_in b.block.addr.type_name p.ms in
        let is_member = member_is keys records b.own.member b.own.there in
        let outcome : member_outcome found b.block (env_of p) (member keys records b.own.member.key) ≡ Ok b.own.steps = ap (member_outcome found b.block (env_of p)) (sym is_member) ∙ b.own.outcome in
        let among = applied_among found b.block keys records b.own.member.key b.own.steps a.step (is_among keys b.own.member.key) refl outcome b.own.step applies in
        record { n = b.n; block = b.block; meant = b.meant; own = sym b.own.is.addr; among = ap (is_among keys) b.own.is.key_is ∙ among }
    | inr o ↦ absurd (orphan_not_applied (schema_in o.resource.addr.type_name p.ms) o.own.member o.own.steps a.step o.own.outcome o.own.step applies)
  ]

  -- ---- objects that nothing asks for

  -- an object is destroyed
  pub record IsDestroyed (addr : ResourceAddrView) (id : ObjectIdView) : Type 0 where
    pub a : ActionView
    pub there : Contains p.actions a
    pub addr_is : a.addr ≡ addr
    pub key_is : a.key ≡ id.key
    pub destroys : is_apply a.step ≡ false
    pub deposed : deposed_key a.step ≡ id.deposed

  destroy_step : (o : Option (List ℕ)) (t : Tree) → (is_apply (destroy_of o t) ≡ false) × (deposed_key (destroy_of o t) ≡ o)
  destroy_step None t = (refl, refl)
  destroy_step (Some key) t = (refl, refl)

  step_there : (records : List RecordView) (x : RecordView) → Contains records x → Contains (removal_steps records) (destroy_of x.id.deposed x.attributes)
  step_there records x c = to_map (λ (r : RecordView). destroy_of r.id.deposed r.attributes) records x c

  own_there : (records : List RecordView) (x : RecordView) → Contains records x → Contains (records_of x.id.key records) x
  own_there records x c = to_filter (is_of x.id.key) records x c (same_key x.id.key)

  destroyed_by : (of_addr addr : ResourceAddrView) (n : ℕ) (x : RecordView) → of_addr ≡ addr → (a : ActionView) × Contains p.actions a × IsStepOf (of_at p.ms n of_addr) x.id.key (destroy_of x.id.deposed x.attributes) a → IsDestroyed addr x.id
  destroyed_by of_addr addr n x same found = record {
    a = found.0;
    there = found.1;
    addr_is = found.2.addr ∙ same;
    key_is = found.2.key_is;
    destroys = ap is_apply found.2.step ∙ (destroy_step x.id.deposed x.attributes).0;
    deposed = ap deposed_key found.2.step ∙ (destroy_step x.id.deposed x.attributes).1;
  }

  fine_removed : (o : Option DecisionFaultView) (records : List RecordView) → IsFine (by_removal records o) → by_removal records o ≡ Ok (removal_steps records)
  fine_removed o records fine = fine.1 ∙ ap Ok (sym (removed o records fine.0 fine.1))

  orphan_removed : (found : Option SchemaView) (m : InstanceToPlanView) → IsFine (orphan_outcome found m) → orphan_outcome found m ≡ Ok (removal_steps m.records)
  orphan_removed None m fine = let no : ◌≡◌ {A = OutcomeView} (Err no_provider) (Ok fine.0) = fine.1 in absurd (cc)
  orphan_removed (Some schema) m fine = fine_removed (removal_fault schema None m.records) m.records fine

  member_removed : (found : Option SchemaView) (block : BlockView) (m : InstanceToPlanView) → m.is_declared ≡ false → IsFine (member_outcome found block (env_of p) m) → member_outcome found block (env_of p) m ≡ Ok (removal_steps m.records)
  member_removed None block m undeclared fine = let no : ◌≡◌ {A = OutcomeView} (Err no_provider) (Ok fine.0) = fine.1 in absurd (cc)
  member_removed (Some schema) block m undeclared fine =
      let outcome = λ (x : Bool). if x then declared_outcome schema block (env_of p) m else removal_outcome schema (Some block.lifecycle) m in
      ap outcome undeclared ∙ fine_removed (removal_fault schema (Some block.lifecycle) m.records) m.records (fine.0, sym (ap outcome undeclared) ∙ fine.1)

  same_orphan : (r q : ResourceView) → Contains p.resources q → q.addr ≡ r.addr → resource_at r.addr p.resources ≡ Some r → q ≡ r
  same_orphan r q c addr e =
      let own : resource_at q.addr p.resources ≡ Some q = all_contained (λ x. resource_at x.addr p.resources ≡ Some x) p.resources q (resources_found p.resources p.by_address) c in
      let both : Some q ≡ Some r = sym own ∙ ap (λ (l : ResourceAddrView). resource_at l p.resources) addr ∙ e in
      cc

  orphan_place : (r : ResourceView) → resource_at r.addr p.resources ≡ Some r → has_block p.names r.addr ≡ false → (n : ℕ) × (slice_get (numbered p.names p.resources) n ≡ Some (an_orphan r))
  orphan_place r e none =
      let place = each-placed p.names p.resources r (found_contains _ p.resources r e) in
      let x = places-true (numbered p.names p.resources) r.addr place.0 place.1 in
      (place.0, x.1 ∙ ap Some (is_orphan x.0 place.0 x.1 x.2))
    where
      is_orphan : (x : ResourceRefView) (n : ℕ) → slice_get (numbered p.names p.resources) n ≡ Some x → address_of x ≡ Some r.addr → x ≡ an_orphan r
      is_orphan (a_name name) n at address =
          let meant = at_name p.names p.resources n name at in
          let block = at_addr r.addr name.meant (ap (is_address r.addr) address ∙ (addr_Decides r.addr r.addr).1 refl) in
          let has : has_block p.names r.addr ≡ true = ap (has_block p.names) (sym block.2) ∙ block_has p.names n block.0 (meant ∙ ap Some block.1) in
          absurd (cc)
      is_orphan (an_orphan q) n at address =
          let addr : q.addr ≡ r.addr = (cc) in ap an_orphan (same_orphan r q (orphan_of p.names p.resources n q at).0 addr e)

  -- each object of the state is of an instance that a block has, or is destroyed
  pub known_object : (r : ResourceView) (x : RecordView) → resource_at r.addr p.resources ≡ Some r → Contains r.records x → IsDeclaredAt r.addr x.id.key ⊎ IsDestroyed r.addr x.id
  known_object r x e c = by_block (has_block p.names r.addr) refl
    where
      by_among : (n : ℕ) (block : BlockView) → meant_at p.names n ≡ Some (a_block block) → block.addr ≡ r.addr → (b : Bool) → is_among (keys_at p n) x.id.key ≡ b → IsDeclaredAt r.addr x.id.key ⊎ IsDestroyed r.addr x.id
      by_among n block meant own true among = inl (record { n = n; block = block; meant = meant; own = own; among = among })
      by_among n block meant own false undeclared =
          let keys = keys_at p n in
          let records = records_at block.addr p.resources in
          let found = schema_in block.addr.type_name p.ms in
          let resource : resource_at block.addr p.resources ≡ Some r = ap (λ (l : ResourceAddrView). resource_at l p.resources) own ∙ e in
          let there : Contains records x = subst (λ (o : Option ResourceView). Contains (option_map_or (λ q. q.records) o []) x) (sym resource) c in
          let m = member keys records x.id.key in
          let fine = recorded_holds (λ m. IsFine (member_outcome found block (env_of p) m)) keys records x.id.key (member_fine n block meant) (record_recorded records x there) in
          let outcome = member_removed found block m undeclared fine in
          let step = step_there (records_of x.id.key records) x (own_there records x there) in
          inr
          (destroyed_by block.addr r.addr n x own
          (block_step p.ms p.variables p.names p.outputs p.shapes p.resources p.actions p.planned p.resolved_names p.solves p.ranked n block m (removal_steps (records_of x.id.key records)) (destroy_of x.id.deposed x.attributes) meant
          (before_stand p.ms p.variables p.names p.outputs p.shapes p.resources p.actions p.planned p.resolved_names p.solves p.ranked n (meant_within p.names n (a_block block) meant))
          (recorded_there keys records x.id.key (record_recorded records x there)) outcome step))

      by_block : (b : Bool) → has_block p.names r.addr ≡ b → IsDeclaredAt r.addr x.id.key ⊎ IsDestroyed r.addr x.id
      by_block true has = let at = has_stands p.names r.addr has in by_among at.0 at.1 at.2 at.3 (is_among (keys_at p at.0) x.id.key) refl
      by_block false none =
          let place = orphan_place r e none in
          let m = member [] r.records x.id.key in
          let fine = recorded_holds (λ m. IsFine (orphan_outcome (schema_in r.addr.type_name p.ms) m)) [] r.records x.id.key
          (orphan_fine p.ms p.variables p.names p.outputs p.shapes p.resources p.actions p.planned p.resolved_names p.solves p.ranked place.0 r place.1) (record_recorded r.records x c) in
          let outcome = orphan_removed (schema_in r.addr.type_name p.ms) m fine in
          inr
          (destroyed_by r.addr r.addr place.0 x refl
          (orphan_step p.ms p.variables p.names p.outputs p.shapes p.resources p.actions p.planned p.resolved_names p.solves p.ranked place.0 r m (removal_steps (records_of x.id.key r.records)) (destroy_of x.id.deposed x.attributes) place.1
          (recorded_there [] r.records x.id.key (record_recorded r.records x c)) outcome (step_there (records_of x.id.key r.records) x (own_there r.records x c))))
