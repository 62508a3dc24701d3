-- What becomes of the members of a resource, and what the resource stands for by that.
use Rattle.std.proofs.Common.{◌≡◌, ◌++◌, ◌+◌, ◌&&◌, ◌||◌, ℕ, Bool, true, false, cond, if◌then◌else◌, is_ok, is_none, List, [], ◌∷◌, map, Option, Some, None, option_map, Result, Ok, Err, Ordering, Less, Equal, Greater, is_eq, refl, sym, ap, ap₂, subst, ◌∙◌}
use Rattle.std.specs.List.{AllByRecursion, find, flat_map, list_all}
use Rattle.std.specs.List.Sorted.{IsStrictlySortedBy}
use Rattle.std.specs.Option.{option_or}
use Rattle.std.specs.Prelude.{option_and_then}
use Rattle.tf_config_address.specs.ObjectId.{InstanceKeyView, ObjectIdView, instance_key_cmp}
use Rattle.tf_config_address.specs.Same.{object_id_Decides, same_instance_key}
use Rattle.tf_plan_object.specs.Instance.{InstanceFaultView, instance_object}
use Rattle.tf_config_data.specs.Config.{BlockView, LifecycleView}
use Rattle.tf_plan_decision.proofs.Appending.{members_collected}
use Rattle.tf_plan_decision.specs.Collecting.{with_members, with_outcome, with_settled}
use Rattle.tf_plan_decision.specs.Deciding.{DecidedView, OfView, decisions_on, of_at, version_of}
use Rattle.tf_plan_decision.specs.Outcome.{OutcomeView, by_decision, by_removal, declared_outcome, member_outcome, removal_outcome}
use Rattle.tf_plan_decision.specs.Settling.{SettledView, all_free, asked_by, settled_from, settled_key, settled_object, settled_of, settled_standing, stood_for}
use Rattle.tf_plan_decision.specs.Stage.{all_can_go, block_members, block_standing, decided_object, object_beside, object_of, object_unless_refused, records_at, stays_or_goes}
use Rattle.tf_plan_decision.specs.Steps.{current_steps, deposed_step, destroy_if_deposed}
use Rattle.tf_plan_decision.specs.Rows.{nothing_decided}
use Rattle.tf_plan_decision.specs.declared.settling.Settled.{Settled}
use Rattle.tf_plan_decision.specs.Decision as decision
use Rattle.tf_plan_decision.specs.Decision.{DecisionView, DecisionFaultView, current, decided, removal_fault, unless_prevented, unless_unfit}
use Rattle.tf_plan_decision.specs.Ignored.{with_ignored_changes, ignored_fault}
use Rattle.tf_plan_decision.specs.Prior.{PriorFaultView, first_unfit}
use Rattle.tf_plan_decision.specs.Whole.{block_instances}
use Rattle.tf_expand_keys.specs.InstanceKeys.{InstanceKeysView, one, many, named, instance_keys, list_of, map_under, objects_at}
use Rattle.tf_expand_keys.specs.Resolved.{ResolvedView, together}
use Rattle.tf_expr_eval.specs.Environment.{Environment}
use Rattle.tf_expr_operators.specs.Answer.{limited}
use Rattle.tf_plan_order.proofs.InstanceOrder.{key_exact, key_total, same_ordered}
use Rattle.tf_plan_order.proofs.Listing.{are_there}
use Rattle.tf_plan_order.specs.Members.{InstanceToPlanView, all_keys, is_among, is_recorded, keys_of, member, members, records_of}
use Rattle.tf_provider_protocol.specs.Meaning.{Meaning, schema_in}
use Rattle.tf_provider_protocol.specs.Schema.{SchemaView}
use Rattle.tf_state_data.proofs.Edits.{Keeping}
use Rattle.tf_state_data.specs.Record.{RecordView}
use Rattle.tf_state_data.specs.Resource.{ResourceView}
use Rattle.tf_value_data.specs.Tree.{Tree}

-- ---- the list of what becomes of members

-- one member more
pub one_settled : (old new : List Settled) (x : Settled) (s : SettledView) (rest : List SettledView) → new ≡ old ++ x ∷ [] → settled_of x ≡ s → map settled_of new ++ rest ≡ map settled_of old ++ s ∷ rest
one_settled [] new x s rest e is = ap (λ xs. map settled_of xs ++ rest) e ∙ ap (λ y. y ∷ rest) is
one_settled (y ∷ old) new x s rest e is = ap (λ xs. map settled_of xs ++ rest) e ∙ ap (λ ys. settled_of y ∷ ys) (one_settled old (old ++ x ∷ []) x s rest refl is)

module _ (becomes : InstanceToPlanView → OutcomeView) where
  pub with_settled_from : (of : OfView) (i : ℕ) (ms : List InstanceToPlanView) (d : DecidedView) → with_settled of (settled_from becomes i ms) d ≡ with_members of becomes i ms d
  with_settled_from of i [] d = refl
  with_settled_from of i (m ∷ ms) d = with_settled_from of (i + 1) ms (with_outcome of i m.key (becomes m) d)

  pub keys_settled : (i : ℕ) (ms : List InstanceToPlanView) → map settled_key (settled_from becomes i ms) ≡ keys_of ms
  keys_settled i [] = refl
  keys_settled i (m ∷ ms) = ap (λ ks. m.key ∷ ks) (keys_settled (i + 1) ms)

is_equal : (o : Ordering) → is_eq o ≡ true → o ≡ Equal
is_equal Less e = absurd (cc)
is_equal Equal e = refl
is_equal Greater e = absurd (cc)

found_first : {A : Type 0} (test : A → Bool) (x : A) (xs : List A) → test x ≡ true → find test (x ∷ xs) ≡ Some x
found_first test x xs e = ap (λ b. cond b (Some x) (find test xs)) e

found_later : {A : Type 0} (test : A → Bool) (x : A) (xs : List A) → test x ≡ false → find test (x ∷ xs) ≡ find test xs
found_later test x xs e = ap (λ b. cond b (Some x) (find test xs)) e

-- what is found of an instance is what becomes of it
module _ (becomes : InstanceToPlanView → OutcomeView) (own : List InstanceKeyView) (records : List RecordView) (key : InstanceKeyView) where
  looked : (ks : List InstanceKeyView) (i : ℕ) → is_among (keys_of (map (member own records) ks)) key ≡ true
      → settled_object (settled_from becomes i (map (member own records) ks)) key ≡ stood_for (records_of key records) (becomes (member own records key))
  looked [] i h = absurd (cc)
  looked (k ∷ ks) i h = by_test (is_eq (instance_key_cmp k key)) refl (λ among. looked ks (i + 1) among)
    where
      by_test : (b : Bool) → is_eq (instance_key_cmp k key) ≡ b
          → (is_among (keys_of (map (member own records) ks)) key ≡ true → settled_object (settled_from becomes (i + 1) (map (member own records) ks)) key ≡ stood_for (records_of key records) (becomes (member own records key)))
          → settled_object (record { instance = i; member = member own records k; outcome = becomes (member own records k) } ∷ settled_from becomes (i + 1) (map (member own records) ks)) key
          ≡ stood_for (records_of key records) (becomes (member own records key))
      by_test true e later =
          let first : SettledView = record { instance = i; member = member own records k; outcome = becomes (member own records k) } in
          ap (option_and_then (λ (s : SettledView). stood_for s.member.records s.outcome))
          (found_first (λ (s : SettledView). is_eq (instance_key_cmp (settled_key s) key)) first (settled_from becomes (i + 1) (map (member own records) ks)) e)
          ∙ ap (λ j. stood_for (records_of j records) (becomes (member own records j))) (key_exact k key (is_equal (instance_key_cmp k key) e))
      by_test false e later =
          let first : SettledView = record { instance = i; member = member own records k; outcome = becomes (member own records k) } in
          ap (option_and_then (λ (s : SettledView). stood_for s.member.records s.outcome))
          (found_later (λ (s : SettledView). is_eq (instance_key_cmp (settled_key s) key)) first (settled_from becomes (i + 1) (map (member own records) ks)) e)
          ∙ later (ap (λ b. b || is_among (keys_of (map (member own records) ks)) key) (sym e ∙ same_ordered k key) ∙ h)

-- ---- the object of an instance

none_asked : (records : List RecordView) → asked_by (flat_map deposed_step records) ≡ None
none_asked [] = refl
none_asked (r ∷ rs) = by_key r.id.deposed (none_asked rs)
  where
    by_key : (o : Option (List ℕ)) → asked_by (flat_map deposed_step rs) ≡ None → asked_by (destroy_if_deposed o r.attributes ++ flat_map deposed_step rs) ≡ None
    by_key None h = h
    by_key (Some key) h = refl

-- without a current object only a create is decided
module _ (schema : SchemaView) (lifecycle : LifecycleView) where
  created : (planned : Tree) (d : DecisionView) (b : Bool) → unless_prevented b (decision.create planned) ≡ Ok d → d ≡ decision.create planned
  created planned d true e = cc
  created planned d false e = cc

  only_created : (fault : Option PriorFaultView) (p : Result Tree InstanceFaultView) (d : DecisionView) → unless_unfit fault (decided schema lifecycle None p) ≡ Ok d → (t : Tree) × (d ≡ decision.create t)
  only_created (Some f) p d e = absurd (cc)
  only_created None (Err why) d e = absurd (cc)
  only_created None (Ok planned) d e = (planned, created planned d lifecycle.prevent_destroy e)

  module _ (records : List RecordView) (planned : Result Tree InstanceFaultView) where
    by_current : (o : Option RecordView) (d : DecisionView) → (o ≡ None → (t : Tree) × (d ≡ decision.create t))
        → option_or (asked_by (current_steps o d ++ flat_map deposed_step records)) (option_map (λ (r : RecordView). r.attributes) o) ≡ object_beside o d
    by_current o decision.nothing makes = ap (λ (x : Option Tree). option_or x (option_map (λ (r : RecordView). r.attributes) o)) (none_asked records)
    by_current o (decision.create t) makes = refl
    by_current None (decision.update t names) makes = let made = (makes refl).1 in absurd (cc)
    by_current (Some r) (decision.update t names) makes = refl
    by_current None (decision.replace t names) makes = let made = (makes refl).1 in absurd (cc)
    by_current (Some r) (decision.replace t names) makes = refl

    -- what is decided of an instance says what it stands for
    stood_is : (r : Result DecisionView DecisionFaultView) → decision.decision schema lifecycle records planned ≡ r → stood_for records (by_decision records r) ≡ object_unless_refused records r
    stood_is (Err why) e = refl
    stood_is (Ok d) e =
        by_current (current records) d
        (λ none. only_created (first_unfit schema records) (with_ignored_changes (ignored_fault schema lifecycle.ignore_changes) planned) d
        (ap (λ (o : Option RecordView). unless_unfit (first_unfit schema records) (decided schema lifecycle o (with_ignored_changes (ignored_fault schema lifecycle.ignore_changes) planned))) (sym none) ∙ e))

-- ---- the objects of all

same_key : (k : InstanceKeyView) → same_instance_key k k ≡ true
same_key k = let id : ObjectIdView = record { key = k; deposed = None } in both_first (same_instance_key k k) ((object_id_Decides id id).1 refl)
  where
    both_first : (a : Bool) → (a && true) ≡ true → a ≡ true
    both_first true e = refl
    both_first false e = e

or_later : (a b : Bool) → b ≡ true → (a || b) ≡ true
or_later true b e = refl
or_later false b e = e

or_first : (a b : Bool) → a ≡ true → (a || b) ≡ true
or_first true b e = refl
or_first false b e = absurd (cc)

each_key : (P : InstanceKeyView → Type 0) (ks : List InstanceKeyView) → ((key : InstanceKeyView) → is_among ks key ≡ true → P key) → AllByRecursion P ks
each_key P [] f = tt
each_key P (k ∷ ks) f = (f k (or_first (same_instance_key k k) (is_among ks k) (same_key k)), each_key P ks (λ key among. f key (or_later (same_instance_key k key) (is_among ks key) among)))

objects_on : (f g : InstanceKeyView → Option Tree) (ks : List InstanceKeyView) → AllByRecursion (λ k. f k ≡ g k) ks → objects_at f ks ≡ objects_at g ks
objects_on f g [] h = refl
objects_on f g (k ∷ ks) h =
    let first : f k ≡ g k = h.0 in
    let rest : objects_at f ks ≡ objects_at g ks = objects_on f g ks h.1 in
    rw (first, rest) refl

together_on : (f g : InstanceKeyView → Option Tree) (shape : InstanceKeysView) → AllByRecursion (λ k. f k ≡ g k) (instance_keys shape) → together (Some shape) f ≡ together (Some shape) g
together_on f g one h = ap (option_map limited) h.0
together_on f g (many n) h = ap (λ (o : Option (List Tree)). option_map limited (option_map list_of o)) (objects_on f g (instance_keys (many n)) h)
together_on f g (named names) h = ap (λ (o : Option (List Tree)). option_map limited (option_map (map_under names) o)) (objects_on f g (instance_keys (named names)) h)

module _ (block : BlockView) (env : Environment) where
  -- a member is refused that the configuration doesn't have where it can't go
  free_same : (found : Option SchemaView) (m : InstanceToPlanView) → (m.is_declared || is_ok (member_outcome found block env m)) ≡ stays_or_goes found block.lifecycle m
  free_same None m = refl
  free_same (Some schema) m = by_declared m.is_declared
    where
      by_refusal : (o : Option DecisionFaultView) → is_ok (by_removal m.records o) ≡ is_none o
      by_refusal None = refl
      by_refusal (Some why) = refl

      by_declared : (b : Bool)
          → (b || is_ok (if b then declared_outcome schema block env m else removal_outcome schema (Some block.lifecycle) m)) ≡ (b || is_none (removal_fault schema (Some block.lifecycle) m.records))
      by_declared true = refl
      by_declared false = by_refusal (removal_fault schema (Some block.lifecycle) m.records)

  all_same : (found : Option SchemaView) (i : ℕ) (ms : List InstanceToPlanView) → all_free (settled_from (member_outcome found block env) i ms) ≡ list_all (stays_or_goes found block.lifecycle) ms
  all_same found i [] = refl
  all_same found i (m ∷ ms) = ap₂ (λ a b. a && b) (free_same found m) (all_same found (i + 1) ms)

  module _ (own : List InstanceKeyView) (records : List RecordView) where
    declared_stood : (found : Option SchemaView) (key : InstanceKeyView) → is_among own key ≡ true
        → stood_for (records_of key records) (member_outcome found block env (member own records key)) ≡ option_and_then (λ schema. object_of schema block (records_of key records) env key) found
    declared_stood None key among = refl
    declared_stood (Some schema) key among =
        let planned = instance_object schema block key env in
        ap (λ b. stood_for (records_of key records) (if b then declared_outcome schema block env (member own records key) else removal_outcome schema (Some block.lifecycle) (member own records key))) among
        ∙ stood_is schema block.lifecycle (records_of key records) planned (decision.decision schema block.lifecycle (records_of key records) planned) refl

    object_found : (found : Option SchemaView) (key : InstanceKeyView) → is_among own key ≡ true
        → settled_object (settled_from (member_outcome found block env) 0 (members own records)) key ≡ option_and_then (λ schema. object_of schema block (records_of key records) env key) found
    object_found found key among =
        looked (member_outcome found block env) own records key (all_keys own records) 0 ((are_there own records).there key ∙ or_first (is_among own key) (is_recorded records key) among)
        ∙ declared_stood found key among

  -- what becomes of its members says what a resource stands for
  pub settled_stands : (ms : List Meaning) (resources : List ResourceView) (n : ℕ) (shape : InstanceKeysView)
      → settled_standing shape (settled_from (member_outcome (schema_in block.addr.type_name ms) block env) 0 (block_members shape block resources)) ≡ block_standing ms resources n shape block env
  settled_stands ms resources n shape =
      let found = schema_in block.addr.type_name ms in
      let all = settled_from (member_outcome found block env) 0 (block_members shape block resources) in
      ap (λ b. together (if b then Some shape else None) (settled_object all)) (all_same found 0 (block_members shape block resources))
      ∙ by_test (settled_object all) (decided_object ms resources n block env) (all_can_go ms resources shape block)
      (together_on (settled_object all) (decided_object ms resources n block env) shape
      (each_key (λ k. settled_object all k ≡ decided_object ms resources n block env k) (instance_keys shape)
      (λ key among. object_found (instance_keys shape) (records_at block.addr resources) found key among)))
    where
      by_test : (f g : InstanceKeyView → Option Tree) (b : Bool) → together (Some shape) f ≡ together (Some shape) g → together (if b then Some shape else None) f ≡ together (if b then Some shape else None) g
      by_test f g true h = h
      by_test f g false h = refl

-- the members of a block stand in address order
pub block_sorted : (becomes : InstanceToPlanView → OutcomeView) (shape : InstanceKeysView) (block : BlockView) (resources : List ResourceView)
    → IsStrictlySortedBy instance_key_cmp (map settled_key (settled_from becomes 0 (block_members shape block resources)))
block_sorted becomes shape block resources =
    subst (IsStrictlySortedBy instance_key_cmp) (sym (keys_settled becomes 0 (block_members shape block resources))) (are_there (instance_keys shape) (records_at block.addr resources)).sorted

-- what becomes of members is kept by instance
abbrev pub by_instance : Keeping Settled SettledView InstanceKeyView
by_instance = record { seen = settled_of; key = settled_key; cmp = instance_key_cmp; total = key_total }

-- ---- what was worked out of a block

module _ (ms : List Meaning) (resources : List ResourceView) (n : ℕ) (block : BlockView) (env : Environment) (shape : InstanceKeysView) (found : Option SchemaView) (all : List SettledView) (same : found ≡ schema_in block.addr.type_name ms)
    (settled : all ≡ settled_from (member_outcome found block env) 0 (block_members shape block resources)) where
  pub standing_by : (is_wanted : Bool) (s : ResolvedView) → s ≡ (if is_wanted then settled_standing shape all else None) → s ≡ (if is_wanted then block_standing ms resources n shape block env else None)
  standing_by true s h =
      h ∙ (ap (settled_standing shape) settled ∙ (ap (λ (o : Option SchemaView). settled_standing shape (settled_from (member_outcome o block env) 0 (block_members shape block resources))) same ∙ settled_stands block env ms resources n shape))
  standing_by false s h = h

  pub decided_by : (version : ℕ) (d start : DecidedView) → version ≡ version_of found → start ≡ nothing_decided → d ≡ with_settled (record { resource = n; addr = block.addr; version = version }) all start → d ≡ decisions_on (block_instances ms resources n block env shape)
  decided_by version d start versioned starts h =
      let members = block_members shape block resources in
      h ∙ (ap (with_settled (record { resource = n; addr = block.addr; version = version }) all) starts
      ∙ (ap (λ (xs : List SettledView). with_settled (record { resource = n; addr = block.addr; version = version }) xs nothing_decided) settled
      ∙ (with_settled_from (member_outcome found block env) (record { resource = n; addr = block.addr; version = version }) 0 members nothing_decided
      ∙ (ap (λ (v : ℕ). with_members (record { resource = n; addr = block.addr; version = v }) (member_outcome found block env) 0 members nothing_decided) versioned
      ∙ ap (λ (o : Option SchemaView). with_members (record { resource = n; addr = block.addr; version = version_of o }) (member_outcome o block env) 0 members nothing_decided) same
      ∙ members_collected (of_at ms n block.addr) (member_outcome (schema_in block.addr.type_name ms) block env) members nothing_decided))))
