-- Beside resources at rest of which nothing is refused there is a plan.
use Rattle.std.proofs.Common.{◌≡◌, ◌∙◌, ◌+◌, ◌++◌, ℕ, Bool, true, false, cond, if◌then◌else◌, List, [], ◌∷◌, Option, Some, None, is_some, Result, Ok, length, map, refl, sym, ap, ap₂, subst}
use Rattle.std.specs.List.{AllByRecursion, enumerate_from, flat_map}
use Rattle.std.specs.Prelude.{slice_get}
use Rattle.tf_config_address.specs.ObjectId.{InstanceKeyView}
use Rattle.tf_plan_object.proofs.Locals.{instances_local}
use Rattle.tf_plan_object.specs.Instance.{InstanceFaultView, instance_object}
use Rattle.tf_config_data.specs.Config.{BlockView, LifecycleView}
use Rattle.tf_config_data.specs.Names.{NameView, Meant, a_local, a_block, block_refers, directly_before, meant_at, places, refers_at}
use Rattle.tf_plan_decision.proofs.Appending.{flat_flat, numbered_outcome}
use Rattle.tf_plan_decision.specs.Deciding.{OfView, fault_in, instance_actions, instance_refusals, of_at}
use Rattle.tf_plan_decision.specs.Outcome.{OutcomeView, by_decision, declared_outcome, member_outcome, removal_outcome}
use Rattle.tf_plan_decision.specs.Stage.{deciding, records_at}
use Rattle.tf_plan_decision.specs.Steps.{decided_steps}
use Rattle.tf_plan_decision.specs.Whole.{block_instances, instances, instances_at, name_instances}
use Rattle.tf_plan_decision.specs.Decision as decision
use Rattle.tf_plan_decision.specs.Decision.{change, current, unless_prevented, unless_unfit}
use Rattle.tf_plan_decision.specs.Ignored.{with_ignored_changes, ignored_fault}
use Rattle.tf_plan_decision.specs.Prior.{PriorFaultView, first_unfit}
use Rattle.tf_expand_keys.proofs.Places.{all_places}
use Rattle.tf_expand_keys.proofs.Seen.{agree_on}
use Rattle.tf_expand_keys.specs.InstanceKeys.{InstanceKeysView, instance_keys}
use Rattle.tf_expand_keys.specs.Stages.{applying}
use Rattle.tf_expand_keys.specs.Resolved.{ResolvedView, AreResolvedNames, all_stand, environment, rule}
use Rattle.tf_expr_eval.proofs.Locality.{expressions_local}
use Rattle.tf_expr_eval.specs.Environment.{Environment}
use Rattle.tf_expr_eval.specs.ExprMeaning.{meaning}
use Rattle.tf_expr_eval.specs.Locality.{AgreeOn}
use Rattle.tf_graph.proofs.Solving.{all_by_weaker, solution-exists}
use Rattle.tf_graph.specs.Solutions.{Ranked, seen_by}
use Rattle.tf_plan_order.specs.AddressOrder.{AreInAddressOrder}
use Rattle.tf_plan_order.specs.Members.{InstanceToPlanView, member, members, is_among, records_of}
use Rattle.tf_expr_operators.specs.Answer.{Answer}
use Rattle.tf_plan_planner.proofs.Listing.{listed-actions, place_actions}
use Rattle.tf_plan_planner.specs.Outputs.{output_fault, output_refusals}
use Rattle.tf_plan_planner.specs.Planned.{IsPlanned, unrefused}
use Rattle.tf_plan_planner.specs.Told.{instance_told}
use Rattle.tf_provider_protocol.specs.Meaning.{Meaning, schema_in}
use Rattle.tf_provider_protocol.specs.Schema.{SchemaView}
use Rattle.tf_config_refusal.specs.Refusal.{RefusalView}
use Rattle.tf_plan_order.specs.ResourceIndex.{ResourceRefView, a_name, an_orphan, numbered}
use Rattle.tf_state_data.specs.Record.{RecordView}
use Rattle.tf_state_data.specs.Resource.{ResourceView}
use Rattle.tf_expr_syntax.specs.ExprNames.{named_by}
use Rattle.tf_expr_syntax.specs.ExprTree as expr
use Rattle.tf_value_data.specs.Tree.{Tree, Entries}
use Rattle.tf_laws.proofs.Decided.{IsFine}
use Rattle.tf_laws.proofs.Lists.{flat_none}
use Rattle.tf_laws.proofs.Members.{members_hold}
use Rattle.tf_laws.proofs.Places.{at_name, meant_within, no_orphan}
use Rattle.tf_laws.proofs.Still.{AreLookedAt, all_same, before_same, block_still, current_is, place_none}
use Rattle.tf_laws.specs.Rest.{AreAtRest, EachMeans, IsResting, IsUnrefused, NothingIsRefusedAtRest}

-- ---- one instance

nothing_prevented : (b : Bool) → unless_prevented b decision.nothing ≡ Ok decision.nothing
nothing_prevented true = refl
nothing_prevented false = refl

-- nothing is decided, and nothing refused
decides_nothing : (schema : SchemaView) (lifecycle : LifecycleView) (records : List RecordView) (p : Result Tree InstanceFaultView) (r : RecordView) (made : Tree) → first_unfit schema records ≡ None
    → ignored_fault schema lifecycle.ignore_changes ≡ None → p ≡ Ok made → current records ≡ Some r → change schema lifecycle.ignore_changes (Some r) made ≡ decision.nothing
    → decision.decision schema lifecycle records p ≡ Ok decision.nothing
decides_nothing schema lifecycle records p r made fits heeded makes found none =
    ap (λ (o : Option PriorFaultView). unless_unfit o (decision.decided schema lifecycle (current records) (with_ignored_changes (ignored_fault schema lifecycle.ignore_changes) p))) fits
    ∙ ap (λ (o : Option (List ℕ)). decision.decided schema lifecycle (current records) (with_ignored_changes o p)) heeded
    ∙ ap (λ (q : Result Tree InstanceFaultView). decision.decided schema lifecycle (current records) q) makes
    ∙ ap (λ (o : Option RecordView). unless_prevented lifecycle.prevent_destroy (change schema lifecycle.ignore_changes o made)) found
    ∙ ap (unless_prevented lifecycle.prevent_destroy) none ∙ nothing_prevented lifecycle.prevent_destroy

-- so a member is decided
member_fine : (ms : List Meaning) (block : BlockView) (ks : List InstanceKeyView) (all : List RecordView) (key : InstanceKeyView) (env seen : Environment) (object : Tree) → is_among ks key ≡ true
    → IsResting ms block key seen object (records_of key all) → IsUnrefused ms block key seen (records_of key all) → AgreeOn env seen (block_refers block)
    → IsFine (member_outcome (schema_in block.addr.type_name ms) block env (member ks all key))
member_fine ms block ks all key env seen object among rest free agree =
    let m = member ks all key in
    let records = records_of key all in
    let same = instances_local expressions_local free.schema block key env seen agree in
    let found : current (records_of key all) ≡ Some rest.only = ap current rest.alone ∙ current_is rest.only rest.current in
    let none = rest.rests free.schema free.made free.served free.makes in
    let nothing_done = decides_nothing free.schema block.lifecycle records (instance_object free.schema block key env) rest.only free.made free.fits free.heeded (same ∙ free.makes) found none in
    let outcome = λ (b : Bool). if b then declared_outcome free.schema block env m else removal_outcome free.schema (Some block.lifecycle) m in (
      decided_steps records decision.nothing,
      ap (λ (o : Option SchemaView). member_outcome o block env m) free.served ∙ ap outcome among ∙ ap (by_decision records) nothing_done,
    )

-- ---- what is refused

none_more : (of : OfView) (becomes : InstanceToPlanView → OutcomeView) (i : ℕ) (ms : List InstanceToPlanView) → AllByRecursion (λ m. becomes m ≡ Ok []) ms
    → flat_map instance_refusals (map (numbered_outcome of becomes) (enumerate_from i ms)) ≡ []
none_more of becomes i [] h = refl
none_more of becomes i (m ∷ ms) h =
    let rest = flat_map instance_refusals (map (numbered_outcome of becomes) (enumerate_from (i + 1) ms)) in
    ap (λ (o : OutcomeView). map (λ why. record { addr = of.addr; key = m.key; why = why }) (fault_in o) ++ rest) h.0 ∙ none_more of becomes (i + 1) ms h.1

fine_output : (name : List ℕ) (a : Answer) (t : Tree) → a ≡ Ok t → output_fault name a ≡ []
fine_output name a t e = ap (output_fault name) e

either_none : {A : Type 0} (b : Bool) (xs : List A) → xs ≡ [] → cond b xs [] ≡ []
either_none true xs e = e
either_none false xs e = refl

parts_of : {A : Type 0} (P Q : A → Type 0) (xs : List A) → ((x : A) → P x → Q x) → AllByRecursion P xs → AllByRecursion Q xs
parts_of P Q [] f h = tt
parts_of P Q (x ∷ xs) f h = (f x h.0, parts_of P Q xs f h.1)

module _ (ms : List Meaning) (variables : Entries) (names : List NameView) (shapes : ℕ → InstanceKeysView) (objects : ℕ → InstanceKeyView → Tree) (resources : List ResourceView)
    (ranked : Ranked (directly_before names)) (still : AreAtRest ms variables names shapes objects resources)
    (resolved_names others : ℕ → ResolvedView) (solves : AreResolvedNames (deciding ms resources shapes) variables names resolved_names) (stands : AreResolvedNames (applying shapes objects) variables names others)
    (free : (n : ℕ) (block : BlockView) (key : InstanceKeyView) → meant_at names n ≡ Some (a_block block) → is_among (instance_keys (shapes n)) key ≡ true
    → IsUnrefused ms block key (environment variables names others) (records_of key (records_at block.addr resources))) where
  looked_at : AreLookedAt ms variables names shapes resources resolved_names others
  looked_at n block meant before =
      let alike = all_by_weaker (λ a. (resolved_names a ≡ others a) × (is_some (resolved_names a) ≡ true)) (λ a. resolved_names a ≡ others a) (directly_before names n) (λ a h. h.0) before in
      let agree : AgreeOn (environment variables names resolved_names) (environment variables names others) (refers_at (meant_at names n)) = agree_on variables names resolved_names others (refers_at (meant_at names n)) alike in
      let own : AgreeOn (environment variables names resolved_names) (environment variables names others) (block_refers block) =
      subst (λ (m : Option Meant). AgreeOn (environment variables names resolved_names) (environment variables names others) (refers_at m)) meant agree in
      members_hold (λ m. IsFine (member_outcome (schema_in block.addr.type_name ms) block (environment variables names resolved_names) m)) (instance_keys (shapes n)) (records_at block.addr resources) (still.declared n block meant)
      (λ key among.
      member_fine ms block (instance_keys (shapes n)) (records_at block.addr resources) key (environment variables names resolved_names) (environment variables names others) (objects n key) among
      (still.rest others stands n block key meant among) (free n block key meant among) own)

  meant_free : (n : ℕ) (m : Meant) → meant_at names n ≡ Some m → flat_map instance_refusals (name_instances ms resources variables names shapes resolved_names n m) ≡ []
  meant_free n (a_local e) meant = refl
  meant_free n (a_block block) meant = by_test (all_stand (seen_by resolved_names (directly_before names n)))
    where
      by_test : (b : Bool) → flat_map instance_refusals (cond b (block_instances ms resources n block (environment variables names resolved_names) (shapes n)) []) ≡ []
      by_test false = refl
      by_test true =
          let before = before_same ms variables names shapes objects resources ranked still resolved_names others solves stands looked_at n (meant_within names n (a_block block) meant) in
          let each = block_still ms variables names shapes objects resources ranked still resolved_names others solves stands looked_at n block meant before in
          none_more (of_at ms n block.addr) (member_outcome (schema_in block.addr.type_name ms) block (environment variables names resolved_names)) 0 (members (instance_keys (shapes n)) (records_at block.addr resources))
          (parts_of _ (λ m. member_outcome (schema_in block.addr.type_name ms) block (environment variables names resolved_names) m ≡ Ok []) (members (instance_keys (shapes n)) (records_at block.addr resources)) (λ m h. h.0) each)

  numbered_free : (n : ℕ) (o : Option ResourceRefView) → slice_get (numbered names resources) n ≡ o → flat_map instance_refusals (instances_at ms resources variables names shapes resolved_names n o) ≡ []
  numbered_free n None e = refl
  numbered_free n (Some (a_name name)) e = meant_free n name.meant (at_name names resources n name e)
  numbered_free n (Some (an_orphan r)) e = absurd (no_orphan names resources still.blocks n r e)

  all_free : (order : List ℕ) → flat_map instance_refusals (instances ms resources variables names shapes resolved_names order) ≡ []
  all_free order =
      let at = λ (n : ℕ). instances_at ms resources variables names shapes resolved_names n (slice_get (numbered names resources) n) in
      flat_flat instance_refusals at order ∙ flat_none (λ n. flat_map instance_refusals (at n)) order (λ n. numbered_free n (slice_get (numbered names resources) n) refl)

  outputs_free : (es : expr.Entries) → EachMeans (environment variables names others) es → output_refusals variables names resolved_names es ≡ []
  outputs_free expr.no_entries h = refl
  outputs_free (expr.entry name e es) h =
      let agree : AgreeOn (environment variables names resolved_names) (environment variables names others) (named_by e) =
      agree_on variables names resolved_names others (named_by e)
      (all_places (λ a. resolved_names a ≡ others a) names (named_by e) (λ a k. (all_same ms variables names shapes objects resources ranked still resolved_names others solves stands looked_at a k).0)) in
      let means = expressions_local (environment variables names resolved_names) (environment variables names others) e agree ∙ h.0.1 in
      ap₂ (λ (xs ys : List RefusalView). xs ++ ys)
      (either_none (all_stand (seen_by resolved_names (places names (named_by e)))) (output_fault name (meaning (environment variables names resolved_names) e)) (fine_output name (meaning (environment variables names resolved_names) e) h.0.0 means))
      (outputs_free es h.1)

  no_actions : (order : List ℕ) → flat_map instance_actions (instances ms resources variables names shapes resolved_names order) ≡ []
  no_actions order =
      listed-actions ms resources variables names shapes resolved_names order
      ∙ flat_none (λ n. place_actions ms resources variables names shapes resolved_names n (slice_get (numbered names resources) n)) order
      (λ n. place_none ms variables names shapes objects resources ranked still resolved_names others solves stands looked_at n (slice_get (numbered names resources) n) refl)

  pub plans_nothing : (outputs : expr.Entries) (order : List ℕ) → AreInAddressOrder (numbered names resources) order → EachMeans (environment variables names others) outputs
      → IsPlanned ms resources variables names outputs shapes (unrefused [])
  plans_nothing outputs order in_order means = record {
    places = order;
    in_order = in_order;
    resolved_names = resolved_names;
    stand = solves;
    actions = sym (no_actions order);
    refusals = sym (ap (λ rs. map instance_told rs ++ output_refusals variables names resolved_names outputs) (all_free order) ∙ outputs_free outputs means);
  }

pub nothing_refused : NothingIsRefusedAtRest
nothing_refused ms variables names outputs shapes objects resources order ranked still free in_order =
    let others = solution-exists (length names) (directly_before names) (rule (applying shapes objects) variables names) ranked in
    let resolved_names = solution-exists (length names) (directly_before names) (rule (deciding ms resources shapes) variables names) ranked in
    plans_nothing ms variables names shapes objects resources ranked still resolved_names.0 others.0 resolved_names.1 others.1 (free.instances others.0 others.1) outputs order in_order (free.outputs_mean others.0 others.1)
