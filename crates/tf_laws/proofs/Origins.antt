-- Which actions a plan has: the steps of the members of its resources, and all of them.
use Rattle.std.proofs.Common.{◌≡◌, ◌∙◌, ◌+◌, ◌⊎◌, inl, inr, ℕ, Bool, true, false, cond, List, [], ◌∷◌, Option, Some, None, Ok, Err, refl, sym, ap, subst}
use Rattle.std.proofs.lemmas.List.Elements.{Contains-append_cases, Contains-append_left, Contains-append_right}
use Rattle.std.specs.Prelude.{Contains, slice_get}
use Rattle.tf_plan_data.specs.Action.{ActionView, StepView}
use Rattle.tf_config_address.specs.ObjectId.{InstanceKeyView}
use Rattle.tf_config_data.specs.Config.{BlockView}
use Rattle.tf_config_data.specs.Names.{NameView, Meant, a_local, a_block, meant_at, directly_before}
use Rattle.tf_plan_decision.specs.Deciding.{OfView, action, of_at}
use Rattle.tf_plan_decision.specs.Outcome.{OutcomeView, member_outcome, orphan_outcome}
use Rattle.tf_plan_decision.specs.Stage.{block_members, deciding}
use Rattle.tf_expand_keys.specs.InstanceKeys.{InstanceKeysView}
use Rattle.tf_expand_keys.specs.Resolved.{ResolvedView, AreResolvedNames, all_stand, environment}
use Rattle.tf_graph.proofs.Edges.{contains_cases, contains_head, contains_tail}
use Rattle.tf_graph.specs.Solutions.{Ranked, seen_by}
use Rattle.tf_plan_order.specs.Members.{InstanceToPlanView, members}
use Rattle.tf_plan_planner.proofs.Distinct.{in_flat_map, in_map, to_map}
use Rattle.tf_plan_planner.proofs.Listing.{block_actions, member_actions, meant_actions, outcome_actions, place_actions}
use Rattle.tf_plan_planner.specs.Planned.{IsPlanned, unrefused}
use Rattle.tf_provider_protocol.specs.Meaning.{Meaning, schema_in}
use Rattle.tf_plan_order.specs.ResourceIndex.{ResourceRefView, a_name, an_orphan, numbered}
use Rattle.tf_state_data.specs.Resource.{ResourceView}
use Rattle.tf_expr_syntax.specs.ExprTree as expr
use Rattle.tf_value_data.specs.Tree.{Entries}
use Rattle.tf_laws.proofs.Fine.{actions_are}
use Rattle.tf_laws.proofs.Lists.{nothing_in, to_flat_map}
use Rattle.tf_laws.proofs.Places.{at_name, block_looked_at, name_at, orphan_looked_at}

-- ---- the members of one resource

-- an action does a step to an instance of a resource
pub record IsStepOf (of : OfView) (key : InstanceKeyView) (s : StepView) (a : ActionView) : Type 0 where
  pub resource : a.resource ≡ of.resource
  pub addr : a.addr ≡ of.addr
  pub key_is : a.key ≡ key
  pub step : a.step ≡ s
  pub version : a.version ≡ of.version

-- an action is one of what becomes of a member
pub record IsOfMember (of : OfView) (becomes : InstanceToPlanView → OutcomeView) (all : List InstanceToPlanView) (a : ActionView) : Type 0 where
  pub member : InstanceToPlanView
  pub there : Contains all member
  pub steps : List StepView
  pub outcome : becomes member ≡ Ok steps
  pub step : Contains steps a.step
  pub is : IsStepOf of member.key a.step a

of_outcome : (of : OfView) (i : ℕ) (key : InstanceKeyView) (o : OutcomeView) (a : ActionView) → Contains (outcome_actions of i key o) a → (steps : List StepView) × (o ≡ Ok steps) × (s : StepView) × Contains steps s × (action of i key s ≡ a)
of_outcome of i key (Ok steps) a c = let s = in_map (action of i key) steps a c in (steps, refl, s.0, s.1, s.2)
of_outcome of i key (Err why) a c = absurd (nothing_in a c)

from_members : (of : OfView) (becomes : InstanceToPlanView → OutcomeView) (i : ℕ) (all : List InstanceToPlanView) (a : ActionView) → Contains (member_actions of becomes i all) a → IsOfMember of becomes all a
from_members of becomes i [] a c = absurd (nothing_in a c)
from_members of becomes i (m ∷ all) a c = elim (Contains-append_cases (outcome_actions of i m.key (becomes m)) (member_actions of becomes (i + 1) all) a c) [
  | inl front ↦
      let x = of_outcome of i m.key (becomes m) a front in
      record {
        member = m;
        there = contains_head m m all refl;
        steps = x.0;
        outcome = x.1;
        step = subst (Contains x.0) (ap (λ (b : ActionView). b.step) x.4) x.3;
        is = record {
          resource = sym (ap (λ (b : ActionView). b.resource) x.4);
          addr = sym (ap (λ (b : ActionView). b.addr) x.4);
          key_is = sym (ap (λ (b : ActionView). b.key) x.4);
          step = refl;
          version = sym (ap (λ (b : ActionView). b.version) x.4);
        };
      }
  | inr rest ↦
      let later = from_members of becomes (i + 1) all a rest in
      record { member = later.member; there = contains_tail later.member m all later.there; steps = later.steps; outcome = later.outcome; step = later.step; is = later.is }
]

to_members : (of : OfView) (becomes : InstanceToPlanView → OutcomeView) (i : ℕ) (all : List InstanceToPlanView) (m : InstanceToPlanView) (steps : List StepView) (s : StepView) → Contains all m → becomes m ≡ Ok steps → Contains steps s
    → (a : ActionView) × Contains (member_actions of becomes i all) a × IsStepOf of m.key s a
to_members of becomes i [] m steps s c e d = absurd (nothing_in m c)
to_members of becomes i (x ∷ all) m steps s c e d = elim (contains_cases m x all c) [
  | inl here ↦
      let made : ActionView = action of i x.key s in
      let own : becomes x ≡ Ok steps = ap becomes here ∙ e in
      let there : Contains (outcome_actions of i x.key (becomes x)) made = subst (λ (o : OutcomeView). Contains (outcome_actions of i x.key o) made) (sym own) (to_map (action of i x.key) steps s d) in (
        made,
        Contains-append_left (outcome_actions of i x.key (becomes x)) (member_actions of becomes (i + 1) all) made there,
        record { resource = refl; addr = refl; key_is = ap (λ (y : InstanceToPlanView). y.key) here; step = refl; version = refl },
      )
  | inr rest ↦
      let later = to_members of becomes (i + 1) all m steps s rest e d in
      (later.0, Contains-append_right (outcome_actions of i x.key (becomes x)) (member_actions of becomes (i + 1) all) later.0 later.1, later.2)
]

-- ---- all resources

-- an action is of a member of a block
pub record IsOfBlock (ms : List Meaning) (resources : List ResourceView) (variables : Entries) (names : List NameView) (shapes : ℕ → InstanceKeysView) (resolved_names : ℕ → ResolvedView) (a : ActionView) : Type 0 where
  pub n : ℕ
  pub block : BlockView
  pub meant : meant_at names n ≡ Some (a_block block)
  pub own : IsOfMember (of_at ms n block.addr) (member_outcome (schema_in block.addr.type_name ms) block (environment variables names resolved_names)) (block_members (shapes n) block resources) a

-- or of one of an orphan
pub record IsOfOrphan (ms : List Meaning) (resources : List ResourceView) (names : List NameView) (a : ActionView) : Type 0 where
  pub n : ℕ
  pub resource : ResourceView
  pub stands : slice_get (numbered names resources) n ≡ Some (an_orphan resource)
  pub own : IsOfMember (of_at ms n resource.addr) (orphan_outcome (schema_in resource.addr.type_name ms)) (members [] resource.records) a

module _ (ms : List Meaning) (variables : Entries) (names : List NameView) (outputs : expr.Entries) (shapes : ℕ → InstanceKeysView) (resources : List ResourceView) (actions : List ActionView)
    (planned : IsPlanned ms resources variables names outputs shapes (unrefused actions))
    (resolved_names : ℕ → ResolvedView) (solves : AreResolvedNames (deciding ms resources shapes) variables names resolved_names) (ranked : Ranked (directly_before names)) where
  from_meant : (n : ℕ) (m : Meant) (a : ActionView) → meant_at names n ≡ Some m → Contains (meant_actions ms resources variables names shapes resolved_names n m) a → IsOfBlock ms resources variables names shapes resolved_names a
  from_meant n (a_local e) a meant c = absurd (nothing_in a c)
  from_meant n (a_block block) a meant c = by_test (all_stand (seen_by resolved_names (directly_before names n))) c
    where
      by_test : (b : Bool) → Contains (cond b (block_actions ms resources n block (environment variables names resolved_names) (shapes n)) []) a → IsOfBlock ms resources variables names shapes resolved_names a
      by_test true d = record {
        n = n;
        block = block;
        meant = meant;
        own = from_members (of_at ms n block.addr) (member_outcome (schema_in block.addr.type_name ms) block (environment variables names resolved_names)) 0 (block_members (shapes n) block resources) a d;
      }
      by_test false d = absurd (nothing_in a d)

  from_place : (n : ℕ) (o : Option ResourceRefView) (a : ActionView) → slice_get (numbered names resources) n ≡ o → Contains (place_actions ms resources variables names shapes resolved_names n o) a
      → IsOfBlock ms resources variables names shapes resolved_names a ⊎ IsOfOrphan ms resources names a
  from_place n None a e c = absurd (nothing_in a c)
  from_place n (Some (a_name name)) a e c = inl (from_meant n name.meant a (at_name names resources n name e) c)
  from_place n (Some (an_orphan r)) a e c =
      inr (record { n = n; resource = r; stands = e; own = from_members (of_at ms n r.addr) (orphan_outcome (schema_in r.addr.type_name ms)) 0 (members [] r.records) a c })

  -- each action is of a member
  pub origin : (a : ActionView) → Contains actions a → IsOfBlock ms resources variables names shapes resolved_names a ⊎ IsOfOrphan ms resources names a
  origin a c =
      let at = λ (n : ℕ). place_actions ms resources variables names shapes resolved_names n (slice_get (numbered names resources) n) in
      let there = in_flat_map at planned.places a (subst (λ (xs : List ActionView). Contains xs a) (actions_are ms variables names outputs shapes resources actions planned resolved_names solves ranked) c) in
      from_place there.0 (slice_get (numbered names resources) there.0) a refl there.2

  placed : (n : ℕ) (o : Option ResourceRefView) (a : ActionView) → slice_get (numbered names resources) n ≡ o → Contains planned.places n → Contains (place_actions ms resources variables names shapes resolved_names n o) a → Contains actions a
  placed n o a e there c =
      let at = λ (k : ℕ). place_actions ms resources variables names shapes resolved_names k (slice_get (numbered names resources) k) in
      subst (λ (xs : List ActionView). Contains xs a) (sym (actions_are ms variables names outputs shapes resources actions planned resolved_names solves ranked))
      (to_flat_map at planned.places n a there (subst (λ (x : Option ResourceRefView). Contains (place_actions ms resources variables names shapes resolved_names n x) a) (sym e) c))

  -- each step of a member of a block that is looked at is an action
  pub block_step : (n : ℕ) (block : BlockView) (m : InstanceToPlanView) (steps : List StepView) (s : StepView) → meant_at names n ≡ Some (a_block block) → all_stand (seen_by resolved_names (directly_before names n)) ≡ true
      → Contains (block_members (shapes n) block resources) m → member_outcome (schema_in block.addr.type_name ms) block (environment variables names resolved_names) m ≡ Ok steps → Contains steps s
      → (a : ActionView) × Contains actions a × IsStepOf (of_at ms n block.addr) m.key s a
  block_step n block m steps s meant seen c e d =
      let name = name_at names resources n (a_block block) meant in
      let made = to_members (of_at ms n block.addr) (member_outcome (schema_in block.addr.type_name ms) block (environment variables names resolved_names)) 0 (block_members (shapes n) block resources) m steps s c e d in
      let by_meant : Contains (meant_actions ms resources variables names shapes resolved_names n (a_block block)) made.0 =
      subst (λ (b : Bool). Contains (cond b (block_actions ms resources n block (environment variables names resolved_names) (shapes n)) []) made.0) (sym seen) made.1 in
      let by_name : Contains (meant_actions ms resources variables names shapes resolved_names n name.0.meant) made.0 =
      subst (λ (x : Meant). Contains (meant_actions ms resources variables names shapes resolved_names n x) made.0) (sym name.2) by_meant in
      (made.0, placed n (Some (a_name name.0)) made.0 name.1 (block_looked_at names resources planned.places n block planned.in_order meant) by_name, made.2)

  -- and each of a member of an orphan
  pub orphan_step : (n : ℕ) (r : ResourceView) (m : InstanceToPlanView) (steps : List StepView) (s : StepView) → slice_get (numbered names resources) n ≡ Some (an_orphan r)
      → Contains (members [] r.records) m → orphan_outcome (schema_in r.addr.type_name ms) m ≡ Ok steps → Contains steps s
      → (a : ActionView) × Contains actions a × IsStepOf (of_at ms n r.addr) m.key s a
  orphan_step n r m steps s stands c e d =
      let made = to_members (of_at ms n r.addr) (orphan_outcome (schema_in r.addr.type_name ms)) 0 (members [] r.records) m steps s c e d in
      (made.0, placed n (Some (an_orphan r)) made.0 stands (orphan_looked_at names resources planned.places n r planned.in_order stands) made.1, made.2)
