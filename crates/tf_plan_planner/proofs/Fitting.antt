-- The actions of a plan fit: each is of the resource at its number, makes or changes an object of a block's instance alone, and
-- is served; and no two are about the same.
use Rattle.std.proofs.Common.{◌≡◌, ◌∙◌, ◌<◌, ◌≤◌, ◌++◌, Bool, true, false, not, is_eq, cond, ℕ, zero, suc, List, [], ◌∷◌, Option, Some, None, option_map, length, map, refl, sym, ap, subst, arith, inl, inr}
use Rattle.std.proofs.lemmas.List.{map-append}
use Rattle.std.proofs.lemmas.List.Elements.{Contains-append_cases}
use Rattle.std.proofs.lemmas.Option.{slice_get-map}
use Rattle.std.specs.List.{AllByRecursion, flat_map}
use Rattle.std.specs.List.Sorted.{IsStrictlySortedBy}
use Rattle.std.specs.Option.{option_map_or}
use Rattle.std.specs.Prelude.{Contains, find, option_and_then, slice_get}
use Rattle.tf_plan_data.specs.Action.{ActionView}
use Rattle.tf_config_address.specs.ResourceAddr.{ResourceAddrView, addr_cmp}
use Rattle.tf_plan_order.specs.AddressOrder.{is_resource}
use Rattle.tf_config_data.specs.Names.{NameView, Meant, a_local, a_block, meant_at, directly_before}
use Rattle.tf_plan_decision.proofs.Standing.{named_within}
use Rattle.tf_plan_decision.specs.Deciding.{of_at}
use Rattle.tf_plan_decision.specs.Outcome.{member_outcome, orphan_outcome}
use Rattle.tf_plan_decision.specs.Stage.{block_members, records_at}
use Rattle.tf_expand_keys.specs.InstanceKeys.{InstanceKeysView, instance_keys}
use Rattle.tf_expand_keys.specs.Resolved.{ResolvedView, all_stand, environment}
use Rattle.tf_expand_keys.specs.Expanding.{instances_before}
use Rattle.tf_graph.specs.Digraph.{Digraph}
use Rattle.tf_graph.specs.Solutions.{seen_by}
use Rattle.tf_plan_order.specs.Members.{member, members}
use Rattle.tf_plan_planner.proofs.About.{resource-about, resource-distinct}
use Rattle.tf_plan_planner.proofs.Blocks.{placed-at}
use Rattle.tf_plan_planner.proofs.Counting.{instances-numbered}
use Rattle.tf_plan_planner.proofs.Distinct.{AreDistinct, all-contained, at-contained, distinct-at, distinct-flat, in_filter, in_map}
use Rattle.tf_plan_planner.proofs.Listing.{block_actions, listed-actions, meant_actions, orphan_actions, place_actions}
use Rattle.tf_plan_planner.proofs.Members.{IsOfResource, all-append, member-distinct, members-fit, members-numbered, orphan-distinct, orphans-fit}
use Rattle.tf_plan_planner.proofs.Objects.{deposed-distinct}
use Rattle.tf_plan_planner.proofs.Ranges.{places-distinct}
use Rattle.tf_plan_planner.specs.Plan.{IsPlannedFrom}
use Rattle.tf_plan_planner.specs.Planned.{AreInstances, IsPlanned, unrefused}
use Rattle.tf_plan_data.specs.Fits.{AboutView, about, AreApart, IsDeclared, IsPlaced}
use Rattle.tf_plan_data.specs.Served.{AreServed, IsServedBy}
use Rattle.tf_provider_protocol.specs.Meaning.{Meaning, schema_in}
use Rattle.tf_plan_order.proofs.Standing.{numbers-in_order, resources-apart}
use Rattle.tf_plan_order.specs.ResourceLaws as resources_laws
use Rattle.tf_plan_order.specs.ResourceIndex.{ResourceRefView, a_name, an_orphan, address_of, block_address, has_block, numbered, orphans, place_in}
use Rattle.tf_state_data.specs.Addresses.{AreByAddress}
use Rattle.tf_state_data.specs.Ids.{AreById}
use Rattle.tf_state_data.specs.Resource.{ResourceView, resource_of}
use Rattle.tf_state_data.specs.State.{state_of}
use Rattle.tf_state_data.specs.declared.resource.Resource.{Resource}
use Rattle.tf_state_data.specs.declared.state.State.{State}
use Rattle.tf_expr_syntax.specs.ExprTree as expr
use Rattle.tf_value_data.specs.Tree.{Entries}

-- the records of each resource stand by their ids
abbrev pub AreAllById : List ResourceView → Type 0
AreAllById resources = AllByRecursion (λ r. AreById r.records) resources

-- ---- lists made of lists

all-flat : {A B : Type 0} (P : B → Type 0) (g : A → List B) (xs : List A) → ((x : A) → AllByRecursion P (g x)) → AllByRecursion P (flat_map g xs)
all-flat P g [] each = tt
all-flat P g (x ∷ xs) each = all-append P (g x) (flat_map g xs) (each x) (all-flat P g xs each)

all-weaker : {A : Type 0} (P Q : A → Type 0) (xs : List A) → ((x : A) → P x → Q x) → AllByRecursion P xs → AllByRecursion Q xs
all-weaker P Q [] f h = tt
all-weaker P Q (x ∷ xs) f h = (f x h.0, all-weaker P Q xs f h.1)

map-flat : {A B C : Type 0} (f : B → C) (g : A → List B) (xs : List A) → map f (flat_map g xs) ≡ flat_map (λ x. map f (g x)) xs
map-flat f g [] = refl
map-flat f g (x ∷ xs) = map-append f (g x) (flat_map g xs) ∙ ap (λ ys. map f (g x) ++ ys) (map-flat f g xs)

-- ---- records

found-sorted : (test : ResourceView → Bool) (resources : List ResourceView) → AreAllById resources → AreById (option_map_or (λ r. r.records) (find test resources) [])
unfolding IsStrictlySortedBy
found-sorted test [] all = tt
found-sorted test (r ∷ resources) all = by_test (test r) (found-sorted test resources all.1)
  where
    by_test : (b : Bool) → AreById (option_map_or (λ x. x.records) (find test resources) []) → AreById (option_map_or (λ x. x.records) (cond b (Some r) (find test resources)) [])
    by_test true rest = all.0
    by_test false rest = rest

records-sorted : (addr : ResourceAddrView) (resources : List ResourceView) → AreAllById resources → AreById (records_at addr resources)
records-sorted addr resources all = found-sorted (λ r. is_eq (addr_cmp r.addr addr)) resources all

orphan-sorted : (names : List NameView) (resources : List ResourceView) (n : ℕ) (r : ResourceView) → AreAllById resources → slice_get (numbered names resources) n ≡ Some (an_orphan r) → AreById r.records
orphan-sorted names resources n r all e = elim (Contains-append_cases (map a_name names) (map an_orphan (orphans names resources)) (an_orphan r) (at-contained (numbered names resources) n (an_orphan r) e)) [
  | inl front ↦ let name = in_map a_name names (an_orphan r) front in absurd (cc (name.2))
  | inr back ↦
      let other = in_map an_orphan (orphans names resources) (an_orphan r) back in
      let kept = in_filter (λ x. not (has_block names x.addr)) resources other.0 other.1 in
      let same : other.0 ≡ r = orphan-same other.0 r other.2 in
      subst (λ (x : ResourceView). AreById x.records) same (all-contained (λ (x : ResourceView). AreById x.records) resources other.0 all kept.0)
]
  where
    orphan-same : (x y : ResourceView) → an_orphan x ≡ an_orphan y → x ≡ y
    orphan-same x y h = cc

-- ---- what stands at places

meant-get : (names : List NameView) (n : ℕ) → meant_at names n ≡ option_map (λ x. x.meant) (slice_get names n)
meant-get [] n = refl
meant-get (x ∷ names) zero = refl
meant-get (x ∷ names) (suc n) = meant-get names n

name-get : (o : Option NameView) (name : NameView) → option_map a_name o ≡ Some (a_name name) → option_map (λ (x : NameView). x.meant) o ≡ Some name.meant
name-get None name e = absurd (cc)
name-get (Some x) name e = let same : x ≡ name = cc in ap (λ (y : NameView). Some y.meant) same

-- what is numbered as a name is one, and means what it does
pub name-stands : (names : List NameView) (resources : List ResourceView) (n : ℕ) (name : NameView) → slice_get (numbered names resources) n ≡ Some (a_name name) → (n < length names) × (meant_at names n ≡ Some name.meant)
name-stands names resources n name e =
    let inside = named_within (numbered names resources) names resources n name refl e in
    (inside, meant-get names n ∙ name-get (slice_get names n) name (sym ((numbers-in_order names resources).first_names n inside) ∙ e))

-- an action is of the resource at its number, of a block's instance where it makes or changes an object, and served
abbrev FitsAll : List Meaning → List NameView → List ResourceRefView → ActionView → Type 0
FitsAll ms names all a = IsPlaced all a × IsDeclared names a × IsServedBy ms a

module _ (ms : List Meaning) (resources : List ResourceView) (variables : Entries) (names : List NameView) (shapes : ℕ → InstanceKeysView) (resolved_names : ℕ → ResolvedView) (sorted : AreAllById resources) where
  abbrev actions-at : ℕ → List ActionView
  actions-at n = place_actions ms resources variables names shapes resolved_names n (slice_get (numbered names resources) n)

  -- ---- no two are about the same

  meant-distinct : (n : ℕ) (m : Meant) → AreDistinct (map about (meant_actions ms resources variables names shapes resolved_names n m))
  meant-distinct n (a_local e) = tt
  meant-distinct n (a_block block) = by_test (all_stand (seen_by resolved_names (directly_before names n)))
    where
      by_test : (b : Bool) → AreDistinct (map about (cond b (block_actions ms resources n block (environment variables names resolved_names) (shapes n)) []))
      by_test true =
          let schema = schema_in block.addr.type_name ms in
          let env = environment variables names resolved_names in
          let keys = instance_keys (shapes n) in
          let records = records_at block.addr resources in
          resource-distinct (of_at ms n block.addr) (member_outcome schema block env) keys records
          (λ key. member-distinct schema block env (member keys records key) (deposed-distinct key records (records-sorted block.addr resources sorted)))
      by_test false = tt

  place-distinct : (n : ℕ) (o : Option ResourceRefView) → slice_get (numbered names resources) n ≡ o → AreDistinct (map about (place_actions ms resources variables names shapes resolved_names n o))
  place-distinct n None e = tt
  place-distinct n (Some (a_name name)) e = meant-distinct n name.meant
  place-distinct n (Some (an_orphan r)) e =
      let schema = schema_in r.addr.type_name ms in
      resource-distinct (of_at ms n r.addr) (orphan_outcome schema) [] r.records
      (λ key. orphan-distinct schema (member [] r.records key) (deposed-distinct key r.records (orphan-sorted names resources n r sorted e)))

  meant-about : (n : ℕ) (m : Meant) (b : AboutView) → Contains (map about (meant_actions ms resources variables names shapes resolved_names n m)) b → block_address m ≡ Some b.addr
  meant-about n (a_local e) b c = absurd (omega (arith, c.1))
  meant-about n (a_block block) b c = by_test (all_stand (seen_by resolved_names (directly_before names n))) c
    where
      by_test : (t : Bool) → Contains (map about (cond t (block_actions ms resources n block (environment variables names resolved_names) (shapes n)) [])) b → Some block.addr ≡ Some b.addr
      by_test true d =
          ap Some
          (sym (resource-about (of_at ms n block.addr) (member_outcome (schema_in block.addr.type_name ms) block (environment variables names resolved_names)) 0 (block_members (shapes n) block resources) b d))
      by_test false d = absurd (omega (arith, d.1))

  place-about : (n : ℕ) (o : Option ResourceRefView) (b : AboutView) → Contains (map about (place_actions ms resources variables names shapes resolved_names n o)) b → option_and_then address_of o ≡ Some b.addr
  place-about n None b c = absurd (omega (arith, c.1))
  place-about n (Some (a_name name)) b c = meant-about n name.meant b c
  place-about n (Some (an_orphan r)) b c = ap Some (sym (resource-about (of_at ms n r.addr) (orphan_outcome (schema_in r.addr.type_name ms)) 0 (members [] r.records) b c))

  at-address : (o : Option ResourceRefView) (addr : ResourceAddrView) → option_and_then address_of o ≡ Some addr → (x : ResourceRefView) × (o ≡ Some x) × (address_of x ≡ Some addr)
  at-address None addr e = absurd (cc)
  at-address (Some x) addr e = (x, refl, e)

  module _ (apart : resources_laws.AreApart (numbered names resources)) where
    same-place : (i j : ℕ) (b : AboutView) → Contains (map about (actions-at i)) b → Contains (map about (actions-at j)) b → i ≡ j
    same-place i j b ci cj =
        let x = at-address (slice_get (numbered names resources) i) b.addr (place-about i (slice_get (numbered names resources) i) b ci) in
        let y = at-address (slice_get (numbered names resources) j) b.addr (place-about j (slice_get (numbered names resources) j) b cj) in
        apart i j x.0 y.0 b.addr x.1 y.1 x.2 y.2

    all-distinct : (order : List ℕ) → AreDistinct order → AreDistinct (map about (flat_map actions-at order))
    all-distinct order once =
        subst AreDistinct (sym (map-flat about actions-at order))
        (distinct-flat (λ n. map about (actions-at n)) order once (λ n c. place-distinct n (slice_get (numbered names resources) n) refl) (λ i j b ci cj bi bj. same-place i j b bi bj))

    -- ---- each fits

    fits-all : (n : ℕ) (x : ResourceRefView) (addr : ResourceAddrView) (xs : List ActionView) → slice_get (numbered names resources) n ≡ Some x → address_of x ≡ Some addr
        → AllByRecursion (IsOfResource ms names n addr) xs → AllByRecursion (FitsAll ms names (numbered names resources)) xs
    fits-all n x addr xs e address all =
        let at = placed-at (numbered names resources) n x addr apart e address in
        all-weaker (IsOfResource ms names n addr) (FitsAll ms names (numbered names resources)) xs
        (λ a is. (ap (place_in (numbered names resources)) is.own ∙ at ∙ ap Some (sym is.resource), is.declared, is.served)) all

    module _ (few : instances_before names shapes (length names) ≤ 2000) where
      meant-fits : (n : ℕ) (name : NameView) (m : Meant) → slice_get (numbered names resources) n ≡ Some (a_name name) → name.meant ≡ m
          → AllByRecursion (FitsAll ms names (numbered names resources)) (meant_actions ms resources variables names shapes resolved_names n m)
      meant-fits n name (a_local expression) e is = tt
      meant-fits n name (a_block block) e is = by_test (all_stand (seen_by resolved_names (directly_before names n)))
        where
          by_test : (b : Bool) → AllByRecursion (FitsAll ms names (numbered names resources)) (cond b (block_actions ms resources n block (environment variables names resolved_names) (shapes n)) [])
          by_test true =
              let stands = name-stands names resources n name e in
              let meant : meant_at names n ≡ Some (a_block block) = stands.1 ∙ ap Some is in
              let keys = instance_keys (shapes n) in
              let records = records_at block.addr resources in
              let env = environment variables names resolved_names in
              fits-all n (a_name name) block.addr (block_actions ms resources n block env (shapes n)) e (ap block_address is)
              (members-fit ms names n block meant env 0 (members keys records) (members-numbered keys records (instances-numbered names shapes n block stands.0 meant few)))
          by_test false = tt

      place-fits : (n : ℕ) (o : Option ResourceRefView) → slice_get (numbered names resources) n ≡ o
          → AllByRecursion (FitsAll ms names (numbered names resources)) (place_actions ms resources variables names shapes resolved_names n o)
      place-fits n None e = tt
      place-fits n (Some (a_name name)) e = meant-fits n name name.meant e refl
      place-fits n (Some (an_orphan r)) e = fits-all n (an_orphan r) r.addr (orphan_actions ms n r) e refl (orphans-fit ms names n r.addr 0 (members [] r.records))

      all-fit : (order : List ℕ) → AllByRecursion (FitsAll ms names (numbered names resources)) (flat_map actions-at order)
      all-fit order = all-flat (FitsAll ms names (numbered names resources)) actions-at order (λ n. place-fits n (slice_get (numbered names resources) n) refl)

-- ---- the actions of a plan

-- The actions of a plan are of their resources and apart.
pub record AreFit (ms : List Meaning) (names : List NameView) (resources : List ResourceView) (actions : List ActionView) : Type 0 where
  pub placed : AllByRecursion (IsPlaced (numbered names resources)) actions
  pub declared : AllByRecursion (IsDeclared names) actions
  pub served : AreServed ms actions
  pub apart : AreApart actions

apart-by : (actions : List ActionView) → AreDistinct (map about actions) → AreApart actions
apart-by actions distinct i j a b ei ej same =
    distinct-at (map about actions) i j (about a) distinct (slice_get-map about actions i ∙ ap (option_map about) ei) (slice_get-map about actions j ∙ ap (option_map about) ej ∙ ap Some (sym same))

pub plan-fits : (ms : List Meaning) (resources : List ResourceView) (variables : Entries) (names : List NameView) (outputs : expr.Entries) (shapes : ℕ → InstanceKeysView) (actions : List ActionView)
    → AreInstances variables names shapes → IsPlanned ms resources variables names outputs shapes (unrefused actions) → resources_laws.AreApart (map a_name names)
    → AreByAddress resources → AreAllById resources → AreFit ms names resources actions
plan-fits ms resources variables names outputs shapes actions instances planned blocks by_address by_id =
    let all = numbered names resources in
    let few = instances.expanded.few in
    let apart = resources-apart names resources blocks by_address in
    let once : AreDistinct planned.places = places-distinct (is_resource all) (length all) planned.places planned.in_order.each in
    let same = sym (planned.actions ∙ listed-actions ms resources variables names shapes planned.resolved_names planned.places) in
    let fit : AllByRecursion (FitsAll ms names all) actions =
    subst (AllByRecursion (FitsAll ms names all)) same (all-fit ms resources variables names shapes planned.resolved_names by_id apart few planned.places) in
    record {
      placed = all-weaker (FitsAll ms names all) (IsPlaced all) actions (λ a h. h.0) fit;
      declared = all-weaker (FitsAll ms names all) (IsDeclared names) actions (λ a h. h.1) fit;
      served = all-weaker (FitsAll ms names all) (IsServedBy ms) actions (λ a h. h.2) fit;
      apart = apart-by actions (subst (λ xs. AreDistinct (map about xs)) same (all-distinct ms resources variables names shapes planned.resolved_names by_id apart planned.places once));
    }

-- the records of each resource of a state stand by their ids
pub all-by_id : (resources : List Resource) → AreAllById (map resource_of resources)
all-by_id [] = tt
all-by_id (r ∷ resources) = (r.ordered, all-by_id resources)

-- what is planned from a state fits
pub made-fits : (ms : List Meaning) (names : List NameView) (outputs : expr.Entries) (valued : Entries) (prior : State) (needs : ℕ → ℕ → Bool) (shapes : ℕ → InstanceKeysView) (actions : List ActionView) (late : ℕ → Bool) (order : Digraph)
    → resources_laws.AreApart (map a_name names) → IsPlannedFrom ms (state_of prior).resources valued names outputs needs shapes actions late order
    → AreFit ms names (state_of prior).resources actions
made-fits ms names outputs valued prior needs shapes actions late order blocks made =
    plan-fits ms (state_of prior).resources valued names outputs shapes actions made.instances made.planned blocks prior.ordered (all-by_id prior.resources.items)
