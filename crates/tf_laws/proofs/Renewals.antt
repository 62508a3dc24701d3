-- Which records a plan's apply gives anew, and what.
use Rattle.std.proofs.Common.{◌≡◌, ◌∙◌, ◌<◌, ◌||◌, ◌⊎◌, inl, inr, ℕ, Bool, true, false, not, cond, if◌then◌else◌, List, [], ◌∷◌, Option, Some, None, filter, find, length, map, refl, sym, ap, subst}
use Rattle.std.proofs.lemmas.Bool.{lt-ltb}
use Rattle.std.specs.List.{list_any}
use Rattle.std.specs.Prelude.{Contains, nat_lt}
use Rattle.tf_plan_data.specs.Action.{ActionView}
use Rattle.tf_walk_buffers.specs.Dependencies.{dependencies}
use Rattle.tf_config_address.specs.ResourceAddr.{ResourceAddrView}
use Rattle.tf_config_address.specs.ObjectId.{InstanceKeyView}
use Rattle.tf_config_address.specs.Same.{addr_Decides, same_instance_key, same_addr}
use Rattle.tf_config_data.specs.Config.{BlockView}
use Rattle.tf_config_data.specs.Names.{NameView, a_block, meant_at}
use Rattle.tf_graph.proofs.Edges.{contains_cases, contains_head, contains_tail}
use Rattle.tf_state_next.proofs.Finding.{found_passes}
use Rattle.tf_state_next.specs.Events.{ApplyView, MetadataUpdateView, apply_of_instance, as_apply, is_instance}
use Rattle.tf_plan_planner.proofs.Distinct.{in_map, in_flat_map, to_map}
use Rattle.tf_plan_data.specs.Plan.{PlanView, plan_names}
use Rattle.tf_walk_buffers.specs.MetadataUpdates.{is_about, is_none, metadata_update_of_record, metadata_updates, metadata_updates_at, metadata_updates_of, stays}
use Rattle.tf_plan_order.proofs.Standing.{places-true}
use Rattle.tf_plan_order.specs.ResourceLaws as resources_laws
use Rattle.tf_plan_order.specs.ResourceIndex.{a_name, block_address, numbered, place_in}
use Rattle.tf_state_next.specs.Ends.{unplanned}
use Rattle.tf_state_data.specs.Record.{RecordView}
use Rattle.tf_state_data.specs.Resource.{ResourceView}
use Rattle.tf_value_data.proofs.Conjunction.{and-both, and-first}
use Rattle.tf_laws.proofs.Declared.{found_contains}
use Rattle.tf_laws.proofs.Lists.{nothing_in, to_filter, to_flat_map}
use Rattle.tf_laws.proofs.Members.{same_key}
use Rattle.tf_laws.proofs.Places.{name_at}

-- ---- lists

not_found : {A : Type 0} (test : A → Bool) (xs : List A) (x : A) → Contains xs x → test x ≡ true → find test xs ≡ None → ⊥
not_found test [] x c h e = nothing_in x c
not_found test (y ∷ xs) x c h e = by_test (test y) refl (contains_cases x y xs c) (λ d f. not_found test xs x d h f) e
  where
    by_test : (b : Bool) → test y ≡ b → (y ≡ x) ⊎ Contains xs x → (Contains xs x → find test xs ≡ None → ⊥) → cond b (Some y) (find test xs) ≡ None → ⊥
    by_test true is d again f = absurd (cc)
    by_test false is (inl here) again f = let no : test y ≡ true = ap test here ∙ h in absurd (cc)
    by_test false is (inr rest) again f = again rest f

none_any : {A : Type 0} (test : A → Bool) (xs : List A) → ((x : A) → Contains xs x → test x ≡ true → ⊥) → list_any test xs ≡ false
none_any test [] h = refl
none_any test (y ∷ xs) h = by_test (test y) refl (none_any test xs (λ x c. h x (contains_tail x y xs c)))
  where
    by_test : (b : Bool) → test y ≡ b → list_any test xs ≡ false → (b || list_any test xs) ≡ false
    by_test true is again = absurd (h y (contains_head y y xs refl) is)
    by_test false is again = again

-- ---- the place of a block's resource

pub block_place : (names : List NameView) (resources : List ResourceView) → resources_laws.AreApart (numbered names resources) → (addr : ResourceAddrView) (m n : ℕ) (block : BlockView)
    → place_in (numbered names resources) addr ≡ Some m → meant_at names n ≡ Some (a_block block) → block.addr ≡ addr → m ≡ n
block_place names resources apart addr m n block place meant own =
    let x = places-true (numbered names resources) addr m place in
    let name = name_at names resources n (a_block block) meant in
    apart m n x.0 (a_name name.0) addr x.1 name.1 x.2 (ap block_address name.2 ∙ ap Some own)

-- ---- metadata updates

-- an apply as which a metadata update is: of the resource at an address what that one needs by the configuration, and whether it is late
pub record IsRenewal (plan : PlanView) (addr : ResourceAddrView) (a : ApplyView) : Type 0 where
  pub n : ℕ
  pub place : place_in (numbered (plan_names plan) plan.prior.resources) addr ≡ Some n
  pub needs : a.given.dependencies ≡ dependencies plan.needs (plan_names plan) n
  pub late : a.given.create_before_destroy ≡ plan.late n
  pub not_planned : a.applied ≡ unplanned

in_renewals : (plan : PlanView) (x : MetadataUpdateView) → Contains (metadata_updates plan) x → IsRenewal plan x.addr (as_apply x)
in_renewals plan x c =
    let r = in_flat_map (metadata_updates_of plan) plan.prior.resources x c in
    by_place r.0 (place_in (numbered (plan_names plan) plan.prior.resources) r.0.addr) refl r.2
  where
    by_place : (r : ResourceView) (o : Option ℕ) → place_in (numbered (plan_names plan) plan.prior.resources) r.addr ≡ o → Contains (metadata_updates_at plan r o) x → IsRenewal plan x.addr (as_apply x)
    by_place r None e d = absurd (nothing_in x d)
    by_place r (Some n) e d = by_test (nat_lt n (length (plan_names plan))) d
      where
        by_test : (b : Bool) → Contains (if b then map (metadata_update_of_record plan r.addr n) (filter (stays plan n) r.records) else []) x → IsRenewal plan x.addr (as_apply x)
        by_test false f = absurd (nothing_in x f)
        by_test true f =
            let y = in_map (metadata_update_of_record plan r.addr n) (filter (stays plan n) r.records) x f in
            subst (λ (z : MetadataUpdateView). IsRenewal plan z.addr (as_apply z)) y.2 (record { n = n; place = e; needs = refl; late = refl; not_planned = refl })

-- what is found of an instance among them is such a one
pub found_renewal : (plan : PlanView) (addr : ResourceAddrView) (key : InstanceKeyView) (a : ApplyView) → apply_of_instance addr key (map as_apply (metadata_updates plan)) ≡ Some a → IsRenewal plan addr a
found_renewal plan addr key a e =
    let c = found_contains (λ y. is_instance addr key y.addr y.given.key) (map as_apply (metadata_updates plan)) a e in
    let x = in_map as_apply (metadata_updates plan) a c in
    let passes : is_instance addr key a.addr a.given.key ≡ true = found_passes (λ y. is_instance addr key y.addr y.given.key) (map as_apply (metadata_updates plan)) a e in
    let addr_is : a.addr ≡ addr = (addr_Decides a.addr addr).0 (and-first (same_addr a.addr addr) (same_instance_key a.given.key key) passes) in
    subst (λ (l : ResourceAddrView). IsRenewal plan l a) addr_is (subst (λ (z : ApplyView). IsRenewal plan z.addr z) x.2 (in_renewals plan x.0 x.1))

-- a record that stays is found there
pub staying_found : (plan : PlanView) (r : ResourceView) (y : RecordView) (n : ℕ) → Contains plan.prior.resources r → Contains r.records y → place_in (numbered (plan_names plan) plan.prior.resources) r.addr ≡ Some n
    → n < length (plan_names plan) → stays plan n y ≡ true → apply_of_instance r.addr y.id.key (map as_apply (metadata_updates plan)) ≡ None → ⊥
staying_found plan r y n there own place below staying none =
    let x : MetadataUpdateView = metadata_update_of_record plan r.addr n y in
    let kept : Contains (map (metadata_update_of_record plan r.addr n) (filter (stays plan n) r.records)) x =
    to_map (metadata_update_of_record plan r.addr n) (filter (stays plan n) r.records) y (to_filter (stays plan n) r.records y own staying) in
    let listed : Contains (if nat_lt n (length (plan_names plan)) then map (metadata_update_of_record plan r.addr n) (filter (stays plan n) r.records) else []) x =
    subst (λ (b : Bool). Contains (if b then map (metadata_update_of_record plan r.addr n) (filter (stays plan n) r.records) else []) x) (sym (lt-ltb n (length (plan_names plan)) below)) kept in
    let of_it : Contains (metadata_updates_of plan r) x = subst (λ (o : Option ℕ). Contains (metadata_updates_at plan r o) x) (sym place) listed in
    let all : Contains (metadata_updates plan) x = to_flat_map (metadata_updates_of plan) plan.prior.resources r x there of_it in
    not_found (λ z. is_instance r.addr y.id.key z.addr z.given.key) (map as_apply (metadata_updates plan)) (as_apply x) (to_map as_apply (metadata_updates plan) x all)
    (and-both (same_addr r.addr r.addr) (same_instance_key y.id.key y.id.key) ((addr_Decides r.addr r.addr).1 refl) (same_key y.id.key)) none

-- a current object's record stays where no action is about it
pub current_stays : (plan : PlanView) (n : ℕ) (y : RecordView) → y.id.deposed ≡ None → ((a : ActionView) → Contains plan.actions a → is_about n y.id.key a ≡ true → ⊥) → stays plan n y ≡ true
current_stays plan n y current none =
    and-both _ _ (ap is_none current) (ap not (none_any (is_about n y.id.key) plan.actions none))
