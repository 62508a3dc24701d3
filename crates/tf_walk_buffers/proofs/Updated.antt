-- What the records that stay are given anew, one by one, is what is given anew.
use Rattle.std.proofs.Common.{◌≡◌, ◌<◌, ◌∙◌, ℕ, Bool, true, false, List, [], ◌∷◌, ◌++◌, ◌==◌, ◌||◌, length, map, filter, Option, Some, None, if◌then◌else◌, nat_lt, refl, ap, eq-eqb, ltb-true}
use Rattle.std.proofs.lemmas.List.{map-append}
use Rattle.std.specs.List.{AllByRecursion, flat_map}
use Rattle.tf_config_address.specs.ResourceAddr.{ResourceAddrView}
use Rattle.tf_graph.specs.NodeSet.{has}
use Rattle.tf_plan_data.specs.Plan.{PlanView, plan_names}
use Rattle.tf_plan_order.specs.ResourceIndex.{numbered, place_in}
use Rattle.tf_state_data.specs.Record.{RecordView}
use Rattle.tf_state_data.specs.Resource.{ResourceView}
use Rattle.tf_walk_buffers.specs.MetadataUpdates.{metadata_update_of_record, metadata_updates, metadata_updates_at, metadata_updates_of, stays}
use Rattle.tf_walk_buffers.specs.Unchanged.{HasNumberBelow, metadata_update_of_unchanged, unchanged_record, unchanged_records, unchanged_records_at, unchanged_records_of}

each_updated : (plan : PlanView) (addr : ResourceAddrView) (n : ℕ) (rs : List RecordView) → map (metadata_update_of_unchanged plan) (map (unchanged_record addr n) rs) ≡ map (metadata_update_of_record plan addr n) rs
each_updated plan addr n [] = refl
each_updated plan addr n (r ∷ rs) = ap (λ us. metadata_update_of_record plan addr n r ∷ us) (each_updated plan addr n rs)

updated_where : (plan : PlanView) (addr : ResourceAddrView) (n : ℕ) (rs : List RecordView) (b : Bool)
    → map (metadata_update_of_unchanged plan) (if b then map (unchanged_record addr n) rs else []) ≡ (if b then map (metadata_update_of_record plan addr n) rs else [])
updated_where plan addr n rs true = each_updated plan addr n rs
updated_where plan addr n rs false = refl

updated_at : (plan : PlanView) (r : ResourceView) (number : Option ℕ) → map (metadata_update_of_unchanged plan) (unchanged_records_at plan r number) ≡ metadata_updates_at plan r number
updated_at plan r None = refl
updated_at plan r (Some n) = updated_where plan r.addr n (filter (stays plan n) r.records) (nat_lt n (length (plan_names plan)))

updated_of_all : (plan : PlanView) (rs : List ResourceView) → map (metadata_update_of_unchanged plan) (flat_map (unchanged_records_of plan) rs) ≡ flat_map (metadata_updates_of plan) rs
updated_of_all plan [] = refl
updated_of_all plan (r ∷ rs) =
    let number = place_in (numbered (plan_names plan) plan.prior.resources) r.addr in
    map-append (metadata_update_of_unchanged plan) (unchanged_records_of plan r) (flat_map (unchanged_records_of plan) rs)
    ∙ ap (λ us. us ++ map (metadata_update_of_unchanged plan) (flat_map (unchanged_records_of plan) rs)) (updated_at plan r number)
    ∙ ap (λ us. metadata_updates_of plan r ++ us) (updated_of_all plan rs)

-- what each record that stays is given anew, is what is given anew
pub unchanged_updated : (plan : PlanView) → map (metadata_update_of_unchanged plan) (unchanged_records plan) ≡ metadata_updates plan
unchanged_updated plan = updated_of_all plan plan.prior.resources

each_below : (k n : ℕ) (addr : ResourceAddrView) (rs : List RecordView) → n < k → AllByRecursion (HasNumberBelow k) (map (unchanged_record addr n) rs)
each_below k n addr [] below = tt
each_below k n addr (r ∷ rs) below = (below, each_below k n addr rs below)

below_where : (k n : ℕ) (addr : ResourceAddrView) (rs : List RecordView) (b : Bool) → (b ≡ true → n < k) → AllByRecursion (HasNumberBelow k) (if b then map (unchanged_record addr n) rs else [])
below_where k n addr rs true below = each_below k n addr rs (below refl)
below_where k n addr rs false below = tt

below_at : (plan : PlanView) (r : ResourceView) (number : Option ℕ) → AllByRecursion (HasNumberBelow (length (plan_names plan))) (unchanged_records_at plan r number)
below_at plan r None = tt
below_at plan r (Some n) = below_where (length (plan_names plan)) n r.addr (filter (stays plan n) r.records) (nat_lt n (length (plan_names plan))) (ltb-true n (length (plan_names plan)))

all_append : {A : Type 0} (P : A → Type 0) (xs ys : List A) → AllByRecursion P xs → AllByRecursion P ys → AllByRecursion P (xs ++ ys)
all_append P [] ys a b = b
all_append P (x ∷ xs) ys a b = (a.0, all_append P xs ys a.1 b)

below_of_all : (plan : PlanView) (rs : List ResourceView) → AllByRecursion (HasNumberBelow (length (plan_names plan))) (flat_map (unchanged_records_of plan) rs)
below_of_all plan [] = tt
below_of_all plan (r ∷ rs) =
    let number = place_in (numbered (plan_names plan) plan.prior.resources) r.addr in
    all_append (HasNumberBelow (length (plan_names plan))) (unchanged_records_of plan r) (flat_map (unchanged_records_of plan) rs) (below_at plan r number) (below_of_all plan rs)

-- each record that stays has the number of a name
pub unchanged_below : (plan : PlanView) → AllByRecursion (HasNumberBelow (length (plan_names plan))) (unchanged_records plan)
unchanged_below plan = below_of_all plan plan.prior.resources

-- a number that is asked for stays so, where another is added
pub kept_asked : (old new : List Bool) (n k : ℕ) → ((j : ℕ) → has new j ≡ (has old j || (n == j))) → has old k ≡ true → has new k ≡ true
kept_asked old new n k members asked = members k ∙ ap (λ b. b || (n == k)) asked

-- a number that is added is asked for
pub added_asked : (old new : List Bool) (n : ℕ) → ((j : ℕ) → has new j ≡ (has old j || (n == j))) → has new n ≡ true
added_asked old new n members = members n ∙ ap (λ b. has old n || b) (eq-eqb n n refl) ∙ or_true (has old n)
  where
    or_true : (a : Bool) → (a || true) ≡ true
    or_true true = refl
    or_true false = refl
