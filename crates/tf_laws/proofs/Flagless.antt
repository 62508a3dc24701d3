-- Resources that are the same but for the flags of their records.
use Rattle.std.proofs.Common.{◌≡◌, ◌∙◌, ℕ, Bool, true, false, cond, List, [], ◌∷◌, ◌++◌, Option, Some, None, is_eq, map, option_map, refl, sym, ap, subst}
use Rattle.std.specs.List.{AllByRecursion, flat_map}
use Rattle.std.specs.Option.{option_map_or}
use Rattle.tf_config_address.proofs.Totals.{addr_total, object_id_total}
use Rattle.tf_config_address.specs.ResourceAddr.{ResourceAddrView, addr_cmp}
use Rattle.tf_config_address.specs.ObjectId.{InstanceKeyView, ObjectIdView, object_id_cmp}
use Rattle.tf_plan_decision.specs.Stage.{records_at}
use Rattle.tf_plan_order.specs.Members.{is_of, records_of}
use Rattle.tf_state_next.proofs.Changing.{found_addr}
use Rattle.tf_state_next.proofs.Finding.{found_holds, same_lists}
use Rattle.tf_state_next.proofs.One.{id_one, known_by, addr_one, some_known}
use Rattle.tf_state_next.specs.Laws.{IsInOrder}
use Rattle.tf_state_next.specs.StateAfter.{has_records}
use Rattle.tf_plan_order.specs.Dependencies.{dependencies, pairs_from, record_pairs, resource_pairs}
use Rattle.tf_plan_order.specs.ResourceIndex.{ResourceRefView, place_in}
use Rattle.tf_state_data.specs.Addresses.{AreByAddress, addresses_of}
use Rattle.tf_state_data.specs.Ids.{AreById, ids_of}
use Rattle.tf_state_data.specs.Record.{RecordView}
use Rattle.tf_state_data.specs.Resource.{ResourceView, record_at}
use Rattle.tf_state_data.specs.State.{StateView, record_in, resource_at}
use Rattle.std.specs.List.Sorted.{IsStrictlySortedBy}
use Rattle.tf_laws.specs.Twice.{record_without_flag, resource_without_flags}

-- ---- what is found

found_first : {A B : Type 0} (f : A → B) (b : Bool) (a : A) (o : Option A) (rest : Option B) → rest ≡ option_map f o → cond b (Some (f a)) rest ≡ option_map f (cond b (Some a) o)
found_first f true a o rest h = refl
found_first f false a o rest h = h

record_found : (id : ObjectIdView) (rs : List RecordView) → record_at id (map record_without_flag rs) ≡ option_map record_without_flag (record_at id rs)
record_found id [] = refl
record_found id (r ∷ rs) = found_first record_without_flag (is_eq (object_id_cmp r.id id)) r (record_at id rs) (record_at id (map record_without_flag rs)) (record_found id rs)

resource_found : (addr : ResourceAddrView) (rs : List ResourceView) → resource_at addr (map resource_without_flags rs) ≡ option_map resource_without_flags (resource_at addr rs)
resource_found addr [] = refl
resource_found addr (r ∷ rs) =
    found_first resource_without_flags (is_eq (addr_cmp r.addr addr)) r (resource_at addr rs) (resource_at addr (map resource_without_flags rs)) (resource_found addr rs)

-- the records at an address
pub records_flagless : (addr : ResourceAddrView) (rs : List ResourceView) → records_at addr (map resource_without_flags rs) ≡ map record_without_flag (records_at addr rs)
records_flagless addr rs = ap (λ (o : Option ResourceView). option_map_or {U = List RecordView} (λ r. r.records) o []) (resource_found addr rs) ∙ by_option (resource_at addr rs)
  where
    by_option : (o : Option ResourceView) → option_map_or {U = List RecordView} (λ r. r.records) (option_map resource_without_flags o) [] ≡ map record_without_flag (option_map_or (λ r. r.records) o [])
    by_option None = refl
    by_option (Some r) = refl

-- and those of an instance
pub instance_flagless : (key : InstanceKeyView) (rs : List RecordView) → records_of key (map record_without_flag rs) ≡ map record_without_flag (records_of key rs)
instance_flagless key [] = refl
instance_flagless key (r ∷ rs) = by_test (is_of key r) (instance_flagless key rs)
  where
    by_test : (b : Bool) → records_of key (map record_without_flag rs) ≡ map record_without_flag (records_of key rs)
        → cond b (record_without_flag r ∷ records_of key (map record_without_flag rs)) (records_of key (map record_without_flag rs)) ≡ map record_without_flag (cond b (r ∷ records_of key rs) (records_of key rs))
    by_test true h = ap (λ (xs : List RecordView). record_without_flag r ∷ xs) h
    by_test false h = h

-- ---- what holds of each

pub all_to : {A : Type 0} (f : A → A) (P : A → Type 0) (xs : List A) → ((x : A) → P x → P (f x)) → AllByRecursion P xs → AllByRecursion P (map f xs)
all_to f P [] step h = tt
all_to f P (x ∷ xs) step h = (step x h.0, all_to f P xs step h.1)

pub all_back : {A : Type 0} (f : A → A) (P : A → Type 0) (xs : List A) → ((x : A) → P (f x) → P x) → AllByRecursion P (map f xs) → AllByRecursion P xs
all_back f P [] step h = tt
all_back f P (x ∷ xs) step h = (step x h.0, all_back f P xs step h.1)

-- ---- orders stay

ids_stay : (rs : List RecordView) → ids_of (map record_without_flag rs) ≡ ids_of rs
ids_stay [] = refl
ids_stay (r ∷ rs) = ap (λ (ids : List ObjectIdView). r.id ∷ ids) (ids_stay rs)

addresses_stay : (rs : List ResourceView) → addresses_of (map resource_without_flags rs) ≡ addresses_of rs
addresses_stay [] = refl
addresses_stay (r ∷ rs) = ap (λ (addrs : List ResourceAddrView). r.addr ∷ addrs) (addresses_stay rs)

flagless_by_id : (rs : List RecordView) → AreById rs → AreById (map record_without_flag rs)
flagless_by_id rs h = subst (λ (ids : List ObjectIdView). IsStrictlySortedBy object_id_cmp ids) (sym (ids_stay rs)) h

flagless_by_address : (rs : List ResourceView) → AreByAddress rs → AreByAddress (map resource_without_flags rs)
flagless_by_address rs h = subst (λ (addrs : List ResourceAddrView). IsStrictlySortedBy addr_cmp addrs) (sym (addresses_stay rs)) h

-- ---- states that know the same but for flags have the same resources but for flags

-- states are in order, of each resource in them an object is known, and they name the same providers
pub record AreLike (s t : StateView) : Type 0 where
  pub ordered : IsInOrder s
  pub sorted : IsInOrder t
  pub present : AllByRecursion (λ r. has_records r ≡ true) s.resources
  pub there : AllByRecursion (λ r. has_records r ≡ true) t.resources
  pub providers : (addr : ResourceAddrView) (r q : ResourceView) → resource_at addr s.resources ≡ Some r → resource_at addr t.resources ≡ Some q → r.provider ≡ q.provider

one_resource : (r q : ResourceView) → r.addr ≡ q.addr → r.provider ≡ q.provider → r.records ≡ q.records → r ≡ q
one_resource r q e f g t = record { addr = e t; provider = f t; records = g t }

module _ (s t : StateView) (like : AreLike s t) (known : (addr : ResourceAddrView) (id : ObjectIdView) → option_map record_without_flag (record_in addr id s) ≡ option_map record_without_flag (record_in addr id t)) where
  each : (addr : ResourceAddrView) (o p : Option ResourceView) → resource_at addr s.resources ≡ o → resource_at addr t.resources ≡ p → option_map resource_without_flags o ≡ option_map resource_without_flags p
  each addr None None e f = refl
  each addr (Some r) None e f =
      let has = found_holds (λ (r : ResourceView). has_records r ≡ true) (λ (r : ResourceView). is_eq (addr_cmp r.addr addr)) s.resources r like.present e in
      let x = some_known addr s r has e in
      let no : Some (record_without_flag x.0) ≡ None =
      sym (ap (option_map record_without_flag) x.1) ∙ known addr x.0.id ∙ ap (option_map record_without_flag) (known_by addr x.0.id t.resources None f) in
      absurd (cc)
  each addr None (Some q) e f =
      let has = found_holds (λ (r : ResourceView). has_records r ≡ true) (λ (r : ResourceView). is_eq (addr_cmp r.addr addr)) t.resources q like.there f in
      let x = some_known addr t q has f in
      let no : Some (record_without_flag x.0) ≡ None =
      sym (ap (option_map record_without_flag) x.1) ∙ sym (known addr x.0.id) ∙ ap (option_map record_without_flag) (known_by addr x.0.id s.resources None e) in
      absurd (cc)
  each addr (Some r) (Some q) e f =
      let by_id = found_holds (λ (r : ResourceView). AreById r.records) (λ (r : ResourceView). is_eq (addr_cmp r.addr addr)) s.resources r like.ordered.records e in
      let by_id_too = found_holds (λ (r : ResourceView). AreById r.records) (λ (r : ResourceView). is_eq (addr_cmp r.addr addr)) t.resources q like.sorted.records f in
      let records = same_lists (λ (r : RecordView). r.id) object_id_cmp object_id_total id_one (map record_without_flag r.records) (map record_without_flag q.records) (flagless_by_id r.records by_id) (flagless_by_id q.records by_id_too)
      (λ id. record_found id r.records ∙ sym (ap (option_map record_without_flag) (known_by addr id s.resources (Some r) e)) ∙ known addr id ∙ ap (option_map record_without_flag) (known_by addr id t.resources (Some q) f) ∙ sym (record_found id q.records)) in
      ap Some (one_resource (resource_without_flags r) (resource_without_flags q) (found_addr addr s.resources r e ∙ sym (found_addr addr t.resources q f)) (like.providers addr r q e f) records)

  pub resources_like : map resource_without_flags s.resources ≡ map resource_without_flags t.resources
  resources_like =
      same_lists (λ (r : ResourceView). r.addr) addr_cmp addr_total addr_one (map resource_without_flags s.resources) (map resource_without_flags t.resources) (flagless_by_address s.resources like.ordered.resources) (flagless_by_address t.resources like.sorted.resources)
      (λ addr. resource_found addr s.resources ∙ each addr (resource_at addr s.resources) (resource_at addr t.resources) refl refl ∙ sym (resource_found addr t.resources))

-- ---- and the same stored dependencies

flat_pairs : (all : List ResourceRefView) (place : ℕ) (rs : List RecordView) → flat_map (record_pairs all place) (map record_without_flag rs) ≡ flat_map (record_pairs all place) rs
flat_pairs all place [] = refl
flat_pairs all place (r ∷ rs) = ap (λ (ps : List (ℕ × ℕ)). record_pairs all place r ++ ps) (flat_pairs all place rs)

pairs_by : (all : List ResourceRefView) (rs : List RecordView) (o : Option ℕ) → pairs_from all (map record_without_flag rs) o ≡ pairs_from all rs o
pairs_by all rs None = refl
pairs_by all rs (Some place) = flat_pairs all place rs

dependencies_flagless : (all : List ResourceRefView) (rs : List ResourceView) → dependencies all (map resource_without_flags rs) ≡ dependencies all rs
dependencies_flagless all [] = refl
dependencies_flagless all (r ∷ rs) =
    ap (λ (ps : List (ℕ × ℕ)). ps ++ dependencies all (map resource_without_flags rs)) (pairs_by all r.records (place_in all r.addr)) ∙ ap (λ (ps : List (ℕ × ℕ)). resource_pairs all r ++ ps) (dependencies_flagless all rs)

pub same_stored : (all : List ResourceRefView) (rs qs : List ResourceView) → map resource_without_flags rs ≡ map resource_without_flags qs → dependencies all rs ≡ dependencies all qs
same_stored all rs qs e = sym (dependencies_flagless all rs) ∙ ap (dependencies all) e ∙ dependencies_flagless all qs
