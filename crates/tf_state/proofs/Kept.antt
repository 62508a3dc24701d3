-- Puts and removes keep valid states valid.
use Rattle.std.proofs.Common.{◌≡◌, ◌<◌, ◌^◌, arith, true, List, [], ◌∷◌, ◌++◌, Ordering, map, refl}
use Rattle.std.specs.Cmp.{IsTotalOrder}
use Rattle.std.specs.List.{AllByRecursion}
use Rattle.std.specs.List.Sorted.{IsStrictlySortedBy}
use Rattle.std.specs.Ordering.{is_lt, is_gt}
use Rattle.tf_config_address.specs.ResourceAddr.{addr_cmp}
use Rattle.tf_state_data.specs.Order.{before, after, with_one, without_one}
use Rattle.tf_config_address.specs.ObjectId.{object_id_cmp}
use Rattle.tf_state_data.specs.Record.{RecordView}
use Rattle.tf_state_data.specs.Resource.{ResourceView, with_record}
use Rattle.tf_state_data.proofs.OrderKept.{with-sorted, without-sorted}
use Rattle.tf_config_address.proofs.Totals.{object_id_total, addr_total}
use Rattle.tf_value_data.proofs.Tables.{no_table}
use Rattle.tf_state.specs.Laws.{EmptyIsValid, OutputsKeepState, SerialKeepsState, PutKeepsState, PutKeepsResource, RemoveKeepsState, RemoveKeepsResource}
use Rattle.tf_state.specs.Arrangement.{is_some_record}
use Rattle.tf_state.specs.Valid.{IsPresent, IsRecord, IsResource}
use Rattle.tf_state.proofs.Orders.{all-filter, nothing_ordered}

-- ---- a property of each

all-join : {A : Type 0} (P : A → Type 0) (xs ys : List A) → AllByRecursion P xs → AllByRecursion P ys → AllByRecursion P (xs ++ ys)
all-join P [] ys h g = g
all-join P (x ∷ xs) ys h g = (h.0, all-join P xs ys h.1 g)

with_one-all : {A K : Type 0} (key : A → K) (cmp : K → K → Ordering) (P : A → Type 0) (new : A) (xs : List A) → P new → AllByRecursion P xs → AllByRecursion P (with_one key cmp new xs)
with_one-all key cmp P new xs p h =
    all-join P (before key cmp (key new) xs) (new ∷ after key cmp (key new) xs) (all-filter P (λ x. is_lt (cmp (key x) (key new))) xs h) (p, all-filter P (λ x. is_gt (cmp (key x) (key new))) xs h)

without_one-all : {A K : Type 0} (key : A → K) (cmp : K → K → Ordering) (P : A → Type 0) (k : K) (xs : List A) → AllByRecursion P xs → AllByRecursion P (without_one key cmp k xs)
without_one-all key cmp P k xs h =
    all-join P (before key cmp k xs) (after key cmp k xs) (all-filter P (λ x. is_lt (cmp (key x) k)) xs h) (all-filter P (λ x. is_gt (cmp (key x) k)) xs h)

-- ---- records and resources

module _ {A K : Type 0} (key : A → K) (cmp : K → K → Ordering) (total : IsTotalOrder cmp) (P : A → Type 0) where
  -- elements with a property stand in the order of their keys
  abbrev AreWhole : List A → Type 0
  AreWhole xs = AllByRecursion P xs × IsStrictlySortedBy cmp (map key xs)

  -- so they do with one more, and with one less
  with_one-whole : (new : A) (xs : List A) → P new → AreWhole xs → AreWhole (with_one key cmp new xs)
  with_one-whole new xs p h = (with_one-all key cmp P new xs p h.0, with-sorted key cmp total new xs h.1)

  without_one-whole : (k : K) (xs : List A) → AreWhole xs → AreWhole (without_one key cmp k xs)
  without_one-whole k xs h = (without_one-all key cmp P k xs h.0, without-sorted key cmp total k xs h.1)

some_among : (rs : List RecordView) (r : RecordView) (qs : List RecordView) → is_some_record (rs ++ r ∷ qs) ≡ true
some_among [] r qs = refl
some_among (q ∷ rs) r qs = refl

-- ---- the laws

pub put_keeps_state : PutKeepsState
put_keeps_state new s p h = record { serial = h.serial; outputs = h.outputs; resources = with_one-whole (λ (r : ResourceView). r.addr) addr_cmp addr_total IsPresent new s.resources p h.resources }

pub put_keeps_resource : PutKeepsResource
put_keeps_resource new r p h =
    let whole : IsResource (with_record new r) = record { type_name = h.type_name; name = h.name; records = with_one-whole (λ (q : RecordView). q.id) object_id_cmp object_id_total IsRecord new r.records p h.records } in
    (whole, some_among (before (λ q. q.id) object_id_cmp new.id r.records) new (after (λ q. q.id) object_id_cmp new.id r.records))

pub remove_keeps_state : RemoveKeepsState
remove_keeps_state addr s h =
    record { serial = h.serial; outputs = h.outputs; resources = without_one-whole (λ (r : ResourceView). r.addr) addr_cmp addr_total IsPresent addr s.resources h.resources }

pub remove_keeps_resource : RemoveKeepsResource
remove_keeps_resource id r h =
    record { type_name = h.type_name; name = h.name; records = without_one-whole (λ (q : RecordView). q.id) object_id_cmp object_id_total IsRecord id r.records h.records }

pub empty_valid : EmptyIsValid
empty_valid lineage =
    let small : 0 < 2 ^ 32 = omega arith in
    record { serial = small; outputs = no_table; resources = (tt, nothing_ordered addr_cmp) }

pub serial_keeps_state : SerialKeepsState
serial_keeps_state serial s small h = record { serial = small; outputs = h.outputs; resources = h.resources }

pub outputs_keep_state : OutputsKeepState
outputs_keep_state outputs s table h = record { serial = h.serial; outputs = table; resources = h.resources }
