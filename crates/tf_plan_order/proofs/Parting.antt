-- The records of one instance stand side by side, behind those of the instances before it.
use Rattle.std.proofs.Common.{◌≡◌, ◌<◌, ◌≤◌, ℕ, zero, suc, Bool, true, false, ltb, leb, List, [], ◌∷◌, length, get_or, map, take, drop, Ordering, Less, Equal, Greater, is_eq, ◌-◌, subst, length-drop, refl, sym, ap, ◌∙◌, arith}
use Rattle.std.specs.List.{AllByRecursion, AllWithin}
use Rattle.std.specs.List.Sorted.{IsStrictlySortedBy, IsNonDecreasingBy, IsPartitionPoint}
use Rattle.std.specs.Ordering.{ordering_index, ordering_then, is_lt, is_le}
use Rattle.std.proofs.lemmas.List.{take_all}
use Rattle.tf_config_address.specs.ObjectId.{InstanceKeyView, ObjectIdView, instance_key_cmp, deposed_cmp, instance_key_of, object_id_cmp, object_id_of}
use Rattle.tf_config_address.specs.contracts.object_id.InstanceKeyOrd.TheImpl as keys
use Rattle.tf_config_address.specs.declared.object_id.InstanceKey.{InstanceKey}
use Rattle.tf_plan_order.proofs.InstanceOrder.{key_total, keys_ordered, same_ordered}
use Rattle.tf_plan_order.specs.Members.{is_of, records_of}
use Rattle.tf_state_data.proofs.Sorted.{index_rises}
use Rattle.tf_state_data.specs.Ids.{AreById, ids_of}
use Rattle.tf_state_data.specs.Record.{RecordView, record_of}
use Rattle.tf_state_data.specs.declared.record.Record.{Record}

module _ (k : InstanceKeyView) where
  -- how a record's instance stands to an instance: 0 before it, 1 where it is it, 2 behind it
  abbrev pub rank : Record → ℕ
  rank r = ordering_index (instance_key_cmp (object_id_of r.id).key k)

  rank_at : (o : Ordering) (i j : ObjectIdView) → instance_key_cmp i.key j.key ≡ o → ordering_then o (deposed_cmp i.deposed j.deposed) ≡ Less
      → ordering_index (instance_key_cmp i.key k) ≤ ordering_index (instance_key_cmp j.key k)
  rank_at Less i j is less = index_rises instance_key_cmp key_total k i.key j.key is
  rank_at Equal i j is less = let e = ap ordering_index (key_total.congr i.key j.key k is) in omega arith
  rank_at Greater i j is less = absurd (cc)

  rank_rises : (i j : ObjectIdView) → object_id_cmp i j ≡ Less → ordering_index (instance_key_cmp i.key k) ≤ ordering_index (instance_key_cmp j.key k)
  rank_rises i j less = rank_at (instance_key_cmp i.key j.key) i j refl less

  picked : (P : ObjectIdView → Type 0) (rs : List Record) (i : ℕ) (d : Record) → i < length rs → AllByRecursion P (ids_of (map record_of rs)) → P (object_id_of (get_or rs i d).id)
  picked P [] i d within h = absurd (omega (arith, within))
  picked P (r ∷ rs) zero d within h = h.0
  picked P (r ∷ rs) (suc i) d within h = picked P rs i d (omega (arith, within)) h.1

  -- the instances of records by id rise
  pub ranks_rise : (rs : List Record) → AreById (map record_of rs) → IsNonDecreasingBy rank rs
  unfolding IsStrictlySortedBy
  ranks_rise [] sorted i j d le within = absurd (omega (arith, within))
  ranks_rise (r ∷ rs) sorted zero zero d le within = omega arith
  ranks_rise (r ∷ rs) sorted zero (suc j) d le within =
      rank_rises (object_id_of r.id) (object_id_of (get_or rs j d).id) (picked (λ i. object_id_cmp (object_id_of r.id) i ≡ Less) rs j d (omega (arith, within)) sorted.0)
  ranks_rise (r ∷ rs) sorted (suc i) zero d le within = absurd (omega (arith, le))
  ranks_rise (r ∷ rs) sorted (suc i) (suc j) d le within = ranks_rise rs sorted.1 i j d (omega (arith, le)) (omega (arith, within))

  same_at : (o : Ordering) (b : Bool) → is_eq o ≡ b → ltb (ordering_index o) 1 ≡ false → leb (ordering_index o) 1 ≡ b
  same_at Less b e f = absurd (cc)
  same_at Equal b e f = e
  same_at Greater b e f = e

  not_same : (o : Ordering) → ltb (ordering_index o) 1 ≡ true → is_eq o ≡ false
  not_same Less e = refl
  not_same Equal e = absurd (cc)
  not_same Greater e = absurd (cc)

  left_out : (r : Record) (rs : List RecordView) → is_of k (record_of r) ≡ false → records_of k (record_of r ∷ rs) ≡ records_of k rs
  left_out r rs e = rw e refl

  kept : (r : Record) (rs : List RecordView) → is_of k (record_of r) ≡ true → records_of k (record_of r ∷ rs) ≡ record_of r ∷ records_of k rs
  kept r rs e = rw e refl

  -- what stands before the instance isn't of it
  before_not : (r : Record) → ltb (rank r) 1 ≡ true → is_of k (record_of r) ≡ false
  before_not r e = sym (same_ordered (object_id_of r.id).key k) ∙ not_same (instance_key_cmp (object_id_of r.id).key k) e

  -- what doesn't is of it exactly where it doesn't stand behind it
  not_before : (r : Record) → ltb (rank r) 1 ≡ false → leb (rank r) 1 ≡ is_of k (record_of r)
  not_before r e = same_at (instance_key_cmp (object_id_of r.id).key k) (is_of k (record_of r)) (same_ordered (object_id_of r.id).key k) e

  -- where none stands before the instance, its records are the first ones
  first_own : (rs : List Record) (j : ℕ) → j ≤ length rs → AllWithin (λ r. ltb (rank r) 1 ≡ false) rs 0 (length rs) → IsPartitionPoint (λ r. leb (rank r) 1 ≡ true) (λ r. leb (rank r) 1 ≡ false) rs j
      → map record_of (take j rs) ≡ records_of k (map record_of rs)
  first_own [] zero le all parts = refl
  first_own [] (suc j) le all parts = absurd (omega (arith, le))
  first_own (r ∷ rs) zero le all parts =
      let is = sym (not_before r (all 0 r (omega arith) (omega arith))) ∙ parts.1 0 r (omega arith) (omega arith) in
      first_own rs 0 (omega arith) (λ i d a b. all (suc i) d (omega arith) (omega (arith, b))) ((λ i d a b. absurd (omega (arith, b))), (λ i d a b. parts.1 (suc i) d (omega arith) (omega (arith, b))))
      ∙ sym (left_out r (map record_of rs) is)
  first_own (r ∷ rs) (suc j) le all parts =
      let is = sym (not_before r (all 0 r (omega arith) (omega arith))) ∙ parts.0 0 r (omega arith) (omega arith) in
      ap (λ xs. record_of r ∷ xs)
      (first_own rs j (omega (arith, le)) (λ i d a b. all (suc i) d (omega arith) (omega (arith, b)))
      ((λ i d a b. parts.0 (suc i) d (omega arith) (omega (arith, b))), (λ i d a b. parts.1 (suc i) d (omega (arith, a)) (omega (arith, b)))))
      ∙ sym (kept r (map record_of rs) is)

  -- the records of an instance stand between two places
  pub own_between : (rs : List Record) (i j : ℕ) → i ≤ length rs → j ≤ length (drop i rs) → IsPartitionPoint (λ r. ltb (rank r) 1 ≡ true) (λ r. ltb (rank r) 1 ≡ false) rs i
      → IsPartitionPoint (λ r. leb (rank r) 1 ≡ true) (λ r. leb (rank r) 1 ≡ false) (drop i rs) j → map record_of (take j (drop i rs)) ≡ records_of k (map record_of rs)
  own_between rs zero j le within first second = first_own rs j within first.1 second
  own_between [] (suc i) j le within first second = absurd (omega (arith, le))
  own_between (r ∷ rs) (suc i) j le within first second =
      own_between rs i j (omega (arith, le)) within ((λ n d a b. first.0 (suc n) d (omega arith) (omega (arith, b))), (λ n d a b. first.1 (suc n) d (omega (arith, a)) (omega (arith, b)))) second
      ∙ sym (left_out r (map record_of rs) (before_not r (first.0 0 r (omega arith) (omega arith))))

  -- the same where the rest is told by an equation
  pub own_part : (rs : List Record) (i j : ℕ) (ys : List Record) → ys ≡ drop i rs → i ≤ length rs → j ≤ length ys → IsPartitionPoint (λ r. ltb (rank r) 1 ≡ true) (λ r. ltb (rank r) 1 ≡ false) rs i
      → IsPartitionPoint (λ r. leb (rank r) 1 ≡ true) (λ r. leb (rank r) 1 ≡ false) ys j → map record_of (take j ys) ≡ records_of k (map record_of rs)
  own_part rs i j ys e within le first second =
      subst (λ zs. j ≤ length zs → IsPartitionPoint (λ r. leb (rank r) 1 ≡ true) (λ r. leb (rank r) 1 ≡ false) zs j → map record_of (take j zs) ≡ records_of k (map record_of rs))
      (sym e) (λ l s. own_between rs i j within l first s) le second

  rest_rises : (rs : List Record) (i : ℕ) → IsNonDecreasingBy rank rs → IsNonDecreasingBy rank (drop i rs)
  rest_rises rs zero h = h
  rest_rises [] (suc i) h = h
  rest_rises (r ∷ rs) (suc i) h = rest_rises rs i (λ a b d le within. h (suc a) (suc b) d (omega arith) (omega (arith, within)))

  pub part_rises : (rs : List Record) (i : ℕ) (ys : List Record) → ys ≡ drop i rs → AreById (map record_of rs) → IsNonDecreasingBy rank ys
  part_rises rs i ys e sorted = subst (IsNonDecreasingBy rank) (sym e) (rest_rises rs i (ranks_rise rs sorted))

lt_index : (o : Ordering) → is_lt o ≡ ltb (ordering_index o) 1
lt_index Less = refl
lt_index Equal = refl
lt_index Greater = refl

le_index : (o : Ordering) → is_le o ≡ leb (ordering_index o) 1
le_index Less = refl
le_index Equal = refl
le_index Greater = refl

-- what the code compares
pub below_is : (r : Record) (key : InstanceKey) → is_lt ((keys.cmp-value).it r.id.key key) ≡ ltb (rank (instance_key_of key) r) 1
below_is r key = ap is_lt (keys_ordered r.id.key key) ∙ lt_index (instance_key_cmp (object_id_of r.id).key (instance_key_of key))

pub not_above_is : (r : Record) (key : InstanceKey) → is_le ((keys.cmp-value).it r.id.key key) ≡ leb (rank (instance_key_of key) r) 1
not_above_is r key = ap is_le (keys_ordered r.id.key key) ∙ le_index (instance_key_cmp (object_id_of r.id).key (instance_key_of key))

pub take_rest : (rs : List Record) (i : ℕ) → take (length rs - i) (drop i rs) ≡ drop i rs
take_rest rs i = take_all (length rs - i) (drop i rs) (omega (arith, length-drop {A = Record}))
