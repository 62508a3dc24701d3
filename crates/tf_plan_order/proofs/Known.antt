-- Keys in address order, each once: what a new one changes.
use Rattle.std.proofs.Common.{◌≡◌, Bool, true, false, ◌||◌, List, [], ◌∷◌, map, Ordering, Less, Equal, Greater, refl, sym, ap, ap₂, ◌∙◌}
use Rattle.std.specs.BTreeMap.{is_at}
use Rattle.std.specs.BTreeSet.{insert_key}
use Rattle.std.specs.List.{AllByRecursion, list_any}
use Rattle.std.specs.List.Sorted.{IsStrictlySortedBy}
use Rattle.std.specs.Ordering.{match_ordering, is_eq, ordering_reverse}
use Rattle.std.proofs.lemmas.Map.Lookups.{btree_set_from_contains}
use Rattle.tf_config_address.specs.ObjectId.{InstanceKeyView, instance_key_cmp, instance_key_of}
use Rattle.tf_config_address.specs.contracts.object_id.InstanceKeyOrd.TheImpl as keys
use Rattle.tf_config_address.specs.declared.object_id.InstanceKey.{InstanceKey}
use Rattle.tf_config_address.specs.Same.{same_instance_key}
use Rattle.tf_plan_order.proofs.InstanceOrder.{inserted, key_total, key_exact, keys_ordered, same_turned}
use Rattle.tf_plan_order.specs.Members.{is_among, is_of, is_recorded, with_keys, recorded_keys}
use Rattle.tf_state_data.specs.Record.{RecordView}

-- ---- which keys are there

turned : (a b : Bool) → (a || b) ≡ (b || a)
turned true true = refl
turned true false = refl
turned false true = refl
turned false false = refl

grouped : (a b c : Bool) → (a || (b || c)) ≡ ((a || b) || c)
grouped true b c = refl
grouped false b c = refl

twice : (a b : Bool) → (a || b) ≡ ((a || b) || a)
twice true b = refl
twice false true = refl
twice false false = refl

among_at : (o : Ordering) (k x q : InstanceKeyView) (xs more : List InstanceKeyView) → instance_key_cmp k x ≡ o → is_among more q ≡ (is_among xs q || same_instance_key k q)
    → is_among (match_ordering o (k ∷ x ∷ xs) (x ∷ xs) (x ∷ more)) q ≡ (is_among (x ∷ xs) q || same_instance_key k q)
among_at Less k x q xs more is e = turned (same_instance_key k q) (is_among (x ∷ xs) q)
among_at Equal k x q xs more is e =
    let one : k ≡ x = key_exact k x is in
    twice (same_instance_key x q) (is_among xs q) ∙ ap (λ j. is_among (x ∷ xs) q || same_instance_key j q) (sym one)
among_at Greater k x q xs more is e = ap (λ b. same_instance_key x q || b) e ∙ grouped (same_instance_key x q) (is_among xs q) (same_instance_key k q)

among-insert : (ks : List InstanceKeyView) (k q : InstanceKeyView) → is_among (insert_key instance_key_cmp ks k) q ≡ (is_among ks q || same_instance_key k q)
among-insert [] k q = turned (same_instance_key k q) false
among-insert (x ∷ xs) k q = among_at (instance_key_cmp k x) k x q xs (insert_key instance_key_cmp xs k) refl (among-insert xs k q)

pub among-with : (known ks : List InstanceKeyView) (q : InstanceKeyView) → is_among (with_keys known ks) q ≡ (is_among known q || is_among ks q)
among-with known [] q = sym (turned (is_among known q) false)
among-with known (k ∷ ks) q =
    among-with (insert_key instance_key_cmp known k) ks q
    ∙ ap (λ b. b || is_among ks q) (among-insert known k q) ∙ sym (grouped (is_among known q) (same_instance_key k q) (is_among ks q))

pub among-recorded : (records : List RecordView) (q : InstanceKeyView) → is_among (recorded_keys records) q ≡ is_recorded records q
among-recorded [] q = refl
among-recorded (r ∷ records) q = ap (λ b. is_of q r || b) (among-recorded records q)

-- ---- in which order

module _ (j : InstanceKeyView) where
  after_at : (o : Ordering) (k x : InstanceKeyView) (xs more : List InstanceKeyView) → instance_key_cmp j k ≡ Less → instance_key_cmp j x ≡ Less → AllByRecursion (λ y. instance_key_cmp j y ≡ Less) xs
      → AllByRecursion (λ y. instance_key_cmp j y ≡ Less) more → AllByRecursion (λ y. instance_key_cmp j y ≡ Less) (match_ordering o (k ∷ x ∷ xs) (x ∷ xs) (x ∷ more))
  after_at Less k x xs more below first rest later = (below, (first, rest))
  after_at Equal k x xs more below first rest later = (first, rest)
  after_at Greater k x xs more below first rest later = (first, later)

  after-insert : (ks : List InstanceKeyView) (k : InstanceKeyView) → instance_key_cmp j k ≡ Less → AllByRecursion (λ y. instance_key_cmp j y ≡ Less) ks
      → AllByRecursion (λ y. instance_key_cmp j y ≡ Less) (insert_key instance_key_cmp ks k)
  after-insert [] k below all = (below, tt)
  after-insert (x ∷ xs) k below all = after_at (instance_key_cmp k x) k x xs (insert_key instance_key_cmp xs k) below all.0 all.1 (after-insert xs k below all.1)

  all_after : (x : InstanceKeyView) (xs : List InstanceKeyView) → instance_key_cmp j x ≡ Less → AllByRecursion (λ y. instance_key_cmp x y ≡ Less) xs → AllByRecursion (λ y. instance_key_cmp j y ≡ Less) xs
  all_after x [] below all = tt
  all_after x (y ∷ ys) below all = (key_total.trans j x y below all.0, all_after x ys below all.1)

below_from : (j k : InstanceKeyView) → instance_key_cmp j k ≡ Greater → instance_key_cmp k j ≡ Less
below_from j k e = key_total.antisymm k j ∙ ap ordering_reverse e

sorted_at : (o : Ordering) (k x : InstanceKeyView) (xs more : List InstanceKeyView) → instance_key_cmp k x ≡ o → IsStrictlySortedBy instance_key_cmp (x ∷ xs)
    → IsStrictlySortedBy instance_key_cmp more → (instance_key_cmp x k ≡ Less → AllByRecursion (λ y. instance_key_cmp x y ≡ Less) more)
    → IsStrictlySortedBy instance_key_cmp (match_ordering o (k ∷ x ∷ xs) (x ∷ xs) (x ∷ more))
unfolding IsStrictlySortedBy
sorted_at Less k x xs more is sorted later after = ((is, all_after k x xs is sorted.0), sorted)
sorted_at Equal k x xs more is sorted later after = sorted
sorted_at Greater k x xs more is sorted later after = (after (below_from k x is), later)

sorted-insert : (ks : List InstanceKeyView) (k : InstanceKeyView) → IsStrictlySortedBy instance_key_cmp ks → IsStrictlySortedBy instance_key_cmp (insert_key instance_key_cmp ks k)
unfolding IsStrictlySortedBy
sorted-insert [] k sorted = (tt, tt)
sorted-insert (x ∷ xs) k sorted =
    sorted_at (instance_key_cmp k x) k x xs (insert_key instance_key_cmp xs k) refl sorted (sorted-insert xs k sorted.1) (λ below. after-insert x xs k below sorted.0)

pub nothing-sorted : IsStrictlySortedBy instance_key_cmp []
unfolding IsStrictlySortedBy
nothing-sorted = tt

pub sorted-with : (known ks : List InstanceKeyView) → IsStrictlySortedBy instance_key_cmp known → IsStrictlySortedBy instance_key_cmp (with_keys known ks)
sorted-with known [] sorted = sorted
sorted-with known (k ∷ ks) sorted = sorted-with (insert_key instance_key_cmp known k) ks (sorted-insert known k sorted)

-- ---- keys in order are told by which are there

at_query : (ks : List InstanceKeyView) (q : InstanceKeyView) → list_any (λ k. is_eq (instance_key_cmp q k)) ks ≡ is_among ks q
at_query [] q = refl
at_query (k ∷ ks) q = ap₂ (λ a b. a || b) (same_turned q k) (at_query ks q)

pub same_keys : (ks ls : List InstanceKeyView) → IsStrictlySortedBy instance_key_cmp ks → IsStrictlySortedBy instance_key_cmp ls → ((q : InstanceKeyView) → is_among ks q ≡ is_among ls q) → ks ≡ ls
same_keys ks ls first second there =
    btree_set_from_contains key_total (record { keys = ks }) (record { keys = ls }) first second (λ q. at_query ks q ∙ (there q ∙ sym (at_query ls q))) key_exact

-- one key more in a set
pub put_more : (old new : List InstanceKey) (key copy : InstanceKey) → new ≡ insert_key (keys.cmp-value).it old copy → instance_key_of copy ≡ instance_key_of key → (rest : List InstanceKeyView)
    → with_keys (map instance_key_of new) rest ≡ with_keys (map instance_key_of old) (instance_key_of key ∷ rest)
put_more old new key copy e same rest =
    ap (λ ks. with_keys (map instance_key_of ks) rest) e
    ∙ (ap (λ ks. with_keys ks rest) (inserted old copy) ∙ ap (λ k. with_keys (insert_key instance_key_cmp (map instance_key_of old) k) rest) same)

-- a search in a set finds a key where it is among those of the set
pub found : (ks : List InstanceKey) (key : InstanceKey) → list_any (is_at ((keys.cmp-value).it key)) ks ≡ is_among (map instance_key_of ks) (instance_key_of key)
found [] key = refl
found (k ∷ ks) key = ap₂ (λ a b. a || b) (ap is_eq (keys_ordered key k) ∙ same_turned (instance_key_of key) (instance_key_of k)) (found ks key)
