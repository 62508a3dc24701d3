-- The order of instances: it is total, it tells instances apart, and it is the order that the keys derive.
use Rattle.std.proofs.Common.{◌≡◌, List, [], ◌∷◌, map, Ordering, Less, Equal, Greater, is_eq, refl, sym, ap, ◌∙◌}
use Rattle.std.specs.BTreeSet.{insert_key}
use Rattle.std.specs.Cmp.{IsTotalOrder, unsigned_tied}
use Rattle.std.specs.Ordering.{ordering_then, ordering_reverse, match_ordering}
use Rattle.std.proofs.lemmas.Map.Lookups.{CmpEqualImpliesEq, exact_unsigned, exact_bytes}
use Rattle.std.proofs.lemmas.Map.Text.{is_eq-slice_cmp}
use Rattle.tf_config_address.proofs.CopiedIds.{object_id_copied}
use Rattle.tf_config_address.proofs.Totals.{object_id_total}
use Rattle.tf_config_address.specs.ObjectId.{InstanceKeyView, ObjectIdView, single, number, name, instance_key_cmp, instance_key_of, object_id_cmp}
use Rattle.tf_config_address.specs.Same.{same_instance_key}
use Rattle.tf_config_address.specs.contracts.object_id.InstanceKeyClone.TheImpl as KeyClone
use Rattle.tf_config_address.specs.contracts.object_id.InstanceKeyOrd.TheImpl as keys
use Rattle.tf_config_address.specs.declared.object_id.InstanceKey.{InstanceKey}
use Rattle.tf_config_address.specs.declared.object_id.InstanceKey.TheVariants.{Single, Number, Name}
use Rattle.std.specs.Prelude.{None}

then_none : (o : Ordering) → ordering_then o Equal ≡ o
then_none Less = refl
then_none Equal = refl
then_none Greater = refl

-- instances stand as their current objects do
as_current : (j k : InstanceKeyView) → instance_key_cmp j k ≡ object_id_cmp (record { key = j; deposed = None }) (record { key = k; deposed = None })
as_current j k = sym (then_none (instance_key_cmp j k))

pub key_total : IsTotalOrder instance_key_cmp
key_total =
    let o = object_id_total in
    record {
      antisymm = λ x y. as_current x y ∙ o.antisymm (record { key = x; deposed = None }) (record { key = y; deposed = None }) ∙ ap ordering_reverse (sym (as_current y x));
      trans = λ x y z e f. as_current x z ∙ o.trans (record { key = x; deposed = None }) (record { key = y; deposed = None }) (record { key = z; deposed = None }) (sym (as_current x y) ∙ e) (sym (as_current y z) ∙ f);
      congr = λ x y z e. as_current x z ∙ (o.congr (record { key = x; deposed = None }) (record { key = y; deposed = None }) (record { key = z; deposed = None }) (sym (as_current x y) ∙ e) ∙ sym (as_current y z));
    }

-- no two instances are at one place of the order
pub key_exact : CmpEqualImpliesEq instance_key_cmp
key_exact single single e = refl
key_exact (number m) (number n) e = ap number (exact_unsigned m n e)
key_exact (name s) (name t) e = ap name (exact_bytes s t e)
key_exact _ _ e = absurd (cc)

-- instances are the same where the order says so
pub same_ordered : (j k : InstanceKeyView) → is_eq (instance_key_cmp j k) ≡ same_instance_key j k
same_ordered single single = refl
same_ordered (number m) (number n) = unsigned_tied m n
same_ordered (name s) (name t) = is_eq-slice_cmp s t
same_ordered _ _ = refl

eq_turned : (o : Ordering) → is_eq (ordering_reverse o) ≡ is_eq o
eq_turned Less = refl
eq_turned Equal = refl
eq_turned Greater = refl

pub same_turned : (j k : InstanceKeyView) → is_eq (instance_key_cmp j k) ≡ same_instance_key k j
same_turned j k = ap is_eq (key_total.antisymm j k) ∙ (eq_turned (instance_key_cmp k j) ∙ same_ordered k j)

pub keys_ordered : (a b : InstanceKey) → (keys.cmp-value).it a b ≡ instance_key_cmp (instance_key_of a) (instance_key_of b)
keys_ordered Single Single = refl
keys_ordered (Number m) (Number n) = refl
keys_ordered (Name s) (Name t) = refl
keys_ordered _ _ = refl

insert_at : (o : Ordering) (k x : InstanceKey) (xs : List InstanceKey) (more : List InstanceKey) (seen : List InstanceKeyView) → map instance_key_of more ≡ seen
    → map instance_key_of (match_ordering o (k ∷ x ∷ xs) (x ∷ xs) (x ∷ more))
    ≡ match_ordering o (instance_key_of k ∷ instance_key_of x ∷ map instance_key_of xs) (instance_key_of x ∷ map instance_key_of xs) (instance_key_of x ∷ seen)
insert_at Less k x xs more seen e = refl
insert_at Equal k x xs more seen e = refl
insert_at Greater k x xs more seen e = ap (λ ys. instance_key_of x ∷ ys) e

-- a key that is put into a set stands where it does among the set's keys as plain data
pub inserted : (ks : List InstanceKey) (k : InstanceKey) → map instance_key_of (insert_key (keys.cmp-value).it ks k) ≡ insert_key instance_key_cmp (map instance_key_of ks) (instance_key_of k)
inserted [] k = refl
inserted (x ∷ xs) k =
    insert_at ((keys.cmp-value).it k x) k x xs (insert_key (keys.cmp-value).it xs k) (insert_key instance_key_cmp (map instance_key_of xs) (instance_key_of k)) (inserted xs k)
    ∙ ap (λ o. match_ordering o (instance_key_of k ∷ instance_key_of x ∷ map instance_key_of xs) (instance_key_of x ∷ map instance_key_of xs) (instance_key_of x ∷ insert_key instance_key_cmp (map instance_key_of xs) (instance_key_of k)))
    (keys_ordered k x)

-- a copy of a key is the same key
pub key_copied : (j k : InstanceKey) → KeyClone.by_variants j k → instance_key_of k ≡ instance_key_of j
key_copied j k h = ap (λ (i : ObjectIdView). i.key) (object_id_copied (record { key = j; deposed = None }) (record { key = k; deposed = None }) (h, tt))
