-- The orders of objects and of addresses are total.
use Rattle.std.proofs.Common.{◌≡◌, ℕ, List, Option, Some, None, Less, Equal, refl}
use Rattle.std.specs.Cmp.{IsTotalOrder, nat_cmp_total, then_total, on_total}
use Rattle.std.specs.Ordering.{ordering_reverse}
use Rattle.std.proofs.lemmas.Cmp.{nat_list_cmp_total}
use Rattle.tf_config_address.specs.ResourceAddr.{ResourceAddrView, addr_cmp}
use Rattle.tf_config_address.specs.ObjectId.{InstanceKeyView, single, number, name, ObjectIdView, instance_key_cmp, deposed_cmp, object_id_cmp}

key_antisymm : (x y : InstanceKeyView) → instance_key_cmp x y ≡ ordering_reverse (instance_key_cmp y x)
key_antisymm single single = refl
key_antisymm single (number n) = refl
key_antisymm single (name t) = refl
key_antisymm (number m) single = refl
key_antisymm (number m) (number n) = nat_cmp_total.antisymm m n
key_antisymm (number m) (name t) = refl
key_antisymm (name s) single = refl
key_antisymm (name s) (number n) = refl
key_antisymm (name s) (name t) = nat_list_cmp_total.antisymm s t

key_trans : (x y z : InstanceKeyView) → instance_key_cmp x y ≡ Less → instance_key_cmp y z ≡ Less → instance_key_cmp x z ≡ Less
key_trans single (number n) (number m) e f = refl
key_trans single (number n) (name t) e f = refl
key_trans single (name s) (name t) e f = refl
key_trans (number a) (number b) (number c) e f = nat_cmp_total.trans a b c e f
key_trans (number a) (number b) (name t) e f = refl
key_trans (number a) (name s) (name t) e f = refl
key_trans (name r) (name s) (name t) e f = nat_list_cmp_total.trans r s t e f
key_trans _ _ _ e f = absurd (cc)

key_congr : (x y z : InstanceKeyView) → instance_key_cmp x y ≡ Equal → instance_key_cmp x z ≡ instance_key_cmp y z
key_congr single single z e = refl
key_congr (number a) (number b) single e = refl
key_congr (number a) (number b) (number c) e = nat_cmp_total.congr a b c e
key_congr (number a) (number b) (name t) e = refl
key_congr (name r) (name s) single e = refl
key_congr (name r) (name s) (number c) e = refl
key_congr (name r) (name s) (name t) e = nat_list_cmp_total.congr r s t e
key_congr _ _ _ e = absurd (cc)

key_total : IsTotalOrder instance_key_cmp
key_total = record { antisymm = key_antisymm; trans = key_trans; congr = key_congr }

deposed_antisymm : (x y : Option (List ℕ)) → deposed_cmp x y ≡ ordering_reverse (deposed_cmp y x)
deposed_antisymm None None = refl
deposed_antisymm None (Some t) = refl
deposed_antisymm (Some s) None = refl
deposed_antisymm (Some s) (Some t) = nat_list_cmp_total.antisymm s t

deposed_trans : (x y z : Option (List ℕ)) → deposed_cmp x y ≡ Less → deposed_cmp y z ≡ Less → deposed_cmp x z ≡ Less
deposed_trans None (Some s) (Some t) e f = refl
deposed_trans (Some r) (Some s) (Some t) e f = nat_list_cmp_total.trans r s t e f
deposed_trans _ _ _ e f = absurd (cc)

deposed_congr : (x y z : Option (List ℕ)) → deposed_cmp x y ≡ Equal → deposed_cmp x z ≡ deposed_cmp y z
deposed_congr None None z e = refl
deposed_congr (Some r) (Some s) None e = refl
deposed_congr (Some r) (Some s) (Some t) e = nat_list_cmp_total.congr r s t e
deposed_congr _ _ _ e = absurd (cc)

deposed_total : IsTotalOrder deposed_cmp
deposed_total = record { antisymm = deposed_antisymm; trans = deposed_trans; congr = deposed_congr }

pub object_id_total : IsTotalOrder object_id_cmp
object_id_total = then_total (on_total (λ (p : ObjectIdView). p.key) key_total) (on_total (λ (p : ObjectIdView). p.deposed) deposed_total)

pub addr_total : IsTotalOrder addr_cmp
addr_total = then_total (on_total (λ (l : ResourceAddrView). l.type_name) nat_list_cmp_total) (on_total (λ (l : ResourceAddrView). l.name) nat_list_cmp_total)
