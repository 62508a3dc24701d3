-- When addresses and objects are the same: if each of their parts is.
use Rattle.std.specs.Prelude.{◌≡◌, ℕ, Bool, true, false, ◌&&◌, ◌==◌, List, Option, Some, None, bytes_eq, refl}
use Rattle.std.specs.Bool.{Decides}
use Rattle.std.specs.Cmp.{unsigned_Decides}
use Rattle.std.specs.Option.{option_eq}
use Rattle.std.proofs.Common.{ap}
use Rattle.std.proofs.lemmas.Bool.Decides.{Decides-and, Decides-like}
use Rattle.std.proofs.lemmas.Slice.Eq.{bytes_eq-Decides}
use Rattle.tf_config_address.specs.ResourceAddr.{ResourceAddrView}
use Rattle.tf_config_address.specs.ObjectId.{InstanceKeyView, single, number, name, ObjectIdView}

-- addresses are the same if their types and their names are the same
abbrev pub same_addr : ResourceAddrView → ResourceAddrView → Bool
same_addr a b = bytes_eq a.type_name b.type_name && bytes_eq a.name b.name

-- instances are the same if both have no key, both the same number, or both the same name
abbrev pub same_instance_key : InstanceKeyView → InstanceKeyView → Bool
same_instance_key single single = true
same_instance_key (number m) (number n) = m == n
same_instance_key (name s) (name t) = bytes_eq s t
same_instance_key _ _ = false

-- objects are the same if their instances are the same, and both are current or both are deposed by the same key
abbrev pub same_object_id : ObjectIdView → ObjectIdView → Bool
same_object_id p q = same_instance_key p.key q.key && option_eq bytes_eq p.deposed q.deposed

pub addr_Decides : (a b : ResourceAddrView) → Decides (same_addr a b) (a ≡ b)
addr_Decides a b =
    Decides-like _ (λ h i. record { type_name = h.0 i; name = h.1 i }) (λ e. (λ i. (e i).type_name, λ i. (e i).name))
    (Decides-and _ _ (bytes_eq-Decides a.type_name b.type_name) (bytes_eq-Decides a.name b.name))

key_Decides : (j k : InstanceKeyView) → Decides (same_instance_key j k) (j ≡ k)
key_Decides single single = (λ e. refl, λ e. refl)
key_Decides (number m) (number n) = (λ e. ap number ((unsigned_Decides m n).0 e), λ e. (unsigned_Decides m n).1 (cc))
key_Decides (name s) (name t) = (λ e. ap name ((bytes_eq-Decides s t).0 e), λ e. (bytes_eq-Decides s t).1 (cc))
key_Decides _ _ = (λ e. cc, λ e. cc)

deposed_Decides : (d e : Option (List ℕ)) → Decides (option_eq bytes_eq d e) (d ≡ e)
deposed_Decides None None = (λ e. refl, λ e. refl)
deposed_Decides (Some s) (Some t) = (λ e. ap Some ((bytes_eq-Decides s t).0 e), λ e. (bytes_eq-Decides s t).1 (cc))
deposed_Decides _ _ = (λ e. cc, λ e. cc)

pub object_id_Decides : (p q : ObjectIdView) → Decides (same_object_id p q) (p ≡ q)
object_id_Decides p q =
    Decides-like _ (λ h i. record { key = h.0 i; deposed = h.1 i }) (λ e. (λ i. (e i).key, λ i. (e i).deposed))
    (Decides-and _ _ (key_Decides p.key q.key) (deposed_Decides p.deposed q.deposed))
