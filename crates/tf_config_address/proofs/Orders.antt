-- The derived orders of objects and of addresses are those of the plain data.
use Rattle.std.proofs.Common.{◌≡◌, refl, ap₂}
use Rattle.std.specs.Prelude.{Option, Some, None, String}
use Rattle.std.specs.Ordering.{ordering_then}
use Rattle.std.specs.Option.{option_cmp}
use Rattle.std.specs.String.{string_cmp}
use Rattle.std.specs.declared.alloc.Global.{Global}
use Rattle.tf_config_address.specs.ResourceAddr.{addr_of, addr_cmp}
use Rattle.tf_config_address.specs.declared.addr.ResourceAddr.{ResourceAddr}
use Rattle.tf_config_address.specs.contracts.addr.ResourceAddrOrd.TheImpl as addrs
use Rattle.tf_config_address.specs.ObjectId.{object_id_of, object_id_cmp, instance_key_cmp, instance_key_of, deposed_cmp, deposed_of}
use Rattle.tf_config_address.specs.contracts.object_id.InstanceKeyOrd.TheImpl as keys
use Rattle.tf_config_address.specs.contracts.object_id.ObjectIdOrd.TheImpl as objects
use Rattle.tf_config_address.specs.declared.object_id.ObjectId.{ObjectId}
use Rattle.tf_config_address.specs.declared.object_id.InstanceKey.{InstanceKey}
use Rattle.tf_config_address.specs.declared.object_id.InstanceKey.TheVariants.{Single, Number, Name}

keys_ordered : (a b : InstanceKey) → instance_key_cmp (instance_key_of a) (instance_key_of b) ≡ (keys.cmp-value).it a b
keys_ordered Single Single = refl
keys_ordered (Number m) (Number n) = refl
keys_ordered (Name s) (Name t) = refl
keys_ordered _ _ = refl

deposed_ordered : (a b : Option (String Global)) → deposed_cmp (deposed_of a) (deposed_of b) ≡ option_cmp string_cmp a b
deposed_ordered None None = refl
deposed_ordered (Some s) (Some t) = refl
deposed_ordered _ _ = refl

pub object_ids_ordered : (p q : ObjectId) → object_id_cmp (object_id_of p) (object_id_of q) ≡ (objects.cmp-value).it p q
object_ids_ordered p q = ap₂ ordering_then (keys_ordered p.key q.key) (deposed_ordered p.deposed q.deposed)

pub addrs_ordered : (a b : ResourceAddr) → addr_cmp (addr_of a) (addr_of b) ≡ (addrs.cmp-value).it a b
addrs_ordered a b = refl
