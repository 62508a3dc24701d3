-- A copy is seen as what it is a copy of.
use Rattle.std.proofs.Common.{◌≡◌, Option, Some, None, String, refl, ap, ap₂}
use Rattle.std.specs.declared.alloc.Global.{Global}
use Rattle.tf_config_address.specs.ObjectId.{number, name, instance_key_of, object_id_of, deposed_of}
use Rattle.tf_config_address.specs.contracts.object_id.InstanceKeyClone.TheImpl as KeyClone
use Rattle.tf_config_address.specs.contracts.object_id.ObjectIdClone.TheImpl as IdClone
use Rattle.tf_config_address.specs.declared.object_id.InstanceKey.{InstanceKey}
use Rattle.tf_config_address.specs.declared.object_id.InstanceKey.TheVariants.{Single, Number, Name}
use Rattle.tf_config_address.specs.declared.object_id.ObjectId.{ObjectId}

key_copied : (j k : InstanceKey) → KeyClone.by_variants j k → instance_key_of k ≡ instance_key_of j
key_copied Single Single h = refl
key_copied (Number m) (Number n) h = ap number h
key_copied (Name s) (Name t) h = ap name h
key_copied Single (Number n) h = absurd h
key_copied Single (Name t) h = absurd h
key_copied (Number m) Single h = absurd h
key_copied (Number m) (Name t) h = absurd h
key_copied (Name s) Single h = absurd h
key_copied (Name s) (Number n) h = absurd h

deposed_copied : (j k : InstanceKey) (d e : Option (String Global)) → (IdClone.is_clone-value).it (record { key = j; deposed = d }) (record { key = k; deposed = e }) → deposed_of e ≡ deposed_of d
deposed_copied j k None None h = refl
deposed_copied j k (Some s) (Some t) h = ap Some h.1
deposed_copied j k None (Some t) h = absurd h.1
deposed_copied j k (Some s) None h = absurd h.1

pub object_id_copied : (p q : ObjectId) → (IdClone.is_clone-value).it p q → object_id_of q ≡ object_id_of p
object_id_copied p q h = ap₂ (λ k d. record { key = k; deposed = d }) (key_copied p.key q.key h.0) (deposed_copied p.key q.key p.deposed q.deposed h)
