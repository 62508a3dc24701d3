-- What is equal field by field is the same as plain data.
use Rattle.std.proofs.Common.{◌≡◌, ◌&&◌, Option, Some, None, String, refl, ap₂}
use Rattle.std.specs.Option.{option_eq}
use Rattle.std.specs.Prelude.{bytes_eq}
use Rattle.std.specs.String.{string_eq}
use Rattle.std.specs.declared.alloc.Global.{Global}
use Rattle.tf_config_address.specs.ObjectId.{instance_key_of, deposed_of, object_id_of}
use Rattle.tf_config_address.specs.Same.{same_instance_key, same_object_id}
use Rattle.tf_config_address.specs.contracts.object_id.InstanceKeyPartialEq.TheImpl as keys
use Rattle.tf_config_address.specs.contracts.object_id.ObjectIdPartialEq.TheImpl as objects
use Rattle.tf_config_address.specs.declared.object_id.InstanceKey.{InstanceKey}
use Rattle.tf_config_address.specs.declared.object_id.InstanceKey.TheVariants.{Single, Number, Name}
use Rattle.tf_config_address.specs.declared.object_id.ObjectId.{ObjectId}

keys_equal : (j k : InstanceKey) → (keys.eq-value).it j k ≡ same_instance_key (instance_key_of j) (instance_key_of k)
keys_equal Single Single = refl
keys_equal (Number m) (Number n) = refl
keys_equal (Name s) (Name t) = refl
keys_equal _ _ = refl

deposed_equal : (d e : Option (String Global)) → option_eq string_eq d e ≡ option_eq bytes_eq (deposed_of d) (deposed_of e)
deposed_equal None None = refl
deposed_equal (Some s) (Some t) = refl
deposed_equal _ _ = refl

pub object_ids_equal : (p q : ObjectId) → (objects.eq-value).it p q ≡ same_object_id (object_id_of p) (object_id_of q)
object_ids_equal p q = ap₂ (λ a b. a && b) (keys_equal p.key q.key) (deposed_equal p.deposed q.deposed)
