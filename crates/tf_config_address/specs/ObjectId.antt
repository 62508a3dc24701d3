-- The instances of a resource and their objects, and their order.
use Rattle.std.specs.Prelude.{ℕ, List, Option, Some, None, String, string_bytes, option_map}
use Rattle.std.specs.Cmp.Lexicographic.{slice_cmp}
use Rattle.std.specs.Ordering.{nat_cmp, ordering_then}
use Rattle.std.specs.declared.cmp.Ordering.{Ordering}
use Rattle.std.specs.declared.cmp.Ordering.TheVariants.{Less, Equal, Greater}
use Rattle.std.specs.declared.alloc.Global.{Global}
use Rattle.tf_config_address.specs.declared.object_id.InstanceKey.{InstanceKey}
use Rattle.tf_config_address.specs.declared.object_id.InstanceKey.TheVariants as keys
use Rattle.tf_config_address.specs.declared.object_id.ObjectId.{ObjectId}

-- An instance of a resource has no key, a number or a name.
pub data InstanceKeyView : Type 0 where
  single : InstanceKeyView
  number : ℕ → InstanceKeyView
  name : List ℕ → InstanceKeyView

-- Identifies an object of a resource: its instance, and no key for the current object or the key of a deposed one.
pub record ObjectIdView : Type 0 where
  pub key : InstanceKeyView
  pub deposed : Option (List ℕ)

abbrev pub instance_key_of : InstanceKey → InstanceKeyView
instance_key_of keys.Single = single
instance_key_of (keys.Number n) = number n
instance_key_of (keys.Name s) = name (string_bytes s)

abbrev pub deposed_of : Option (String Global) → Option (List ℕ)
deposed_of = option_map string_bytes

abbrev pub object_id_of : ObjectId → ObjectIdView
object_id_of p = record { key = instance_key_of p.key; deposed = deposed_of p.deposed }

-- the order of instances: without a key, then by number, then by name byte by byte
abbrev pub instance_key_cmp : InstanceKeyView → InstanceKeyView → Ordering
instance_key_cmp single single = Equal
instance_key_cmp single (number n) = Less
instance_key_cmp single (name t) = Less
instance_key_cmp (number m) single = Greater
instance_key_cmp (number m) (number n) = nat_cmp m n
instance_key_cmp (number m) (name t) = Less
instance_key_cmp (name s) single = Greater
instance_key_cmp (name s) (number n) = Greater
instance_key_cmp (name s) (name t) = slice_cmp nat_cmp s t

-- the current object comes before the deposed ones, which are ordered by their keys
abbrev pub deposed_cmp : Option (List ℕ) → Option (List ℕ) → Ordering
deposed_cmp None None = Equal
deposed_cmp None (Some t) = Less
deposed_cmp (Some s) None = Greater
deposed_cmp (Some s) (Some t) = slice_cmp nat_cmp s t

-- objects are ordered by instance, and those of one instance by `deposed_cmp`
abbrev pub object_id_cmp : ObjectIdView → ObjectIdView → Ordering
object_id_cmp a b = ordering_then (instance_key_cmp a.key b.key) (deposed_cmp a.deposed b.deposed)
