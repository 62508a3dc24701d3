use Rattle.std.proofs.Common.{◌≡◌, ◌++◌, map, drop, option_map}
use Rattle.tf_config_address.specs.ObjectId.{instance_key_of}
use Rattle.tf_value_data.specs.Tree.{tree_of}
use Rattle.tf_expand_keys.specs.InstanceKeys.{objects_at}
use Rattle.tf_expand_keys.proofs.collecting.listed.Given as goal

-- the objects so far, and those to come
abbrev pub invariant-loop-key : goal.invariant-loop-key
invariant-loop-key g l =
    objects_at (g.K.Keyed.object l.keyed) (map instance_key_of l.keys)
    ≡ option_map (λ ts. map tree_of l.objects.items ++ ts) (objects_at (g.K.Keyed.object l.keyed) (map instance_key_of (drop l.key-index l.keys)))
