use Rattle.tf_config_json.proofs.Sound.{resources_sound}
use Rattle.tf_config_json.proofs.kinds.TypesMembers.add.Goals as goal

pub add_members-requires : goal.add_members-requires
add_members-requires c = record { sound = resources_sound c.args.name.now }
