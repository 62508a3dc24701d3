use Rattle.tf_config_json.proofs.Sound.{variables_sound, locals_sound, outputs_sound, types_sound}
use Rattle.tf_config_json.proofs.kinds.SectionsMembers.add.Goals as goal

pub add_members-requires : goal.add_members-requires
add_members-requires c = record { sound = variables_sound }

pub add_members-requires-in-Locals : goal.add_members-requires-in-Locals
add_members-requires-in-Locals c = record { sound = locals_sound }

pub add_members-requires-in-Outputs : goal.add_members-requires-in-Outputs
add_members-requires-in-Outputs c = record { sound = outputs_sound }

pub add_members-requires-in-Resources : goal.add_members-requires-in-Resources
add_members-requires-in-Resources c = record { sound = types_sound }
