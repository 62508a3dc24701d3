-- Which plans leave a state whose text reads back as it.
use Rattle.std.specs.Prelude.{◌≡◌, true}
use Rattle.std.specs.List.{AllByRecursion}
use Rattle.tf_config_address.specs.Name.{is_name}
use Rattle.tf_config_data.specs.Config.{BlockView}
use Rattle.tf_plan_data.specs.Plan.{PlanView}

-- a block's address consists of names
abbrev pub IsNamed : BlockView → Type 0
IsNamed b = (is_name b.addr.type_name ≡ true) × (is_name b.addr.name ≡ true)

-- the address of each block of a plan's configuration consists of names
abbrev pub HasNames : PlanView → Type 0
HasNames plan = AllByRecursion IsNamed plan.config.blocks
