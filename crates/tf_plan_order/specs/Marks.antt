-- Which resources are marked, so that they and what they need are late.
use Rattle.std.specs.Prelude.{Bool, false}
use Rattle.std.specs.List.{list_any}
use Rattle.tf_config_data.specs.Names.{Meant, a_local, a_block}
use Rattle.tf_plan_order.specs.ResourceIndex.{ResourceRefView, a_name, an_orphan}

-- whether a block says `create_before_destroy`
abbrev pub says_so : Meant → Bool
says_so (a_local e) = false
says_so (a_block b) = b.lifecycle.create_before_destroy

-- A resource with a block is marked if its block says `create_before_destroy`, whatever its records say. An orphan is
-- marked if the record of any of its objects says so, current or deposed.
abbrev pub is_marked : ResourceRefView → Bool
is_marked (a_name n) = says_so n.meant
is_marked (an_orphan r) = list_any (λ x. x.create_before_destroy) r.records
