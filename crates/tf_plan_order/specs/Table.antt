-- An index of resources as plain data.
use Rattle.std.specs.Prelude.{List, map}
use Rattle.tf_plan_order.specs.ResourceRef.{resource_ref_of}
use Rattle.tf_plan_order.specs.ResourceIndex.{ResourceRefView}
use Rattle.tf_plan_order.specs.declared.resource_index.ResourceIndex.{ResourceIndex}
use Rattle.tf_state_data.specs.Resource.{ResourceView}
use Rattle.tf_state_data.specs.State.{state_of}

-- all that an index numbers, in order
abbrev pub numbered_in : ResourceIndex → List ResourceRefView
numbered_in n = map resource_ref_of n.numbered.items

-- the resources of the state that it numbers
abbrev pub resources_in : ResourceIndex → List ResourceView
resources_in n = (state_of n.state.now).resources
