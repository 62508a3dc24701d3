-- Names and orphans as plain data.
use Rattle.tf_config_names.specs.Declaration.{declaration_of}
use Rattle.tf_plan_order.specs.ResourceIndex.{ResourceRefView, a_name, an_orphan}
use Rattle.tf_plan_order.specs.declared.resource_ref.ResourceRef.{ResourceRef}
use Rattle.tf_plan_order.specs.declared.resource_ref.ResourceRef.TheVariants.{Name, Orphan}
use Rattle.tf_state_data.specs.Resource.{resource_of}

abbrev pub resource_ref_of : ResourceRef → ResourceRefView
resource_ref_of (Name named) = a_name (declaration_of named)
resource_ref_of (Orphan resource) = an_orphan (resource_of resource.now)
