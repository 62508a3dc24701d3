use Rattle.tf_config_address.specs.ResourceAddr.{addr_of}
use Rattle.tf_config_names.proofs.table.Declarations.add_meant.Goals as goal

pub returns-in_ok-add_block-in-Resource : goal.returns-in_ok-add_block-in-Resource
returns-in_ok-add_block-in-Resource c = rw c.in-Resource.is (c.in_ok-add_block-in-Resource.ensures (addr_of c.in-Resource.field-0.now))
