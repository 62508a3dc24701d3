use Rattle.std.proofs.Common.{drop, map}
use Rattle.tf_config_address.specs.ResourceAddr.{addr_of}
use Rattle.tf_config_data.specs.Names.{addr_pair}
use Rattle.tf_config_names.proofs.Tables.{Adds}
use Rattle.tf_config_names.specs.Table.{names_in}
use Rattle.tf_config_names.proofs.table.Declarations.add_addrs.Given as goal

abbrev pub invariant-loop-addr : goal.invariant-loop-addr
invariant-loop-addr l = Adds (names_in l.self) l.fn.found.items (map addr_pair (map addr_of l.addrs)) l.found.items (map addr_pair (map addr_of (drop l.addr-index l.addrs)))
