-- A name of a table as plain data.
use Rattle.std.specs.Prelude.{string_bytes}
use Rattle.tf_config_address.specs.ResourceAddr.{addr_of}
use Rattle.tf_config_data.specs.Config.{block_at}
use Rattle.tf_config_data.specs.Names.{NameView, local_pair, addr_pair, a_local, a_block}
use Rattle.tf_expr_syntax.specs.ExprTree.{tree_of}
use Rattle.tf_config_names.specs.declared.declaration.Declaration.{Declaration}
use Rattle.tf_config_names.specs.declared.declaration.Declaration.TheVariants.{Local, Resource}

-- a name with its meaning
abbrev pub declaration_of : Declaration → NameView
declaration_of (Local name expr) = record { name = local_pair (string_bytes name.now); meant = a_local (tree_of expr.now) }
declaration_of (Resource addr block) = record { name = addr_pair (addr_of addr.now); meant = a_block (block_at (addr_of addr.now) block.now) }
