use Rattle.std.proofs.Common.{◌≡◌, ◌++◌, map}
use Rattle.tf_config_data.specs.Config.{blocks_of, config_of}
use Rattle.tf_config_data.specs.Names.{block_name, local_names, names_of}
use Rattle.tf_config_names.specs.Table.{declaration_of}
use Rattle.tf_expr_syntax.specs.ExprTree.{entries_view}
use Rattle.tf_config_names.proofs.table.declarations_of.Given as goal

abbrev pub invariant-loop-name : goal.invariant-loop-name
invariant-loop-name l = map declaration_of l.entries.items ++ local_names (entries_view l.name-iterator) ≡ local_names (entries_view l.config.locals.entries)

abbrev pub invariant-loop-addr : goal.invariant-loop-addr
invariant-loop-addr l = map declaration_of l.entries.items ++ map block_name (blocks_of l.addr-iterator) ≡ names_of (config_of l.config)
