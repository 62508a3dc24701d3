-- The names of a configuration as plain data.
use Rattle.std.specs.Prelude.{List, map}
use Rattle.tf_config_data.specs.Names.{NameView}
pub use Rattle.tf_config_names.specs.Declaration.{declaration_of}
use Rattle.tf_config_names.specs.declared.table.Declarations.{Declarations}

-- the names of a table
abbrev pub names_in : Declarations → List NameView
names_in n = map declaration_of n.entries.items
