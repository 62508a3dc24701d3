-- A configuration as plain data.
use Rattle.std.specs.Prelude.{ℕ, Bool, Option, option_map, List, map, string_bytes, String}
use Rattle.std.specs.declared.alloc.Global.{Global}
use Rattle.tf_config_address.specs.ResourceAddr.{ResourceAddrView, addr_of}
use Rattle.tf_config_address.specs.declared.addr.ResourceAddr.{ResourceAddr}
use Rattle.tf_expr_syntax.specs.ExprTree.{Tree, tree_of, Entries, entries_view}
use Rattle.tf_value_data.specs.Tree as values
use Rattle.tf_config_data.specs.declared.config.Block.{Block}
use Rattle.tf_config_data.specs.declared.config.Config.{Config}
use Rattle.tf_config_data.specs.declared.config.Lifecycle.{Lifecycle}
use Rattle.tf_config_data.specs.declared.config.Repetition.{Repetition}
use Rattle.tf_config_data.specs.declared.config.Repetition.TheVariants.{Single, Count, ForEach}
use Rattle.tf_config_data.specs.declared.variable.Variable.{Variable}
use Rattle.tf_config_data.specs.declared.variable.VariableType.{VariableType}

-- a variable: its name, its type, and its default if it has one
pub record VariableView : Type 0 where
  pub name : List ℕ
  pub value_type : VariableType
  pub default : Option values.Tree

-- one instance, as many as an expression says, or one for each key of an expression's value
pub data RepetitionView : Type 0 where
  single : RepetitionView
  count : Tree → RepetitionView
  for_each : Tree → RepetitionView

-- the rules for replacing and keeping objects
pub record LifecycleView : Type 0 where
  pub create_before_destroy : Bool
  pub prevent_destroy : Bool
  pub ignore_changes : List (List ℕ)

-- a resource block: its address and its contents
pub record BlockView : Type 0 where
  pub addr : ResourceAddrView
  pub repetition : RepetitionView
  pub depends_on : List ResourceAddrView
  pub lifecycle : LifecycleView
  pub arguments : Entries

-- what a configuration declares: variables, locals and outputs in byte order of their names, blocks in address order
pub record ConfigView : Type 0 where
  pub variables : List VariableView
  pub locals : Entries
  pub outputs : Entries
  pub blocks : List BlockView

abbrev pub variable_of : String Global × Variable → VariableView
variable_of entry = record { name = string_bytes entry.0; value_type = entry.1.value_type; default = option_map values.tree_of entry.1.default }

abbrev pub variables_of : List (String Global × Variable) → List VariableView
variables_of entries = map variable_of entries

abbrev pub repetition_of : Repetition → RepetitionView
repetition_of Single = single
repetition_of (Count e) = count (tree_of e)
repetition_of (ForEach e) = for_each (tree_of e)

abbrev pub lifecycle_of : Lifecycle → LifecycleView
lifecycle_of l =
    record {
      create_before_destroy = l.create_before_destroy;
      prevent_destroy = l.prevent_destroy;
      ignore_changes = map string_bytes l.ignore_changes.items;
    }

-- a block at its address
abbrev pub block_at : ResourceAddrView → Block → BlockView
block_at addr block =
    record {
      addr = addr;
      repetition = repetition_of block.repetition;
      depends_on = map addr_of block.depends_on.items;
      lifecycle = lifecycle_of block.lifecycle;
      arguments = entries_view block.arguments.entries;
    }

abbrev pub block_of : ResourceAddr × Block → BlockView
block_of entry = block_at (addr_of entry.0) entry.1

abbrev pub blocks_of : List (ResourceAddr × Block) → List BlockView
blocks_of entries = map block_of entries

abbrev pub config_of : Config → ConfigView
config_of c =
    record {
      variables = variables_of c.variables.entries;
      locals = entries_view c.locals.entries;
      outputs = entries_view c.outputs.entries;
      blocks = blocks_of c.resources.entries;
    }
