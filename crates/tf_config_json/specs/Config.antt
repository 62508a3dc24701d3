-- The order of names and addresses, and what the walk begins with and puts at a name.
use Rattle.std.specs.Prelude.{ℕ, false, Option, None, List, [], ◌∷◌, option_map}
use Rattle.std.specs.Cmp.Lexicographic.{slice_cmp}
use Rattle.std.specs.Ordering.{nat_cmp, match_ordering}
use Rattle.std.specs.declared.cmp.Ordering.{Ordering}
use Rattle.tf_config_address.specs.ResourceAddr.{ResourceAddrView, addr_cmp}
use Rattle.tf_config_data.specs.Config.{VariableView, RepetitionView, single, LifecycleView, BlockView, ConfigView, block_at}
use Rattle.tf_config_data.specs.declared.config.Block.{Block}
use Rattle.tf_config_data.specs.declared.variable.Element.TheVariants.{Any}
use Rattle.tf_config_data.specs.declared.variable.Variable.{Variable}
use Rattle.tf_config_data.specs.declared.variable.VariableType.{VariableType}
use Rattle.tf_config_data.specs.declared.variable.VariableType.TheVariants.{One}
use Rattle.tf_expr_syntax.specs.ExprTree.{Entries, no_entries, entry}
use Rattle.tf_value_data.specs.Tree as values

-- ---- variables

-- the contents of a variable's body
pub record VariableBody : Type 0 where
  pub value_type : VariableType
  pub default : Option values.Tree

abbrev pub variable_body : Variable → VariableBody
variable_body v = record { value_type = v.value_type; default = option_map values.tree_of v.default }

-- In an empty body the type is `any`, and there is no default.
abbrev pub plain_variable : VariableBody
plain_variable = record { value_type = One Any; default = None }

-- the variable of a name with a body
abbrev pub variable_with : List ℕ → VariableBody → VariableView
variable_with name body = record { name = name; value_type = body.value_type; default = body.default }

-- the order of variables: by name, byte by byte
abbrev pub variable_cmp : VariableView → VariableView → Ordering
variable_cmp v w = slice_cmp nat_cmp v.name w.name

-- the variables, with this one at its name
abbrev pub put_variable : VariableView → List VariableView → List VariableView
put_variable v [] = v ∷ []
put_variable v (first ∷ vs) =
    match_ordering (slice_cmp nat_cmp v.name first.name) (v ∷ first ∷ vs) (record v { name = first.name } ∷ vs) (first ∷ put_variable v vs)

-- ---- blocks

abbrev pub Blocks : Type 0
Blocks = List BlockView

-- An empty `lifecycle` asks for nothing.
abbrev pub plain_lifecycle : LifecycleView
plain_lifecycle = record { create_before_destroy = false; prevent_destroy = false; ignore_changes = [] }

-- the contents of a resource's body
pub record BlockBody : Type 0 where
  pub repetition : RepetitionView
  pub depends_on : List ResourceAddrView
  pub lifecycle : LifecycleView
  pub arguments : Entries

-- An empty body has one instance without arguments.
abbrev pub plain_block : BlockBody
plain_block = record { repetition = single; depends_on = []; lifecycle = plain_lifecycle; arguments = no_entries }

-- the block of an address with a body
abbrev pub block_with : ResourceAddrView → BlockBody → BlockView
block_with addr body =
    record { addr = addr; repetition = body.repetition; depends_on = body.depends_on; lifecycle = body.lifecycle; arguments = body.arguments }

-- the body of a block
abbrev pub body_of : BlockView → BlockBody
body_of b = record { repetition = b.repetition; depends_on = b.depends_on; lifecycle = b.lifecycle; arguments = b.arguments }

-- the contents of a block, whatever its address
abbrev pub block_body : Block → BlockBody
block_body block = body_of (block_at (record { type_name = []; name = [] }) block)

-- the order of addresses: by type, then by name, byte by byte
abbrev pub address_cmp : BlockView → BlockView → Ordering
address_cmp a b = addr_cmp a.addr b.addr

-- the blocks, with this one at its address
abbrev pub put_block : BlockView → Blocks → Blocks
put_block block [] = block ∷ []
put_block block (first ∷ blocks) =
    match_ordering (address_cmp block first) (block ∷ first ∷ blocks) (record block { addr = first.addr } ∷ blocks) (first ∷ put_block block blocks)

-- ---- configurations

-- An empty file declares nothing.
abbrev pub plain_config : ConfigView
plain_config = record { variables = []; locals = no_entries; outputs = no_entries; blocks = [] }

-- the names of entries
abbrev pub names_in : Entries → List (List ℕ)
names_in no_entries = []
names_in (entry name e es) = name ∷ names_in es
