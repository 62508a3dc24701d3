-- What the names of a configuration mean and refer to.
use Rattle.std.specs.Prelude.{ℕ, zero, suc, Bool, ◌&&◌, if◌then◌else◌, Option, Some, None, option_map, List, [], ◌∷◌, ◌++◌, map, codes}
use Rattle.std.specs.Str.{bytes_eq}
use Rattle.tf_config_address.specs.ResourceAddr.{ResourceAddrView}
use Rattle.tf_expr_syntax.specs.ExprNames.{named_by, named_below}
use Rattle.tf_expr_syntax.specs.ExprTree.{Tree, Entries, no_entries, entry}
use Rattle.tf_expr_syntax.specs.TemplateNames.{Pair}
use Rattle.tf_config_data.specs.Config.{RepetitionView, single, count, for_each, BlockView, ConfigView}

-- The meaning of a name that can need and be needed: a local value is its expression, and a resource is its block.
pub data Meant : Type 0 where
  a_local : Tree → Meant
  a_block : BlockView → Meant

-- a name, as the two texts around its dot, with its meaning
pub record NameView : Type 0 where
  pub name : Pair
  pub meant : Meant

-- `local.NAME`
abbrev pub local_pair : List ℕ → Pair
local_pair name = (codes "local", name)

-- `TYPE.NAME`
abbrev pub addr_pair : ResourceAddrView → Pair
addr_pair addr = (addr.type_name, addr.name)

abbrev pub local_names : Entries → List NameView
local_names no_entries = []
local_names (entry name e es) = record { name = local_pair name; meant = a_local e } ∷ local_names es

abbrev pub block_name : BlockView → NameView
block_name b = record { name = addr_pair b.addr; meant = a_block b }

-- The names of a configuration that can need and be needed: locals in byte order, then resources in address order.
-- Their places in this list number them.
abbrev pub names_of : ConfigView → List NameView
names_of c = local_names c.locals ++ map block_name c.blocks

abbrev pub same_pair : Pair → Pair → Bool
same_pair a b = bytes_eq a.0 b.0 && bytes_eq a.1 b.1

-- the place of a name, or `None` if it isn't declared
abbrev pub place_of : List NameView → Pair → Option ℕ
place_of [] pair = None
place_of (n ∷ ns) pair = if same_pair n.name pair then Some zero else option_map suc (place_of ns pair)

-- what `count` or `for_each` names
abbrev pub named_in_repetition : RepetitionView → List Pair
named_in_repetition single = []
named_in_repetition (count e) = named_by e
named_in_repetition (for_each e) = named_by e

-- The names that a block refers to: in `count` or `for_each`, in its arguments, including both branches of a
-- conditional, and in `depends_on`.
abbrev pub block_refers : BlockView → List Pair
block_refers b = named_in_repetition b.repetition ++ named_below b.arguments ++ map addr_pair b.depends_on

-- what a name refers to directly
abbrev pub refers : Meant → List Pair
refers (a_local e) = named_by e
refers (a_block b) = block_refers b

abbrev pub refers_at : Option Meant → List Pair
refers_at None = []
refers_at (Some m) = refers m

-- adds a place, if there is one, before others
abbrev pub place_before : Option ℕ → List ℕ → List ℕ
place_before None ns = ns
place_before (Some n) ns = n ∷ ns

-- the places of those of the names that are declared
abbrev pub places : List NameView → List Pair → List ℕ
places names [] = []
places names (pair ∷ pairs) = place_before (place_of names pair) (places names pairs)

-- the meaning at a place of the list, or `None` past its end
abbrev pub meant_at : List NameView → ℕ → Option Meant
meant_at [] n = None
meant_at (name ∷ names) zero = Some name.meant
meant_at (name ∷ names) (suc n) = meant_at names n

-- The places of all names that the one at a place refers to directly.
abbrev pub directly_before : List NameView → ℕ → List ℕ
directly_before names n = places names (refers_at (meant_at names n))
