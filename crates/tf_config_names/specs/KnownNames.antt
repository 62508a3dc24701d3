-- Which names the expressions of a configuration may use, and what there is to check of them in walk order.
use Rattle.std.specs.Prelude.{◌≡◌, ℕ, ◌+◌, Bool, true, false, ◌&&◌, ◌||◌, if◌then◌else◌, is_some, List, [], ◌∷◌, ◌++◌, MatchResult, Result, codes}
use Rattle.std.specs.Cmp.Lexicographic.{slice_cmp}
use Rattle.std.specs.Fmt.{decimal}
use Rattle.std.specs.List.{list_all}
use Rattle.std.specs.Ordering.{is_lt, nat_cmp}
use Rattle.std.specs.Str.{bytes_eq}
use Rattle.tf_config_address.specs.ResourceAddr.{ResourceAddrView}
use Rattle.tf_config_data.specs.Config.{VariableView, RepetitionView, single, count, for_each, BlockView, ConfigView, variables_of}
use Rattle.tf_config_data.specs.Names.{NameView, names_of, place_of, same_pair, addr_pair}
use Rattle.tf_config_refusal.specs.Check.{Check, AllMet, IsFirst, demanded}
use Rattle.tf_expr_syntax.specs.Function.{function_named}
use Rattle.tf_config_refusal.specs.declared.code.Code.TheVariants as code
use Rattle.tf_config_refusal.specs.Refusal.{bare, RefusalView, no_memory, workers, fault, refusal_of, Way}
use Rattle.tf_config_refusal.specs.declared.refusal.Refusal.{Refusal}
use Rattle.tf_expr_syntax.specs.ExprTree.{Tree, null, boolean, whole, template, list, map, Trees, no_trees, tree, Entries, no_entries, entry}
use Rattle.tf_expr_syntax.specs.TemplateNames.{Pair, called, named}
use Rattle.tf_expr_syntax.specs.TemplateTree.{Woven}
use Rattle.tf_config_names.specs.Table.{names_in}
use Rattle.tf_config_names.specs.declared.known_names.Context.{Context}
use Rattle.tf_config_names.specs.declared.known_names.Context.TheVariants.{Plain, Counted, Keyed}
use Rattle.tf_config_names.specs.declared.known_names.Known.{Known}

-- ---- which names are known

-- what a configuration declares
pub record Declared : Type 0 where
  pub variables : List VariableView
  pub names : List NameView

abbrev pub declared_in : ConfigView → Declared
declared_in c = record { variables = c.variables; names = names_of c }

abbrev pub declared_of : Known → Declared
declared_of k = record { variables = variables_of k.config.now.variables.entries; names = names_in k.names.now }

-- a variable of the name is declared
abbrev pub has_variable : List VariableView → List ℕ → Bool
has_variable [] name = false
has_variable (v ∷ vs) name = bytes_eq name v.name || has_variable vs name

-- `var.N`, if the variable is declared
abbrev pub is_variable : List VariableView → Pair → Bool
is_variable variables pair = bytes_eq (codes "var") pair.0 && has_variable variables pair.1

-- An argument of a block with `count` also has `count.index`, and one of a block with `for_each` also has `each.key`
-- and `each.value`. No other expression has further names.
abbrev pub binds : Context → Pair → Bool
binds Plain pair = false
binds Counted pair = same_pair (codes "count", codes "index") pair
binds Keyed pair = same_pair (codes "each", codes "key") pair || same_pair (codes "each", codes "value") pair

-- the name is that of a variable, a local or a resource, or the expression's context has it
abbrev pub knows : Declared → Context → Pair → Bool
knows declared context pair = is_variable declared.variables pair || is_some (place_of declared.names pair) || binds context pair

-- a function has the name
abbrev pub is_function : List ℕ → Bool
is_function name = is_some (function_named name)

-- Each reference of the template is to a known name, in both branches of a conditional, and each called function
-- exists.
abbrev pub knows_names : Declared → Context → Woven → Bool
knows_names declared context w = list_all (knows declared context) (named w) && list_all is_function (called w)

-- ---- the checks

pub data NameDemand : Type 0 where
  -- all that the template names and calls is known in this context
  only_known_names : Context → Woven → NameDemand
  -- the resource is declared
  a_resource : ResourceAddrView → NameDemand

abbrev pub holds : Declared → NameDemand → Bool
holds declared (only_known_names context w) = knows_names declared context w
holds declared (a_resource addr) = is_some (place_of declared.names (addr_pair addr))

abbrev pub IsKnown : Declared → NameDemand → Type 0
IsKnown declared demand = holds declared demand ≡ true

-- 4, UnknownName
abbrev pub unknown_name : Way
unknown_name = (code.UnknownName, bare)

abbrev pub IsUnknown : Declared → NameDemand → Way → Type 0
IsUnknown declared demand way = (holds declared demand ≡ false) × (way ≡ unknown_name)

-- the checks of names, in walk order
abbrev pub NameChecks : Type 0
NameChecks = List (Check NameDemand)

-- The checks of an expression at a place, of the elements of a list from a position on, and of the entries of a map:
-- one for each text, at the text's place.
abbrev mutual
  pub name_checks : Context → List (List ℕ) → Tree → NameChecks
  name_checks context place null = []
  name_checks context place (boolean b) = []
  name_checks context place (whole z) = []
  name_checks context place (template w) = demanded place (only_known_names context w)
  name_checks context place (list ts) = item_name_checks context place 0 ts
  name_checks context place (map es) = entry_name_checks context place es

  pub item_name_checks : Context → List (List ℕ) → ℕ → Trees → NameChecks
  item_name_checks context place position no_trees = []
  item_name_checks context place position (tree t ts) = name_checks context (decimal position ∷ place) t ++ item_name_checks context place (position + 1) ts

  pub entry_name_checks : Context → List (List ℕ) → Entries → NameChecks
  entry_name_checks context place no_entries = []
  entry_name_checks context place (entry name t es) = name_checks context (name ∷ place) t ++ entry_name_checks context place es

-- each resource of a list, from a position on
abbrev pub addr_checks : List (List ℕ) → ℕ → List ResourceAddrView → NameChecks
addr_checks place position [] = []
addr_checks place position (addr ∷ addrs) = demanded (decimal position ∷ place) (a_resource addr) ++ addr_checks place (position + 1) addrs

-- A property of a block whose names are checked: an expression with its context, or resources.
pub data PropertyView : Type 0 where
  an_expression : Context → Tree → PropertyView
  the_resources : List ResourceAddrView → PropertyView

abbrev pub Body : Type 0
Body = List (List ℕ × PropertyView)

-- inserts a property before the first whose name isn't below its name
abbrev pub put_property : List ℕ × PropertyView → Body → Body
put_property p [] = p ∷ []
put_property p (q ∷ qs) = if is_lt (slice_cmp nat_cmp q.0 p.0) then q ∷ put_property p qs else p ∷ q ∷ qs

abbrev pub arguments_in : Context → Entries → Body
arguments_in context no_entries = []
arguments_in context (entry name t es) = (name, an_expression context t) ∷ arguments_in context es

abbrev pub context_of : RepetitionView → Context
context_of single = Plain
context_of (count e) = Counted
context_of (for_each e) = Keyed

-- `count` and `for_each` themselves have no further names
abbrev pub put_repetition : RepetitionView → Body → Body
put_repetition single ps = ps
put_repetition (count e) ps = put_property (codes "count", an_expression Plain e) ps
put_repetition (for_each e) ps = put_property (codes "for_each", an_expression Plain e) ps

-- the properties of a block's body in byte order of their names
abbrev pub body_of : BlockView → Body
body_of b = put_repetition b.repetition (put_property (codes "depends_on", the_resources b.depends_on) (arguments_in (context_of b.repetition) b.arguments))

abbrev pub property_checks : List (List ℕ) → PropertyView → NameChecks
property_checks place (an_expression context t) = name_checks context place t
property_checks place (the_resources addrs) = addr_checks place 0 addrs

abbrev pub body_checks : List (List ℕ) → Body → NameChecks
body_checks place [] = []
body_checks place (p ∷ ps) = property_checks (p.0 ∷ place) p.1 ++ body_checks place ps

-- the place of a block in the file: `resource`, its type, its name
abbrev pub block_place : ResourceAddrView → List (List ℕ)
block_place addr = addr.name ∷ addr.type_name ∷ codes "resource" ∷ []

abbrev pub block_checks : List BlockView → NameChecks
block_checks [] = []
block_checks (b ∷ bs) = body_checks (block_place b.addr) (body_of b) ++ block_checks bs

-- the value of each output
abbrev pub output_checks : Entries → NameChecks
output_checks no_entries = []
output_checks (entry name t es) = name_checks Plain (codes "value" ∷ name ∷ codes "output" ∷ []) t ++ output_checks es

-- the checks of a configuration's names: of locals, outputs and resources
abbrev pub config_checks : ConfigView → NameChecks
config_checks c = entry_name_checks Plain (codes "locals" ∷ []) c.locals ++ output_checks c.outputs ++ block_checks c.blocks

-- each name is known
abbrev pub AreKnown : Declared → NameChecks → Type 0
AreKnown declared = AllMet (IsKnown declared)

-- the refusal reports the first check that fails, or memory ran out
abbrev pub RefusesNames : Declared → NameChecks → RefusalView → Type 0
RefusesNames declared checks no_memory = Unit {0}
RefusesNames declared checks workers = ⊥
RefusesNames declared checks (fault code place detail) = IsFirst (IsKnown declared) (IsUnknown declared) place (code, detail) checks

-- a result that only judges: each name is known, or the refusal reports the first check that fails
abbrev pub JudgesNames : {T : Type 0} → Declared → NameChecks → Result T Refusal → Type 0
JudgesNames declared checks answer = MatchResult answer (λ _. AreKnown declared checks) (λ refusal. RefusesNames declared checks (refusal_of refusal))
