-- The configuration that a tree reads as, and what is demanded of it.
use Rattle.std.specs.Prelude.{◌≡◌, ◌↔◌, ℕ, Bool, false, not, ◌&&◌, is_some, Option, Some, None, option_and_then, List, [], ◌∷◌, ◌++◌, Contains, IsTrue, codes}
use Rattle.std.specs.Cmp.Lexicographic.{slice_cmp}
use Rattle.std.specs.List.Sorted.{IsStrictlySortedBy}
use Rattle.std.specs.Option.{MatchOption}
use Rattle.std.specs.Ordering.{nat_cmp}
use Rattle.std.specs.declared.cmp.Ordering.{Ordering}
use Rattle.serde_json.specs.Data.{Data, object}
use Rattle.serde_json.specs.Find.{get}
use Rattle.tf_config_address.specs.Name.{is_name}
use Rattle.tf_config_data.specs.Config.{VariableView, RepetitionView, single, count, for_each, LifecycleView, BlockView, ConfigView}
use Rattle.tf_config_data.specs.declared.variable.Element.TheVariants.{Any}
use Rattle.tf_config_data.specs.declared.variable.VariableType.TheVariants.{One}
use Rattle.tf_expr_json.specs.Reading.{IsExpr}
use Rattle.tf_config_refusal.specs.Check.{demanded}
use Rattle.tf_config_refusal.specs.Walk.{each}
use Rattle.tf_expr_syntax.specs.ExprTree.{Tree, Entries}
use Rattle.tf_expr_syntax.specs.ExprTree as expr
use Rattle.tf_value_data.specs.Tree as values
use Rattle.tf_config_json.specs.Config.{address_cmp, names_in, plain_lifecycle, variable_cmp}
use Rattle.tf_config_json.specs.Demand.{Checks, AreMet, holds, a_name, a_type_name}
use Rattle.tf_config_json.specs.Parts.{wrong, PartChecks, expression_checks, text_checks, flag_checks, IsFlag, type_text_checks, NamesType, literal_checks, IsLiteral, array_checks, SaysList, name_checks, IsNameText, address_checks, IsAddressText}
use Rattle.tf_config_json.specs.Words.{section_of, variable_property_of, locals_property_of, output_property_of, block_property_of, lifecycle_property_of}
use Rattle.tf_config_json.specs.declared.words.BlockProperty.{BlockProperty}
use Rattle.tf_config_json.specs.declared.words.BlockProperty.TheVariants as in_block
use Rattle.tf_config_json.specs.declared.words.LifecycleProperty.{LifecycleProperty}
use Rattle.tf_config_json.specs.declared.words.LifecycleProperty.TheVariants as in_lifecycle
use Rattle.tf_config_json.specs.declared.words.LocalsProperty.{LocalsProperty}
use Rattle.tf_config_json.specs.declared.words.LocalsProperty.TheVariants as in_locals
use Rattle.tf_config_json.specs.declared.words.OutputProperty.{OutputProperty}
use Rattle.tf_config_json.specs.declared.words.OutputProperty.TheVariants as in_output
use Rattle.tf_config_json.specs.declared.words.Section.{Section}
use Rattle.tf_config_json.specs.declared.words.Section.TheVariants as sections
use Rattle.tf_config_json.specs.declared.words.VariableProperty.{VariableProperty}
use Rattle.tf_config_json.specs.declared.words.VariableProperty.TheVariants as in_variable

-- ---- objects

-- The checks of a property depend on its place, its name and its value.
abbrev pub PropertyChecks : Type 0
PropertyChecks = List (List ℕ) → List ℕ → Data → Checks

-- the checks of a member of the object at a place
abbrev pub below : PropertyChecks → List (List ℕ) → List ℕ → Data → Checks
below checks place name = checks (name ∷ place) name

-- an object, with these checks of its members
abbrev pub object_checks : PropertyChecks → PartChecks
object_checks checks place (object members) = each (below checks place) members
object_checks checks place _ = wrong place

-- a name, with the checks of its value
abbrev pub named_checks : PartChecks → PropertyChecks
named_checks checks place name value = demanded place (a_name name) ++ checks place value

-- an object has a member of this name
abbrev pub has : List ℕ → Data → Bool
has name value = is_some (get name value)

-- ---- variables

-- a variable's type, its default, which is literal, and its description, which is a text
abbrev pub checks_in_variable : VariableProperty → PartChecks
checks_in_variable in_variable.Comment place value = []
checks_in_variable in_variable.Type place value = type_text_checks place value
checks_in_variable in_variable.Default place value = literal_checks place value
checks_in_variable in_variable.Description place value = text_checks place value
checks_in_variable in_variable.Other place value = wrong place

abbrev pub variable_property_checks : PropertyChecks
variable_property_checks place name = checks_in_variable (variable_property_of name) place

-- a name in `variable`, with a body
abbrev pub variable_checks : PropertyChecks
variable_checks = named_checks (object_checks variable_property_checks)

-- ---- locals

-- In `locals`, `//` is ignored, and any other property is a name with an expression.
abbrev pub checks_in_locals : LocalsProperty → PropertyChecks
checks_in_locals in_locals.Comment place name value = []
checks_in_locals in_locals.Local place name value = named_checks expression_checks place name value

abbrev pub local_checks : PropertyChecks
local_checks place name = checks_in_locals (locals_property_of name) place name

-- ---- outputs

-- an output's value, which is an expression, and its description, which is a text
abbrev pub checks_in_output : OutputProperty → PartChecks
checks_in_output in_output.Comment place value = []
checks_in_output in_output.Value place value = expression_checks place value
checks_in_output in_output.Description place value = text_checks place value
checks_in_output in_output.Other place value = wrong place

abbrev pub output_property_checks : PropertyChecks
output_property_checks place name = checks_in_output (output_property_of name) place

-- An output's body has a value. This is checked before its properties.
abbrev pub output_body_checks : PartChecks
output_body_checks place value = demanded place (holds (has (codes "value") value)) ++ object_checks output_property_checks place value

-- a name in `output`, with a body
abbrev pub output_checks : PropertyChecks
output_checks = named_checks output_body_checks

-- ---- resources

-- two truth values, and an array of names
abbrev pub checks_in_lifecycle : LifecycleProperty → PartChecks
checks_in_lifecycle in_lifecycle.Comment place value = []
checks_in_lifecycle in_lifecycle.CreateBeforeDestroy place value = flag_checks place value
checks_in_lifecycle in_lifecycle.PreventDestroy place value = flag_checks place value
checks_in_lifecycle in_lifecycle.IgnoreChanges place value = array_checks name_checks place value
checks_in_lifecycle in_lifecycle.Other place value = wrong place

abbrev pub lifecycle_property_checks : PropertyChecks
lifecycle_property_checks place name = checks_in_lifecycle (lifecycle_property_of name) place

-- In a body `//` is ignored, four names have a special meaning, three are refused, and any other property is an
-- argument.
abbrev pub checks_in_block : BlockProperty → PropertyChecks
checks_in_block in_block.Comment place name value = []
checks_in_block in_block.Count place name value = expression_checks place value
checks_in_block in_block.ForEach place name value = expression_checks place value
checks_in_block in_block.DependsOn place name value = array_checks address_checks place value
checks_in_block in_block.Lifecycle place name value = object_checks lifecycle_property_checks place value
checks_in_block in_block.Refused place name value = wrong place
checks_in_block in_block.Argument place name value = named_checks expression_checks place name value

abbrev pub block_property_checks : PropertyChecks
block_property_checks place name = checks_in_block (block_property_of name) place name

-- a body doesn't have both `count` and `for_each`
abbrev pub repeats_once : Data → Bool
repeats_once value = not (has (codes "count") value && has (codes "for_each") value)

-- This is checked before the properties of the body.
abbrev pub block_body_checks : PartChecks
block_body_checks place value = demanded place (holds (repeats_once value)) ++ object_checks block_property_checks place value

-- a name under a type, with a body
abbrev pub resource_checks : PropertyChecks
resource_checks = named_checks block_body_checks

-- a type under `resource`, with an object of names
abbrev pub type_checks : PropertyChecks
type_checks place type_name value = demanded place (a_type_name type_name) ++ object_checks resource_checks place value

-- ---- the whole file

-- At the top `//` is ignored, and four properties are objects.
abbrev pub checks_of_section : Section → PartChecks
checks_of_section sections.Comment place value = []
checks_of_section sections.Variables place value = object_checks variable_checks place value
checks_of_section sections.Locals place value = object_checks local_checks place value
checks_of_section sections.Outputs place value = object_checks output_checks place value
checks_of_section sections.Resources place value = object_checks type_checks place value
checks_of_section sections.Other place value = wrong place

abbrev pub section_checks : PropertyChecks
section_checks place name = checks_of_section (section_of name) place

-- the name of the whole file, as a place
abbrev pub whole_file : List (List ℕ)
whole_file = codes "configuration" ∷ []

-- The file is one object. The places of its properties are their names.
abbrev pub configuration_checks : Data → Checks
configuration_checks (object members) = each (below section_checks []) members
configuration_checks _ = wrong whole_file

-- ---- what a tree reads as

-- the value at the end of a path of names, from object to object
abbrev pub at_path : List (List ℕ) → Data → Option Data
at_path [] value = Some value
at_path (name ∷ names) value = option_and_then (at_path names) (get name value)

-- there is a value at the end of the path, and it reads as this
abbrev pub HasAt : {A : Type 0} → (Data → A → Type 0) → List (List ℕ) → Data → A → Type 0
HasAt ReadsAs path value read = (found : Data) × (at_path path value ≡ Some found) × ReadsAs found read

-- the property of this name reads as this; without such a property, this is the default
abbrev pub HasOr : {A : Type 0} → (Data → A → Type 0) → A → List ℕ → Data → A → Type 0
HasOr ReadsAs default name value read = MatchOption (get name value) (read ≡ default) (λ found. ReadsAs found read)

-- a list has exactly the items of which this holds, in strictly ascending order
pub record IsListOf {A : Type 0} (cmp : A → A → Ordering) (Is : A → Type 0) (items : List A) : Type 0 where
  pub order : IsStrictlySortedBy cmp items
  pub exact : (x : A) → Contains items x ↔ Is x

-- entries have exactly the names and expressions of which this holds, in strictly ascending byte order of the names
pub record AreEntriesOf (Is : List ℕ → Tree → Type 0) (entries : Entries) : Type 0 where
  pub order : IsStrictlySortedBy (slice_cmp nat_cmp) (names_in entries)
  pub exact : (name : List ℕ) (e : Tree) → (expr.get name entries ≡ Some e) ↔ Is name e

-- a value is this default: a literal
abbrev pub IsDefault : Data → Option values.Tree → Type 0
IsDefault value default = (t : values.Tree) × IsLiteral value t × (default ≡ Some t)

-- A variable's type is the one that `type` names, or `any`. Its default is the value at `default`, if there is one.
pub record IsVariable (body : Data) (v : VariableView) : Type 0 where
  pub value_type : HasOr NamesType (One Any) (codes "type") body v.value_type
  pub default : HasOr IsDefault None (codes "default") body v.default

-- A block has the instances that `count` or `for_each` says, or a single one.
abbrev pub IsRepetition : Data → RepetitionView → Type 0
IsRepetition body single = (get (codes "count") body ≡ None) × (get (codes "for_each") body ≡ None)
IsRepetition body (count e) = HasAt IsExpr (codes "count" ∷ []) body e
IsRepetition body (for_each e) = HasAt IsExpr (codes "for_each" ∷ []) body e

-- A `lifecycle` asks for what its properties say.
pub record IsLifecycle (value : Data) (l : LifecycleView) : Type 0 where
  pub create_before_destroy : HasOr IsFlag false (codes "create_before_destroy") value l.create_before_destroy
  pub prevent_destroy : HasOr IsFlag false (codes "prevent_destroy") value l.prevent_destroy
  pub ignore_changes : HasOr (SaysList IsNameText) [] (codes "ignore_changes") value l.ignore_changes

-- an argument is a property whose name has no meaning of its own
abbrev pub IsArgument : Data → List ℕ → Tree → Type 0
IsArgument body name e = (block_property_of name ≡ in_block.Argument) × HasAt IsExpr (name ∷ []) body e

-- A block's instances, dependencies, `lifecycle` and arguments are what the properties of its body say.
pub record IsBlock (body : Data) (b : BlockView) : Type 0 where
  pub repetition : IsRepetition body b.repetition
  pub depends_on : HasOr (SaysList IsAddressText) [] (codes "depends_on") body b.depends_on
  pub lifecycle : HasOr IsLifecycle plain_lifecycle (codes "lifecycle") body b.lifecycle
  pub arguments : AreEntriesOf (IsArgument body) b.arguments

-- the variable at `variable.NAME`
abbrev pub IsVariableOf : Data → VariableView → Type 0
IsVariableOf tree v = HasAt IsVariable (codes "variable" ∷ v.name ∷ []) tree v

-- the local at `locals.NAME`; `//` isn't a name
abbrev pub IsLocalOf : Data → List ℕ → Tree → Type 0
IsLocalOf tree name e = IsTrue (is_name name) × HasAt IsExpr (codes "locals" ∷ name ∷ []) tree e

-- the output at `output.NAME.value`
abbrev pub IsOutputOf : Data → List ℕ → Tree → Type 0
IsOutputOf tree name e = HasAt IsExpr (codes "output" ∷ name ∷ codes "value" ∷ []) tree e

-- the block at `resource.TYPE.NAME`
abbrev pub IsBlockOf : Data → BlockView → Type 0
IsBlockOf tree b = HasAt IsBlock (codes "resource" ∷ b.addr.type_name ∷ b.addr.name ∷ []) tree b

-- A tree reads as this configuration: the tree keeps the format, and the configuration has exactly the variables,
-- locals, outputs and blocks that are in the tree.
pub record IsConfiguration (tree : Data) (config : ConfigView) : Type 0 where
  pub checks : AreMet (configuration_checks tree)
  pub variables : IsListOf variable_cmp (IsVariableOf tree) config.variables
  pub locals : AreEntriesOf (IsLocalOf tree) config.locals
  pub outputs : AreEntriesOf (IsOutputOf tree) config.outputs
  pub blocks : IsListOf address_cmp (IsBlockOf tree) config.blocks
