-- How the walk over a tree builds a configuration, member after member. The contracts of the functions that read it cite
-- these definitions. What a tree reads as is defined in `Configuration`, without the walk.
use Rattle.std.specs.Prelude.{◌≡◌, ℕ, Option, Some, None, List, IsTrue}
use Rattle.serde_json.specs.Data.{Data, object}
use Rattle.tf_config_address.specs.Name.{is_name}
use Rattle.tf_config_data.specs.Config.{VariableView, count, for_each, LifecycleView, ConfigView}
use Rattle.tf_expr_json.specs.Reading.{IsExpr}
use Rattle.tf_config_refusal.specs.Walk.{Builds}
use Rattle.tf_expr_syntax.specs.ExprTree.{Tree, Entries, put}
use Rattle.tf_config_json.specs.Config.{VariableBody, plain_variable, variable_with, put_variable, Blocks, plain_lifecycle, BlockBody, plain_block, block_with, put_block, plain_config}
use Rattle.tf_config_json.specs.Configuration.{PropertyChecks, repeats_once}
use Rattle.tf_config_json.specs.Demand.{AreMet}
use Rattle.tf_config_json.specs.Parts.{IsText, IsFlag, NamesType, IsLiteral, SaysList, IsNameText, IsAddressText}
use Rattle.tf_config_json.specs.Words.{section_of, variable_property_of, locals_property_of, output_property_of, block_property_of, lifecycle_property_of, is_type_name}
use Rattle.tf_config_json.specs.declared.words.BlockProperty.{BlockProperty}
use Rattle.tf_config_json.specs.declared.words.BlockProperty.TheVariants as in_block
use Rattle.tf_config_json.specs.declared.words.LifecycleProperty.{LifecycleProperty}
use Rattle.tf_config_json.specs.declared.words.LifecycleProperty.TheVariants as in_lifecycle
use Rattle.tf_config_json.specs.declared.words.LocalsProperty.{LocalsProperty}
use Rattle.tf_config_json.specs.declared.words.LocalsProperty.TheVariants as in_locals
use Rattle.tf_config_json.specs.declared.words.OutputProperty.{OutputProperty}
use Rattle.tf_config_json.specs.declared.words.OutputProperty.TheVariants as in_output
use Rattle.tf_config_json.specs.declared.words.Section.{Section}
use Rattle.tf_config_json.specs.declared.words.Section.TheVariants as sections
use Rattle.tf_config_json.specs.declared.words.VariableProperty.{VariableProperty}
use Rattle.tf_config_json.specs.declared.words.VariableProperty.TheVariants as in_variable

-- ---- objects

-- the members of an object, one after another, lead from before to after
abbrev pub BuildsFrom : {B : Type 0} → (List ℕ → Data → B → B → Type 0) → Data → B → B → Type 0
BuildsFrom Adds (object members) before after = Builds Adds members before after
BuildsFrom Adds _ before after = ⊥

-- A member that adds what it says has no fault.
abbrev pub IsSound : {B : Type 0} → (List ℕ → Data → B → B → Type 0) → PropertyChecks → Type 0
IsSound {B} Adds checks = (name : List ℕ) (place : List (List ℕ)) (value : Data) (before after : B) → Adds name value before after → AreMet (checks place name value)

-- What a property says is combined with what was said before it.
abbrev pub Adds : {A B : Type 0} → (Data → A → Type 0) → Data → (A → B) → B → Type 0
Adds {A} Says value with after = (said : A) × Says value said × (with said ≡ after)

abbrev pub AddsNamed : {A B : Type 0} → (Data → A → Type 0) → List ℕ → Data → (A → B) → B → Type 0
AddsNamed Says name value with after = IsTrue (is_name name) × Adds Says value with after

-- ---- variables

abbrev pub AddsInVariable : VariableProperty → Data → VariableBody → VariableBody → Type 0
AddsInVariable in_variable.Comment value before after = before ≡ after
AddsInVariable in_variable.Type value before after = Adds NamesType value (λ t. record before { value_type = t }) after
AddsInVariable in_variable.Default value before after = Adds IsLiteral value (λ t. record before { default = Some t }) after
AddsInVariable in_variable.Description value before after = Adds IsText value (λ text. before) after
AddsInVariable in_variable.Other value before after = ⊥

abbrev pub AddsVariableProperty : List ℕ → Data → VariableBody → VariableBody → Type 0
AddsVariableProperty name = AddsInVariable (variable_property_of name)

-- the properties of a body build its contents
abbrev pub BuildsVariable : Data → VariableBody → Type 0
BuildsVariable value body = BuildsFrom AddsVariableProperty value plain_variable body

abbrev pub AddsVariable : List ℕ → Data → List VariableView → List VariableView → Type 0
AddsVariable name value before after = AddsNamed BuildsVariable name value (λ body. put_variable (variable_with name body) before) after

-- ---- locals

abbrev pub AddsInLocals : LocalsProperty → List ℕ → Data → Entries → Entries → Type 0
AddsInLocals in_locals.Comment name value before after = before ≡ after
AddsInLocals in_locals.Local name value before after = AddsNamed IsExpr name value (λ e. put name e before) after

abbrev pub AddsLocal : List ℕ → Data → Entries → Entries → Type 0
AddsLocal name = AddsInLocals (locals_property_of name) name

-- ---- outputs

abbrev pub AddsInOutput : OutputProperty → Data → Option Tree → Option Tree → Type 0
AddsInOutput in_output.Comment value before after = before ≡ after
AddsInOutput in_output.Value value before after = Adds IsExpr value (λ e. Some e) after
AddsInOutput in_output.Description value before after = Adds IsText value (λ text. before) after
AddsInOutput in_output.Other value before after = ⊥

abbrev pub AddsOutputProperty : List ℕ → Data → Option Tree → Option Tree → Type 0
AddsOutputProperty name = AddsInOutput (output_property_of name)

abbrev pub BuildsOutput : Data → Tree → Type 0
BuildsOutput value e = BuildsFrom AddsOutputProperty value None (Some e)

abbrev pub AddsOutput : List ℕ → Data → Entries → Entries → Type 0
AddsOutput name value before after = AddsNamed BuildsOutput name value (λ e. put name e before) after

-- ---- resources

abbrev pub AddsInLifecycle : LifecycleProperty → Data → LifecycleView → LifecycleView → Type 0
AddsInLifecycle in_lifecycle.Comment value before after = before ≡ after
AddsInLifecycle in_lifecycle.CreateBeforeDestroy value before after = Adds IsFlag value (λ flag. record before { create_before_destroy = flag }) after
AddsInLifecycle in_lifecycle.PreventDestroy value before after = Adds IsFlag value (λ flag. record before { prevent_destroy = flag }) after
AddsInLifecycle in_lifecycle.IgnoreChanges value before after = Adds (SaysList IsNameText) value (λ names. record before { ignore_changes = names }) after
AddsInLifecycle in_lifecycle.Other value before after = ⊥

abbrev pub AddsLifecycleProperty : List ℕ → Data → LifecycleView → LifecycleView → Type 0
AddsLifecycleProperty name = AddsInLifecycle (lifecycle_property_of name)

abbrev pub BuildsLifecycle : Data → LifecycleView → Type 0
BuildsLifecycle value lifecycle = BuildsFrom AddsLifecycleProperty value plain_lifecycle lifecycle

abbrev pub AddsInBlock : BlockProperty → List ℕ → Data → BlockBody → BlockBody → Type 0
AddsInBlock in_block.Comment name value before after = before ≡ after
AddsInBlock in_block.Count name value before after = Adds IsExpr value (λ e. record before { repetition = count e }) after
AddsInBlock in_block.ForEach name value before after = Adds IsExpr value (λ e. record before { repetition = for_each e }) after
AddsInBlock in_block.DependsOn name value before after = Adds (SaysList IsAddressText) value (λ addrs. record before { depends_on = addrs }) after
AddsInBlock in_block.Lifecycle name value before after = Adds BuildsLifecycle value (λ lifecycle. record before { lifecycle = lifecycle }) after
AddsInBlock in_block.Refused name value before after = ⊥
AddsInBlock in_block.Argument name value before after = AddsNamed IsExpr name value (λ e. record before { arguments = put name e before.arguments }) after

abbrev pub AddsBlockProperty : List ℕ → Data → BlockBody → BlockBody → Type 0
AddsBlockProperty name = AddsInBlock (block_property_of name) name

abbrev pub BuildsBlock : Data → BlockBody → Type 0
BuildsBlock value body = IsTrue (repeats_once value) × BuildsFrom AddsBlockProperty value plain_block body

abbrev pub AddsResource : List ℕ → List ℕ → Data → Blocks → Blocks → Type 0
AddsResource type_name name value before after =
    AddsNamed BuildsBlock name value (λ body. put_block (block_with (record { type_name = type_name; name = name }) body) before) after

abbrev pub AddsType : List ℕ → Data → Blocks → Blocks → Type 0
AddsType type_name value before after = IsTrue (is_type_name type_name) × BuildsFrom (AddsResource type_name) value before after

-- ---- the whole file

-- a section adds what its members add, and `//` adds nothing
abbrev pub AddsOfSection : Section → Data → ConfigView → ConfigView → Type 0
AddsOfSection sections.Comment value before after = before ≡ after
AddsOfSection sections.Variables value before after = Adds (λ d. BuildsFrom AddsVariable d before.variables) value (λ vs. record before { variables = vs }) after
AddsOfSection sections.Locals value before after = Adds (λ d. BuildsFrom AddsLocal d before.locals) value (λ es. record before { locals = es }) after
AddsOfSection sections.Outputs value before after = Adds (λ d. BuildsFrom AddsOutput d before.outputs) value (λ es. record before { outputs = es }) after
AddsOfSection sections.Resources value before after = Adds (λ d. BuildsFrom AddsType d before.blocks) value (λ bs. record before { blocks = bs }) after
AddsOfSection sections.Other value before after = ⊥

abbrev pub AddsSection : List ℕ → Data → ConfigView → ConfigView → Type 0
AddsSection name = AddsOfSection (section_of name)

-- the sections of a tree build this configuration
abbrev pub BuildsConfiguration : Data → ConfigView → Type 0
BuildsConfiguration tree config = BuildsFrom AddsSection tree plain_config config
