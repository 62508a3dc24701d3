-- What the walk adds, in each kind of object, has no fault.
use Rattle.std.proofs.Common.{ℕ, Bool, Option, None, Some, List, []}
use Rattle.serde_json.specs.Data.{Data, null, boolean, number, string, array, object}
use Rattle.tf_config_json.proofs.Fits.{IsStepSound, nothing_sound, wrong_sound, adds_sound, named_sound, part_sound, object_sound, list_fits}
use Rattle.tf_config_json.proofs.Found.{value_there}
use Rattle.tf_config_json.proofs.PartFits.{expression_fits, text_fits, flag_fits, type_fits, name_fits, address_fits, literal_fits}
use Rattle.tf_config_json.specs.Config.{VariableBody, plain_variable, variable_with, put_variable, Blocks, plain_lifecycle, BlockBody, plain_block, block_with, put_block, plain_config}
use Rattle.tf_config_json.specs.Building.{BuildsFrom, IsSound, AddsInVariable, AddsVariableProperty, BuildsVariable, AddsVariable, AddsInLocals, AddsLocal, AddsInOutput, AddsOutputProperty, BuildsOutput, AddsOutput, AddsInLifecycle, AddsLifecycleProperty, BuildsLifecycle, AddsInBlock, AddsBlockProperty, BuildsBlock, AddsResource, AddsType, AddsOfSection, AddsSection, BuildsConfiguration}
use Rattle.tf_config_json.specs.Configuration.{object_checks, checks_in_variable, variable_property_checks, variable_checks, checks_in_locals, local_checks, checks_in_output, output_property_checks, output_body_checks, output_checks, checks_in_lifecycle, lifecycle_property_checks, checks_in_block, block_property_checks, block_body_checks, resource_checks, type_checks, checks_of_section, section_checks, configuration_checks}
use Rattle.tf_config_json.specs.Demand.{AreMet}
use Rattle.tf_config_json.specs.Parts.{IsPartSound, expression_checks, text_checks, IsText, flag_checks, IsFlag, type_text_checks, NamesType, literal_checks, IsLiteral, array_checks, SaysList, name_checks, IsNameText, address_checks, IsAddressText}
use Rattle.tf_config_json.specs.Words.{section_of, variable_property_of, locals_property_of, output_property_of, block_property_of, lifecycle_property_of}
use Rattle.tf_config_json.specs.declared.words.BlockProperty.{BlockProperty}
use Rattle.tf_config_json.specs.declared.words.BlockProperty.TheVariants as in_block
use Rattle.tf_config_json.specs.declared.words.LifecycleProperty.{LifecycleProperty}
use Rattle.tf_config_json.specs.declared.words.LifecycleProperty.TheVariants as in_lifecycle
use Rattle.tf_config_json.specs.declared.words.LocalsProperty.{LocalsProperty}
use Rattle.tf_config_json.specs.declared.words.LocalsProperty.TheVariants as in_locals
use Rattle.tf_config_json.specs.declared.words.OutputProperty.{OutputProperty}
use Rattle.tf_config_json.specs.declared.words.OutputProperty.TheVariants as in_output
use Rattle.tf_config_json.specs.declared.words.Section.{Section}
use Rattle.tf_config_json.specs.declared.words.Section.TheVariants as sections
use Rattle.tf_config_json.specs.declared.words.VariableProperty.{VariableProperty}
use Rattle.tf_config_json.specs.declared.words.VariableProperty.TheVariants as in_variable
use Rattle.tf_config_data.specs.Config.{VariableView, count, for_each, LifecycleView, ConfigView}
use Rattle.tf_config_data.specs.declared.variable.VariableType.{VariableType}
use Rattle.tf_config_address.specs.ResourceAddr.{ResourceAddrView}
use Rattle.tf_expr_json.specs.Reading.{IsExpr}
use Rattle.tf_expr_syntax.specs.ExprTree.{Tree, Entries, put}
use Rattle.tf_value_data.specs.Tree as values

-- ---- variables

in_variable_sound : (p : VariableProperty) → IsStepSound VariableBody (checks_in_variable p) (AddsInVariable p)
in_variable_sound in_variable.Comment = nothing_sound VariableBody
in_variable_sound in_variable.Type = adds_sound VariableType VariableBody type_text_checks NamesType (λ b t. record b { value_type = t }) type_fits.met
in_variable_sound in_variable.Default = adds_sound values.Tree VariableBody literal_checks IsLiteral (λ b t. record b { default = Some t }) literal_fits.met
in_variable_sound in_variable.Description = adds_sound (List ℕ) VariableBody text_checks IsText (λ b text. b) text_fits.met
in_variable_sound in_variable.Other = wrong_sound VariableBody

pub variable_properties_sound : IsSound AddsVariableProperty variable_property_checks
variable_properties_sound k = in_variable_sound (variable_property_of k)

variable_body_sound : IsPartSound BuildsVariable (object_checks variable_property_checks)
variable_body_sound place d body h = object_sound VariableBody variable_property_checks AddsVariableProperty variable_properties_sound place d plain_variable body h

pub variables_sound : IsSound AddsVariable variable_checks
variables_sound k =
    named_sound VariableBody (List VariableView) (object_checks variable_property_checks) BuildsVariable k (λ vs body. put_variable (variable_with k body) vs) variable_body_sound

-- ---- locals

in_locals_sound : (p : LocalsProperty) (k : List ℕ) → IsStepSound Entries (λ place. checks_in_locals p place k) (AddsInLocals p k)
in_locals_sound in_locals.Comment k = nothing_sound Entries
in_locals_sound in_locals.Local k = named_sound Tree Entries expression_checks IsExpr k (λ es e. put k e es) expression_fits.met

pub locals_sound : IsSound AddsLocal local_checks
locals_sound k = in_locals_sound (locals_property_of k) k

-- ---- outputs

in_output_sound : (p : OutputProperty) → IsStepSound (Option Tree) (checks_in_output p) (AddsInOutput p)
in_output_sound in_output.Comment = nothing_sound (Option Tree)
in_output_sound in_output.Value = adds_sound Tree (Option Tree) expression_checks IsExpr (λ o e. Some e) expression_fits.met
in_output_sound in_output.Description = adds_sound (List ℕ) (Option Tree) text_checks IsText (λ o text. o) text_fits.met
in_output_sound in_output.Other = wrong_sound (Option Tree)

pub output_properties_sound : IsSound AddsOutputProperty output_property_checks
output_properties_sound k = in_output_sound (output_property_of k)

output_body_sound : IsPartSound BuildsOutput output_body_checks
output_body_sound place d e h = (value_there d e h, object_sound (Option Tree) output_property_checks AddsOutputProperty output_properties_sound place d None (Some e) h)

pub outputs_sound : IsSound AddsOutput output_checks
outputs_sound k = named_sound Tree Entries output_body_checks BuildsOutput k (λ es e. put k e es) output_body_sound

-- ---- resources

in_lifecycle_sound : (p : LifecycleProperty) → IsStepSound LifecycleView (checks_in_lifecycle p) (AddsInLifecycle p)
in_lifecycle_sound in_lifecycle.Comment = nothing_sound LifecycleView
in_lifecycle_sound in_lifecycle.CreateBeforeDestroy = adds_sound Bool LifecycleView flag_checks IsFlag (λ l flag. record l { create_before_destroy = flag }) flag_fits.met
in_lifecycle_sound in_lifecycle.PreventDestroy = adds_sound Bool LifecycleView flag_checks IsFlag (λ l flag. record l { prevent_destroy = flag }) flag_fits.met
in_lifecycle_sound in_lifecycle.IgnoreChanges =
    adds_sound (List (List ℕ)) LifecycleView (array_checks name_checks) (SaysList IsNameText) (λ l names. record l { ignore_changes = names }) (list_fits (List ℕ) name_checks IsNameText name_fits).met
in_lifecycle_sound in_lifecycle.Other = wrong_sound LifecycleView

pub lifecycle_properties_sound : IsSound AddsLifecycleProperty lifecycle_property_checks
lifecycle_properties_sound k = in_lifecycle_sound (lifecycle_property_of k)

lifecycle_sound : IsPartSound BuildsLifecycle (object_checks lifecycle_property_checks)
lifecycle_sound place d l h = object_sound LifecycleView lifecycle_property_checks AddsLifecycleProperty lifecycle_properties_sound place d plain_lifecycle l h

in_block_sound : (p : BlockProperty) (k : List ℕ) → IsStepSound BlockBody (λ place. checks_in_block p place k) (AddsInBlock p k)
in_block_sound in_block.Comment k = nothing_sound BlockBody
in_block_sound in_block.Count k = adds_sound Tree BlockBody expression_checks IsExpr (λ b e. record b { repetition = count e }) expression_fits.met
in_block_sound in_block.ForEach k = adds_sound Tree BlockBody expression_checks IsExpr (λ b e. record b { repetition = for_each e }) expression_fits.met
in_block_sound in_block.DependsOn k =
    adds_sound (List ResourceAddrView) BlockBody (array_checks address_checks) (SaysList IsAddressText) (λ b addrs. record b { depends_on = addrs }) (list_fits ResourceAddrView address_checks IsAddressText address_fits).met
in_block_sound in_block.Lifecycle k = adds_sound LifecycleView BlockBody (object_checks lifecycle_property_checks) BuildsLifecycle (λ b l. record b { lifecycle = l }) lifecycle_sound
in_block_sound in_block.Refused k = wrong_sound BlockBody
in_block_sound in_block.Argument k = named_sound Tree BlockBody expression_checks IsExpr k (λ b e. record b { arguments = put k e b.arguments }) expression_fits.met

pub block_properties_sound : IsSound AddsBlockProperty block_property_checks
block_properties_sound k = in_block_sound (block_property_of k) k

block_body_sound : IsPartSound BuildsBlock block_body_checks
block_body_sound place d body h = (h.0, object_sound BlockBody block_property_checks AddsBlockProperty block_properties_sound place d plain_block body h.1)

pub resources_sound : (type_name : List ℕ) → IsSound (AddsResource type_name) resource_checks
resources_sound type_name k =
    named_sound BlockBody Blocks block_body_checks BuildsBlock k (λ bs body. put_block (block_with (record { type_name = type_name; name = k }) body) bs) block_body_sound

pub types_sound : IsSound AddsType type_checks
types_sound k place d a b h = (h.0, object_sound Blocks resource_checks (AddsResource k) (resources_sound k) place d a b h.1)

-- ---- the whole file

of_section_sound : (s : Section) → IsStepSound ConfigView (checks_of_section s) (AddsOfSection s)
of_section_sound sections.Comment = nothing_sound ConfigView
of_section_sound sections.Variables =
    part_sound (List VariableView) ConfigView (object_checks variable_checks) (BuildsFrom AddsVariable) (λ c. c.variables) (λ c vs. record c { variables = vs })
    (object_sound (List VariableView) variable_checks AddsVariable variables_sound)
of_section_sound sections.Locals =
    part_sound Entries ConfigView (object_checks local_checks) (BuildsFrom AddsLocal) (λ c. c.locals) (λ c es. record c { locals = es }) (object_sound Entries local_checks AddsLocal locals_sound)
of_section_sound sections.Outputs =
    part_sound Entries ConfigView (object_checks output_checks) (BuildsFrom AddsOutput) (λ c. c.outputs) (λ c es. record c { outputs = es }) (object_sound Entries output_checks AddsOutput outputs_sound)
of_section_sound sections.Resources =
    part_sound Blocks ConfigView (object_checks type_checks) (BuildsFrom AddsType) (λ c. c.blocks) (λ c bs. record c { blocks = bs }) (object_sound Blocks type_checks AddsType types_sound)
of_section_sound sections.Other = wrong_sound ConfigView

pub sections_sound : IsSound AddsSection section_checks
sections_sound k = of_section_sound (section_of k)

-- the checks of a tree from which a configuration is built are met
pub configuration_met : (tree : Data) (config : ConfigView) → BuildsConfiguration tree config → AreMet (configuration_checks tree)
configuration_met null config h = absurd h
configuration_met (boolean x) config h = absurd h
configuration_met (number x) config h = absurd h
configuration_met (string x) config h = absurd h
configuration_met (array x) config h = absurd h
configuration_met (object ms) config h = object_sound ConfigView section_checks AddsSection sections_sound [] (object ms) plain_config config h
