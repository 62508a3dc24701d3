-- What holds of all configurations and refusals.
use Rattle.std.specs.Prelude.{◌≡◌, ◌⊎◌, ℕ, ◌≤◌, true, List, length}
use Rattle.std.specs.List.{AllByRecursion}
use Rattle.std.specs.List.Sorted.{IsStrictlySortedBy}
use Rattle.serde_json.specs.Data.{Data}
use Rattle.tf_expr_json.specs.Demand as expr
use Rattle.tf_expr_json.specs.Spelling.{SpellsTemplate}
use Rattle.tf_expr_syntax.specs.TemplateTree.{Woven}
use Rattle.tf_config_refusal.specs.Check.{IsFirst}
use Rattle.tf_config_address.specs.Name.{is_name}
use Rattle.tf_config_json.specs.Config.{address_cmp}
use Rattle.tf_config_data.specs.Config.{BlockView, ConfigView}
use Rattle.tf_config_data.specs.Names.{names_of}
use Rattle.tf_config_json.specs.Configuration.{configuration_checks, IsConfiguration}
use Rattle.tf_config_json.specs.Demand.{Demand, of_expression, AreMet, IsMet}
use Rattle.tf_expr_json.specs.Refusing.{bad_template, too_deep}
use Rattle.tf_config_json.specs.Reading.{IsTree, IsRefused, max_bytes, IsWithinCounts}
use Rattle.tf_config_refusal.specs.declared.code.Code.{Code}
use Rattle.tf_config_refusal.specs.Refusal.{DetailView, fault, Way}

-- All checks of a tree that reads as a configuration are met.
abbrev pub StandingIsFaultless : Type 0
StandingIsFaultless = (tree : Data) (config : ConfigView) → IsConfiguration tree config → AreMet (configuration_checks tree)

-- A tree whose checks are all met reads as a configuration.
abbrev pub FaultlessStands : Type 0
FaultlessStands = (tree : Data) → AreMet (configuration_checks tree) → (config : ConfigView) × IsConfiguration tree config

-- A tree reads as at most one configuration.
abbrev pub StandsForOne : Type 0
StandsForOne = (tree : Data) (config other : ConfigView) → IsConfiguration tree config → IsConfiguration tree other → config ≡ other

-- Blocks are in address order, each address once.
abbrev pub BlocksAreInOrder : Type 0
BlocksAreInOrder = (tree : Data) (config : ConfigView) → IsConfiguration tree config → IsStrictlySortedBy address_cmp config.blocks

-- a block's address consists of names
abbrev pub HasNames : BlockView → Type 0
HasNames b = (is_name b.addr.type_name ≡ true) × (is_name b.addr.name ≡ true)

-- The address of each block consists of names.
abbrev pub BlocksHaveNames : Type 0
BlocksHaveNames = (tree : Data) (config : ConfigView) → IsConfiguration tree config → AllByRecursion HasNames config.blocks

-- Within the counts a configuration has 8,000 names at most.
abbrev pub NamesAreFew : Type 0
NamesAreFew = (config : ConfigView) → IsWithinCounts config → length (names_of config) ≤ 8000

-- the demand is for a template, and its text spells no template, however deep
abbrev pub SpellsNone : Demand → Unit {0} → Type 0
SpellsNone (of_expression (expr.a_template text)) _ = (w : Woven) → ¬ SpellsTemplate w text
SpellsNone _ _ = ⊥

-- The first fault of a text is at a place at which a template is demanded and its text spells no template.
abbrev pub IsUnspelled : List ℕ → List ℕ → Type 0
IsUnspelled bytes place = (tree : Data) × IsTree bytes tree × IsFirst IsMet SpellsNone place tt (configuration_checks tree)

-- the code and detail for a text that isn't a template: 3 with an offset, or 14
abbrev pub IsTemplateWay : Way → Type 0
IsTemplateWay way = ((offset : ℕ) × (way ≡ bad_template offset)) ⊎ (way ≡ too_deep)

-- A text has at most one refusal. If its first fault is a text that spells no template, the refusal is at that place,
-- and is 3 with some offset or 14.
abbrev pub RefusedOnce : Type 0
RefusedOnce = (bytes : List ℕ) (code code' : Code) (place place' : List ℕ) (detail detail' : DetailView)
    → IsRefused bytes (fault code place detail) → IsRefused bytes (fault code' place' detail')
    → (place ≡ place') × ((fault code place detail ≡ fault code' place' detail') ⊎ (IsUnspelled bytes place × IsTemplateWay (code, detail) × IsTemplateWay (code', detail')))

-- A text with a fault isn't a configuration within the limits.
abbrev pub RefusedIsNotRead : Type 0
RefusedIsNotRead = (bytes : List ℕ) (code : Code) (place : List ℕ) (detail : DetailView) (tree : Data) (config : ConfigView) → IsRefused bytes (fault code place detail)
    → length bytes ≤ max_bytes → IsTree bytes tree → IsConfiguration tree config → IsWithinCounts config → ⊥
