-- When a text is refused as a configuration.
use Rattle.std.specs.Prelude.{◌≡◌, ◌⊎◌, ℕ, ◌<◌, ◌≤◌, List, length, Some, IsUtf8}
use Rattle.serde_json.specs.Data.{Data}
use Rattle.serde_json.specs.Read.{read}
use Rattle.tf_config_data.specs.Config.{ConfigView}
use Rattle.tf_config_refusal.specs.Place.{dotted}
use Rattle.tf_config_json.specs.Config.{names_in}
use Rattle.tf_config_json.specs.Configuration.{configuration_checks, whole_file, IsConfiguration}
use Rattle.tf_config_json.specs.Demand.{Refuses}
use Rattle.tf_config_refusal.specs.declared.code.Code.{Code}
use Rattle.tf_config_refusal.specs.declared.code.Code.TheVariants as code
use Rattle.tf_config_refusal.specs.Refusal.{bare, RefusalView, no_memory, workers, fault}

-- the text is UTF-8, and is this tree as `serde_json` reads it
abbrev pub IsTree : List ℕ → Data → Type 0
IsTree bytes tree = IsUtf8 bytes × (read bytes ≡ Some tree)

-- the largest size of a configuration, in bytes
abbrev pub max_bytes : ℕ
max_bytes = 4194304

-- the most variables, locals, outputs and resource blocks, of each, that a configuration may have
abbrev pub max_declared : ℕ
max_declared = 2000

-- none of these counts exceeds the limit
abbrev pub IsWithinCounts : ConfigView → Type 0
IsWithinCounts c =
    (length c.variables ≤ max_declared) × (length (names_in c.locals) ≤ max_declared) × (length (names_in c.outputs) ≤ max_declared) × (length c.blocks ≤ max_declared)

-- a bare fault at the whole file
abbrev pub whole_fault : Code → RefusalView
whole_fault code = fault code (dotted whole_file) bare

-- A file's text isn't a tree: 1, NotJson.
abbrev pub IsNotJsonAt : List (List ℕ) → List ℕ → RefusalView → Type 0
IsNotJsonAt file bytes refusal = ((tree : Data) → ¬ IsTree bytes tree) × (refusal ≡ fault code.NotJson (dotted file) bare)

-- The refusal reports that, or out of memory.
abbrev pub TellsNotJson : List (List ℕ) → List ℕ → RefusalView → Type 0
TellsNotJson file bytes no_memory = Unit {0}
TellsNotJson file bytes workers = ⊥
TellsNotJson file bytes (fault code place detail) = IsNotJsonAt file bytes (fault code place detail)

-- a configuration's text isn't a tree
abbrev pub IsNotJson : List ℕ → RefusalView → Type 0
IsNotJson = IsNotJsonAt whole_file

-- The text has a fault in its shape, and this is the first in walk order.
abbrev pub IsMisshapen : List ℕ → RefusalView → Type 0
IsMisshapen bytes refusal = (tree : Data) × IsTree bytes tree × Refuses (configuration_checks tree) refusal

-- The text reads as a configuration, and there are too many variables, locals, outputs or blocks: 14, Limit.
abbrev pub HasTooMany : List ℕ → RefusalView → Type 0
HasTooMany bytes refusal =
    (tree : Data) × IsTree bytes tree × (config : ConfigView) × IsConfiguration tree config × (¬ IsWithinCounts config) × (refusal ≡ whole_fault code.Limit)

-- The refusal of a text, in the order of the checks: it is too long (14), it isn't JSON, it has a fault in its shape,
-- or it has too much of something. Out of memory may be the refusal of any text.
abbrev pub IsRefused : List ℕ → RefusalView → Type 0
IsRefused bytes no_memory = Unit {0}
IsRefused bytes workers = ⊥
IsRefused bytes (fault which place detail) =
    let refusal = fault which place detail in
    ((max_bytes < length bytes) × (refusal ≡ whole_fault code.Limit))
    ⊎ ((length bytes ≤ max_bytes) × (IsNotJson bytes refusal ⊎ IsMisshapen bytes refusal ⊎ HasTooMany bytes refusal))
