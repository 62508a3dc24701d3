-- The codes of refusals and diagnostics: the number and the name of each.
use Rattle.std.specs.Prelude.{ℕ, List, codes}
use Rattle.tf_config_refusal.specs.declared.code.Code.{Code}
use Rattle.tf_config_refusal.specs.declared.code.Code.TheVariants as code

-- Refusals have the numbers 1 to 15, diagnostics of actions and outputs those from 21 on.
abbrev pub row_of : Code → ℕ × List ℕ
row_of code.NotJson = (1, codes "NotJson")
row_of code.BadShape = (2, codes "BadShape")
row_of code.BadTemplate = (3, codes "BadTemplate")
row_of code.UnknownName = (4, codes "UnknownName")
row_of code.Cycle = (5, codes "Cycle")
row_of code.BadCount = (6, codes "BadCount")
row_of code.BadForEach = (7, codes "BadForEach")
row_of code.UnknownInstances = (8, codes "UnknownInstances")
row_of code.Evaluate = (9, codes "Evaluate")
row_of code.BadArgument = (10, codes "BadArgument")
row_of code.NoProvider = (11, codes "NoProvider")
row_of code.PreventDestroy = (12, codes "PreventDestroy")
row_of code.BadState = (13, codes "BadState")
row_of code.Limit = (14, codes "Limit")
row_of code.OutOfMemory = (15, codes "OutOfMemory")
row_of code.Failed = (21, codes "Failed")
row_of code.Contradiction = (22, codes "Contradiction")
row_of code.Malformed = (23, codes "Malformed")
row_of code.ArgumentFault = (24, codes "ArgumentFault")
row_of code.NoMemory = (26, codes "NoMemory")
row_of code.Left = (27, codes "Left")

-- the number that a code has in its line
abbrev pub number_of : Code → ℕ
number_of c = (row_of c).0

-- the name that a refusal has in its line
abbrev pub name_of : Code → List ℕ
name_of c = (row_of c).1
