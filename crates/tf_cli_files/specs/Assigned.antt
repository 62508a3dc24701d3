-- The line that is printed of a refused assignment.
use Rattle.std.specs.Prelude.{ℕ, List, [], ◌∷◌, ◌++◌, codes}
use Rattle.tf_cli_variables.specs.Values.{name_in}
use Rattle.tf_cli_variables.specs.declared.source.Cause.{Cause}
use Rattle.tf_cli_variables.specs.declared.source.Cause.TheVariants.{NotAFile, NoEqualsSign, Undeclared, NotJson}

-- what is printed after the name
abbrev pub said_of : Cause → List ℕ
said_of NoEqualsSign = codes " has no value: write NAME=VALUE"
said_of Undeclared = codes ": the configuration declares no such variable"
said_of NotJson = codes ": the value isn't JSON; only a variable of type string takes any text"
said_of NotAFile = codes ": not a variables file"

-- `error: --var NAME` and what is wrong. The value isn't in the line.
abbrev pub assignment_line : List ℕ → Cause → List ℕ
assignment_line text cause = codes "error: --var " ++ (name_in text ++ (said_of cause ++ 10 ∷ []))
