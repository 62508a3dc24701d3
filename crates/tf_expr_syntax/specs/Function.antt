-- Which functions an expression may call, and how many arguments each takes.
use Rattle.std.specs.Prelude.{ℕ, ◌==◌, Bool, nat_lt, if◌then◌else◌, List, codes, Option, Some, None}
use Rattle.std.specs.Str.{bytes_eq}
use Rattle.tf_expr_syntax.specs.declared.function.Function.{Function}
use Rattle.tf_expr_syntax.specs.declared.function.Function.TheVariants.{Length, Keys, Values, Merge, Concat, Join, ToSet}

-- the function of a name
abbrev pub function_named : List ℕ → Option Function
function_named name =
    if bytes_eq name (codes "length") then Some Length
    else (if bytes_eq name (codes "keys") then Some Keys
    else (if bytes_eq name (codes "values") then Some Values
    else (if bytes_eq name (codes "merge") then Some Merge
    else (if bytes_eq name (codes "concat") then Some Concat
    else (if bytes_eq name (codes "join") then Some Join
    else (if bytes_eq name (codes "toset") then Some ToSet
    else None))))))

-- A function takes one argument, `merge` and `concat` one or more, `join` two.
abbrev pub takes : Function → ℕ → Bool
takes Length n = n == 1
takes Keys n = n == 1
takes Values n = n == 1
takes Merge n = nat_lt 0 n
takes Concat n = nat_lt 0 n
takes Join n = n == 2
takes ToSet n = n == 1
