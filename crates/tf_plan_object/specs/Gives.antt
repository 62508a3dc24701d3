-- The result of a call that allocates, compared with what is planned.
use Rattle.std.specs.Prelude.{◌≡◌, Result, Ok, Err}
use Rattle.tf_plan_object.specs.declared.argument.ArgumentFault.{ArgumentFault}
use Rattle.tf_plan_object.specs.declared.argument.ValueFault.{ValueFault}
use Rattle.tf_plan_object.specs.declared.argument.ValueFault.TheVariants.{OutOfMemory, Argument}

-- the fault is the planned one, or memory ran out
abbrev pub Fails : {Y : Type 0} → ValueFault → Result Y ArgumentFault → Type 0
Fails OutOfMemory planned = Unit {0}
Fails (Argument fault) planned = planned ≡ Err fault

-- the result, as plain data, is what is planned, or memory ran out
abbrev pub Gives : {X Y : Type 0} → (X → Y) → Result X ValueFault → Result Y ArgumentFault → Type 0
Gives view (Ok x) planned = planned ≡ Ok (view x)
Gives view (Err e) planned = Fails e planned
