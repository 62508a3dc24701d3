use Rattle.std.specs.Prelude.{option_map}
use Rattle.serde_json.specs.View.{view}
use Rattle.tf_config_json.proofs.Shown.{AreRead}
use Rattle.tf_config_json.proofs.values.read_values.Given as goal

-- the literals so far are read, and there are values, or a first variable without one
abbrev pub invariant-loop-name : goal.invariant-loop-name
invariant-loop-name l = AreRead (option_map (λ tree. view tree.now) l.fn.file) l.variables.entries l.name-iterator l.answer
