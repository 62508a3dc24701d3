use Rattle.std.proofs.Common.{string_bytes}
use Rattle.tf_config_names.proofs.Tests.{RestsOn}
use Rattle.tf_config_names.specs.KnownNames.{is_function}
use Rattle.tf_config_names.proofs.known_names.are_functions.Given as goal

abbrev pub invariant-loop-name : goal.invariant-loop-name
invariant-loop-name l = RestsOn is_function (λ name. string_bytes name.now) l.names l.name-index
