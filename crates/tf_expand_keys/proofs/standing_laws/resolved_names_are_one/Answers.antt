use Rattle.std.proofs.Common.{length}
use Rattle.tf_config_data.specs.Names.{directly_before}
use Rattle.tf_graph.proofs.Solving.{solution-unique, solution-exists}
use Rattle.tf_expand_keys.specs.Resolved.{rule}
use Rattle.tf_expand_keys.proofs.Places.{names_stay}
use Rattle.tf_expand_keys.proofs.standing_laws.resolved_names_are_one.Goals as goal

pub returns : goal.returns
returns c = record {
  one = λ stage variables names resolved_names others ranked s t n h.
      solution-unique (length names) (directly_before names) (rule stage variables names) resolved_names others ranked (names_stay names) s t n h;
  exist = λ stage variables names ranked. solution-exists (length names) (directly_before names) (rule stage variables names) ranked;
}
