-- the places passed are those of resources
use Rattle.std.proofs.Common.{◌≡◌, drop}
use Rattle.std.specs.List.{list_all}
use Rattle.tf_config_data.specs.Names.{meant_at}
use Rattle.tf_config_names.specs.Table.{names_in}
use Rattle.tf_walk_names.specs.Resolving.{is_resource}
use Rattle.tf_walk_names.proofs.resources.are_resources.Given as goal

abbrev pub invariant-loop-place : goal.invariant-loop-place
invariant-loop-place l =
    list_all (λ n. is_resource (meant_at (names_in l.declared.names.now) n)) l.places
    ≡ list_all (λ n. is_resource (meant_at (names_in l.declared.names.now) n)) (drop l.place-index l.places)
