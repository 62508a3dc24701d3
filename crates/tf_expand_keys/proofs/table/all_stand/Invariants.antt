use Rattle.std.proofs.Common.{◌≡◌, drop}
use Rattle.tf_graph.specs.Solutions.{seen_by}
use Rattle.tf_expand_keys.specs.Resolved.{all_stand}
use Rattle.tf_expand_keys.specs.Views.{resolved_names_of}
use Rattle.tf_expand_keys.proofs.table.all_stand.Given as goal

-- what is left to look at decides
abbrev pub invariant-loop-place : goal.invariant-loop-place
invariant-loop-place l = all_stand (seen_by (resolved_names_of l.kept) l.places) ≡ all_stand (seen_by (resolved_names_of l.kept) (drop l.place-index l.places))
