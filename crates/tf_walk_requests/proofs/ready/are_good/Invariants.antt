-- the actions passed ended well
use Rattle.std.proofs.Common.{◌≡◌, drop, map}
use Rattle.std.specs.List.{list_all}
use Rattle.tf_walk_requests.specs.Stages.{is_good_stage, stage_in, stage_of}
use Rattle.tf_walk_requests.proofs.ready.are_good.Given as goal

abbrev pub invariant-loop-action : goal.invariant-loop-action
invariant-loop-action l =
    list_all (λ n. is_good_stage (stage_in (map stage_of l.stages) n)) l.actions ≡ list_all (λ n. is_good_stage (stage_in (map stage_of l.stages) n)) (drop l.action-index l.actions)
