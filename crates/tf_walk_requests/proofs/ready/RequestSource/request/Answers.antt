-- the action gets its stage
use Rattle.std.proofs.Common.{◌∙◌, ap, map}
use Rattle.std.proofs.lemmas.List.{map-set}
use Rattle.std.specs.Prelude.{slice_set}
use Rattle.tf_walk_requests.specs.Stages.{requested, stage_of}
use Rattle.tf_walk_requests.specs.declared.stage.Stage.TheVariants.{Failed, Requested}
use Rattle.tf_walk_requests.proofs.ready.RequestSource.request.Goals as goal

pub returns-in_ok-copied-in-Some-clause-stages : goal.returns-in_ok-copied-in-Some-clause-stages
returns-in_ok-copied-in-Some-clause-stages g c =
    ap (map stage_of) c.set.ensures ∙ map-set stage_of c.args.stages.now c.args.action (Requested c.in_ok-copied-in-Some.copied) ∙ ap (λ q. slice_set (map stage_of c.args.stages.now) c.args.action (requested q)) c.in_ok-copied-in-Some.ensures

pub returns-in-None-clause-stages : goal.returns-in-None-clause-stages
returns-in-None-clause-stages g c = ap (map stage_of) c.set-in-None.ensures ∙ map-set stage_of c.args.stages.now c.args.action Failed
