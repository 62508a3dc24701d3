use Rattle.tf_laws.proofs.AppliedCalls.{calls_as_planned}
use Rattle.tf_laws.proofs.RequestedAsPlanned.{Laws, requests_as_planned}
use Rattle.tf_laws.proofs.requests.requests_are_as_planned.Goals as goal

pub returns : goal.returns
returns c =
    let laws : Laws = record { refine = c.requests_grow.ensures.refine; known = c.requests_grow.ensures.known; planned = c.planned_objects_are_asked.ensures } in
    record { requests = requests_as_planned laws; calls = calls_as_planned laws }
