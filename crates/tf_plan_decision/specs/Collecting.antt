-- The loops that collect actions and refusals: what is collected so far, with more. Only private functions say this. The
-- lists that they build are those of `decisions_on`.
use Rattle.std.specs.Prelude.{ℕ, ◌+◌, List, [], ◌∷◌, ◌++◌, map, Option, Some, None, Ok, Err}
use Rattle.tf_config_address.specs.ObjectId.{InstanceKeyView}
use Rattle.tf_plan_decision.specs.Deciding.{DecidedView, OfView, action, decisions_on}
use Rattle.tf_plan_decision.specs.Outcome.{OutcomeView}
use Rattle.tf_plan_decision.specs.Rows.{followed_by}
use Rattle.tf_plan_decision.specs.Settling.{SettledView}
use Rattle.tf_plan_decision.specs.Whole.{orphan_instances}
use Rattle.tf_plan_order.specs.Members.{InstanceToPlanView}
use Rattle.tf_plan_order.specs.ResourceIndex.{ResourceRefView, a_name, an_orphan}
use Rattle.tf_provider_protocol.specs.Meaning.{Meaning}

-- with the outcome of one more instance: its actions, or its refusal
abbrev pub with_outcome : OfView → ℕ → InstanceKeyView → OutcomeView → DecidedView → DecidedView
with_outcome of i key (Ok steps) d = record { actions = d.actions ++ map (action of i key) steps; refusals = d.refusals }
with_outcome of i key (Err why) d = record { actions = d.actions; refusals = d.refusals ++ record { addr = of.addr; key = key; why = why } ∷ [] }

-- with the outcomes of members, which are numbered in order from one number on
abbrev pub with_members : OfView → (InstanceToPlanView → OutcomeView) → ℕ → List InstanceToPlanView → DecidedView → DecidedView
with_members of becomes i [] d = d
with_members of becomes i (m ∷ ms) d = with_members of becomes (i + 1) ms (with_outcome of i m.key (becomes m) d)

-- with the outcomes of members of a resource
abbrev pub with_settled : OfView → List SettledView → DecidedView → DecidedView
with_settled of [] d = d
with_settled of (s ∷ ss) d = with_settled of ss (with_outcome of s.instance s.member.key s.outcome d)

-- with what is at one more place: the row of a name, or an orphan
abbrev pub with_row : List Meaning → (ℕ → DecidedView) → ℕ → Option ResourceRefView → DecidedView → DecidedView
with_row ms rows n None d = d
with_row ms rows n (Some (a_name name)) d = followed_by d (rows n)
with_row ms rows n (Some (an_orphan r)) d = followed_by d (decisions_on (orphan_instances ms n r))
