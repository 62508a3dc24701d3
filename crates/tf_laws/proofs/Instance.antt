-- The instance that an action makes or changes, and what is decided about it.
use Rattle.std.proofs.Common.{◌≡◌, ◌∙◌, ℕ, true, Some, Contains, refl, sym, ap}
use Rattle.tf_plan_data.specs.Action.{ActionView}
use Rattle.tf_config_data.specs.Config.{BlockView}
use Rattle.tf_config_data.specs.Names.{a_block, meant_at}
use Rattle.tf_laws.proofs.Declared.{IsPlannedAt, apply_declared, keys_at, planned_at, records_in}
use Rattle.tf_plan_decision.specs.Steps.{decided_steps}
use Rattle.tf_plan_order.specs.Members.{is_among}
use Rattle.tf_plan_data.specs.Fits.{is_apply}
use Rattle.tf_plan_data.specs.Plan.{plan_names}
use Rattle.tf_laws.proofs.PlannedParts.{Made, setting}

pub record IsOfInstance (x : Made) (a : ActionView) : Type 0 where
  pub block : BlockView
  pub meant : meant_at (plan_names x.plan) a.resource ≡ Some (a_block block)
  pub own : block.addr ≡ a.addr
  pub among : is_among (keys_at (setting x) a.resource) a.key ≡ true
  pub by_plan : IsPlannedAt (setting x) a.resource block a.key
  pub step : Contains (decided_steps (records_in (setting x) block a.key) by_plan.decision) a.step

pub of_instance : (x : Made) (a : ActionView) → Contains x.plan.actions a → is_apply a.step ≡ true → IsOfInstance x a
of_instance x a c applies =
    let d = apply_declared (setting x) a c applies in
    let at = planned_at (setting x) d.n d.block a.key d.meant d.among in
    let resource : a.resource ≡ d.n = (at.only a c (sym d.own) refl).1.resource in
    let meant : meant_at (plan_names x.plan) a.resource ≡ Some (a_block d.block) = ap (meant_at (plan_names x.plan)) resource ∙ d.meant in
    let among : is_among (keys_at (setting x) a.resource) a.key ≡ true = ap (λ (n : ℕ). is_among (keys_at (setting x) n) a.key) resource ∙ d.among in
    let own = planned_at (setting x) a.resource d.block a.key meant among in
    record { block = d.block; meant = meant; own = d.own; among = among; by_plan = own; step = (own.only a c (sym d.own) refl).0 }
