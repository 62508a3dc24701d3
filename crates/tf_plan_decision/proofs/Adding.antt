-- What an orphan adds is the actions and the refusals of its instances.
use Rattle.std.proofs.Common.{◌≡◌, ℕ, List, Option, Result, Ok, Err, OnOk, ap, ap₂, ◌∙◌}
use Rattle.tf_config_address.specs.ResourceAddr.{ResourceAddrView}
use Rattle.tf_plan_decision.proofs.Appending.{members_collected}
use Rattle.tf_plan_decision.specs.Collecting.{with_members}
use Rattle.tf_plan_decision.specs.Deciding.{DecidedView, OfView, decisions_on, instance_outcomes, version_of}
use Rattle.tf_plan_decision.specs.Outcome.{orphan_outcome}
use Rattle.tf_plan_decision.specs.Rows.{followed_by}
use Rattle.tf_plan_order.specs.Members.{InstanceToPlanView}
use Rattle.tf_provider_protocol.specs.Schema.{SchemaView}

module _ (n : ℕ) (own addr : ResourceAddrView) (version : ℕ) (schema found : Option SchemaView) (named : own ≡ addr) (versioned : version ≡ version_of schema) (same : schema ≡ found) where
  as_named : ◌≡◌ {A = OfView} (record { resource = n; addr = own; version = version }) (record { resource = n; addr = addr; version = version_of found })
  as_named = let v = versioned ∙ ap version_of same in (λ i. record { resource = n; addr = named i; version = v i })

  pub orphan_added : {E : Type 0} (result : Result (Unit {0}) E) (new old : DecidedView) (ms ns : List InstanceToPlanView) → ms ≡ ns
      → OnOk result (new ≡ with_members (record { resource = n; addr = own; version = version }) (orphan_outcome schema) 0 ms old)
      → OnOk result (new ≡ followed_by old (decisions_on (instance_outcomes (record { resource = n; addr = addr; version = version_of found }) (orphan_outcome found) ns)))
  orphan_added (Ok u) new old ms ns e h =
      h ∙ (ap (λ of. with_members of (orphan_outcome schema) 0 ms old) as_named ∙ ap₂ (λ s xs. with_members (record { resource = n; addr = addr; version = version_of found }) (orphan_outcome s) 0 xs old) same e)
      ∙ members_collected (record { resource = n; addr = addr; version = version_of found }) (orphan_outcome found) ns old
  orphan_added (Err why) new old ms ns e h = h
