use Rattle.std.proofs.Common.{◌≡◌, ℕ, List, sym, subst}
use Rattle.tf_state_data.specs.Addresses.{AreByAddress}
use Rattle.tf_state_data.specs.Resource.{ResourceView, resource_of}
use Rattle.tf_state_data.specs.State.{StateView}
use Rattle.tf_state_data.proofs.Copied.{copied, outputs_copied}
use Rattle.tf_state_data.proofs.state.StateClone.clone.Goals as goal
use Rattle.tf_value_data.specs.Tree.{Entries}

state_seen : {serial : ℕ} {p q v w : List ℕ} {o u : Entries} {rs ss : List ResourceView} → q ≡ p → w ≡ v → u ≡ o → ss ≡ rs
    → ◌≡◌ {A = StateView} (record { serial = serial; lineage = q; terraform_version = w; outputs = u; resources = ss }) (record { serial = serial; lineage = p; terraform_version = v; outputs = o; resources = rs })
state_seen e f g h = cc

pub invariant_of-result : goal.invariant_of-result
invariant_of-result c =
    let is = copied _ resource_of (λ r s e. e) c.args.self.now.resources.items c.in_ok-resources.resources.items c.in_ok-resources.ensures.cases.0 in
    record { ordered = subst AreByAddress (sym is) c.args.self.now.ordered }

pub returns : goal.returns
returns c =
    let is = copied _ resource_of (λ r s e. e) c.args.self.now.resources.items c.in_ok-resources.resources.items c.in_ok-resources.ensures.cases.0 in
    let outputs = outputs_copied c.args.self.now.outputs.entries c.in_ok-outputs.outputs.entries c.in_ok-outputs.ensures.cases in
    record { cases = state_seen c.in_ok-lineage.ensures.cases c.in_ok-terraform_version.ensures.cases outputs is }
