use Rattle.std.proofs.Common.{◌≡◌, ℕ, List, sym, ap₂, subst}
use Rattle.tf_state_data.specs.Ids.{AreById}
use Rattle.tf_state_data.specs.Record.{RecordView, record_of}
use Rattle.tf_config_address.specs.ResourceAddr.{addr_of}
use Rattle.tf_config_address.specs.contracts.addr.ResourceAddrClone.TheImpl as ResourceAddrClone
use Rattle.tf_config_address.specs.declared.addr.ResourceAddr.{ResourceAddr}
use Rattle.tf_state_data.specs.Resource.{ResourceView}
use Rattle.tf_state_data.proofs.Copied.{copied, record_copied}
use Rattle.tf_state_data.proofs.resource.ResourceClone.clone.Goals as goal

resource_seen : (a b : ResourceAddr) {p q : List ℕ} {rs ss : List RecordView} → (ResourceAddrClone.is_clone-value).it a b → q ≡ p → ss ≡ rs
    → ◌≡◌ {A = ResourceView} (record { addr = addr_of b; provider = q; records = ss }) (record { addr = addr_of a; provider = p; records = rs })
resource_seen a b h f g = let addr : addr_of b ≡ addr_of a = ap₂ (λ k n. record { type_name = k; name = n }) h.0 h.1 in cc

pub invariant_of-result : goal.invariant_of-result
invariant_of-result c =
    let is = copied _ record_of record_copied c.args.self.now.records.items c.in_ok-records.records.items c.in_ok-records.ensures.cases.0 in
    record { ordered = subst AreById (sym is) c.args.self.now.ordered }

pub returns : goal.returns
returns c =
    let is = copied _ record_of record_copied c.args.self.now.records.items c.in_ok-records.records.items c.in_ok-records.ensures.cases.0 in
    record { cases = resource_seen c.args.self.now.addr c.in_ok-addr.addr c.in_ok-addr.ensures.cases c.in_ok-provider.ensures.cases is }
