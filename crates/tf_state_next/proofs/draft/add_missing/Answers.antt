use Rattle.std.proofs.Common.{◌≡◌, List, map, sym, ap, ap₂, ◌∙◌, subst}
use Rattle.std.specs.List.{insert}
use Rattle.tf_state_next.proofs.Added.{added_empty, added_there, new_home}
use Rattle.tf_state_next.specs.StateDraft.{empty_home}
use Rattle.tf_state_data.proofs.Edits.{by_address, put_between}
use Rattle.tf_state_data.specs.Order.{IsGapFor, IsAt, with_one}
use Rattle.tf_config_address.specs.ResourceAddr.{ResourceAddrView, addr_cmp, addr_of}
use Rattle.tf_state_data.specs.Resource.{ResourceView, resource_of}
use Rattle.tf_state_data.specs.declared.resource.Resource.{Resource}
use Rattle.tf_state_next.proofs.draft.add_missing.Goals as goal

pub returns-in_ok-insert : goal.returns-in_ok-insert
returns-in_ok-insert c =
    let l = addr_of c.args.addr.now in
    let rs = c.args.resources.now.items in
    let new = c.empty-resource.result in
    let copied : addr_of c.in_ok-clone.field-0 ≡ l = ap₂ {C = ResourceAddrView} (λ k n. record { type_name = k; name = n }) c.in_ok-clone.ensures.cases.0 c.in_ok-clone.ensures.cases.1 in
    let is : resource_of new ≡ empty_home l = c.empty-resource.ensures ∙ new_home l (addr_of c.in_ok-clone.field-0) _ _ copied c.in_ok-provider.ensures c.as_str.ensures.value in
    let gap = subst (λ (xs : List Resource). IsGapFor (λ r. r.addr) addr_cmp l (map resource_of xs) c.in-Err.index) c.deref.ensures.value c.in-Err.ensures.absent in
    let at : (resource_of new).addr ≡ l = ap (λ (r : ResourceView). r.addr) is in
    let put : c.insert.new.self.items ≡ insert rs c.in-Err.index new = c.in_ok-insert.ensures.items in
    added_empty l (map resource_of rs) (map resource_of c.insert.new.self.items) c.requires gap.absent
    (ap (map resource_of) put ∙ put_between by_address rs new c.in-Err.index (subst (λ (k : ResourceAddrView). IsGapFor (λ r. r.addr) addr_cmp k (map resource_of rs) c.in-Err.index) (sym at) gap) ∙ ap (λ (r : ResourceView). with_one (λ (r : ResourceView). r.addr) addr_cmp r (map resource_of rs)) is)

pub returns-in_default : goal.returns-in_default
returns-in_default c =
    let l = addr_of c.args.addr.now in
    let rs = c.args.resources.now.items in
    let is = subst (λ (xs : List Resource). IsAt (λ r. r.addr) addr_cmp l (map resource_of xs) c.in_default.field-0) c.deref.ensures.value c.in_default.ensures.found in
    added_there l (map resource_of rs) _ c.requires (is.found (empty_home l))
