use Rattle.std.proofs.Common.{◌≡◌, ◌<◌, ◌≤◌, ◌+◌, ℕ, length, map, set, take, get_or, replicate, sym, ap, ap₂, ◌∙◌, arith}
use Rattle.std.proofs.Math.ListN.{get_or-map}
use Rattle.std.proofs.lemmas.List.{length-map, length-take-le}
use Rattle.tf_config_address.specs.ResourceAddr.{addr_of}
use Rattle.tf_state_next.proofs.Counted.{at_counted, counted_at_most, none_counted, none_more, one_more}
use Rattle.tf_state_next.specs.StateDraft.{counts_at}
use Rattle.tf_state_data.specs.Resource.{resource_of}
use Rattle.tf_state_next.proofs.draft.counts_of.Goals.{in-Ok, in-Err}
use Rattle.tf_state_next.proofs.draft.counts_of.Goals as goal

pub loop-addr-init : goal.loop-addr-init
loop-addr-init c =
    let rs = c.args.resources.now in
    c.in_ok-counts.ensures ∙ ap (λ (n : ℕ). replicate n 0) (sym (length-map rs resource_of)) ∙ none_counted (map resource_of rs)

pub overflow_add-index_mut : goal.overflow_add-index_mut
overflow_add-index_mut c =
    let addrs = map (λ l. addr_of l.now) c.args.addrs.now in
    let rs = map resource_of c.args.resources.now in
    let i = c.loop-addr.addr-index in
    let k = c.in-Ok.index in
    let counted : c.index_mut.result.now ≡ get_or (counts_at (take i addrs) rs) k 0 = at_counted (take i addrs) rs c.loop-addr.counts.items k c.index_mut.result.now c.loop-addr.invariant c.in-Ok.ensures.found.within c.index_mut.ensures.value in
    let few = counted_at_most (take i addrs) rs k in
    let le : c.index_mut.result.now ≤ i = omega (arith, counted, few, length-take-le i addrs (omega (arith, c.loop-addr-test.true, length-map c.args.addrs.now (λ l. addr_of l.now)))) in
    record { fits = omega arith }

pub loop-addr-preserved : goal.loop-addr-preserved
loop-addr-preserved c =
    let addrs = map (λ l. addr_of l.now) c.args.addrs.now in
    let rs = map resource_of c.args.resources.now in
    let i = c.loop-addr.addr-index in
    let l = addr_of c.addr-item.result.now in
    let within : i < length addrs = omega (arith, c.loop-addr-test.true, length-map c.args.addrs.now (λ l. addr_of l.now)) in
    let is : get_or addrs i l ≡ l = get_or-map (λ l. addr_of l.now) c.args.addrs.now i c.addr-item.result ∙ ap (λ r. addr_of r.now) (sym c.addr-item.is) in
    elim c.match-search_near.branch [
      | in-Ok w ↦
          let k = w.in-Ok.index in
          let at = w.in-Ok.ensures.found in
          let counted = at_counted (take i addrs) rs c.loop-addr.counts.items k w.index_mut.result.now c.loop-addr.invariant at.within w.index_mut.ensures.value in
          ap (λ v. v.items) w.counts-is ∙ ap₂ (λ ns n. set ns k (n + 1)) c.loop-addr.invariant counted ∙ sym (one_more addrs i l within is rs k at)
      | in-Err w ↦ ap (λ v. v.items) w.counts-is ∙ c.loop-addr.invariant ∙ sym (none_more addrs i l within is rs w.in-Err.field-0 w.in-Err.ensures.absent)
    ]
