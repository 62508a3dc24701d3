use Rattle.std.proofs.Common.{◌+◌, List, map, drop, sym, subst, arith}
use Rattle.std.proofs.lemmas.List.{drop_all}
use Rattle.tf_config_address.specs.ResourceAddr.{ResourceAddrView, addr_of}
use Rattle.tf_state_next.proofs.Added.{added_more, cons_drop, none_added}
use Rattle.tf_state_next.specs.StateDraft.{AreAdded}
use Rattle.tf_state_data.specs.Resource.{resource_of}
use Rattle.tf_state_next.proofs.draft.add_all.Goals as goal

pub loop-addr-preserved : goal.loop-addr-preserved
loop-addr-preserved c =
    let addrs = c.args.addrs.now in
    let i = c.loop-addr.addr-index in
    let item = c.addr-item.result in
    let now = map resource_of c.loop-addr.resources.items in
    let mid = map resource_of c.add_missing.new.resources.items in
    let one = c.in_ok-add_missing.ensures in
    let left = cons_drop (λ l. addr_of l.now) addrs i item c.addr-item.is c.loop-addr-test.true in
    record {
      added = λ after h. c.loop-addr.invariant.added after (subst (λ (ls : List ResourceAddrView). AreAdded ls now after) (sym left) (added_more (addr_of item.now) (map (λ l. addr_of l.now) (drop (i + 1) addrs)) now mid after one h));
      ordered = one.ordered;
    }

pub returns : goal.returns
returns c =
    let now = map resource_of c.loop-addr.resources.items in
    c.loop-addr.invariant.added now (subst (λ ls. AreAdded (map (λ l. addr_of l.now) ls) now now) (sym (drop_all c.loop-addr.addr-index c.args.addrs.now (omega (arith, c.loop-addr-test.false)))) (none_added now c.loop-addr.invariant.ordered))
