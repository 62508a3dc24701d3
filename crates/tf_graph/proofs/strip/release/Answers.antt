use Rattle.std.proofs.Common.{◌≡◌, ◌≤◌, ◌<◌, ◌+◌, ◌-◌, ◌∷◌, ℕ, List, length, get_or, drop, arith}
use Rattle.std.specs.Prelude.{slice_index}
use Rattle.std.proofs.lemmas.List.{drop_more, length-set}
use Rattle.tf_graph.specs.Removal.{times, total}
use Rattle.tf_graph.proofs.Removals.{times-some, removal-step, enough-step, smaller-step}
use Rattle.tf_graph.proofs.strip.release.Goals as goal

pub loop-next-init : goal.loop-next-init
loop-next-init c = record {
  length = c.requires.length;
  enough = rw c.successors-next-items.ensures.nodes c.requires.enough;
  removal = λ left r. r;
  smaller = omega arith;
}

pub count_off-requires-clause-inside : goal.count_off-requires-clause-inside
count_off-requires-clause-inside c =
    omega (arith, c.successors-next-items.ensures.within c.loop-next.next-index 0 c.loop-next-test.true, c.loop-next.invariant.length)

pub count_off-requires-clause-some : goal.count_off-requires-clause-some
count_off-requires-clause-some c =
    let l = c.loop-next in
    let items : List ℕ = c.successors-next-items.result.now in
    let next : ℕ = get_or items l.next-index 0 in
    let enough : times next (next ∷ drop (l.next-index + 1) items) ≤ slice_index l.removal.remaining.items next =
    rw (drop_more items l.next-index 0 c.loop-next-test.true) at (l.invariant.enough next) in
    omega (arith, times-some next (drop (l.next-index + 1) items))

pub loop-next-preserved : goal.loop-next-preserved
loop-next-preserved c =
    let l = c.loop-next in
    let items : List ℕ = c.successors-next-items.result.now in
    let next : ℕ = get_or items l.next-index 0 in
    let due : List ℕ = drop (l.next-index + 1) items in
    let rest : drop l.next-index items ≡ next ∷ due = drop_more items l.next-index 0 c.loop-next-test.true in
    let node : next < c.args.graph.now.nodes = c.successors-next-items.ensures.within l.next-index 0 c.loop-next-test.true in
    let inside : next < length l.removal.remaining.items = omega (arith, l.invariant.length) in
    let enough : (s : ℕ) → times s (next ∷ due) ≤ slice_index l.removal.remaining.items s = rw rest at l.invariant.enough in
    let some : 0 < slice_index l.removal.remaining.items next = omega (arith, times-some next due, enough next) in
    let step : total c.count_off.new.removal.remaining.items + length c.count_off.new.removal.free.items ≤ total l.removal.remaining.items + length l.removal.free.items =
    smaller-step l.removal.remaining.items c.count_off.new.removal.remaining.items l.removal.free.items c.count_off.new.removal.free.items next inside some c.in_ok-count_off.ensures.remaining c.in_ok-count_off.ensures.free in
    record {
      length = rw c.in_ok-count_off.ensures.remaining (omega (arith, length-set l.removal.remaining.items next (slice_index l.removal.remaining.items next - 1), l.invariant.length));
      enough = enough-step l.removal.remaining.items c.count_off.new.removal.remaining.items due next enough inside c.in_ok-count_off.ensures.remaining;
      removal = λ left r.
          removal-step c.args.graph.now left l.removal.remaining.items c.count_off.new.removal.remaining.items l.removal.free.items c.count_off.new.removal.free.items due next (rw rest at (l.invariant.removal left r)) node c.in_ok-count_off.ensures.remaining c.in_ok-count_off.ensures.free;
      smaller = omega (arith, l.invariant.smaller);
    }
