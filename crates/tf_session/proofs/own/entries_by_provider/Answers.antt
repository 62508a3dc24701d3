use Rattle.std.proofs.Common.{◌≡◌, ◌≤◌, ℕ, length, map, ap, rules, arith}
use Rattle.std.proofs.lemmas.List.{length-map}
use Rattle.std.specs.Vec.Iter.{into_iter_len}
use Rattle.tf_provider_log.specs.LogEntry.{log_entry_of}
use Rattle.tf_session.proofs.Together.{three_lists, three_long}
use Rattle.tf_session.proofs.own.entries_by_provider.Goals as goal

pub returns : goal.returns
returns c =
    let h : 3 ≤ length c.in_ok-own.own.items = three_long (λ own. map log_entry_of own.items) c.in_ok-own.own.items _ _ _ c.in_ok-own.ensures in
    let long : 3 ≤ into_iter_len c.into_iter-lists.result = search rules in
    rw (c.unwrap_or-remote.ensures, c.unwrap_or-sim.ensures, c.unwrap_or-files.ensures)
    (three_lists (λ own. map log_entry_of own.items) _ _ _ _ c.next.result c.next-2.result c.next-3.result _ _ _ _ _ _ _ _ _ _ (rw c.into_iter-lists.ensures.rest c.in_ok-own.ensures) long c.next.ensures.cases c.next-2.ensures.cases c.next-3.ensures.cases)
