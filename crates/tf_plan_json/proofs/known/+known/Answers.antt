use Rattle.std.proofs.Common.{◌≡◌, length, sym, ◌∙◌, arith, rules}
use Rattle.std.proofs.lemmas.List.{drop_all}
use Rattle.tf_plan_json.specs.Parts.{known_items, known_members}
use Rattle.tf_plan_json.proofs.Counted.{known_items_len}
use Rattle.tf_value_data.specs.Tree.{items_view, entries_view}
use Rattle.tf_value_json.proofs.Sent.{array_sent, object_sent}
use Rattle.tf_plan_json.proofs.known.+known.Goals as goal

pub send_items-returns : goal.send_items-returns
send_items-returns g t c =
    let len : c.len.result ≡ length c.args.items.now.items = search rules in
    let none = drop_all c.loop-item.item-index c.deref-item-items.result.now (omega arith) in
    let w = g.S.Serializer.written in
    array_sent (λ vs. known_items (items_view vs)) (w c.args.out.now) (w c.begin_seq.new.self) (w c.loop-item.out) (w c.end_seq.new.self) c.end_seq.result
    c.deref-item-items.ensures.value none (len ∙ sym (known_items_len c.args.items.now.items)) c.in_ok-begin_seq.ensures c.loop-item.invariant c.end_seq.ensures

pub send_entries-returns : goal.send_entries-returns
send_entries-returns g t c =
    let all : c.into_iter-key-iterator.result ≡ c.args.entries.now.entries = search rules in
    let w = g.S.Serializer.written in
    object_sent (λ es. known_members (entries_view es)) (w c.args.out.now) (w c.begin_map.new.self) (w c.loop-key.out) (w c.end_map.new.self) c.end_map.result
    all c.in-None.ensures.steps.0 c.known_count.ensures c.in_ok-begin_map.ensures c.loop-key.invariant c.end_map.ensures
