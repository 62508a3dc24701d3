use Rattle.std.proofs.Common.{◌≡◌, length, sym, ◌∙◌, arith, rules}
use Rattle.std.proofs.lemmas.List.{drop_all}
use Rattle.tf_state.specs.Types.{item_types, entry_types}
use Rattle.tf_value_data.specs.Tree.{items_view, entries_view}
use Rattle.tf_value_json.proofs.Sent.{array_sent, object_sent}
use Rattle.tf_state.proofs.Lengths.{item_types-len, entry_types-len}
use Rattle.tf_state.proofs.types.+types.Goals as goal

pub send_item_types-returns : goal.send_item_types-returns
send_item_types-returns g t c =
    let w = g.S.Serializer.written in
    let len : c.len.result ≡ length c.args.items.now.items = search rules in
    array_sent (λ vs. item_types (items_view vs)) (w c.args.out.now) (w c.begin_seq.new.self) (w c.loop-item.out) (w c.end_seq.new.self) c.end_seq.result c.deref-item-items.ensures.value
    (drop_all c.loop-item.item-index c.deref-item-items.result.now (omega arith)) (len ∙ sym (item_types-len c.args.items.now.items)) c.in_ok-begin_seq.ensures c.loop-item.invariant c.end_seq.ensures

pub send_entry_types-returns : goal.send_entry_types-returns
send_entry_types-returns g t c =
    let w = g.S.Serializer.written in
    let len : c.len.result ≡ length c.args.entries.now.entries = search rules in
    object_sent (λ es. entry_types (entries_view es)) (w c.args.out.now) (w c.begin_map.new.self) (w c.loop-key.out) (w c.end_map.new.self) c.end_map.result (search rules)
    c.in-None.ensures.steps.0 (len ∙ sym (entry_types-len c.args.entries.now.entries)) c.in_ok-begin_map.ensures c.loop-key.invariant c.end_map.ensures
