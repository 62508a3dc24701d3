use Rattle.std.proofs.Common.{◌≡◌, ◌+◌, drop, map, string_bytes, sym, ap, ◌∙◌, arith}
use Rattle.std.specs.Prelude.{option_and_then}
use Rattle.serde_json.specs.View.{items_view}
use Rattle.tf_state.specs.Reading.{addresses_in, put_text}
use Rattle.tf_state.proofs.Loops.{next_item, texts_of-insert_key}
use Rattle.tf_state.proofs.value_reading.read_addresses.Goals as goal

pub loop-item-preserved : goal.loop-item-preserved
loop-item-preserved c =
    let l = c.loop-item in
    let found = map string_bytes l.addresses.keys in
    let rest = items_view (drop (l.item-index + 1) c.args.items.now) in
    let next = next_item c.args.items.now l.item-index c.item-item.result (omega arith) c.item-item.is in
    let keys : map string_bytes c.insert.new.self.keys ≡ put_text (string_bytes c.in_ok-address.address) found =
    ap (map string_bytes) c.in_ok-insert.ensures.keys ∙ texts_of-insert_key l.addresses.keys c.in_ok-address.address in
    let read = ap (λ o. option_and_then (λ s. addresses_in rest (put_text s found)) o) c.in_ok-address.ensures.ok in
    ap (addresses_in rest) keys ∙ sym (ap (λ ds. addresses_in ds found) next ∙ read) ∙ l.invariant
