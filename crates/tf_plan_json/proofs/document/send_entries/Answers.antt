use Rattle.std.proofs.Common.{map, refl, sym, arith}
use Rattle.std.proofs.lemmas.List.{drop_all}
use Rattle.serde_json.specs.View.{items_of}
use Rattle.tf_plan_json.specs.Views.{entry_view}
use Rattle.tf_plan_json.proofs.Counted.{items_len-each}
use Rattle.tf_value_json.proofs.Sent.{array_sent}
use Rattle.tf_plan_json.proofs.document.send_entries.Goals as goal

pub returns : goal.returns
returns g c =
    let w = g.S.Serializer.written in
    let xs = c.args.entries.now in
    array_sent (λ es. items_of (map entry_view es)) (w c.args.out.now) (w c.begin_seq.new.self) (w c.loop-entry.out) (w c.end_seq.new.self) c.end_seq.result refl
    (drop_all c.loop-entry.entry-index xs (omega arith)) (sym (items_len-each entry_view xs)) c.in_ok-begin_seq.ensures c.loop-entry.invariant c.end_seq.ensures
