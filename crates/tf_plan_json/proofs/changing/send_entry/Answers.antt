use Rattle.std.proofs.Common.{refl, rules, string_bytes}
use Rattle.std.specs.Prelude.{option_map}
use Rattle.std.proofs.lemmas.Result.{on_ok_weaker}
use Rattle.tf_plan_changes.specs.Views.{change_view}
use Rattle.tf_plan_json.proofs.Sent.{entry_sent, text_sent}
use Rattle.tf_plan_json.proofs.changing.send_entry.Goals as goal

pub returns : goal.returns
returns g c =
    let e = c.args.entry.now in
    on_ok_weaker c.end_map.result
    (λ done. entry_sent (option_map (λ s. s.now) e.reason) (string_bytes e.address) (string_bytes e.provider) (change_view e.change) c.outer_count.result _ _ _ _ _ _ _ _ _ _ _ _ c.outer_count.ensures c.in_ok-begin_map.ensures
    c.in_ok-send_word.ensures (text_sent _ _ _ _ _ _ (search rules) c.in_ok-key.ensures c.in_ok-str.ensures) (_, c.in_ok-key-2.ensures, c.in_ok-send_inner.ensures) c.in_ok-send_deposed.ensures c.in_ok-send_index.ensures
    (text_sent _ _ _ _ _ _ refl c.in_ok-key-3.ensures c.in_ok-str-2.ensures) (text_sent _ _ _ _ _ _ (search rules) c.in_ok-key-4.ensures c.in_ok-str-3.ensures) (text_sent _ _ _ _ _ _ (search rules) c.in_ok-key-5.ensures c.in_ok-str-4.ensures)
    (text_sent _ _ _ _ _ _ (search rules) c.in_ok-key-6.ensures c.in_ok-str-5.ensures) done)
    c.end_map.ensures
