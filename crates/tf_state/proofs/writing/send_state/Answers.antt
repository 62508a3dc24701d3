use Rattle.std.proofs.Common.{refl, rules}
use Rattle.std.proofs.lemmas.Result.{on_ok_weaker}
use Rattle.tf_state_data.specs.State.{state_of}
use Rattle.tf_state.proofs.Sent.{number_sent, state_sent, text_sent}
use Rattle.tf_state.proofs.writing.send_state.Goals as goal

pub returns : goal.returns
returns g c =
    let s = state_of c.args.state.now in
    on_ok_weaker c.end_map.result
    (λ e. state_sent s _ _ _ _ _ _ _ _ _ c.in_ok-begin_map.ensures (text_sent _ _ _ _ _ _ (search rules) c.in_ok-key.ensures c.in_ok-str.ensures) (_, c.in_ok-key-2.ensures, search rules) (_, c.in_ok-key-3.ensures, search rules)
    (number_sent _ _ _ _ _ _ (search rules) c.in_ok-key-4.ensures c.in_ok-u64.ensures) (text_sent _ _ _ _ _ _ (search rules) c.in_ok-key-5.ensures c.in_ok-str-2.ensures) (number_sent _ _ _ _ _ _ refl c.in_ok-key-6.ensures c.in_ok-u64-2.ensures) e)
    c.end_map.ensures
