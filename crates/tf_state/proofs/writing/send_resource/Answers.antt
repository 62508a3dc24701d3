use Rattle.std.proofs.Common.{refl, rules}
use Rattle.std.proofs.lemmas.Result.{on_ok_weaker}
use Rattle.tf_state_data.specs.Resource.{resource_of}
use Rattle.tf_state.proofs.Sent.{resource_sent, text_sent}
use Rattle.tf_state.proofs.writing.send_resource.Goals as goal

pub returns : goal.returns
returns g c =
    let r = resource_of c.args.resource.now in
    on_ok_weaker c.end_map.result
    (λ e. resource_sent r _ _ _ _ _ _ _ _ c.in_ok-begin_map.ensures (_, c.in_ok-key.ensures, search rules) (text_sent _ _ _ _ _ _ refl c.in_ok-key-2.ensures c.in_ok-str.ensures)
    (text_sent _ _ _ _ _ _ (search rules) c.in_ok-key-3.ensures c.in_ok-str-2.ensures) (text_sent _ _ _ _ _ _ (search rules) c.in_ok-key-4.ensures c.in_ok-str-3.ensures) (text_sent _ _ _ _ _ _ (search rules) c.in_ok-key-5.ensures c.in_ok-str-4.ensures) e)
    c.end_map.ensures
