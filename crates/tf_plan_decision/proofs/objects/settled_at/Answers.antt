use Rattle.std.proofs.Common.{rules, sym}
use Rattle.std.proofs.lemmas.Fn.{always_returns_same}
use Rattle.tf_config_address.specs.ObjectId.{instance_key_cmp, instance_key_of}
use Rattle.tf_plan_decision.proofs.Finding.{by_instance}
use Rattle.tf_plan_decision.proofs.objects.settled_at.Goals as goal
use Rattle.tf_plan_decision.specs.Settling.{settled_key, settled_of}
use Rattle.tf_state_data.proofs.Edits.{element_found, search_answers}

pub returns-in-Ok : goal.returns-in-Ok
returns-in-Ok c =
    let key = instance_key_of c.args.key.now in
    let position = c.binary_search_by.ensures.position (λ s. instance_key_cmp (settled_key (settled_of s)) key) (always_returns_same _ _ _ (λ a r g called. (search rules, search rules))) in
    let answers = search_answers by_instance key c.args.settled.now c.binary_search_by.result c.requires c.binary_search_by.ensures.bound position in
    element_found by_instance key c.args.settled.now c.in-Ok.index c.index-settled-index.result (rw c.in-Ok.is at answers.0) c.index-settled-index.is

pub returns-in-Err : goal.returns-in-Err
returns-in-Err c =
    let key = instance_key_of c.args.key.now in
    let position = c.binary_search_by.ensures.position (λ s. instance_key_cmp (settled_key (settled_of s)) key) (always_returns_same _ _ _ (λ a r g called. (search rules, search rules))) in
    let answers = search_answers by_instance key c.args.settled.now c.binary_search_by.result c.requires c.binary_search_by.ensures.bound position in
    let gap = rw c.in-Err.is at answers.1 in
    sym gap.absent
