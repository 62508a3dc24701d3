use Rattle.std.proofs.Common.{refl, ◌≡◌, ◌+◌, ◌∷◌, map, drop, sym, subst, ◌∙◌, arith}
use Rattle.std.proofs.lemmas.List.{drop_all}
use Rattle.serde_json.specs.Events.{SendsItems}
use Rattle.serde_json.specs.View.{items_of}
use Rattle.tf_state_data.specs.Resource.{resource_of}
use Rattle.tf_state.specs.Arrangement.{with_records}
use Rattle.tf_state.specs.Text.{resource_data}
use Rattle.tf_value_json.proofs.Sent.{array_sent}
use Rattle.tf_state.proofs.Lengths.{items_len-each}
use Rattle.tf_state.proofs.Loops.{rest_from}
use Rattle.tf_state.proofs.Sent.{present_sent}
use Rattle.tf_state.proofs.writing.send_resources.Goals as goal

-- what is sent from the next resource on is sent from this one on
pub loop-resource-preserved : goal.loop-resource-preserved
loop-resource-preserved g c =
    let xs = c.args.resources.now in
    let i = c.loop-resource.resource-index in
    let x = c.resource-item.result in
    let later = map resource_of (drop (i + 1) xs) in
    let left : drop i xs ≡ x ∷ drop (i + 1) xs = rest_from xs i x c.loop-resource-test.true c.resource-item.is in
    λ end more. c.loop-resource.invariant end
    (subst (λ ys. SendsItems (items_of (map resource_data (with_records (map resource_of ys)))) (g.S.Serializer.written c.loop-resource.out) end) (sym left)
    (present_sent (resource_of x) later (g.S.Serializer.written c.loop-resource.out) (g.S.Serializer.written c.send_present.new.out) end c.in_ok-send_present.ensures more))

pub returns : goal.returns
returns g c =
    let w = g.S.Serializer.written in
    let xs = c.args.resources.now in
    let counted = c.count_present.ensures ∙ sym (items_len-each resource_data (with_records (map resource_of xs))) in
    array_sent (λ rs. items_of (map resource_data (with_records (map resource_of rs)))) {xs = xs} {ys = xs} (w c.args.out.now) (w c.begin_seq.new.self) (w c.loop-resource.out) (w c.end_seq.new.self) c.end_seq.result refl
    (drop_all c.loop-resource.resource-index xs (omega arith)) counted c.in_ok-begin_seq.ensures c.loop-resource.invariant c.end_seq.ensures
