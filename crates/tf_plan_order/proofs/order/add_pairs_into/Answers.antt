use Rattle.std.proofs.Common.{◌≡◌, ◌∙◌, ◌+◌, ◌++◌, ℕ, List, OnOk, length, map, ap, subst, sym, arith}
use Rattle.std.proofs.lemmas.List.{length-append, length-map}
use Rattle.tf_plan_order.proofs.Keeping.{pairs-kept, with_second}
use Rattle.tf_plan_order.specs.Order.{pairs_into}
use Rattle.tf_plan_order.specs.OrderInput.{order_input_of}
use Rattle.tf_plan_order.proofs.order.add_pairs_into.Goals as goal

pub returns-in-Some-clause-pairs : goal.returns-in-Some-clause-pairs
returns-in-Some-clause-pairs c =
    let early = c.in-Some.ensures in
    let is = pairs-kept (order_input_of c.args.ties.now) c.args.actions.now c.args.second c.args.near.now.early.items c.in-Some.early.now c.requires.kept.rows early.applies early.whole early.places in
    subst (λ (pairs : List (ℕ × ℕ)). OnOk c.add_listed.result (c.add_listed.new.found.items ≡ c.args.found.now.items ++ pairs)) (sym is) c.add_listed.ensures.pairs

pub returns-in-Some-clause-too_many : goal.returns-in-Some-clause-too_many
returns-in-Some-clause-too_many c h =
    let t = order_input_of c.args.ties.now in
    let found = c.args.found.now.items in
    let places = c.in-Some.early.now in
    let early = c.in-Some.ensures in
    let is = pairs-kept t c.args.actions.now c.args.second c.args.near.now.early.items places c.requires.kept.rows early.applies early.whole early.places in
    let long : length (found ++ pairs_into t c.args.actions.now c.args.second) ≡ length found + length places =
    ap (λ (pairs : List (ℕ × ℕ)). length (found ++ pairs)) is ∙ length-append found (map (with_second c.args.second) places) ∙ ap (λ n. length found + n) (length-map places (with_second c.args.second)) in
    let many = c.add_listed.ensures.too_many h in
    omega (arith, long, many)
