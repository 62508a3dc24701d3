use Rattle.std.proofs.Common.{◌<◌, ◌≡◌, ◌∙◌, length, arith}
use Rattle.tf_graph.proofs.Rows.{row_read}
use Rattle.tf_graph.specs.Lists.{row}
use Rattle.tf_plan_order.proofs.Keeping.{early-within, holds-apply, holds-destroy}
use Rattle.tf_plan_order.specs.Near.{AreListed}
use Rattle.tf_plan_order.specs.Order.{action_at}
use Rattle.tf_plan_order.specs.OrderInput.{order_input_of}
use Rattle.tf_plan_order.proofs.near.Near.before.Goals as goal

pub add_halves-requires : goal.add_halves-requires
add_halves-requires c =
    let actions = c.args.actions.now in
    let own = c.as_slice-own.result.now in
    let resource = (action_at actions c.args.second).resource in
    let lists : AreListed actions (length actions) own = rw c.as_slice-own.ensures.value c.requires.kept.lists in
    let same : c.as_slice.result.now ≡ row own resource = c.as_slice.ensures.value ∙ row_read own resource c.index-own-action.result c.if-action-own.false c.index-own-action.is in
    record {
      long = c.in_ok-set.ensures.length;
      within = λ k h. lists.within resource k (rw same at h);
    }

pub add_reached-requires : goal.add_reached-requires
add_reached-requires c =
    let actions = c.args.actions.now in
    let own = c.as_slice-own.result.now in
    let lists : AreListed actions (length actions) own = rw c.as_slice-own.ensures.value c.requires.kept.lists in
    record {
      nodes = rw c.as_slice-own.ensures.value c.requires.kept.by_configuration;
      within = λ r k h. omega (arith, lists.within r k h, c.add_halves.ensures.grown.long, c.in_ok-set.ensures.length);
    }

pub add_reached-requires-2 : goal.add_reached-requires-2
add_reached-requires-2 c =
    let actions = c.args.actions.now in
    let own = c.as_slice-own.result.now in
    let lists : AreListed actions (length actions) own = rw c.as_slice-own.ensures.value c.requires.kept.lists in
    record {
      nodes = rw c.as_slice-own.ensures.value c.requires.kept.by_state;
      within = λ r k h. omega (arith, lists.within r k h, c.add_reached.ensures.grown.long, c.add_halves.ensures.grown.long, c.in_ok-set.ensures.length);
    }

pub returns : goal.returns
returns c =
    let actions = c.args.actions.now in
    let own = c.as_slice-own.result.now in
    let resource = (action_at actions c.args.second).resource in
    let lists : AreListed actions (length actions) own = rw c.as_slice-own.ensures.value c.requires.kept.lists in
    let same : c.as_slice.result.now ≡ row own resource = c.as_slice.ensures.value ∙ row_read own resource c.index-own-action.result c.if-action-own.false c.index-own-action.is in
    let first = c.add_reached.ensures in
    let second = c.add_reached-2.ensures in
    record {
      length = second.grown.long ∙ first.grown.long ∙ c.add_halves.ensures.grown.long ∙ c.in_ok-set.ensures.length;
      before = holds-destroy (order_input_of c.args.ties.now) actions c.args.second own c.add_reached-2.new.set lists c.if-action-own.false
          (λ k h is. second.grown.kept k (first.grown.kept k (c.add_halves.ensures.added k (rw same h) is)))
          c.in_default.not-Apply
          first.inside
          (λ r k h held. second.grown.kept k (first.added r k h held))
          second.inside
          second.added;
    }

pub add_places-requires : goal.add_places-requires
add_places-requires c =
    let actions = c.args.actions.now in
    let early = c.args.self.now.early.items in
    let resource = (action_at actions c.args.second).resource in
    let own = c.as_slice-own.result.now in
    let count : length early ≡ length own = rw c.as_slice-own.ensures.value c.requires.kept.count in
    let inside : resource < length early = omega (arith, count, c.if-action-own.false) in
    let same : c.as_slice-in-Apply.result.now ≡ row early resource = c.as_slice-in-Apply.ensures.value ∙ row_read early resource c.index.result.now inside c.index.ensures in
    λ k h. omega (arith, early-within (order_input_of c.args.ties.now) actions early c.requires.kept.rows resource k (rw same at h), c.add_halves.ensures.grown.long, c.in_ok-set.ensures.length)

pub returns-in-Apply-clause-before : goal.returns-in-Apply-clause-before
returns-in-Apply-clause-before c =
    let actions = c.args.actions.now in
    let own = c.as_slice-own.result.now in
    let early = c.args.self.now.early.items in
    let resource = (action_at actions c.args.second).resource in
    let lists : AreListed actions (length actions) own = rw c.as_slice-own.ensures.value c.requires.kept.lists in
    let same : c.as_slice.result.now ≡ row own resource = c.as_slice.ensures.value ∙ row_read own resource c.index-own-action.result c.if-action-own.false c.index-own-action.is in
    let count : length early ≡ length own = rw c.as_slice-own.ensures.value c.requires.kept.count in
    let inside : resource < length early = omega (arith, count, c.if-action-own.false) in
    let read : c.as_slice-in-Apply.result.now ≡ row early resource = c.as_slice-in-Apply.ensures.value ∙ row_read early resource c.index.result.now inside c.index.ensures in
    holds-apply (order_input_of c.args.ties.now) actions c.args.second own c.add_places.new.set lists c.if-action-own.false
    (λ k h is. c.add_places.ensures.grown.kept k (c.add_halves.ensures.added k (rw same h) is))
    early c.requires.kept.rows c.in-Apply.is
    (λ k h. c.add_places.ensures.added k (rw read h))
