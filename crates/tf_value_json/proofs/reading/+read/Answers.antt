use Rattle.std.proofs.Common.{◌∙◌}
use Rattle.serde_json.specs.View.{view}
use Rattle.tf_value_json.specs.Json.{tree_from}
use Rattle.tf_value_data.proofs.Views.{shown_more, shown_all}
use Rattle.tf_value_json.proofs.JsonForms.{read_members-is, read_all_items}
use Rattle.tf_value_json.proofs.reading.+read.Goals as goal

pub read_members-loop-key-preserved : goal.read_members-loop-key-preserved
read_members-loop-key-preserved t c =
    shown_more (λ j. tree_from (view j)) c.args.members.now.entries _ c.next.new.self (c.in-Some.key.now, c.in-Some.member.now) _ _ _ _ c.iter-key-items.ensures.ordered c.in-Some.ensures.steps c.in_ok-insert.ensures.entries c.in_ok-name.ensures.cases c.in_ok-tree_from.ensures c.loop-key.invariant

pub read_members-returns : goal.read_members-returns
read_members-returns t c =
    shown_all (λ j. tree_from (view j)) c.args.members.now.entries _ _ c.in-None.ensures.steps.0 c.loop-key.invariant ∙ read_members-is c.args.members.now.entries

pub read_items-returns : goal.read_items-returns
read_items-returns t c =
    read_all_items c.args.items.now.items c.loop-item.item-index _ (rw (← c.deref-item-items.ensures.value) c.loop-item-test.false) (rw (← c.deref-item-items.ensures.value) c.loop-item.invariant)
