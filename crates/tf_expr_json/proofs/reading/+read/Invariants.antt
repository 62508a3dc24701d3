use Rattle.std.proofs.Common.{◌≡◌, List, ◌++◌, take}
use Rattle.serde_json.proofs.Views.{Entry}
use Rattle.serde_json.specs.View.{items_view, members_view}
use Rattle.tf_expr_json.specs.Reading.{AreExprs, HoldExprs}
use Rattle.tf_expr_syntax.specs.ExprTree.{trees_view, entries_view}
use Rattle.tf_expr_json.proofs.reading.+read.Given as goal

-- the elements so far are read
abbrev pub invariant-read_items-loop-position : goal.invariant-read_items-loop-position
invariant-read_items-loop-position l = AreExprs (items_view (take l.position l.item-items)) (trees_view l.exprs.items)

-- the members so far are read
abbrev pub invariant-read_members-loop-key : goal.invariant-read_members-loop-key
invariant-read_members-loop-key l =
    (done : List Entry) × (l.members.entries ≡ done ++ l.key-iterator) × HoldExprs (members_view done) (entries_view l.exprs.entries)
