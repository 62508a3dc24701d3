use Rattle.std.proofs.Common.{◌≡◌}
use Rattle.tf_value_data.specs.Tree.{items_view, entries_view, texts_view, text_items}
use Rattle.tf_expr_operators.specs.Answer.{items_behind}
use Rattle.tf_expr_operators.specs.Functions.{key_items}
use Rattle.tf_expr_operators.proofs.collections.key_texts.Given as goal

-- the keys that are left, behind the texts so far
abbrev pub invariant-loop-key : goal.invariant-loop-key
invariant-loop-key l = items_behind (items_view l.texts.items) (text_items (texts_view l.key-iterator)) ≡ key_items (entries_view l.entries.entries)
