-- the text so far, with what is left to show
use Rattle.std.proofs.Common.{◌≡◌, ◌∷◌, ◌++◌, false, drop, string_bytes}
use Rattle.tf_plan_text.specs.Shown.{shown_items, shown_entries}
use Rattle.tf_value_data.specs.Tree.{items_view, entries_view}
use Rattle.tf_plan_text.proofs.shown.+show.Given as goal

abbrev pub invariant-show_items-loop-item : goal.invariant-show_items-loop-item
invariant-show_items-loop-item l =
    string_bytes l.text ++ shown_items l.later (items_view (drop l.item-index l.item-items)) ≡ string_bytes l.fn.text ++ 91 ∷ shown_items false (items_view l.item-items)

abbrev pub invariant-show_entries-loop-key : goal.invariant-show_entries-loop-key
invariant-show_entries-loop-key l =
    string_bytes l.text ++ shown_entries l.later (entries_view l.key-iterator) ≡ string_bytes l.fn.text ++ 123 ∷ shown_entries false (entries_view l.entries.entries)
