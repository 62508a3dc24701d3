use Rattle.std.proofs.Common.{drop}
use Rattle.tf_config_refusal.specs.Place.{place_of}
use Rattle.tf_config_names.proofs.NameWalks.{IsLeft}
use Rattle.tf_config_names.specs.KnownNames.{declared_of, item_name_checks, entry_name_checks}
use Rattle.tf_expr_syntax.specs.ExprTree.{trees_view, entries_view}
use Rattle.tf_config_names.proofs.known_names.+names.Given as goal

-- the checks of the elements from the position on are left
abbrev pub invariant-demand_items-loop-position : goal.invariant-demand_items-loop-position
invariant-demand_items-loop-position l = IsLeft (declared_of l.known) (item_name_checks l.context (place_of l.path) 0 (trees_view l.expr-items)) (item_name_checks l.context (place_of l.path) l.position (trees_view (drop l.position l.expr-items)))

-- the checks of the entries to come are left
abbrev pub invariant-demand_entries-loop-key : goal.invariant-demand_entries-loop-key
invariant-demand_entries-loop-key l = IsLeft (declared_of l.known) (entry_name_checks l.context (place_of l.path) (entries_view l.entries.entries)) (entry_name_checks l.context (place_of l.path) (entries_view l.key-iterator))
