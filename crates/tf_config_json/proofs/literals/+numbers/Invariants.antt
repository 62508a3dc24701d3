use Rattle.std.proofs.Common.{drop}
use Rattle.serde_json.specs.View.{items_view, members_view}
use Rattle.tf_config_json.proofs.Walks.{IsLeft}
use Rattle.tf_config_json.specs.Demand.{IsMet}
use Rattle.tf_config_json.specs.Parts.{item_number_checks, member_number_checks}
use Rattle.tf_config_refusal.specs.Place.{place_of}
use Rattle.tf_config_json.proofs.literals.+numbers.Given as goal

-- the checks of the elements from the position on are left
abbrev pub invariant-demand_each_number-loop-position : goal.invariant-demand_each_number-loop-position
invariant-demand_each_number-loop-position l = IsLeft IsMet (item_number_checks (place_of l.path) 0 (items_view l.item-items)) (item_number_checks (place_of l.path) l.position (items_view (drop l.position l.item-items)))

-- the checks of the members to come are left
abbrev pub invariant-demand_member_numbers-loop-key : goal.invariant-demand_member_numbers-loop-key
invariant-demand_member_numbers-loop-key l = IsLeft IsMet (member_number_checks (place_of l.path) (members_view l.members.entries)) (member_number_checks (place_of l.path) (members_view l.key-iterator))
