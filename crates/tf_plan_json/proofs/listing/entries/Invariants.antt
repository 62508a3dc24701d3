-- the entries of the changes so far
use Rattle.std.proofs.Common.{◌≡◌, map, take}
use Rattle.tf_plan_changes.specs.Views.{change_view}
use Rattle.tf_plan_data.specs.Plan.{plan_of}
use Rattle.tf_plan_json.specs.Document.{change_data}
use Rattle.tf_plan_json.specs.Views.{entry_view}
use Rattle.tf_plan_json.proofs.listing.entries.Given as goal

abbrev pub invariant-loop-change : goal.invariant-loop-change
invariant-loop-change l = map entry_view l.made.items ≡ map (change_data (plan_of l.plan)) (map change_view (take l.change-index l.change-items))
