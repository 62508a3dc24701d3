-- the first name so far, with those that are left
use Rattle.std.proofs.Common.{◌≡◌, fold, option_map}
use Rattle.tf_value_data.specs.Tree.{entries_view}
use Rattle.tf_plan_decision.specs.Names.{sooner_name}
use Rattle.tf_plan_decision.specs.Prior.{strays}
use Rattle.tf_plan_decision.proofs.prior.first_stray.Given as goal

abbrev pub invariant-loop-name : goal.invariant-loop-name
invariant-loop-name l =
    fold sooner_name (option_map (λ s. s.now) l.first) (strays l.schema (entries_view l.name-iterator)) ≡ fold sooner_name (option_map (λ s. s.now) l.fn.misfit) (strays l.schema (entries_view l.entries.entries))
