-- the first name so far, with those that are left
use Rattle.std.proofs.Common.{◌≡◌, drop, fold, map, option_map}
use Rattle.tf_provider_protocol.specs.Schema.{attribute_of}
use Rattle.tf_value_data.specs.Tree.{entries_view}
use Rattle.tf_plan_decision.specs.Names.{first_name, sooner_name}
use Rattle.tf_plan_decision.specs.Prior.{misfits}
use Rattle.tf_plan_decision.proofs.prior.misfit_attribute.Given as goal

abbrev pub invariant-loop-attribute : goal.invariant-loop-attribute
invariant-loop-attribute l =
    fold sooner_name (option_map (λ s. s.now) l.first) (misfits (map attribute_of (drop l.attribute-index l.attributes)) (entries_view l.entries.entries))
    ≡ first_name (misfits (map attribute_of l.attributes) (entries_view l.entries.entries))
