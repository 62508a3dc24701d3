use Rattle.tf_config_names.proofs.known_names.demand_block.Goals as goal

pub returns : goal.returns
returns c = λ addr. rw (← c.in_ok-properties.ensures addr, ← c.as_slice.ensures.value) c.demand_properties.ensures
