use Rattle.tf_laws.proofs.texts.laws_of_reading.Goals as goal

pub returns : goal.returns
returns c = record {
  one = c.faultless_trees_stand.ensures.one;
  order = c.blocks_are_in_order.ensures.order;
  own = c.read_configurations_fit.ensures.names;
  once = c.refusals_are_one.ensures.once;
  not_read = c.refusals_are_one.ensures.not_read;
  values = c.values_are_one.ensures.one;
  faultless = c.values_are_one.ensures.faultless;
  read = c.read_states_are_valid.ensures;
  empty = c.new_states_are_valid.ensures.empty;
  state = c.texts_are_of_one.ensures;
}
