use Rattle.tf_laws.proofs.TextsAgain.{nothing_is_done_again, nothing_is_planned_after_success, nothing_is_planned_again}
use Rattle.tf_laws.proofs.PlannedOverTexts.{Laws}
use Rattle.tf_laws.proofs.Refused.{Others, only_instances_are_refused}
use Rattle.tf_laws.proofs.texts.texts_converge.Goals as goal

pub returns : goal.returns
returns c =
    let laws : Laws = record {
      one = c.faultless_trees_stand.ensures.one;
      order = c.blocks_are_in_order.ensures.order;
      values = c.values_are_one.ensures.one;
      read = c.read_states_are_valid.ensures;
      empty = c.new_states_are_valid.ensures.empty;
      reports = c.applies_converge.ensures.reports;
    } in
    let back = c.texts_read_back.ensures.back in
    let one = c.texts_are_of_one.ensures in
    let others : Others = record {
      not_read = c.refusals_are_one.ensures.not_read;
      faultless = c.values_are_one.ensures.faultless;
      back = back;
      one = one;
      rest = c.applies_converge.ensures.rest;
      quiet = c.nothing_is_planned_at_rest.ensures.planned;
    } in
    record {
      planned = nothing_is_planned_again laws back one;
      done = nothing_is_done_again laws back one c.quiet_applies_keep_objects.ensures;
      success = nothing_is_planned_after_success laws back one;
      refused = only_instances_are_refused laws others;
    }
