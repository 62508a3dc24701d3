use Rattle.tf_value_data.proofs.WithLists.{lists-no_set, no_set-lists, lists-known, lists-refine, lists-measure, lists-planned, lists-stored}
use Rattle.tf_value_data.proofs.laws.lists_stand_for_sets.Goals as goal

pub returns : goal.returns
returns c = record { no_set = lists-no_set; stays = no_set-lists; known = lists-known; refines = lists-refine; measures = lists-measure; planned = lists-planned; stored = lists-stored }
