use Rattle.std.proofs.Common.{is_some, string_bytes, sym, ap, ◌∙◌}
use Rattle.tf_config_refusal.proofs.Places.{place_of-Root, place_of-Member}
use Rattle.tf_value_data.proofs.Views.{entries_view-insert_entry}
use Rattle.tf_value_data.specs.Tree.{tree_of, entries_view}
use Rattle.tf_config_json.proofs.Faults.{refuses_none}
use Rattle.tf_config_json.specs.Values.{variable_place}
use Rattle.tf_config_json.proofs.values.with_value.Goals as goal

pub returns-in_ok-insert-in-Some-clause-ok : goal.returns-in_ok-insert-in-Some-clause-ok
returns-in_ok-insert-in-Some-clause-ok c =
    let put_in = ap entries_view c.in_ok-insert-in-Some.ensures.entries ∙ entries_view-insert_entry c.args.values.entries c.in_ok-clone-in-Some.field-0 c.in-Some.value in
    (tree_of c.in-Some.value, sym (rw c.in-Some.is at c.in_ok-value.ensures.ok), rw c.in_ok-clone-in-Some.ensures.cases at put_in)

pub returns-in-None-clause-fault : goal.returns-in-None-clause-fault
returns-in-None-clause-fault c =
    let tells = rw (place_of-Member, place_of-Member, place_of-Root, c.as_str.ensures.value) at c.fault_at.ensures in
    refuses_none (variable_place (string_bytes c.args.name.now)) _ _ (ap is_some (sym (rw c.in-None.is at c.in_ok-value.ensures.ok))) tells
