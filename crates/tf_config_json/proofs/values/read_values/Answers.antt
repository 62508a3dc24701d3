use Rattle.std.proofs.Common.{option_map}
use Rattle.std.proofs.lemmas.Result.{err_from_is_err_and}
use Rattle.serde_json.specs.View.{view}
use Rattle.tf_config_data.specs.Config.{variables_of}
use Rattle.tf_config_json.proofs.Faults.{file_faulty}
use Rattle.tf_config_json.proofs.Shown.{Entry, read_next, refused_next}
use Rattle.tf_config_json.proofs.values.read_values.Goals as goal

pub returns-in_err-taken-clause-fault : goal.returns-in_err-taken-clause-fault
returns-in_err-taken-clause-fault c =
    let file = option_map (λ tree. view tree.now) c.args.file in
    let e : Entry = (c.in-Some.name.now, c.in-Some.variable.now) in
    let p = err_from_is_err_and c.from_residual.result c.from_residual.ensures.1 in
    let first = rw c.as_str.ensures.value at c.in_err-taken.ensures.fault in
    rw (p.1, p.2)
    (file_faulty file (variables_of c.args.variables.now.entries) _ (refused_next file c.args.variables.now.entries _ e c.next.new.self c.loop-name.answer _ c.in-Some.ensures.steps c.loop-name.invariant first))

pub loop-name-preserved : goal.loop-name-preserved
loop-name-preserved c =
    let file = option_map (λ tree. view tree.now) c.args.file in
    let e : Entry = (c.in-Some.name.now, c.in-Some.variable.now) in
    let literal = rw c.as_str.ensures.value at c.in_ok-taken.ensures.literal in
    let next = rw (c.in_ok-taken.ensures.ok, c.as_str.ensures.value) at c.put_value_for-answer.ensures in
    read_next file c.args.variables.now.entries _ e c.next.new.self c.loop-name.answer c.put_value_for-answer.result c.iter-name-items.ensures.ordered c.in-Some.ensures.steps literal next c.loop-name.invariant
