use Rattle.std.proofs.Common.{◌∙◌, sym, ap, ap₂, string_bytes}
use Rattle.tf_walk_outputs.proofs.Done.{null_left, other_put, outputs_of-insert_entry}
use Rattle.tf_walk_outputs.proofs.Kept.{key_found}
use Rattle.tf_state_data.specs.State.{outputs_of}
use Rattle.tf_value_data.specs.Tree.{put, tree_of}
use Rattle.tf_walk_outputs.proofs.keeping.keep_declared.Goals as goal

pub returns-in_ok-insert : goal.returns-in_ok-insert
returns-in_ok-insert c =
    let name = string_bytes c.args.name.now in
    let kept = outputs_of c.args.kept.now.entries in
    let found = key_found c.args.outputs.now.entries c.as_str.result.now name c.contains_key.result c.contains_key.ensures c.as_str.ensures.value in
    ap outputs_of c.in_ok-insert.ensures.entries ∙ (outputs_of-insert_entry c.args.kept.now.entries c.in_ok-clone.field-0 c.in_ok-clone-2.field-0
    ∙ (ap₂ (λ n t. put n t kept) c.in_ok-clone.ensures.cases c.in_ok-clone-2.ensures.cases
    ∙ null_left _ (put name (tree_of c.args.object.now.value) kept) kept (sym found ∙ c.if-contains_key.true)))

pub returns-else-contains_key : goal.returns-else-contains_key
returns-else-contains_key c =
    let name = string_bytes c.args.name.now in
    let kept = outputs_of c.args.kept.now.entries in
    let found = key_found c.args.outputs.now.entries c.as_str.result.now name c.contains_key.result c.contains_key.ensures c.as_str.ensures.value in
    other_put _ (put name (tree_of c.args.object.now.value) kept) kept (sym found ∙ c.if-contains_key.false)
