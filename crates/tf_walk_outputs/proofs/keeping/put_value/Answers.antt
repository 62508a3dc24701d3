use Rattle.std.proofs.Common.{◌∙◌, refl, sym, ap, string_bytes}
use Rattle.tf_walk_outputs.proofs.Done.{kept_null, kept_value, outputs_of-insert_entry, outputs_of-removed}
use Rattle.tf_state_data.specs.State.{outputs_of}
use Rattle.tf_value_data.specs.Tree.{tree_of}
use Rattle.tf_walk_outputs.proofs.keeping.put_value.Goals as goal

pub returns-then-is_null : goal.returns-then-is_null
returns-then-is_null c =
    kept_null (string_bytes c.args.name) (tree_of c.args.object.value) _ (outputs_of c.args.outputs.now.entries) (outputs_of c.remove.new.self.entries) (sym c.is_null.ensures ∙ c.if-is_null.true) refl
    (ap outputs_of c.remove.ensures.entries ∙ outputs_of-removed c.args.outputs.now.entries c.as_str.result.now (string_bytes c.args.name) c.as_str.ensures.value)

pub returns-in-Ok : goal.returns-in-Ok
returns-in-Ok c =
    kept_value (string_bytes c.args.name) (tree_of c.args.object.value) _ (outputs_of c.args.outputs.now.entries) (outputs_of c.insert.new.self.entries) (sym c.is_null.ensures ∙ c.if-is_null.false) refl
    (ap outputs_of c.in-Ok.ensures.entries ∙ outputs_of-insert_entry c.args.outputs.now.entries c.args.name c.args.object)
