-- The one value is that of the name before the first `=`.
use Rattle.std.proofs.Common.{◌≡◌, ◌∙◌, Some, string_bytes, rules, ap, subst}
use Rattle.serde_json.specs.Data.{member, no_members, put}
use Rattle.serde_json.specs.View.{view, members_view}
use Rattle.serde_json.proofs.Views.{members_view-insert_entry}
use Rattle.tf_cli_variables.specs.Values.{HasEquals, block_of, name_in, value_from, value_in}
use Rattle.tf_cli_variables.proofs.values.assigned_values.Goals as goal

pub returns : goal.returns
returns c =
    let text = c.args.text.now in
    let name = c.in_ok-from_str.field-0 in
    let value = view c.in-Some-2.value in
    let block = view c.in-Some-block_of.block.now in
    let has : HasEquals text = search rules in
    let named : c.in-Some.name.now ≡ name_in text = search rules in
    let valued : c.in-Some.value.now ≡ value_in text = search rules in
    let declared : block_of c.in-Some.name.now (view c.args.config.now) ≡ Some block = search rules in
    let given : value_from block c.in-Some.value.now ≡ Some value = search rules in (
      has,
      block,
      subst (λ n. block_of n (view c.args.config.now) ≡ Some block) named declared,
      value,
      subst (λ t. value_from block t ≡ Some value) valued given,
      ap members_view c.in_ok-insert.ensures.entries ∙ members_view-insert_entry c.new-values.result.entries name c.in-Some-2.value
          ∙ ap (λ es. put (string_bytes name) value (members_view es)) c.new-values.ensures.empty
          ∙ ap (λ n. member n value no_members) (c.in_ok-from_str.ensures.ok ∙ named),
    )
