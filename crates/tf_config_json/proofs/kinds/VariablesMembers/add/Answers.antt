use Rattle.std.proofs.Common.{map, sym, ap, ◌∙◌}
use Rattle.tf_config_json.proofs.Puts.{variables-insert_entry}
use Rattle.tf_config_json.specs.Config.{variable_body}
use Rattle.tf_config_data.specs.Config.{variable_of}
use Rattle.tf_config_json.proofs.kinds.VariablesMembers.add.Goals as goal

pub returns : goal.returns
returns c =
    let put_in = ap (map variable_of) c.in_ok-insert.ensures.entries ∙ variables-insert_entry c.args.variables.now.entries _ c.in_ok-variable.variable in (
      c.in_ok-demand_name.ensures.0,
      (variable_body c.in_ok-variable.variable, c.in_ok-variable.ensures, sym (put_in ∙ rw c.in_ok-name.ensures.ok)),
    )
