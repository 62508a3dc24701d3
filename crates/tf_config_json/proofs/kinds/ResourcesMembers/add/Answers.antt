use Rattle.std.proofs.Common.{map, sym, ap, ◌∙◌}
use Rattle.tf_config_json.proofs.Puts.{blocks-insert_entry}
use Rattle.tf_config_json.specs.Config.{block_body}
use Rattle.tf_config_data.specs.Config.{block_of}
use Rattle.tf_config_json.proofs.kinds.ResourcesMembers.add.Goals as goal

pub returns : goal.returns
returns c =
    let put_in = ap (map block_of) c.in_ok-insert.ensures.entries ∙ blocks-insert_entry c.args.resources.now.entries _ c.in_ok-block.block in (
      c.in_ok-demand_name.ensures.0,
      (block_body c.in_ok-block.block, c.in_ok-block.ensures, sym (put_in ∙ rw (c.in_ok-type_name.ensures.ok, c.in_ok-name.ensures.ok))),
    )
