use Rattle.std.proofs.Common.{map}
use Rattle.tf_config_address.specs.ResourceAddr.{addr_of}
use Rattle.tf_config_data.specs.Config.{repetition_of}
use Rattle.tf_config_data.specs.Names.{addr_pair, named_in_repetition}
use Rattle.tf_config_names.proofs.Tables.{adds_three}
use Rattle.tf_config_names.specs.Table.{names_in}
use Rattle.tf_expr_syntax.specs.ExprNames.{named_below}
use Rattle.tf_expr_syntax.specs.ExprTree.{entries_view}
use Rattle.tf_config_names.proofs.table.Declarations.add_block.Goals as goal

pub returns : goal.returns
returns c =
    let block = c.args.block.now in
    λ addr. adds_three (names_in c.args.self.now) c.args.found.now.items c.add_repetition.new.found.items c.add_named_below.new.found.items c.add_addrs.new.found.items
    (named_in_repetition (repetition_of block.repetition)) (named_below (entries_view block.arguments.entries)) (map addr_pair (map addr_of block.depends_on.items))
    c.in_ok-add_repetition.ensures c.in_ok-add_named_below.ensures (rw c.as_slice.ensures.value at c.in_ok-add_addrs.ensures)
