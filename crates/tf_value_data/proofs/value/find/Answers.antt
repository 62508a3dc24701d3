use Rattle.std.proofs.Common.{option_map, ◌∙◌, ap}
use Rattle.tf_value_data.specs.Tree.{tree_of}
use Rattle.tf_value_data.proofs.Views.{tree_of-lookup, tree_of_ref}
use Rattle.tf_value_data.proofs.value.find.Goals as goal

pub returns : goal.returns
returns c = tree_of_ref c.get.result ∙ ap (option_map tree_of) c.get.ensures.value ∙ tree_of-lookup c.args.key.now c.args.entries.now.entries
