-- The first source without values is a file, whose bytes are the text.
use Rattle.std.proofs.Common.{◌≡◌, false, [], rules}
use Rattle.tf_cli_variables.specs.Choice.{is_one_file}
use Rattle.tf_cli_variables.specs.Merge.{IsFirstBad}
use Rattle.tf_cli_variables.specs.declared.source.Cause.TheVariants.{NotAFile}
use Rattle.tf_cli_variables.proofs.Choices.{bad_file, together}
use Rattle.tf_cli_variables.proofs.choosing.choose.Goals as goal

pub returns-in-Err-BadSource-default-NotAFile-clause-text : goal.returns-in-Err-BadSource-default-NotAFile-clause-text
returns-in-Err-BadSource-default-NotAFile-clause-text c =
    let position = c.in-Err-BadSource-default-NotAFile.position in
    let some : c.args.sources.now ≡ [] → ⊥ = search rules in
    let several : is_one_file c.args.sources.now ≡ false = search rules in
    let first : IsFirstBad c.args.config.now c.args.sources.now position NotAFile = search rules in
    together c.args.config.now c.args.sources.now _ some several (bad_file c.args.config.now c.args.sources.now position first)
