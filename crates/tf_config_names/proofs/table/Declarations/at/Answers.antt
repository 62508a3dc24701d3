use Rattle.std.proofs.Common.{◌<◌, length, arith}
use Rattle.std.proofs.lemmas.List.{length-map}
use Rattle.tf_config_names.proofs.Tables.{meant_at-map}
use Rattle.tf_config_names.specs.Table.{declaration_of}
use Rattle.tf_config_names.proofs.table.Declarations.at.Goals as goal

pub returns-clause-meant : goal.returns-clause-meant
returns-clause-meant c =
    let all = c.args.self.now.entries.items in
    let within : c.args.place < length all = omega (arith, length-map all declaration_of) in
    meant_at-map all c.args.place c.index.result.now within c.index.ensures
