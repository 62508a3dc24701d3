use Rattle.tf_config_json.proofs.RefusalLaws.{refused_once, refused_not_read}
use Rattle.tf_config_json.proofs.laws.refusals_are_one.Goals as goal

pub returns-clause-once : goal.returns-clause-once
returns-clause-once c = refused_once

pub returns-clause-not_read : goal.returns-clause-not_read
returns-clause-not_read c = refused_not_read
