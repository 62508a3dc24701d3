use Rattle.std.proofs.Common.{arith}
use Rattle.std.proofs.lemmas.Map.Text.{text_keys}
use Rattle.tf_config_names.proofs.places.put_in.Goals as goal

pub returns : goal.returns
returns c = λ pair. grind (arith, text_keys)

pub returns-in-Some : goal.returns-in-Some
returns-in-Some c = λ pair. grind (arith, text_keys)
