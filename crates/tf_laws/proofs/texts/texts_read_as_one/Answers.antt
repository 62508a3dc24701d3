use Rattle.tf_laws.proofs.Reading.{stand_apart, stand_for_one}
use Rattle.tf_laws.proofs.texts.texts_read_as_one.Goals as goal

pub returns : goal.returns
returns c =
    let laws = c.laws_of_reading.ensures in
    record { one = stand_for_one laws.one laws.values laws.state; apart = stand_apart laws.one laws.values laws.state }
