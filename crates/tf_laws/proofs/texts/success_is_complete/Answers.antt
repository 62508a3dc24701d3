use Rattle.tf_laws.proofs.Complete.{success_complete}
use Rattle.tf_laws.proofs.Settling.{Settling, seconds_settle, thirds_stay}
use Rattle.tf_laws.proofs.texts.success_is_complete.Goals as goal

pub returns : goal.returns
returns c =
    let laws = c.laws_of_reading.ensures in
    let more : Settling = record {
      sound = c.read_configurations_fit.ensures.sound;
      back = c.texts_read_back.ensures.back;
      second = c.applies_settle.ensures.second;
      serials = c.applies_settle.ensures.serials;
      third = c.applies_settle.ensures.third;
    } in
    record { complete = success_complete; second = seconds_settle laws more; third = thirds_stay laws more }
