use Rattle.tf_laws.proofs.OneOfTwo.{never_unread, readings_told}
use Rattle.tf_laws.proofs.ToldOf.{Resolved}
use Rattle.tf_laws.proofs.texts.texts_are_read_or_refused.Goals as goal

pub returns : goal.returns
returns c =
    let laws : Resolved = record { stands = c.faultless_trees_stand.ensures.stands; values = c.values_are_one.ensures.values } in
    record { never_neither = never_unread laws; told = readings_told laws }
