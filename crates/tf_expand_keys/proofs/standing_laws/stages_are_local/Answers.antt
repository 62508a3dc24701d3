use Rattle.tf_expand_keys.proofs.Locals.{expansion_local, planning_local, applying_local, all_seen}
use Rattle.tf_expand_keys.proofs.standing_laws.stages_are_local.Goals as goal

pub returns : goal.returns
returns c =
    let law = c.meaning_is_local.ensures.expressions in
    record { expansion = expansion_local law; planning = planning_local; applying = applying_local; all = all_seen law }
