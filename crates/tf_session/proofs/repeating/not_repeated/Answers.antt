-- the calls of idempotent types are taken out
use Rattle.std.proofs.Common.{◌≡◌, not, map, rules, string_bytes}
use Rattle.std.proofs.lemmas.Fn.{filter_same}
use Rattle.std.specs.Arc.{arc_value}
use Rattle.tf_provider_remote.specs.Types.{is_idempotent, type_of}
use Rattle.tf_session.proofs.repeating.not_repeated.Goals as goal

pub returns : goal.returns
returns c =
    let types = map type_of (arc_value c.args.types.now.types).items in
    filter_same _ (λ r. not (is_idempotent (string_bytes r.type_name) types)) _ (λ x b f called. (search rules, search rules)) _ _ c.retain.ensures.filtered
