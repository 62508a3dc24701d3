use Rattle.std.proofs.Common.{◌∙◌, ◌<◌, ◌++◌, List, ℕ, Option, length, get_or, sym, ap, arith}
use Rattle.std.proofs.lemmas.List.{get_or_default}
use Rattle.std.proofs.lemmas.List.Elements.{Contains-get_or}
use Rattle.std.specs.Option.{option_to_list}
use Rattle.tf_config_data.specs.Names.{meant_at}
use Rattle.tf_config_names.specs.Table.{names_in}
use Rattle.tf_walk_buffers.proofs.Listed.{found-at}
use Rattle.tf_walk_buffers.specs.Dependencies.{address_of}
use Rattle.tf_walk_buffers.proofs.dependencies.addresses_at.Goals as goal

pub note-requires : goal.note-requires
note-requires c = c.requires _ (Contains-get_or c.args.places.now c.loop-place.place-index 0 (omega arith))

pub loop-place-preserved : goal.loop-place-preserved
loop-place-preserved c =
    let l = c.loop-place in
    let places = c.args.places.now in
    let address : ℕ → Option (List ℕ) = λ m. address_of (meant_at (names_in c.args.names.now) m) in
    let place = get_or places l.place-index 0 in
    let below : l.place-index < length places = omega arith in
    c.in_ok-note.ensures ∙ ap (λ texts. texts ++ option_to_list (address place)) l.invariant ∙ sym (found-at address places l.place-index place below (get_or_default places l.place-index 0 place below))
