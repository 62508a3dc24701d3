use Rattle.std.proofs.Common.{◌≡◌, arith, map, refl, ap, ◌∙◌}
use Rattle.std.specs.Prelude.{string_bytes}
use Rattle.std.proofs.lemmas.List.{length-map}
use Rattle.tf_provider_protocol.specs.Schema.{attribute_of, place_in}
use Rattle.tf_provider_protocol.proofs.Placed.{place_in-length, insert-placed}
use Rattle.tf_provider_protocol.proofs.schema.place.Goals as goal

pub insert-requires : goal.insert-requires
insert-requires c =
    let within = place_in-length (map attribute_of c.deref.result.now) c.as_str.result.now in
    grind (arith, length-map, within)

pub returns : goal.returns
returns c =
    let place : c.place_of-index.result ≡ place_in (map attribute_of c.args.attributes.now.items) (string_bytes c.args.attribute.name) =
    c.place_of-index.ensures ∙ (rw (c.deref.ensures.value, c.as_str.ensures.value) refl) in
    ap (map attribute_of) c.in_ok-insert.ensures.items ∙ insert-placed c.args.attributes.now.items c.args.attribute _ place
