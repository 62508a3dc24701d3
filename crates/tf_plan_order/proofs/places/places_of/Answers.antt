use Rattle.std.proofs.Common.{◌∙◌, ◌+◌, length, map, option_map, sym, ap, arith}
use Rattle.tf_config_data.specs.Names.{addr_pair}
use Rattle.tf_config_names.proofs.Tables.{drop_all}
use Rattle.tf_plan_order.specs.ResourceRef.{resource_ref_of}
use Rattle.tf_plan_order.specs.ResourceIndex.{place_in}
use Rattle.tf_plan_order.proofs.places.places_of.Goals as goal

pub loop-place-init : goal.loop-place-init
loop-place-init c =
    let all = c.args.numbered.now in
    λ addr. c.empty-places.ensures (addr_pair addr) ∙ sym (ap (λ ns. option_map (λ k. k + length all) (place_in (map resource_ref_of ns) addr)) (drop_all all (length all) (omega arith)))
