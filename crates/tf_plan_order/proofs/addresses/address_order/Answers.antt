use Rattle.std.proofs.Common.{◌≡◌, ap, rules, subst}
use Rattle.std.proofs.lemmas.Fn.{always_returns_same}
use Rattle.std.proofs.lemmas.List.Sorted.{ranks_by}
use Rattle.std.specs.Cmp.Lexicographic.{options_total}
use Rattle.std.specs.List.Sorted.{IsPermutation}
use Rattle.std.specs.Ordering.{is_lt}
use Rattle.tf_config_address.proofs.Totals.{addr_total}
use Rattle.tf_plan_order.specs.AddressOrder.{address_at, address_cmp, is_below}
use Rattle.tf_plan_order.proofs.addresses.address_order.Goals as goal
use Rattle.tf_plan_order.specs.Table.{numbered_in}

pub returns : goal.returns
returns c =
    let all = numbered_in c.args.resource_index.now in
    record {
      each = subst (λ xs. IsPermutation xs c.sort_by.new.self.items) c.in_ok-places.ensures c.sort_by.ensures.permutation;
      sorted = c.in_ok-sort_by.ensures.sorted (is_below all) (ranks_by (options_total addr_total) (address_at all))
          (always_returns_same _ _ _ (λ a r g called. let said : r ≡ address_cmp all a.0.now a.1.0.now = search rules in (ap is_lt said, search rules)));
    }
