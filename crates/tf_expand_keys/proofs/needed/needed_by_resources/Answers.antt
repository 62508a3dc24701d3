use Rattle.std.proofs.Common.{◌≡◌, ◌<◌, ℕ, IfOk, true, length, subst}
use Rattle.std.specs.Prelude.{◌↔◌}
use Rattle.tf_graph.specs.NodeSet.{has}
use Rattle.tf_config_names.specs.Table.{names_in}
use Rattle.tf_expand_keys.specs.Needed.{IsNeeded}
use Rattle.tf_expand_keys.specs.declared.table.ModuleParts.{ModuleParts}
use Rattle.tf_expand_keys.proofs.Needing.{by_resources}
use Rattle.tf_expand_keys.proofs.needed.needed_by_resources.Goals as goal

pub returns : goal.returns
returns c =
    let parts = c.declared.inside.parts in
    subst
    (λ (m : ModuleParts). IfOk c.needed_by.result (λ needed. (n : ℕ) → n < length (names_in m.names.now) → (has needed.items n ≡ true) ↔ IsNeeded (names_in m.names.now) m.dependence.now n))
    c.declared.view_is
    (by_resources (names_in parts.names.now) parts.dependence.now c.in_ok-asking.asking.items c.as_slice.result.now c.declared.invariant.dependence c.as_slice.ensures.value c.in_ok-asking.ensures c.needed_by.result c.needed_by.ensures)
