use Rattle.std.proofs.lemmas.Result.{err_from_is_err_and}
use Rattle.std.proofs.Common.{◌≡◌, Vec, Global, length, min, subst, arith}
use Rattle.tf_config_names.specs.Table.{names_in}
use Rattle.tf_value_data.specs.Tree.{entries_view}
use Rattle.tf_expand_keys.specs.Expanding.{instances_before}
use Rattle.tf_expand_keys.specs.Module.{IsModule}
use Rattle.tf_expand_keys.specs.Views.{shapes_of, resolved_names_of}
use Rattle.tf_expand_keys.specs.declared.shape.InstanceKeys.{InstanceKeys}
use Rattle.tf_expand_keys.specs.declared.table.ModuleParts.{ModuleParts}
use Rattle.tf_expand_keys.proofs.Shaping.{all_expanded, too_many, refused_same}
use Rattle.tf_expand_keys.proofs.expansion.expand.Goals as goal

pub returns-in_err-shapes : goal.returns-in_err-shapes
returns-in_err-shapes c = λ resolved_names solves.
    let fits = subst IsModule c.declared.view_is c.declared.invariant in
    let p = err_from_is_err_and c.from_residual-in_err-shapes.result c.from_residual-in_err-shapes.ensures.1 in
    rw (p.1, p.2) (refused_same {X = Vec InstanceKeys Global} (λ shapes. shapes.items) (entries_view c.args.declared.now.variables.now.entries) (names_in c.args.declared.now.names.now)
    c.args.declared.now.dependence.now (resolved_names_of c.as_slice.result.now) resolved_names c.in_err-shapes.field-0.0 fits.dependence
    (λ a h. rw c.as_slice.ensures.value (c.in_ok-kept.ensures.needed resolved_names solves a h)) c.in_err-shapes.ensures)

pub returns-then-count-gt-MAX_INSTANCES : goal.returns-then-count-gt-MAX_INSTANCES
returns-then-count-gt-MAX_INSTANCES c = λ resolved_names solves.
    let fits = subst IsModule c.declared.view_is c.declared.invariant in
    let counted =
    subst (λ (m : ModuleParts). c.count.result ≡ min (instances_before (names_in m.names.now) (shapes_of c.in_ok-shapes.shapes.items) (length (names_in m.names.now))) 18446744073709551615)
    c.declared.view_is (rw c.as_slice-2.ensures.value at c.count.ensures) in
    too_many (entries_view c.args.declared.now.variables.now.entries) (names_in c.args.declared.now.names.now) c.args.declared.now.dependence.now
    (resolved_names_of c.in_ok-kept.kept.items) resolved_names c.in_ok-shapes.shapes.items fits.dependence (c.in_ok-kept.ensures.needed resolved_names solves)
    (rw c.as_slice.ensures.value at c.in_ok-shapes.ensures) (omega (arith, counted, c.if-count-gt-MAX_INSTANCES.true))

pub returns : goal.returns
returns c = λ resolved_names solves.
    let fits = subst IsModule c.declared.view_is c.declared.invariant in
    let counted =
    subst (λ (m : ModuleParts). c.count.result ≡ min (instances_before (names_in m.names.now) (shapes_of c.in_ok-shapes.shapes.items) (length (names_in m.names.now))) 18446744073709551615)
    c.declared.view_is (rw c.as_slice-2.ensures.value at c.count.ensures) in
    all_expanded (entries_view c.args.declared.now.variables.now.entries) (names_in c.args.declared.now.names.now) c.args.declared.now.dependence.now
    (resolved_names_of c.in_ok-kept.kept.items) resolved_names c.in_ok-shapes.shapes.items fits.dependence (c.in_ok-kept.ensures.needed resolved_names solves)
    (rw c.as_slice.ensures.value at c.in_ok-shapes.ensures) (omega (arith, counted, c.if-count-gt-MAX_INSTANCES.false))
