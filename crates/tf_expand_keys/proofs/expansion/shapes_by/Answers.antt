use Rattle.std.proofs.Common.{length, sym, ap, ◌∙◌, arith}
use Rattle.tf_config_names.specs.Table.{names_in}
use Rattle.tf_expand_keys.specs.Views.{worked_out}
use Rattle.tf_expand_keys.specs.declared.table.ModuleParts.{ModuleParts}
use Rattle.tf_expand_keys.proofs.Shaping.{first_refused, shapes_more}
use Rattle.tf_expand_keys.proofs.expansion.shapes_by.Goals as goal

pub returns-in-Err : goal.returns-in-Err
returns-in-Err c =
    first_refused _ _ _ c.loop-place.place c.loop-place.shapes.items c.in-Err.why (omega (arith, c.loop-place-test.true, c.len-place-end.ensures, ap (λ (m : ModuleParts). length (names_in m.names.now)) c.declared.view_is))
    (sym (ap worked_out c.in-Err.is) ∙ c.in_ok-shape.ensures) c.loop-place.invariant

pub loop-place-preserved : goal.loop-place-preserved
loop-place-preserved c =
    shapes_more _ _ _ c.loop-place.place c.loop-place.shapes.items c.push.new.self.items c.in-Ok.shape
    c.in_ok-push-in-Ok.ensures.items (sym (ap worked_out c.in-Ok.is) ∙ c.in_ok-shape.ensures) c.loop-place.invariant
