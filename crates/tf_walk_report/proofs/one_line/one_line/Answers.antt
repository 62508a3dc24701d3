use Rattle.std.proofs.Common.{◌≡◌, true, false, IsUtf8, vec_items, ap, sym, ◌∙◌, subst, arith}
use Rattle.std.proofs.VecSteps.Gaps.{with_items_is}
use Rattle.tf_walk_report.specs.Diagnostics.{in_one_line}
use Rattle.tf_walk_report.proofs.Lines.{blanked-utf8}
use Rattle.tf_walk_report.proofs.one_line.one_line.Goals as goal

pub unreachable-requires : goal.unreachable-requires
unreachable-requires c =
    let text = c.as_str-text.result.now in
    let same = with_items_is c.into_bytes-bytes.result c.blank_controls.new.bytes (omega arith) in
    let no : false ≡ true = c.in-Err.ensures.succeeds (subst IsUtf8 (sym (same ∙ (c.blank_controls.ensures ∙ ap in_one_line (c.deref_mut.ensures.value ∙ (ap vec_items c.into_bytes-bytes.ensures.value ∙ sym c.as_str-text.ensures.value))))) (blanked-utf8 text c.as_str-text.utf8)) in
    absurd (cc)
