use Rattle.std.proofs.Common.{sym, ◌∙◌}
use Rattle.std.proofs.lemmas.Slice.Eq.{bytes_eq-Decides, slice_eq-Decides}
use Rattle.std.specs.Cmp.Derive.Mapped.{pointwise-map}
use Rattle.std.specs.Prelude.{bytes_eq, string_bytes}
use Rattle.tf_value_data.proofs.refinement.same_texts.Goals as goal

pub returns : goal.returns
returns c = slice_eq-Decides bytes_eq-Decides _ _ c.eq.result (c.eq.ensures ∙ sym (pointwise-map string_bytes bytes_eq c.args.texts.now.keys c.args.others.now.keys))
