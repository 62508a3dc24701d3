-- The text is that of an object with the merged values.
use Rattle.std.proofs.Common.{◌≡◌, ◌≤◌, ◌∙◌, false, Some, ap, subst}
use Rattle.serde_json.specs.Data.{depth}
use Rattle.serde_json.specs.Find.{get_member}
use Rattle.serde_json.specs.Read.{max_depth, read}
use Rattle.serde_json.specs.View.{view, members_view}
use Rattle.serde_json.specs.Written.{compact_text, has_float}
use Rattle.serde_json.proofs.Views.{view-Object}
use Rattle.tf_cli_variables.proofs.Puts.{put_all-last}
use Rattle.tf_cli_variables.proofs.merging.merge.Goals as goal

pub returns-clause-merged : goal.returns-clause-merged
returns-clause-merged c =
    let merged = c.in_ok-values.ensures.merged in
    let values = members_view c.in_ok-values.values.entries in
    let bytes = c.in_ok-to_vec.field-0.items in
    let text = subst (λ d. (depth d ≤ max_depth → read bytes ≡ Some d) × (has_float d ≡ false → bytes ≡ compact_text d)) (view-Object c.in_ok-values.values)
    (c.in_ok-to_vec.ensures.reads_back, c.in_ok-to_vec.ensures.text) in (
      view c.in_ok-config.config,
      c.in_ok-config.ensures.read,
      merged.0,
      merged.1,
      values,
      record { last = λ name. ap (get_member name) merged.2 ∙ put_all-last merged.0 name; once = merged.2 },
      record { utf8 = c.in_ok-to_vec.ensures.utf8; reads = text.0; prints = text.1 },
    )
