use Rattle.std.proofs.Common.{◌∙◌, Some, ap, option_map, sym}
use Rattle.std.specs.List.{list_any}
use Rattle.tf_plan_order.proofs.Placing.{any-record}
use Rattle.tf_plan_order.specs.Marks.{is_marked}
use Rattle.tf_state_data.specs.Record.{RecordView}
use Rattle.tf_plan_order.proofs.resource_index.ResourceIndex.is_marked.Goals as goal

pub returns-in-Orphan : goal.returns-in-Orphan
returns-in-Orphan c =
    ap (option_map is_marked) c.in-Orphan.ensures
    ∙ ap Some (sym (c.any_says_so.ensures ∙ any-record c.records.result.now ∙ ap (list_any (λ (x : RecordView). x.create_before_destroy)) c.records.ensures.records))
