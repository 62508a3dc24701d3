-- The members that were listed are those of the definition.
use Rattle.std.proofs.Common.{◌≡◌, List, map, Result, Ok, Err, IfOk, Vec, Global, ap₂, ◌∙◌}
use Rattle.tf_config_address.specs.ObjectId.{InstanceKeyView}
use Rattle.tf_plan_order.proofs.Listing.{those_members}
use Rattle.tf_plan_order.specs.Members.{AreMembers, members}
use Rattle.tf_plan_order.specs.MemberViews.{member_of}
use Rattle.tf_plan_order.specs.declared.instance_to_plan.InstanceToPlan.{InstanceToPlan}
use Rattle.tf_state_data.specs.Record.{RecordView}

pub listed : {E : Type 0} (keys own : List InstanceKeyView) (records kept : List RecordView) (result : Result (Vec InstanceToPlan Global) E) → keys ≡ own → records ≡ kept
    → IfOk result (λ ms. AreMembers keys records (map member_of ms.items)) → IfOk result (λ ms. map member_of ms.items ≡ members own kept)
listed keys own records kept (Ok ms) e f are = those_members keys records (map member_of ms.items) are ∙ ap₂ members e f
listed keys own records kept (Err why) e f are = are
