use Rattle.std.proofs.Common.{◌≡◌, ◌+◌, Bool, true, false, not, Option, Some, None, option_map, refl, sym, ap, subst, arith, String, Global, string_bytes}
use Rattle.std.specs.Prelude.{is_some}
use Rattle.tf_state_next.proofs.Afterwards.{saved_in_place}
use Rattle.tf_state_next.specs.After.{IsAfter}
use Rattle.tf_state_next.specs.Ends.{ApplyResultView, apply_of, as_applied, record_input_of, saved_of}
use Rattle.tf_state_next.specs.declared.ends.Saved.{Saved}
use Rattle.tf_state_next.specs.Room.{records_more}
use Rattle.tf_state_data.specs.Resource.{HasRoomForRecords, resource_of}
use Rattle.tf_state_next.proofs.record_ends.record_apply.Goals as goal

abbrev applied_of : Option Saved → ApplyResultView
applied_of saved = as_applied (option_map saved_of saved)

no_key : (key : Option (String Global)) (b : Bool) → is_some key ≡ not b → b ≡ true → option_map string_bytes key ≡ None
no_key None b e is = refl
no_key (Some key) true e is = absurd (cc)
no_key (Some key) false e is = absurd (cc)

pub returns-then-is_plain-clause-after : goal.returns-then-is_plain-clause-after
returns-then-is_plain-clause-after c =
    saved_in_place (record_input_of c.args.given) (saved_of c.in-Some.object) (applied_of c.args.saved) (resource_of c.args.resource.now) (resource_of c.put_saved.new.resource)
    (ap applied_of c.in-Some.is) (no_key c.args.given.deposed_key (c.is_none-is_plain.result) c.is_none-is_plain.ensures c.if-is_plain.true) c.put_saved.ensures.put

pub returns-then-is_plain-clause-room : goal.returns-then-is_plain-clause-room
returns-then-is_plain-clause-room c n h =
    c.put_saved.ensures.room n (subst (λ (a : ApplyResultView). HasRoomForRecords (n + records_more a) c.args.resource.now) (ap applied_of c.in-Some.is) h)

pub returns-else-is_plain-clause-after : goal.returns-else-is_plain-clause-after
returns-else-is_plain-clause-after c =
    subst (λ (a : ApplyResultView). IsAfter (record_input_of c.args.given) (apply_of a) (resource_of c.args.resource.now) (resource_of c.put_deposing.new.resource))
    (sym (ap applied_of c.in-Some.is)) c.put_deposing.ensures.after

pub returns-else-is_plain-clause-room : goal.returns-else-is_plain-clause-room
returns-else-is_plain-clause-room c n h =
    c.put_deposing.ensures.room n (subst (λ (a : ApplyResultView). HasRoomForRecords (n + records_more a) c.args.resource.now) (ap applied_of c.in-Some.is) h)
