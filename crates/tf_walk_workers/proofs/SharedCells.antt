-- Cells may be shared by threads, where the type that names their walk may be.
use denote.Param.Send.{IsSend, IsSync, sendable}
use denote.RattleType.{RattleType}
use denote.Enum.Enum.{Enum}
use denote.Enum.Declared as choice
use Rattle.std.proofs.Crossing.{crosses}
use Rattle.std.proofs.MapsCrossing as maps
use Rattle.atomic_table.proofs.shared.Seat.TheSendSync.{the_send}
use Rattle.counted_slot.proofs.Counted.TheSendSync.{the_sync}
use Rattle.tf_walk_action.specs.contracts.action_result.ActionResult as ended
use Rattle.tf_provider.specs.contracts.called.Judged as judged
use Rattle.tf_tally.proofs.Sharing.{part_sync}
use Rattle.tf_tally.specs.contracts.part.Part as part
use Rattle.tf_walk_workers.specs.contracts.call_record.CallRecord as call
use Rattle.tf_walk_workers.specs.contracts.kept.CellResult as place
use Rattle.tf_value_data.proofs.value.Value.TheLaws.TheKnot as value
use Rattle.tf_walk_workers.specs.contracts.cells.Cells.{the_row}
use Rattle.tf_walk_workers.specs.declared.walk_brand.WalkBrand.{Ghosts}

judged_send : IsSend judged.the_row
judged_send = search (value.crosses, maps.crosses, crosses, sendable) depth 60 fits 20000

judged_sync : IsSync judged.the_row
judged_sync = search (value.crosses, maps.crosses, crosses, sendable) depth 60 fits 20000

ended_send : IsSend (Enum (choice.shape ended.the_type))
ended_send = search (judged_send, value.crosses, maps.crosses, crosses, sendable) depth 60 fits 20000

ended_sync : IsSync (Enum (choice.shape ended.the_type))
ended_sync = search (judged_sync, value.crosses, maps.crosses, crosses, sendable) depth 60 fits 20000

call_send : IsSend call.the_row
call_send = search (crosses, sendable) depth 60 fits 20000

part_send : (E : RattleType) → IsSend E → IsSend (part.the_row E)
part_send E s = search (the_send, crosses, sendable) depth 60 fits 20000

place_send : (T : RattleType) → IsSend T → IsSend (place.the_row T)
place_send T s = search (call_send, part_send, ended_send, crosses, sendable) depth 60 fits 20000

place_sync : (T : RattleType) → IsSend T → IsSync T → IsSync (place.the_row T)
place_sync T s y = search (call_send, part_sync, ended_sync, crosses, sendable) depth 60 fits 20000

pub cells_sync : (T : RattleType) (g : Ghosts T.Denot) → IsSend T → IsSync T → IsSync (the_row T g)
cells_sync T g s y = search (place_send, place_sync, the_sync, crosses, sendable) depth 60 fits 20000
