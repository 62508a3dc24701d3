-- Parts may be shared by threads: one that is only read can't be stepped with.
use denote.Param.Send.{IsSend, IsSync, whole-keyless, sendable}
use denote.Memory.{raw_all}
use denote.RattleType.{RattleType}
use Rattle.std.proofs.Crossing.{crosses}
use Rattle.atomic_table.specs.contracts.shared.Seat as seat
use Rattle.atomic_table.proofs.shared.Seat.TheSendSync.{the_send}
use Rattle.tf_tally.specs.contracts.part.Part.{the_row}

seat_sync : (S V : RattleType) → IsSend S → IsSync (seat.the_row S V)
seat_sync S V s = record { shared = λ d b o ν q. whole-keyless (raw_all (seat.the_row S V).mir) (seat.the_row S V).own_val (the_send S V s).owned q d b o }

pub part_sync : (E : RattleType) → IsSend E → IsSync (the_row E)
part_sync E s = search (seat_sync, crosses, sendable) depth 60 fits 20000
