-- Providers that answer from entries, which hold values, may be shared.
use denote.Param.Send.{sendable}
use denote.Param.Sent.{Syncs}
use Rattle.std.proofs.Crossing.{crosses}
use Rattle.std.proofs.MapsCrossing as maps
use Rattle.tf_value_data.proofs.value.Value.TheLaws.TheKnot as value
use Rattle.tf_recovery.proofs.recovering.recover_by.OwnLists as lists

pub syncs-part-1-1 : Syncs lists.part-1-1
syncs-part-1-1 = search (value.crosses, maps.crosses, crosses, sendable) depth 60 fits 20000

pub syncs-part-1-2 : Syncs lists.part-1-2
syncs-part-1-2 = search (value.crosses, maps.crosses, crosses, sendable) depth 60 fits 20000

pub syncs-part-1-3 : Syncs lists.part-1-3
syncs-part-1-3 = search (value.crosses, maps.crosses, crosses, sendable) depth 60 fits 20000
