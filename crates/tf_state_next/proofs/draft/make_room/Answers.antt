use Rattle.std.proofs.Common.{◌≡◌, ◌<◌, ℕ, length, map, get_or, sym, ap, ◌∙◌, subst, arith}
use Rattle.std.proofs.Math.Seq.{map-set_same}
use Rattle.std.proofs.Math.ListN.{get_or-map}
use Rattle.std.proofs.lemmas.List.{length-map, get_or-map as get_or-map_within}
use Rattle.std.proofs.lemmas.Option.{slice_get-get_or}
use Rattle.tf_config_address.specs.ResourceAddr.{addr_of}
use Rattle.tf_state_next.proofs.Added.{room_all, room_more}
use Rattle.tf_state_next.proofs.Counted.{at_counted}
use Rattle.tf_state_next.specs.StateDraft.{count_of, counts_at}
use Rattle.tf_state_data.specs.Resource.{HasRoomForRecords, ResourceView, resource_of}
use Rattle.tf_state_next.proofs.draft.make_room.Goals as goal

pub returns-in_err-reserve-clause-same : goal.returns-in_err-reserve-clause-same
returns-in_err-reserve-clause-same c =
    map-set_same resource_of c.loop-index.resources c.loop-index.index c.reserve.new.self c.index-resources-index.result c.reserve.ensures.same ∙ c.loop-index.invariant.same

pub loop-index-preserved : goal.loop-index-preserved
loop-index-preserved c =
    let rs = c.loop-index.resources in
    let i = c.loop-index.index in
    let new = c.reserve.new.self in
    let default = c.index-resources-index.result in
    let below : i < length rs = omega (arith, c.loop-index-test.true, c.loop-index.auto.index-end) in
    let all = map (λ l. addr_of l.now) c.args.addrs.now in
    let count = count_of all in
    let seen = map resource_of rs in
    let within : i < length seen = omega (arith, below, length-map rs resource_of) in
    let renamed : addr_of new.addr ≡ addr_of (get_or rs i default).addr = ap (λ (r : ResourceView). r.addr) c.reserve.ensures.same in
    let is : c.in_ok-counts.counts.items ≡ counts_at all seen = c.in_ok-counts.ensures ∙ ap (counts_at all) (sym c.loop-index.invariant.same) in
    let there = at_counted all seen c.in_ok-counts.counts.items i c.index.result.now is within c.index.ensures in
    let counted : c.index.result.now ≡ count (addr_of new.addr) =
    there ∙ get_or-map_within (λ (r : ResourceView). count r.addr) seen i (resource_of default) 0 within ∙ ap (λ (r : ResourceView). count r.addr) (get_or-map resource_of rs i default) ∙ ap count (sym renamed) in
    record {
      same = map-set_same resource_of rs i new default c.reserve.ensures.same ∙ c.loop-index.invariant.same;
      room = room_more count rs i (get_or rs i default) new (slice_get-get_or rs i default below) (subst (λ (n : ℕ). HasRoomForRecords n new) counted c.in_ok-reserve.ensures.room) c.loop-index.invariant.room;
    }

pub returns-clause-room : goal.returns-clause-room
returns-clause-room c =
    room_all (count_of (map (λ l. addr_of l.now) c.args.addrs.now)) c.loop-index.resources c.loop-index.index (omega (arith, c.loop-index-test.false)) c.loop-index.invariant.room
