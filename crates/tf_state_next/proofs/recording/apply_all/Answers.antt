use Rattle.std.proofs.Common.{◌≡◌, ◌∷◌, ◌++◌, List, [], map, sym, ap, subst, ◌∙◌, arith}
use Rattle.std.proofs.lemmas.List.{map-append}
use Rattle.tf_config_address.specs.ResourceAddr.{ResourceAddrView}
use Rattle.tf_state_next.proofs.Changing.{all_there, empty, heads_ordered, room_last, there_front}
use Rattle.tf_state_next.proofs.Finding.{apart_front}
use Rattle.tf_state_next.proofs.OneByOne.{applied_joined, none_applied}
use Rattle.tf_state_next.specs.Events.{ApplyView, AreApart, apply_of, instance_of}
use Rattle.tf_state_next.specs.StateDraft.{HaveRoom, count_of}
use Rattle.tf_state_next.specs.Recorded.{AreApplied, AreThere}
use Rattle.tf_state_next.specs.declared.events.Apply.{Apply}
use Rattle.tf_state_data.specs.Resource.{resource_of}
use Rattle.tf_state_next.proofs.recording.apply_all.Goals as goal

-- the addresses of all that are left, the last one behind the others
addrs_last : (all front : List Apply) (a : Apply) → all ≡ front ++ a ∷ []
    → map (λ (a : ApplyView). a.addr) (map apply_of all) ≡ map (λ (a : ApplyView). a.addr) (map apply_of front) ++ (apply_of a).addr ∷ []
addrs_last all front a e =
    ap (λ (xs : List Apply). map (λ (a : ApplyView). a.addr) (map apply_of xs)) e ∙ ap (map (λ (a : ApplyView). a.addr)) (map-append apply_of front (a ∷ []))
    ∙ map-append (λ (a : ApplyView). a.addr) (map apply_of front) (apply_of a ∷ [])

pub apply-place-requires-clause-there : goal.apply-place-requires-clause-there
apply-place-requires-clause-there c =
    let old = c.loop-event in
    let addrs = addrs_last old.applies.items c.pop.new.self.items c.in-Some.event c.in-Some.ensures.items in
    (there_front (map (λ (a : ApplyView). a.addr) (map apply_of c.pop.new.self.items)) ((apply_of c.in-Some.event).addr ∷ []) (map resource_of old.resources)
    (subst (λ (ls : List ResourceAddrView). AreThere ls (map resource_of old.resources)) addrs old.invariant.there)).1

pub apply-place-requires-clause-room : goal.apply-place-requires-clause-room
apply-place-requires-clause-room c =
    let old = c.loop-event in
    let addrs = addrs_last old.applies.items c.pop.new.self.items c.in-Some.event c.in-Some.ensures.items in
    room_last (map (λ (a : ApplyView). a.addr) (map apply_of c.pop.new.self.items)) (apply_of c.in-Some.event).addr old.resources
    (subst (λ (ls : List ResourceAddrView). HaveRoom (count_of ls) old.resources) addrs old.invariant.room)

pub loop-event-preserved : goal.loop-event-preserved
loop-event-preserved c =
    let old = c.loop-event in
    let front = map apply_of c.pop.new.self.items in
    let a = apply_of c.in-Some.event in
    let now = map resource_of old.resources in
    let next = map resource_of c.apply-place.new.resources in
    let all : map apply_of old.applies.items ≡ front ++ a ∷ [] = ap (map apply_of) c.in-Some.ensures.items ∙ map-append apply_of c.pop.new.self.items (c.in-Some.event ∷ []) in
    let addrs = addrs_last old.applies.items c.pop.new.self.items c.in-Some.event c.in-Some.ensures.items in
    let apart = subst (λ (ds : List ApplyView). AreApart instance_of ds) all old.invariant.apart in
    let there = there_front (map (λ (a : ApplyView). a.addr) front) (a.addr ∷ []) now (subst (λ (ls : List ResourceAddrView). AreThere ls now) addrs old.invariant.there) in
    record {
      recorded = λ after h. old.invariant.recorded after (subst (λ (ds : List ApplyView). AreApplied ds now after) (sym all) (applied_joined front (a ∷ []) now next after apart c.apply-place.ensures.recorded h));
      ordered = heads_ordered now next c.apply-place.ensures.recorded.heads old.invariant.ordered;
      apart = apart_front instance_of front (a ∷ []) apart;
      there = all_there (map (λ (a : ApplyView). a.addr) front) now next c.apply-place.ensures.recorded.heads there.0;
      room = c.apply-place.ensures.room (map (λ (a : ApplyView). a.addr) front) (subst (λ (ls : List ResourceAddrView). HaveRoom (count_of ls) old.resources) addrs old.invariant.room);
    }

-- none is left
pub returns : goal.returns
returns c =
    let none : c.loop-event.applies.items ≡ [] = empty c.loop-event.applies.items (omega (arith, c.in_default.ensures.cases)) in
    let now = map resource_of c.loop-event.resources in
    c.loop-event.invariant.recorded now (subst (λ (ds : List Apply). AreApplied (map apply_of ds) now now) (sym none) (none_applied now))
