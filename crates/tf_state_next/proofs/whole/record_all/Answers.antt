use Rattle.std.proofs.Common.{◌≡◌, List, map, reverse, ap, sym, subst, ◌∙◌}
use Rattle.tf_state_next.proofs.Changing.{all_there, heads_ordered}
use Rattle.tf_state_next.proofs.Finding.{apart_back, apart_front}
use Rattle.tf_state_next.proofs.Reversed.{applied_reversed, apart_reversed, reversed_map, room_reversed, there_reversed}
use Rattle.tf_state_next.specs.Events.{ApplyView, AreApart, as_apply, apply_of, events_of, instance_of, metadata_update_of}
use Rattle.tf_state_next.specs.Recorded.{AreApplied, AreThere}
use Rattle.tf_state_next.specs.StateDraft.{HaveRoom, count_of}
use Rattle.tf_state_next.specs.declared.events.Apply.{Apply}
use Rattle.tf_state_data.specs.Resource.{resource_of}
use Rattle.tf_state_next.proofs.whole.record_all.Goals as goal

-- creates and updates, and their addresses, from the last on
turned : (applies now : List Apply) → now ≡ reverse applies → map apply_of now ≡ reverse (map apply_of applies)
turned applies now is = ap (map apply_of) is ∙ reversed_map apply_of applies

addrs_turned : (applies now : List Apply) → now ≡ reverse applies → map (λ (a : ApplyView). a.addr) (map apply_of now) ≡ reverse (map (λ (a : ApplyView). a.addr) (map apply_of applies))
addrs_turned applies now is = ap (map (λ (a : ApplyView). a.addr)) (turned applies now is) ∙ reversed_map (λ (a : ApplyView). a.addr) (map apply_of applies)

pub renew_all-requires-clause-ordered : goal.renew_all-requires-clause-ordered
renew_all-requires-clause-ordered c =
    heads_ordered (map resource_of c.args.resources.now) (map resource_of c.destroy_all.new.resources) c.destroy_all.ensures.recorded.heads c.requires.ordered

pub renew_all-requires-clause-apart : goal.renew_all-requires-clause-apart
renew_all-requires-clause-apart c = apart_back instance_of (map apply_of c.args.events.applies.items) (map as_apply (map metadata_update_of c.args.events.metadata_updates.items)) c.requires.apart.wanted

pub apply_all-requires-clause-apart : goal.apply_all-requires-clause-apart
apply_all-requires-clause-apart c =
    let applies = map apply_of c.args.events.applies.items in
    subst (AreApart instance_of) (sym (turned c.args.events.applies.items c.reverse.new.self.items c.reverse.ensures.items))
    (apart_reversed instance_of applies (apart_front instance_of applies (map as_apply (map metadata_update_of c.args.events.metadata_updates.items)) c.requires.apart.wanted))

pub apply_all-requires-clause-ordered : goal.apply_all-requires-clause-ordered
apply_all-requires-clause-ordered c =
    heads_ordered (map resource_of c.args.resources.now) (map resource_of c.renew_all.new.resources) (c.renew_all.ensures.recorded.heads ∙ c.destroy_all.ensures.recorded.heads) c.requires.ordered

pub apply_all-requires-clause-there : goal.apply_all-requires-clause-there
apply_all-requires-clause-there c =
    let addrs = map (λ a. a.addr) (events_of c.args.events).applies in
    subst (λ ls. AreThere ls (map resource_of c.renew_all.new.resources)) (sym (addrs_turned c.args.events.applies.items c.reverse.new.self.items c.reverse.ensures.items))
    (there_reversed addrs (map resource_of c.renew_all.new.resources)
    (all_there addrs (map resource_of c.args.resources.now) (map resource_of c.renew_all.new.resources) (c.renew_all.ensures.recorded.heads ∙ c.destroy_all.ensures.recorded.heads) c.requires.there))

pub apply_all-requires-clause-room : goal.apply_all-requires-clause-room
apply_all-requires-clause-room c =
    let addrs = map (λ a. a.addr) (events_of c.args.events).applies in
    let room = c.renew_all.ensures.room (count_of addrs) (c.destroy_all.ensures.room (count_of addrs) c.requires.room) in
    subst (λ ls. HaveRoom (count_of ls) c.renew_all.new.resources) (sym (addrs_turned c.args.events.applies.items c.reverse.new.self.items c.reverse.ensures.items)) (room_reversed addrs c.renew_all.new.resources room)

pub returns : goal.returns
returns c =
    let applies = map apply_of c.args.events.applies.items in
    let apart = apart_front instance_of applies (map as_apply (map metadata_update_of c.args.events.metadata_updates.items)) c.requires.apart.wanted in
    let late = map resource_of c.renew_all.new.resources in
    let after = map resource_of c.apply_all.new.resources in
    record {
      mid = map resource_of c.destroy_all.new.resources;
      late = map resource_of c.renew_all.new.resources;
      destroyed = c.destroy_all.ensures.recorded;
      renewed = c.renew_all.ensures.recorded;
      applied = applied_reversed applies late after apart
          (subst (λ xs. AreApplied xs late after) (turned c.args.events.applies.items c.reverse.new.self.items c.reverse.ensures.items) c.apply_all.ensures);
    }
