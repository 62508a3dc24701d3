-- What comes of a valid state is valid.
use Rattle.std.proofs.Common.{◌≡◌, ◌+◌, ◌<◌, ◌^◌, ℕ, Bool, true, false, cond, List, Option, Some, None, option_map, is_eq, refl, sym, ap, ◌∙◌, subst, arith}
use Rattle.std.proofs.lemmas.Slice.Eq.{bytes_eq-Decides}
use Rattle.std.specs.List.{filter_map, find}
use Rattle.std.specs.Option.{option_eq, option_map_or, option_or}
use Rattle.std.specs.Prelude.{bytes_eq, option_and_then}
use Rattle.tf_config_address.proofs.Totals.{addr_total, object_id_total}
use Rattle.tf_config_address.specs.ResourceAddr.{ResourceAddrView, addr_cmp}
use Rattle.tf_config_address.specs.Name.{is_name}
use Rattle.tf_config_address.specs.ObjectId.{InstanceKeyView, ObjectIdView, object_id_cmp}
use Rattle.tf_state_next.proofs.Changing.{found_addr}
use Rattle.tf_state_next.proofs.Composed.{deposed_found}
use Rattle.tf_state_next.proofs.Finding.{all_found, found_holds, found_passes}
use Rattle.tf_state_next.proofs.One.{known_by, some_known}
use Rattle.tf_state_next.proofs.OneByOne.{applies_it, applies_one, destroys_it}
use Rattle.tf_state_next.specs.Events.{ApplyView, DestroyView, EventsView, apply_of_instance, ends_in, given_in, left_of_deposed, left_of_object, nothing_given, wanted}
use Rattle.tf_state_next.specs.Laws.{StateAfterIsValid}
use Rattle.tf_state_next.specs.Sound.{AreSound, IsSoundApply, IsSoundBy, IsSoundDestroy, IsSoundLeft, IsSoundObject}
use Rattle.tf_state_next.specs.StateAfter.{has_records, is_same, places_at}
use Rattle.tf_state.specs.Valid.{AreAddresses, IsDeposed, IsPresent, IsRecord, IsValid}
use Rattle.tf_state_next.specs.After.{Places, after_destroy, as_deposed, current_after, deposed_anew, destroy_under, instance_after, object_at, record_of_saved, renewed}
use Rattle.tf_state_next.specs.Ends.{LeftView, gone, changed, unchanged, ApplyResultView, unwanted, unplanned, nothing, SavedView, saved}
use Rattle.tf_state_data.specs.Ids.{AreById}
use Rattle.tf_state_data.specs.Record.{RecordView}
use Rattle.tf_state_data.specs.Resource.{ResourceView, record_at}
use Rattle.tf_state_data.specs.State.{StateView, record_in, resource_at}
use Rattle.tf_value_data.specs.Stored.{IsTable}

-- a record may be part of a valid state at an address
pub record SoundAt (addr : ResourceAddrView) (x : RecordView) : Type 0 where
  pub type_name : is_name addr.type_name ≡ true
  pub name : is_name addr.name ≡ true
  pub sound : IsRecord x

-- where there is a record, it may be
abbrev MaySound : ResourceAddrView → Option RecordView → Type 0
MaySound addr o = (x : RecordView) → o ≡ Some x → SoundAt addr x

none_sound : (addr : ResourceAddrView) → MaySound addr None
none_sound addr x e = absurd (cc)

some_sound : (addr : ResourceAddrView) (y : RecordView) → SoundAt addr y → MaySound addr (Some y)
some_sound addr y h x e = let same : y ≡ x = cc in subst (SoundAt addr) same h

-- ---- destroys

left_sound : (addr : ResourceAddrView) (o : Option LeftView) (before : Option RecordView) → ((l : LeftView) → o ≡ Some l → IsSoundLeft l) → MaySound addr before → MaySound addr (after_destroy o before)
left_sound addr None before lefts h = h
left_sound addr (Some gone) None lefts h = none_sound addr
left_sound addr (Some gone) (Some y) lefts h = none_sound addr
left_sound addr (Some (changed t)) None lefts h = none_sound addr
left_sound addr (Some (changed t)) (Some y) lefts h =
    let was = h y refl in
    let is = was.sound in
    some_sound addr (record y { attributes = t })
    (record { type_name = was.type_name; name = was.name; sound = record { key = is.key; deposed = is.deposed; attributes = lefts (changed t) refl; version = is.version; dependencies = is.dependencies } })
left_sound addr (Some unchanged) None lefts h = none_sound addr
left_sound addr (Some unchanged) (Some y) lefts h = h

-- ---- applies

-- the apply of the instance, where there is one, is sound
abbrev IsOwn : ResourceAddrView → InstanceKeyView → Option ApplyView → Type 0
IsOwn addr key o = (a : ApplyView) → o ≡ Some a → IsSoundApply a × (a.addr ≡ addr)

saved_sound : (addr : ResourceAddrView) (a : ApplyView) (s : SavedView) → IsSoundObject a s → a.addr ≡ addr → SoundAt addr (record_of_saved a.given s)
saved_sound addr a s h same =
    record {
      type_name = subst (λ (l : ResourceAddrView). is_name l.type_name ≡ true) same h.type_name;
      name = subst (λ (l : ResourceAddrView). is_name l.name ≡ true) same h.name;
      sound = record { key = h.key; deposed = tt; attributes = h.attributes; version = h.version; dependencies = h.dependencies };
    }

renewed_sound : (addr : ResourceAddrView) (ds : List (List ℕ)) (late : Bool) (left : Option RecordView) → AreAddresses ds → MaySound addr left → MaySound addr (option_map (renewed ds late) left)
renewed_sound addr ds late None addresses h = none_sound addr
renewed_sound addr ds late (Some y) addresses h =
    let was = h y refl in
    let is = was.sound in
    some_sound addr (renewed ds late y)
    (record { type_name = was.type_name; name = was.name; sound = record { key = is.key; deposed = is.deposed; attributes = is.attributes; version = is.version; dependencies = addresses } })

applied_sound : (addr : ResourceAddrView) (a : ApplyView) (x : ApplyResultView) (left : Option RecordView) → IsSoundBy a x → a.addr ≡ addr → MaySound addr left → MaySound addr (current_after a.given x left)
applied_sound addr a (saved s) left sound same h = some_sound addr (record_of_saved a.given s) (saved_sound addr a s sound same)
applied_sound addr a unplanned left sound same h = renewed_sound addr a.given.dependencies a.given.create_before_destroy left sound h
applied_sound addr a nothing left sound same h = h
applied_sound addr a unwanted left sound same h = h

current_sound : (addr : ResourceAddrView) (key : InstanceKeyView) (o : Option ApplyView) (left : Option RecordView) → IsOwn addr key o → MaySound addr left
    → MaySound addr (current_after (option_map_or (λ a. a.given) o (nothing_given key)) (option_map_or (λ a. a.applied) o unwanted) left)
current_sound addr key None left own h = h
current_sound addr key (Some a) left own h = let is = own a refl in applied_sound addr a a.applied left is.0 is.1 h

given_same : (to : Option (List ℕ)) (k : List ℕ) → option_eq bytes_eq to (Some k) ≡ true → to ≡ Some k
given_same None k e = absurd (cc)
given_same (Some j) k e = ap Some ((bytes_eq-Decides j k).0 e)

moved_sound : (addr : ResourceAddrView) (k : List ℕ) (left : Option RecordView) → IsDeposed (Some k) → MaySound addr left → MaySound addr (option_map (as_deposed k) left)
moved_sound addr k None deposed h = none_sound addr
moved_sound addr k (Some y) deposed h =
    let was = h y refl in
    let is = was.sound in
    some_sound addr (as_deposed k y)
    (record { type_name = was.type_name; name = was.name; sound = record { key = is.key; deposed = deposed; attributes = is.attributes; version = is.version; dependencies = is.dependencies } })

moved_at : (addr : ResourceAddrView) (to : Option (List ℕ)) (k : List ℕ) (left : Option RecordView) (b : Bool) → option_eq bytes_eq to (Some k) ≡ b → IsDeposed to → MaySound addr left → MaySound addr (cond b (option_map (as_deposed k) left) None)
moved_at addr to k left true e deposed h = moved_sound addr k left (subst IsDeposed (given_same to k e) deposed) h
moved_at addr to k left false e deposed h = none_sound addr

deposed_by : (addr : ResourceAddrView) (a : ApplyView) (x : ApplyResultView) (left : Option RecordView) (k : List ℕ) → IsSoundBy a x → MaySound addr left → MaySound addr (deposed_anew a.given x left k)
deposed_by addr a (saved s) left k sound h = moved_at addr a.given.deposed_key k left (option_eq bytes_eq a.given.deposed_key (Some k)) refl sound.deposed_key h
deposed_by addr a unplanned left k sound h = none_sound addr
deposed_by addr a nothing left k sound h = none_sound addr
deposed_by addr a unwanted left k sound h = none_sound addr

deposed_sound : (addr : ResourceAddrView) (key : InstanceKeyView) (o : Option ApplyView) (left : Option RecordView) (k : List ℕ) → IsOwn addr key o → MaySound addr left
    → MaySound addr (deposed_anew (option_map_or (λ a. a.given) o (nothing_given key)) (option_map_or (λ a. a.applied) o unwanted) left k)
deposed_sound addr key None left k own h = none_sound addr
deposed_sound addr key (Some a) left k own h = deposed_by addr a a.applied left k (own a refl).0 h

or_sound : (addr : ResourceAddrView) (o p : Option RecordView) → MaySound addr o → MaySound addr p → MaySound addr (option_or o p)
or_sound addr None p h g = g
or_sound addr (Some y) p h g = h

-- ---- events

own_sound : (e : EventsView) (addr : ResourceAddrView) (key : InstanceKeyView) → AreSound e → IsOwn addr key (apply_of_instance addr key (wanted e))
own_sound e addr key sound a found = (
  found_holds IsSoundApply (applies_it addr key) (wanted e) a sound.wanted found,
  ap (λ (p : ResourceAddrView × InstanceKeyView). p.0) (applies_one addr key a (found_passes (applies_it addr key) (wanted e) a found)),
)

lefts_at : (o : Option DestroyView) → ((d : DestroyView) → o ≡ Some d → IsSoundDestroy d) → (l : LeftView) → option_map (λ d. d.left) o ≡ Some l → IsSoundLeft l
lefts_at None h l e = absurd (cc)
lefts_at (Some d) h l e = let same : d.left ≡ l = cc in subst IsSoundLeft same (h d refl)

lefts_sound : (e : EventsView) (addr : ResourceAddrView) (id : ObjectIdView) → AreSound e → (l : LeftView) → left_of_object addr id e.destroys ≡ Some l → IsSoundLeft l
lefts_sound e addr id sound = lefts_at (find (destroys_it addr id) e.destroys) (λ d found. found_holds IsSoundDestroy (destroys_it addr id) e.destroys d sound.destroys found)

after_sound : (e : EventsView) (addr : ResourceAddrView) (key : InstanceKeyView) (before : Places) (deposed : Option (List ℕ)) → AreSound e → ((d : Option (List ℕ)) → MaySound addr (before d))
    → MaySound addr (instance_after (given_in e addr key) (ends_in e addr key) before deposed)
after_sound e addr key before None sound h =
    current_sound addr key (apply_of_instance addr key (wanted e)) _ (own_sound e addr key sound) (left_sound addr (left_of_object addr (object_at key None) e.destroys) (before None) (lefts_sound e addr (object_at key None) sound) (h None))
after_sound e addr key before (Some k) sound h =
    let left = left_sound addr (left_of_object addr (object_at key None) e.destroys) (before None) (lefts_sound e addr (object_at key None) sound) (h None) in
    let under = deposed_found addr key k e.destroys in
    or_sound addr _ _ (deposed_sound addr key (apply_of_instance addr key (wanted e)) _ k (own_sound e addr key sound) left)
    (left_sound addr (destroy_under k (filter_map (left_of_deposed addr key) e.destroys)) (before (Some k)) (λ l is. lefts_sound e addr (object_at key (Some k)) sound l (sym under ∙ is)) (h (Some k)))

-- ---- states

-- a valid state has sound records
prior_sound : (prior : StateView) (addr : ResourceAddrView) (id : ObjectIdView) → IsValid prior → MaySound addr (record_in addr id prior)
prior_sound prior addr id valid = by_found (resource_at addr prior.resources) refl
  where
    by_found : (o : Option ResourceView) → resource_at addr prior.resources ≡ o → MaySound addr (option_and_then (λ r. record_at id r.records) o)
    by_found None e = none_sound addr
    by_found (Some r) e = λ x f.
        let present = found_holds IsPresent (λ (r : ResourceView). is_eq (addr_cmp r.addr addr)) prior.resources r valid.resources.0 e in
        let same = found_addr addr prior.resources r e in
        record {
          type_name = subst (λ (l : ResourceAddrView). is_name l.type_name ≡ true) same present.0.type_name;
          name = subst (λ (l : ResourceAddrView). is_name l.name ≡ true) same present.0.name;
          sound = found_holds IsRecord (λ (y : RecordView). is_eq (object_id_cmp y.id id)) r.records x present.0.records.0 f;
        }

serial_at : (b : Bool) (n : ℕ) → n + 1 < 2 ^ 32 → cond b n (n + 1) < 2 ^ 32
serial_at true n h = omega arith
serial_at false n h = h

pub state_after_valid : StateAfterIsValid
state_after_valid prior e outputs s valid fits sound table ordered after =
    let known : (addr : ResourceAddrView) (id : ObjectIdView) → MaySound addr (record_in addr id s) =
    λ addr id x is. after_sound e addr id.key (places_at addr id.key prior) id.deposed sound (λ d. prior_sound prior addr (object_at id.key d) valid) x (sym (after.records addr id) ∙ is) in
    record {
      serial = subst (λ (n : ℕ). n < 2 ^ 32) (sym after.serial) (serial_at (is_same prior s) prior.serial fits);
      outputs = subst IsTable (sym after.outputs_are) table;
      resources = (all_found (λ (r : ResourceView). r.addr) addr_cmp addr_total IsPresent s.resources ordered.resources (present known), ordered.resources);
    }
  where
    present : ((addr : ResourceAddrView) (id : ObjectIdView) → MaySound addr (record_in addr id s)) → (addr : ResourceAddrView) (r : ResourceView) → resource_at addr s.resources ≡ Some r → IsPresent r
    present known addr r found =
        let has = found_holds (λ (r : ResourceView). has_records r ≡ true) (λ (r : ResourceView). is_eq (addr_cmp r.addr addr)) s.resources r after.present found in
        let by_id = found_holds (λ (r : ResourceView). AreById r.records) (λ (r : ResourceView). is_eq (addr_cmp r.addr addr)) s.resources r ordered.records found in
        let some = some_known addr s r has found in
        let names = known addr some.0.id some.0 some.1 in
        let same = sym (found_addr addr s.resources r found) in (
          record {
            type_name = subst (λ (l : ResourceAddrView). is_name l.type_name ≡ true) same names.type_name;
            name = subst (λ (l : ResourceAddrView). is_name l.name ≡ true) same names.name;
            records =
                (all_found (λ (x : RecordView). x.id) object_id_cmp object_id_total IsRecord r.records by_id (λ id x is. (known addr id x (known_by addr id s.resources (Some r) found ∙ is)).sound), by_id);
          },
          has,
        )
