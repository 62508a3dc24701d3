-- What the code does to a resource is what comes of the actions.
use Rattle.std.proofs.Common.{◌≡◌, ℕ, Bool, true, false, cond, List, [], ◌∷◌, Option, Some, None, option_map, option_and_then, refl, sym, ap, ◌∙◌, subst}
use Rattle.std.proofs.lemmas.Slice.Eq.{bytes_eq-Decides}
use Rattle.std.specs.Option.{option_eq, option_map_or, option_or}
use Rattle.std.specs.Prelude.{bytes_eq}
use Rattle.tf_config_address.specs.ObjectId.{InstanceKeyView, ObjectIdView}
use Rattle.tf_state_next.specs.After.{IsAfter, after_destroy, as_deposed, current_after, deposed_anew, destroy_under, instance_after, left_of_record, object_at, places_in, record_of_saved, renewed}
use Rattle.tf_state_next.specs.Ends.{SavedView, LeftView, gone, changed, unchanged, ApplyResultView, unwanted, unplanned, nothing, saved, RecordInputView, apply_of, destroy_of}
use Rattle.tf_state_next.specs.Room.{deposed_by, with_any}
use Rattle.tf_state_next.proofs.Places.{IsSet, HasId, found_id, put_sets, set_again, left_sets, taken_sets}
use Rattle.tf_state_data.specs.Record.{RecordView}
use Rattle.tf_state_data.specs.Resource.{ResourceView, record_at, with_metadata, with_record, without_record}

-- ---- what is left of a record is of the same object

left_id : (id : ObjectIdView) (left : LeftView) (there : Option RecordView) → HasId id there → HasId id (option_and_then (left_of_record left) there)
left_id id left None is x e = absurd (cc)
left_id id gone (Some r) is x e = absurd (cc)
left_id id (changed t) (Some r) is x e = let one : record r { attributes = t } ≡ x = (cc) in sym (ap (λ r. r.id) one) ∙ is r refl
left_id id unchanged (Some r) is x e = is x e

pub destroyed_id : (id : ObjectIdView) (destroyed : Option LeftView) (rs : List RecordView) → HasId id (after_destroy destroyed (record_at id rs))
destroyed_id id None rs x e = found_id id x rs e
destroyed_id id (Some left) rs x e = left_id id left (record_at id rs) (λ y f. found_id id y rs f) x e

-- ---- where one place alone changed

current_apart : (key : InstanceKeyView) (t : List ℕ) → ¬ (object_at key (Some t) ≡ object_at key None)
current_apart key t e = let d : Some t ≡ None = ap (λ p. p.deposed) e in absurd (cc)

other_apart : (key : InstanceKeyView) (deposed : Option (List ℕ)) (id : ObjectIdView) → ¬ (id.key ≡ key) → ¬ (id ≡ object_at key deposed)
other_apart key deposed id not e = not (ap (λ p. p.key) e)

-- what becomes of the current object, where none becomes deposed
abbrev pub IsStill : ApplyResultView → Type 0
IsStill (saved s) = ⊥
IsStill _ = Unit {0}

none_deposed : (g : RecordInputView) (a : ApplyResultView) (left : Option RecordView) (t : List ℕ) → IsStill a → deposed_anew g a left t ≡ None
none_deposed g (saved s) left t still = absurd still
none_deposed g unplanned left t still = refl
none_deposed g nothing left t still = refl
none_deposed g unwanted left t still = refl

pub current_set : (g : RecordInputView) (a : ApplyResultView) (destroyed : Option LeftView) (r s : ResourceView) → IsStill a
    → IsSet (object_at g.key None) (current_after g a (after_destroy destroyed (record_at (object_at g.key None) r.records))) r s
    → IsAfter g (record { applied = a; destroyed = destroyed; deposed = [] }) r s
current_set g a destroyed r s still is = record { own = own; others = λ id not. is.others id (other_apart g.key None id not); addr = is.addr; provider = is.provider }
  where
    own : (d : Option (List ℕ)) → places_in g.key s.records d ≡ instance_after g (record { applied = a; destroyed = destroyed; deposed = [] }) (places_in g.key r.records) d
    own None = is.there
    own (Some t) =
        is.others (object_at g.key (Some t)) (current_apart g.key t)
        ∙ sym (ap (λ o. option_or o (record_at (object_at g.key (Some t)) r.records)) (none_deposed g a (after_destroy destroyed (record_at (object_at g.key None) r.records)) t still))

-- ---- a destroy alone

-- the destroy of a deposed object
under_at : (key t : List ℕ) (left : LeftView) (b : Bool) → bytes_eq key t ≡ b → destroy_under t ((key, left) ∷ []) ≡ cond b (Some left) None
under_at key t left true e = rw e refl
under_at key t left false e = rw e refl

deposed_own : (g : RecordInputView) (key : List ℕ) (left : LeftView) (r s : ResourceView) → IsSet (object_at g.key (Some key)) (after_destroy (Some left) (record_at (object_at g.key (Some key)) r.records)) r s
    → (t : List ℕ) (b : Bool) → bytes_eq key t ≡ b → record_at (object_at g.key (Some t)) s.records ≡ after_destroy (destroy_under t ((key, left) ∷ [])) (record_at (object_at g.key (Some t)) r.records)
deposed_own g key left r s is t true e =
    let same : key ≡ t = (bytes_eq-Decides key t).0 e in
    subst (λ u. record_at (object_at g.key (Some u)) s.records ≡ after_destroy (Some left) (record_at (object_at g.key (Some u)) r.records)) same is.there
    ∙ sym (ap (λ d. after_destroy d (record_at (object_at g.key (Some t)) r.records)) (under_at key t left true e))
deposed_own g key left r s is t false e =
    let not : ¬ (object_at g.key (Some t) ≡ object_at g.key (Some key)) =
    λ f. let d : Some t ≡ Some key = ap (λ p. p.deposed) f in let one : key ≡ t = (cc) in let yes = (bytes_eq-Decides key t).1 one in absurd (cc) in
    is.others (object_at g.key (Some t)) not ∙ sym (ap (λ d. after_destroy d (record_at (object_at g.key (Some t)) r.records)) (under_at key t left false e))

destroyed_at : (g : RecordInputView) (deposed : Option (List ℕ)) (left : LeftView) (r s : ResourceView)
    → IsSet (object_at g.key deposed) (after_destroy (Some left) (record_at (object_at g.key deposed) r.records)) r s → IsAfter g (destroy_of deposed left) r s
destroyed_at g None left r s is = current_set g unwanted (Some left) r s tt is
destroyed_at g (Some key) left r s is = record { own = own; others = λ id not. is.others id (other_apart g.key (Some key) id not); addr = is.addr; provider = is.provider }
  where
    own : (d : Option (List ℕ)) → places_in g.key s.records d ≡ instance_after g (destroy_of (Some key) left) (places_in g.key r.records) d
    own None = is.others (object_at g.key None) (λ e. current_apart g.key key (sym e))
    own (Some t) = deposed_own g key left r s is t (bytes_eq key t) refl

-- what a destroy left is put back
pub destroyed_set : (id : ObjectIdView) (left : LeftView) (r s : ResourceView) → s ≡ with_any (after_destroy (Some left) (record_at id r.records)) (without_record id r)
    → (g : RecordInputView) → g.key ≡ id.key → IsAfter g (destroy_of id.deposed left) r s
destroyed_set id left r s is g same =
    let one : object_at g.key id.deposed ≡ id = ap (λ k. object_at k id.deposed) same in
    let set : IsSet id (after_destroy (Some left) (record_at id r.records)) r s =
    subst (λ q. IsSet id (after_destroy (Some left) (record_at id r.records)) r q) (sym is) (left_sets id (after_destroy (Some left) (record_at id r.records)) r (destroyed_id id (Some left) r.records)) in
    destroyed_at g id.deposed left r s (subst (λ i. IsSet i (after_destroy (Some left) (record_at i r.records)) r s) (sym one) set)

-- ---- where an object was saved

-- the object that becomes deposed under a key
abbrev anew : Option (List ℕ) → Option RecordView → List ℕ → Option RecordView
anew key left t = cond (option_eq bytes_eq key (Some t)) (option_map (as_deposed t) left) None

none_anew : (b : Bool) (t : List ℕ) → cond b (option_map (as_deposed t) None) None ≡ None
none_anew true t = refl
none_anew false t = refl

-- what stands in a resource once the old object was deposed
record IsDeposed (key : InstanceKeyView) (to : Option (List ℕ)) (left : Option RecordView) (before after : ResourceView) : Type 0 where
  own : (t : List ℕ) → record_at (object_at key (Some t)) after.records ≡ option_or (anew to left t) (record_at (object_at key (Some t)) before.records)
  current : record_at (object_at key None) after.records ≡ record_at (object_at key None) before.records
  others : (id : ObjectIdView) → ¬ (id.key ≡ key) → record_at id after.records ≡ record_at id before.records
  addr : after.addr ≡ before.addr
  provider : after.provider ≡ before.provider

anew_at : (to t : List ℕ) (x : RecordView) (b : Bool) → bytes_eq to t ≡ b → anew (Some to) (Some x) t ≡ cond b (Some (as_deposed t x)) None
anew_at to t x true e = rw e refl
anew_at to t x false e = rw e refl

deposed_there : (key : InstanceKeyView) (to : List ℕ) (x : RecordView) (r s : ResourceView) → IsSet (object_at key (Some to)) (Some (as_deposed to x)) r s
    → (t : List ℕ) (b : Bool) → bytes_eq to t ≡ b → record_at (object_at key (Some t)) s.records ≡ option_or (anew (Some to) (Some x) t) (record_at (object_at key (Some t)) r.records)
deposed_there key to x r s is t true e =
    let same : to ≡ t = (bytes_eq-Decides to t).0 e in
    subst (λ u. record_at (object_at key (Some u)) s.records ≡ Some (as_deposed u x)) same is.there
    ∙ sym (ap (λ o. option_or o (record_at (object_at key (Some t)) r.records)) (anew_at to t x true e))
deposed_there key to x r s is t false e =
    let not : ¬ (object_at key (Some t) ≡ object_at key (Some to)) =
    λ f. let d : Some t ≡ Some to = ap (λ p. p.deposed) f in let one : to ≡ t = (cc) in let yes = (bytes_eq-Decides to t).1 one in absurd (cc) in
    is.others (object_at key (Some t)) not ∙ sym (ap (λ o. option_or o (record_at (object_at key (Some t)) r.records)) (anew_at to t x false e))

old_deposed : (key : InstanceKeyView) (to : Option (List ℕ)) (left : Option RecordView) (r : ResourceView) → HasId (object_at key None) left → IsDeposed key to left r (with_any (deposed_by to left) r)
old_deposed key None left r named = record { own = λ t. refl; current = refl; others = λ id not. refl; addr = refl; provider = refl }
old_deposed key (Some to) None r named =
    record { own = λ t. sym (ap (λ o. option_or o (record_at (object_at key (Some t)) r.records)) (none_anew (bytes_eq to t) t)); current = refl; others = λ id not. refl; addr = refl; provider = refl }
old_deposed key (Some to) (Some x) r named =
    let is : IsSet (object_at key (Some to)) (Some (as_deposed to x)) r (with_record (as_deposed to x) r) =
    put_sets (object_at key (Some to)) (as_deposed to x) r (ap (λ i. object_at i.key (Some to)) (named x refl)) in
    record {
      own = λ t. deposed_there key to x r (with_record (as_deposed to x) r) is t (bytes_eq to t) refl;
      current = is.others (object_at key None) (λ e. current_apart key to (sym e));
      others = λ id not. is.others id (other_apart key (Some to) id not);
      addr = is.addr;
      provider = is.provider;
    }

-- the object that was saved is put in, and the old one becomes deposed
pub saved_after : (g : RecordInputView) (x : SavedView) (new : RecordView) (r s : ResourceView) → new ≡ record_of_saved g x
    → s ≡ with_any (deposed_by g.deposed_key (record_at (object_at g.key None) r.records)) (with_record new (without_record (object_at g.key None) r))
    → IsAfter g (apply_of (saved x)) r s
saved_after g x new r s what is =
    let id = object_at g.key None in
    let left = record_at id r.records in
    let mid = with_record new (without_record id r) in
    let named : new.id ≡ id = ap (λ (n : RecordView). n.id) what in
    let put : IsSet id (Some new) r mid = set_again id None (Some new) r (without_record id r) mid (taken_sets id r) (put_sets id new (without_record id r) named) in
    let old : IsDeposed g.key g.deposed_key left mid s = subst (λ q. IsDeposed g.key g.deposed_key left mid q) (sym is) (old_deposed g.key g.deposed_key left mid (λ y e. found_id id y r.records e)) in
    let current : places_in g.key s.records None ≡ Some (record_of_saved g x) = old.current ∙ put.there ∙ ap Some what in
    record {
      own = λ d. own put old current d;
      others = λ other not. old.others other not ∙ put.others other (other_apart g.key None other not);
      addr = old.addr ∙ put.addr;
      provider = old.provider ∙ put.provider;
    }
  where
    own : IsSet (object_at g.key None) (Some new) r (with_record new (without_record (object_at g.key None) r))
        → IsDeposed g.key g.deposed_key (record_at (object_at g.key None) r.records) (with_record new (without_record (object_at g.key None) r)) s
        → places_in g.key s.records None ≡ Some (record_of_saved g x)
        → (d : Option (List ℕ)) → places_in g.key s.records d ≡ instance_after g (apply_of (saved x)) (places_in g.key r.records) d
    own put old current None = current
    own put old current (Some t) =
        old.own t ∙ ap (λ o. option_or (anew g.deposed_key (record_at (object_at g.key None) r.records) t) o) (put.others (object_at g.key (Some t)) (current_apart g.key t))

-- where none becomes deposed, the record is put in over the old one
pub saved_in_place : (g : RecordInputView) (x : SavedView) (b : ApplyResultView) (r s : ResourceView) → b ≡ saved x → g.deposed_key ≡ None → s ≡ with_record (record_of_saved g x) r
    → IsAfter g (record { applied = b; destroyed = None; deposed = [] }) r s
saved_in_place g x b r s same none is =
    let put : IsSet (object_at g.key None) (Some (record_of_saved g x)) r s =
    subst (λ q. IsSet (object_at g.key None) (Some (record_of_saved g x)) r q) (sym is) (put_sets (object_at g.key None) (record_of_saved g x) r refl) in
    subst (λ (c : ApplyResultView). IsAfter g (record { applied = c; destroyed = None; deposed = [] }) r s) (sym same)
    (record { own = own put; others = λ other not. put.others other (other_apart g.key None other not); addr = put.addr; provider = put.provider })
  where
    own : IsSet (object_at g.key None) (Some (record_of_saved g x)) r s
        → (d : Option (List ℕ)) → places_in g.key s.records d ≡ instance_after g (record { applied = saved x; destroyed = None; deposed = [] }) (places_in g.key r.records) d
    own put None = put.there
    own put (Some t) =
        put.others (object_at g.key (Some t)) (current_apart g.key t)
        ∙ sym (ap (λ (key : Option (List ℕ)). option_or (anew key (record_at (object_at g.key None) r.records) t) (record_at (object_at g.key (Some t)) r.records)) none)

-- ---- where nothing was planned

renewed_set : (id : ObjectIdView) (dependencies : List (List ℕ)) (late : Bool) (r : ResourceView) (there : Option RecordView) → record_at id r.records ≡ there
    → IsSet id (option_map (renewed dependencies late) there) r (option_map_or (λ x. with_record (record x { id = id; dependencies = dependencies; create_before_destroy = late }) r) there r)
renewed_set id dependencies late r None e = record { there = e; others = λ other not. refl; addr = refl; provider = refl }
renewed_set id dependencies late r (Some x) e =
    let own : x.id ≡ id = found_id id x r.records e in
    let new : RecordView = record x { id = id; dependencies = dependencies; create_before_destroy = late } in
    let same : new ≡ renewed dependencies late x = ap (λ (i : ObjectIdView). record x { id = i; dependencies = dependencies; create_before_destroy = late }) (sym own) in
    subst (λ (y : RecordView). IsSet id (Some y) r (with_record new r)) same (put_sets id new r refl)

-- the record is given anew what it is given where it stands
pub renewed_in_place : (g : RecordInputView) (b : ApplyResultView) (r s : ResourceView) → b ≡ unplanned → s ≡ with_metadata (object_at g.key None) g.dependencies g.create_before_destroy r
    → IsAfter g (record { applied = b; destroyed = None; deposed = [] }) r s
renewed_in_place g b r s same is =
    let id = object_at g.key None in
    let set : IsSet id (option_map (renewed g.dependencies g.create_before_destroy) (record_at id r.records)) r s =
    subst (λ q. IsSet id (option_map (renewed g.dependencies g.create_before_destroy) (record_at id r.records)) r q) (sym is) (renewed_set id g.dependencies g.create_before_destroy r (record_at id r.records) refl) in
    subst (λ (c : ApplyResultView). IsAfter g (record { applied = c; destroyed = None; deposed = [] }) r s) (sym same) (current_set g unplanned None r s tt set)
