-- What stands at each place once a record was taken out or put in.
use Rattle.std.proofs.Common.{◌≡◌, ℕ, Bool, true, false, ◌&&◌, List, [], ◌∷◌, Option, Some, None, is_eq, refl, sym, ap, ap₂, ◌∙◌, subst}
use Rattle.std.proofs.lemmas.Map.Text.{is_eq-slice_cmp}
use Rattle.std.specs.Cmp.{unsigned_tied, tied_then}
use Rattle.std.specs.Option.{option_eq}
use Rattle.std.specs.Prelude.{bytes_eq}
use Rattle.tf_config_address.specs.ObjectId.{InstanceKeyView, single, number, name, ObjectIdView, instance_key_cmp, deposed_cmp, object_id_cmp}
use Rattle.tf_config_address.specs.Same.{same_instance_key, same_object_id, object_id_Decides}
use Rattle.tf_config_address.proofs.Totals.{object_id_total}
use Rattle.tf_state_next.specs.Room.{with_any}
use Rattle.tf_state_data.proofs.OneChanged.{put_changes_one, remove_changes_one}
use Rattle.tf_state_data.specs.Record.{RecordView}
use Rattle.tf_state_data.specs.Resource.{ResourceView, record_at, with_record, without_record}

-- objects are in one place of the order exactly where they are the same
keys_tied : (j k : InstanceKeyView) → is_eq (instance_key_cmp j k) ≡ same_instance_key j k
keys_tied single single = refl
keys_tied (number m) (number n) = unsigned_tied m n
keys_tied (name s) (name t) = is_eq-slice_cmp s t
keys_tied _ _ = refl

deposed_tied : (d e : Option (List ℕ)) → is_eq (deposed_cmp d e) ≡ option_eq bytes_eq d e
deposed_tied None None = refl
deposed_tied (Some s) (Some t) = is_eq-slice_cmp s t
deposed_tied _ _ = refl

pub objects_tied : (p q : ObjectIdView) → is_eq (object_id_cmp p q) ≡ same_object_id p q
objects_tied p q =
    sym (tied_then (instance_key_cmp p.key q.key) (deposed_cmp p.deposed q.deposed)) ∙ ap₂ (λ a b. a && b) (keys_tied p.key q.key) (deposed_tied p.deposed q.deposed)

apart_at : (p q : ObjectIdView) (b : Bool) → same_object_id p q ≡ b → ¬ (p ≡ q) → is_eq (object_id_cmp p q) ≡ false
apart_at p q true e not = absurd (not ((object_id_Decides p q).0 e))
apart_at p q false e not = objects_tied p q ∙ e

pub apart : (p q : ObjectIdView) → ¬ (p ≡ q) → is_eq (object_id_cmp p q) ≡ false
apart p q not = apart_at p q (same_object_id p q) refl not

found_at : (id : ObjectIdView) (b : Bool) (x y : RecordView) (rs : List RecordView) → is_eq (object_id_cmp x.id id) ≡ b → (record_at id rs ≡ Some y → y.id ≡ id) → record_at id (x ∷ rs) ≡ Some y → y.id ≡ id
found_at id true x y rs e rest found =
    let same : x.id ≡ id = (object_id_Decides x.id id).0 (sym (objects_tied x.id id) ∙ e) in
    let is : Some x ≡ Some y = sym (rw e refl) ∙ found in
    let one : x ≡ y = (cc) in
    sym (ap (λ r. r.id) one) ∙ same
found_at id false x y rs e rest found = rest (sym (rw e refl) ∙ found)

-- what is found at a place is the record of its object
pub found_id : (id : ObjectIdView) (y : RecordView) (rs : List RecordView) → record_at id rs ≡ Some y → y.id ≡ id
found_id id y [] found = absurd (cc)
found_id id y (x ∷ rs) found = found_at id (is_eq (object_id_cmp x.id id)) x y rs refl (found_id id y rs) found

-- A resource with something at the place of an object, and else as it was.
pub record IsSet (id : ObjectIdView) (kept : Option RecordView) (before after : ResourceView) : Type 0 where
  pub there : record_at id after.records ≡ kept
  pub others : (other : ObjectIdView) → ¬ (other ≡ id) → record_at other after.records ≡ record_at other before.records
  pub addr : after.addr ≡ before.addr
  pub provider : after.provider ≡ before.provider

-- where there is a record, it is that of the object
abbrev pub HasId : ObjectIdView → Option RecordView → Type 0
HasId id kept = (x : RecordView) → kept ≡ Some x → x.id ≡ id

pub put_sets : (id : ObjectIdView) (new : RecordView) (r : ResourceView) → new.id ≡ id → IsSet id (Some new) r (with_record new r)
put_sets id new r is =
    let one = put_changes_one (λ (r : RecordView). r.id) object_id_cmp object_id_total new r.records in
    record {
      there = subst (λ i. record_at i (with_record new r).records ≡ Some new) is one.0;
      others = λ other not. one.1 other (apart other new.id (λ e. not (e ∙ is)));
      addr = refl;
      provider = refl;
    }

pub taken_sets : (id : ObjectIdView) (r : ResourceView) → IsSet id None r (without_record id r)
taken_sets id r =
    let one = remove_changes_one (λ (r : RecordView). r.id) object_id_cmp object_id_total id r.records in
    record { there = one.0; others = λ other not. one.1 other (apart other id not); addr = refl; provider = refl }

-- of two in a row at one place the second stays
pub set_again : (id : ObjectIdView) (kept again : Option RecordView) (r s t : ResourceView) → IsSet id kept r s → IsSet id again s t → IsSet id again r t
set_again id kept again r s t first second =
    record {
      there = second.there;
      others = λ other not. second.others other not ∙ first.others other not;
      addr = second.addr ∙ first.addr;
      provider = second.provider ∙ first.provider;
    }

-- what was left is put back
pub left_sets : (id : ObjectIdView) (kept : Option RecordView) (r : ResourceView) → HasId id kept → IsSet id kept r (with_any kept (without_record id r))
left_sets id None r is = taken_sets id r
left_sets id (Some x) r is = set_again id None (Some x) r (without_record id r) _ (taken_sets id r) (put_sets id x (without_record id r) (is x refl))
