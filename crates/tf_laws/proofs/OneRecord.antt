-- Records of an instance of which the current object alone is known.
use Rattle.std.proofs.Common.{◌≡◌, ◌∙◌, ◌&&◌, ℕ, Bool, true, false, cond, List, [], ◌∷◌, Option, Some, None, is_eq, refl, sym, ap, subst}
use Rattle.std.specs.List.Sorted.{IsStrictlySortedBy}
use Rattle.std.specs.Option.{option_eq, option_map_or}
use Rattle.std.specs.Prelude.{is_none, option_and_then}
use Rattle.std.specs.Str.{bytes_eq}
use Rattle.tf_config_address.proofs.Totals.{object_id_total}
use Rattle.tf_config_address.specs.ResourceAddr.{ResourceAddrView}
use Rattle.tf_config_address.specs.ObjectId.{InstanceKeyView, ObjectIdView, object_id_cmp}
use Rattle.tf_config_address.specs.Same.{same_instance_key}
use Rattle.tf_plan_decision.specs.Stage.{records_at}
use Rattle.tf_plan_decision.specs.Decision.{current}
use Rattle.tf_plan_order.specs.Members.{is_of, records_of}
use Rattle.tf_state_next.proofs.Finding.{filtered_ordered, first, found_filtered, same_lists}
use Rattle.tf_state_next.proofs.One.{id_one}
use Rattle.tf_plan_planner.proofs.Objects.{one_key}
use Rattle.tf_state_next.proofs.Places.{apart, found_id, objects_tied}
use Rattle.tf_state_next.specs.After.{object_at}
use Rattle.tf_state_data.specs.Ids.{AreById}
use Rattle.tf_state_data.specs.Record.{RecordView}
use Rattle.tf_state_data.specs.Resource.{ResourceView, record_at}
use Rattle.tf_state_data.specs.State.{StateView, record_in, resource_at}
use Rattle.tf_laws.proofs.Members.{same_key}

-- ---- the current object

option_eq_none : (o : Option (List ℕ)) → option_eq bytes_eq o None ≡ is_none o
option_eq_none None = refl
option_eq_none (Some s) = refl

found_step : (b c : Bool) (r : RecordView) (rs : List RecordView) (rest : Option RecordView) → current rs ≡ rest → is_none r.id.deposed ≡ c → current (cond b (r ∷ rs) rs) ≡ cond (b && c) (Some r) rest
found_step true true r rs rest h e = ap (λ (x : Bool). cond x (Some r) (current rs)) e
found_step true false r rs rest h e = ap (λ (x : Bool). cond x (Some r) (current rs)) e ∙ h
found_step false c r rs rest h e = h

-- the current one among an instance's records is what is known of its current object
pub current_found : (key : InstanceKeyView) (rs : List RecordView) → current (records_of key rs) ≡ record_at (object_at key None) rs
current_found key [] = refl
current_found key (r ∷ rs) =
    found_step (is_of key r) (is_none r.id.deposed) r (records_of key rs) (record_at (object_at key None) rs) (current_found key rs) refl
    ∙ ap (λ (b : Bool). cond b (Some r) (record_at (object_at key None) rs))
    (ap (λ (c : Bool). same_instance_key r.id.key key && c) (sym (option_eq_none r.id.deposed)) ∙ sym (objects_tied r.id (object_at key None)))

-- and so by a state
pub current_known : (addr : ResourceAddrView) (key : InstanceKeyView) (s : StateView) → current (records_of key (records_at addr s.resources)) ≡ record_in addr (object_at key None) s
current_known addr key s = by_option (resource_at addr s.resources)
  where
    by_option : (o : Option ResourceView) → current (records_of key (option_map_or (λ r. r.records) o [])) ≡ option_and_then (λ r. record_at (object_at key None) r.records) o
    by_option None = refl
    by_option (Some r) = current_found key r.records

-- ---- the current object alone

module _ (key : InstanceKeyView) (rs : List RecordView) (r : RecordView) (sorted : AreById rs) (there : record_at (object_at key None) rs ≡ Some r) (alone : (k : List ℕ) → record_at (object_at key (Some k)) rs ≡ None) where
  abbrev passes : RecordView → Option RecordView
  passes x = cond (is_of key x) (Some x) None

  own_id : r.id ≡ object_at key None
  own_id = found_id (object_at key None) r rs there

  own_of : is_of key r ≡ true
  own_of = ap (λ (i : ObjectIdView). same_instance_key i.key key) (found_id (object_at key None) r rs there) ∙ same_key key

  among_one : (id : ObjectIdView) (b : Bool) → is_eq (object_id_cmp r.id id) ≡ b → record_at id (r ∷ []) ≡ cond b (Some r) None
  among_one id b e = ap (λ (c : Bool). cond c (Some r) None) e

  of_other : (id : ObjectIdView) (o : Option RecordView) → record_at id rs ≡ o → same_instance_key id.key key ≡ false → option_and_then (λ x. cond (is_of key x) (Some x) None) o ≡ None
  of_other id None e other = refl
  of_other id (Some x) e other = ap (λ (c : Bool). cond c (Some x) None) (ap (λ (i : ObjectIdView). same_instance_key i.key key) (found_id id x rs e) ∙ other)

  by_deposed : (d : Option (List ℕ)) → option_and_then (λ x. cond (is_of key x) (Some x) None) (record_at (object_at key d) rs) ≡ record_at (object_at key d) (r ∷ [])
  by_deposed None =
      ap (option_and_then (λ (x : RecordView). cond (is_of key x) (Some x) None)) there ∙ ap (λ (c : Bool). cond c (Some r) None) own_of
      ∙ sym (ap (λ (i : ObjectIdView). record_at i (r ∷ [])) (sym own_id) ∙ first (λ (x : RecordView). x.id) object_id_cmp object_id_total r [])
  by_deposed (Some k) =
      let differ : ¬ (r.id ≡ object_at key (Some k)) = λ same. let no : None ≡ Some k = ap (λ (i : ObjectIdView). i.deposed) (sym own_id ∙ same) in absurd (cc) in
      ap (option_and_then (λ (x : RecordView). cond (is_of key x) (Some x) None)) (alone k) ∙ sym (among_one (object_at key (Some k)) false (apart r.id (object_at key (Some k)) differ))

  same_at : (id : ObjectIdView) → option_and_then (λ x. cond (is_of key x) (Some x) None) (record_at id rs) ≡ record_at id (r ∷ [])
  same_at id = by_test (same_instance_key id.key key) refl
    where
      by_test : (b : Bool) → same_instance_key id.key key ≡ b → option_and_then (λ x. cond (is_of key x) (Some x) None) (record_at id rs) ≡ record_at id (r ∷ [])
      by_test true is =
          let same : id ≡ object_at key id.deposed = λ i. record { key = one_key id.key key is i; deposed = id.deposed } in
          subst (λ (j : ObjectIdView). option_and_then (λ x. cond (is_of key x) (Some x) None) (record_at j rs) ≡ record_at j (r ∷ [])) (sym same) (by_deposed id.deposed)
      by_test false other =
          let differ : ¬ (r.id ≡ id) = λ same.
          let yes : same_instance_key id.key key ≡ true = ap (λ (i : ObjectIdView). same_instance_key i.key key) (sym same ∙ own_id) ∙ same_key key in absurd (cc) in
          of_other id (record_at id rs) refl other ∙ sym (among_one id false (apart r.id id differ))

  one_sorted : (x : RecordView) → AreById (x ∷ [])
  unfolding IsStrictlySortedBy
  one_sorted x = (tt, tt)

  -- the records of the instance are the one
  pub one_record : records_of key rs ≡ r ∷ []
  one_record =
      same_lists (λ (x : RecordView). x.id) object_id_cmp object_id_total id_one (records_of key rs) (r ∷ []) (filtered_ordered (λ (x : RecordView). x.id) object_id_cmp object_id_total (is_of key) rs sorted) (one_sorted r)
      (λ id. found_filtered (λ (x : RecordView). x.id) object_id_cmp object_id_total (is_of key) id rs sorted ∙ same_at id)
