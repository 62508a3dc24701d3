-- Records in order are those that stand at their places.
use Rattle.std.proofs.Common.{◌≡◌, ◌⊎◌, inl, inr, Bool, true, false, cond, List, [], ◌∷◌, Some, None, Ordering, Less, Equal, Greater, is_eq, refl, sym, ap, ap₂, ◌∙◌, subst}
use Rattle.std.specs.List.{AllByRecursion}
use Rattle.std.specs.List.Sorted.{IsStrictlySortedBy}
use Rattle.std.specs.Ordering.{ordering_reverse}
use Rattle.std.proofs.lemmas.Cmp.{tied_itself}
use Rattle.tf_config_address.specs.ObjectId.{ObjectIdView, object_id_cmp}
use Rattle.tf_config_address.specs.Same.{same_object_id, object_id_Decides}
use Rattle.tf_config_address.proofs.Totals.{object_id_total}
use Rattle.tf_state_next.specs.After.{object_at}
use Rattle.tf_state_next.specs.ObjectLaws.{AfterIsOne}
use Rattle.tf_state_next.proofs.Places.{objects_tied}
use Rattle.tf_state_data.proofs.Sorted.{all_mono}
use Rattle.tf_state_data.specs.Ids.{AreById, ids_of}
use Rattle.tf_state_data.specs.Record.{RecordView}
use Rattle.tf_state_data.specs.Resource.{record_at}

-- the first record is found, and each other one behind it
first_at : (id : ObjectIdView) (x : RecordView) (xs : List RecordView) (b : Bool) → is_eq (object_id_cmp x.id id) ≡ b → record_at id (x ∷ xs) ≡ cond b (Some x) (record_at id xs)
first_at id x xs true e = rw e refl
first_at id x xs false e = rw e refl

first : (x : RecordView) (xs : List RecordView) → record_at x.id (x ∷ xs) ≡ Some x
first x xs = first_at x.id x xs true (ap is_eq (tied_itself object_id_total x.id))

behind : (id j : ObjectIdView) → object_id_cmp id j ≡ Less → is_eq (object_id_cmp j id) ≡ false
behind id j e = ap is_eq (object_id_total.antisymm j id ∙ ap ordering_reverse e)

-- none is found that stands before all of them
none_found : (id : ObjectIdView) (xs : List RecordView) → AllByRecursion (λ j. object_id_cmp id j ≡ Less) (ids_of xs) → record_at id xs ≡ None
none_found id [] h = refl
none_found id (x ∷ xs) h = first_at id x xs false (behind id x.id h.0) ∙ none_found id xs h.1

later : (i j : ObjectIdView) (ys : List RecordView) → object_id_cmp i j ≡ Less → AllByRecursion (λ b. object_id_cmp j b ≡ Less) (ids_of ys) → AllByRecursion (λ b. object_id_cmp i b ≡ Less) (ids_of ys)
later i j ys e h = all_mono (λ b. object_id_cmp j b ≡ Less) (λ b. object_id_cmp i b ≡ Less) (ids_of ys) (λ b less. object_id_total.trans i j b e less) h

-- two lists in order agree behind records of one object
rest_at : (id : ObjectIdView) (x y : RecordView) (xs ys : List RecordView) (b : Bool) → is_eq (object_id_cmp x.id id) ≡ b → x.id ≡ y.id
    → AllByRecursion (λ j. object_id_cmp x.id j ≡ Less) (ids_of xs) → AllByRecursion (λ j. object_id_cmp y.id j ≡ Less) (ids_of ys)
    → record_at id (x ∷ xs) ≡ record_at id (y ∷ ys) → record_at id xs ≡ record_at id ys
rest_at id x y xs ys true e same f g h =
    let one : x.id ≡ id = (object_id_Decides x.id id).0 (sym (objects_tied x.id id) ∙ e) in
    let two : y.id ≡ id = sym same ∙ one in
    none_found id xs (subst (λ i. AllByRecursion (λ j. object_id_cmp i j ≡ Less) (ids_of xs)) one f)
    ∙ sym (none_found id ys (subst (λ i. AllByRecursion (λ j. object_id_cmp i j ≡ Less) (ids_of ys)) two g))
rest_at id x y xs ys false e same f g h =
    sym (first_at id x xs false e) ∙ h ∙ first_at id y ys false (ap (λ i. is_eq (object_id_cmp i id)) (sym same) ∙ e)

equal_ids : (i j : ObjectIdView) → object_id_cmp i j ≡ Equal → i ≡ j
equal_ids i j e = (object_id_Decides i j).0 (sym (objects_tied i j) ∙ ap is_eq e)

both_at : (x y : RecordView) (xs ys : List RecordView) (o : Ordering) → object_id_cmp x.id y.id ≡ o → AreById (x ∷ xs) → AreById (y ∷ ys) → ((id : ObjectIdView) → record_at id (x ∷ xs) ≡ record_at id (y ∷ ys))
    → (((id : ObjectIdView) → record_at id xs ≡ record_at id ys) → xs ≡ ys) → ◌≡◌ {A = List RecordView} (x ∷ xs) (y ∷ ys)
unfolding IsStrictlySortedBy
both_at x y xs ys Equal e s t same rest =
    let ids = equal_ids x.id y.id e in
    let found : Some x ≡ Some y = sym (first x xs) ∙ same x.id ∙ ap (λ i. record_at i (y ∷ ys)) ids ∙ first y ys in
    let one : x ≡ y = (cc) in
    ap₂ (λ a b. a ∷ b) one (rest (λ id. rest_at id x y xs ys (is_eq (object_id_cmp x.id id)) refl ids s.0 t.0 (same id)))
both_at x y xs ys Less e s t same rest =
    let none = none_found x.id (y ∷ ys) (e, later x.id y.id ys e t.0) in
    let no : Some x ≡ None = sym (first x xs) ∙ same x.id ∙ none in absurd (cc)
both_at x y xs ys Greater e s t same rest =
    let f : object_id_cmp y.id x.id ≡ Less = object_id_total.antisymm y.id x.id ∙ ap ordering_reverse e in
    let none = none_found y.id (x ∷ xs) (f, later y.id x.id xs f s.0) in
    let no : Some y ≡ None = sym (first y ys) ∙ sym (same y.id) ∙ none in absurd (cc)

-- two lists in order with the same at each place are one
pub same_records : (xs ys : List RecordView) → AreById xs → AreById ys → ((id : ObjectIdView) → record_at id xs ≡ record_at id ys) → xs ≡ ys
unfolding IsStrictlySortedBy
same_records [] [] s t same = refl
same_records [] (y ∷ ys) s t same = let no : None ≡ Some y = same y.id ∙ first y ys in absurd (cc)
same_records (x ∷ xs) [] s t same = let no : Some x ≡ None = sym (first x xs) ∙ same x.id in absurd (cc)
same_records (x ∷ xs) (y ∷ ys) s t same = both_at x y xs ys (object_id_cmp x.id y.id) refl s t same (λ rest. same_records xs ys s.1 t.1 rest)

of_instance : (g i : ObjectIdView) (b : Bool) → same_object_id (record i { key = g.key }) i ≡ b → (i.key ≡ g.key) ⊎ (¬ (i.key ≡ g.key))
of_instance g i true e = inl (ap (λ (p : ObjectIdView). p.key) (sym ((object_id_Decides (record i { key = g.key }) i).0 e)))
of_instance g i false e = inr (λ f. let yes = (object_id_Decides (record i { key = g.key }) i).1 (λ t. record { key = sym f t; deposed = i.deposed }) in absurd (cc))

pub after_one : AfterIsOne
after_one g ends before r s sorted ordered first second =
    let each : (id : ObjectIdView) → record_at id r.records ≡ record_at id s.records =
    λ id. elim (of_instance (object_at g.key None) id (same_object_id (record id { key = g.key }) id) refl) [
      | inl here ↦
          let one : object_at g.key id.deposed ≡ id = ap (λ k. object_at k id.deposed) (sym here) in
          ap (λ i. record_at i r.records) (sym one) ∙ first.own id.deposed ∙ sym (second.own id.deposed) ∙ ap (λ i. record_at i s.records) one
      | inr other ↦ first.others id other ∙ sym (second.others id other)
    ] in
    let records = same_records r.records s.records sorted ordered each in
    λ t. record { addr = (first.addr ∙ sym second.addr) t; provider = (first.provider ∙ sym second.provider) t; records = records t }
