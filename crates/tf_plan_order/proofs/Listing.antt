-- There is one list of members.
use Rattle.std.proofs.Common.{◌≡◌, ◌||◌, true, false, List, [], ◌∷◌, map, ◌++◌, get_or, length, append_assoc, Result, Ok, Err, IfOk, Vec, Global, refl, sym, ap, ap₂, ◌∙◌, subst, arith}
use Rattle.std.specs.Prelude.{◌==◌}
use Rattle.std.proofs.lemmas.Bool.Decides.{nat_tests}
use Rattle.std.specs.List.{AllByRecursion}
use Rattle.std.specs.List.Sorted.{IsStrictlySortedBy}
use Rattle.std.proofs.lemmas.List.{map-append}
use Rattle.std.proofs.lemmas.List.Elements.{All-contains, All-map, Contains-get_or, recursion_from_All}
use Rattle.std.specs.Cmp.{unsigned_Decides}
use Rattle.std.proofs.lemmas.Slice.Eq.{bytes_eq-Decides}
use Rattle.tf_config_address.specs.ObjectId.{InstanceKeyView, single, number, name, instance_key_cmp, instance_key_of}
use Rattle.tf_config_address.specs.Same.{same_instance_key}
use Rattle.tf_config_address.specs.declared.object_id.InstanceKey.{InstanceKey}
use Rattle.tf_plan_order.proofs.Known.{among-with, among-recorded, nothing-sorted, sorted-with, same_keys}
use Rattle.tf_plan_order.specs.Members.{InstanceToPlanView, AreMembers, declared_alone, is_among, is_recorded, records_of, keys_of, member, with_keys, recorded_keys, all_keys, members}
use Rattle.tf_plan_order.specs.MemberViews.{member_of}
use Rattle.tf_plan_order.specs.declared.instance_to_plan.InstanceToPlan.{InstanceToPlan}
use Rattle.tf_state_data.specs.Record.{RecordView, record_of}
use Rattle.tf_state_data.specs.declared.record.Record.{Record}

module _ (keys : List InstanceKeyView) (records : List RecordView) where
  of_members : (ks : List InstanceKeyView) → keys_of (map (member keys records) ks) ≡ ks
  of_members [] = refl
  of_members (k ∷ ks) = ap (λ ls. k ∷ ls) (of_members ks)

  among_all : (key : InstanceKeyView) → is_among (all_keys keys records) key ≡ (is_among keys key || is_recorded records key)
  among_all key =
      among-with (with_keys [] keys) (recorded_keys records) key ∙ ap₂ (λ a b. a || b) (among-with [] keys key) (among-recorded records key)

  pub are_there : AreMembers keys records (members keys records)
  are_there =
      let all = all_keys keys records in
      record {
        sorted = subst (IsStrictlySortedBy instance_key_cmp) (sym (of_members all)) (sorted-with (with_keys [] keys) (recorded_keys records) (sorted-with [] keys nothing-sorted));
        there = λ key. ap (λ ks. is_among ks key) (of_members all) ∙ among_all key;
        declared = λ m c. All-contains (λ m. m.is_declared ≡ is_among keys m.key) (members keys records) m (All-map (λ m. m.is_declared ≡ is_among keys m.key) (member keys records) all (λ i d l. refl)) c;
        recorded = λ m c. All-contains (λ m. m.records ≡ records_of m.key records) (members keys records) m (All-map (λ m. m.records ≡ records_of m.key records) (member keys records) all (λ i d l. refl)) c;
      }

  told : (m : InstanceToPlanView) → m.is_declared ≡ is_among keys m.key → m.records ≡ records_of m.key records → m ≡ member keys records m.key
  told m e f = (λ i. record { key = m.key; is_declared = e i; records = f i })

  rebuilt_by : (ms : List InstanceToPlanView) → AllByRecursion (λ m. m ≡ member keys records m.key) ms → ms ≡ map (member keys records) (keys_of ms)
  rebuilt_by [] all = refl
  rebuilt_by (m ∷ ms) all = ap₂ (λ x xs. x ∷ xs) all.0 (rebuilt_by ms all.1)

  -- members are told by their keys
  rebuilt : (ms : List InstanceToPlanView) → AreMembers keys records ms → ms ≡ map (member keys records) (keys_of ms)
  rebuilt ms are =
      rebuilt_by ms
      (recursion_from_All (λ m. m ≡ member keys records m.key) ms
      (λ i d within.
      let m = get_or ms i d in
      let there = Contains-get_or ms i d within in
      told m (are.declared m there) (are.recorded m there)))

  pub are_one : (some others : List InstanceToPlanView) → AreMembers keys records some → AreMembers keys records others → some ≡ others
  are_one some others first second =
      let same = same_keys (keys_of some) (keys_of others) first.sorted second.sorted (λ key. first.there key ∙ sym (second.there key)) in
      rebuilt some first ∙ (ap (map (member keys records)) same ∙ sym (rebuilt others second))

-- so they are the list that the definition makes
pub those_members : (keys : List InstanceKeyView) (records : List RecordView) (ms : List InstanceToPlanView) → AreMembers keys records ms → ms ≡ members keys records
those_members keys records ms are = are_one keys records ms (members keys records) are (are_there keys records)

one_more : (old new : List InstanceToPlan) (m : InstanceToPlan) (rest : List InstanceToPlanView) → new ≡ old ++ m ∷ [] → map member_of new ++ rest ≡ map member_of old ++ member_of m ∷ rest
one_more old new m rest e = ap (λ ms. map member_of ms ++ rest) e ∙ ap (λ ms. ms ++ rest) (map-append member_of old (m ∷ [])) ∙ append_assoc (map member_of old) (member_of m ∷ []) rest

told_by : (m : InstanceToPlan) (keys : List InstanceKeyView) (records : List RecordView) (key : InstanceKeyView) → instance_key_of m.key ≡ key → m.is_declared ≡ is_among keys key → map record_of m.records.now ≡ records_of key records
    → member_of m ≡ member keys records key
told_by m keys records key e f g = (λ i. record { key = e i; is_declared = f i; records = g i })

-- the next member
pub next_member : (old new : List InstanceToPlan) (m : InstanceToPlan) (declared left later : List InstanceKey) (key : InstanceKey) (records : List RecordView) → new ≡ old ++ m ∷ [] → left ≡ key ∷ later
    → instance_key_of m.key ≡ instance_key_of key → m.is_declared ≡ is_among (map instance_key_of declared) (instance_key_of key) → map record_of m.records.now ≡ records_of (instance_key_of key) records
    → map member_of new ++ map (member (map instance_key_of declared) records) (map instance_key_of later)
    ≡ map member_of old ++ map (member (map instance_key_of declared) records) (map instance_key_of left)
next_member old new m declared left later key records pushed taken e f g =
    let of = member (map instance_key_of declared) records in
    one_more old new m (map of (map instance_key_of later)) pushed
    ∙ (ap (λ x. map member_of old ++ x ∷ map of (map instance_key_of later)) (told_by m (map instance_key_of declared) records (instance_key_of key) e f g)
    ∙ ap (λ ks. map member_of old ++ map of (map instance_key_of ks)) (sym taken))

-- how often the configuration's keys are told doesn't matter
once : (keys : List InstanceKeyView) (records : List RecordView) (ks : List InstanceKeyView) → map (member (with_keys [] keys) records) ks ≡ map (member keys records) ks
once keys records [] = refl
once keys records (k ∷ ks) =
    ap₂ (λ m ms. m ∷ ms) (λ i. record { key = k; is_declared = among-with [] keys k i; records = records_of k records }) (once keys records ks)

-- what was made is the list of members
pub made_members : {E : Type 0} (keys declared all : List InstanceKeyView) (records : List RecordView) (result : Result (Vec InstanceToPlan Global) E) → declared ≡ with_keys [] keys → all ≡ all_keys keys records
    → IfOk result (λ ms. map member_of ms.items ≡ map (member declared records) all) → IfOk result (λ ms. AreMembers keys records (map member_of ms.items))
made_members keys declared all records (Ok ms) e f made =
    let is : map member_of ms.items ≡ members keys records = made ∙ (ap₂ (λ ds ks. map (member ds records) ks) e f ∙ once keys records (all_keys keys records)) in
    subst (AreMembers keys records) (sym is) (are_there keys records)
made_members keys declared all records (Err why) e f made = made

-- a key is its own
own_key : (k : InstanceKeyView) → same_instance_key k k ≡ true
own_key single = refl
own_key (number n) = (unsigned_Decides n n).1 refl
own_key (name s) = (bytes_eq-Decides s s).1 refl

alone_members : {E : Type 0} (key : InstanceKeyView) (result : Result (Vec InstanceToPlan Global) E) → IfOk result (λ ms. map member_of ms.items ≡ declared_alone key ∷ [])
    → IfOk result (λ ms. AreMembers (key ∷ []) [] (map member_of ms.items))
alone_members key (Ok ms) made =
    let among : is_among (key ∷ []) key ≡ true = ap (λ b. b || false) (own_key key) in
    let is : map member_of ms.items ≡ members (key ∷ []) [] = made ∙ ap (λ b. record { key = key; is_declared = b; records = [] } ∷ []) (sym among) in
    subst (AreMembers (key ∷ []) []) (sym is) (are_there (key ∷ []) [])
alone_members key (Err why) made = made

-- the one instance of a resource of which nothing exists is its list of members
pub only_member : {E : Type 0} (keys : List InstanceKey) (records : List Record) (key : InstanceKey) (result : Result (Vec InstanceToPlan Global) E)
    → length keys ≡ 1 → key ≡ get_or keys 0 key → true ≡ (length records == 0) → IfOk result (λ ms. map member_of ms.items ≡ declared_alone (instance_key_of key) ∷ [])
    → IfOk result (λ ms. AreMembers (map instance_key_of keys) (map record_of records) (map member_of ms.items))
only_member [] records key result one is none made = absurd (cc)
only_member (k ∷ []) [] key result one is none made = rw (sym is) (alone_members (instance_key_of key) result made)
only_member (k ∷ []) (r ∷ records) key result one is none made = absurd (grind (arith, nat_tests))
only_member (k ∷ l ∷ keys) records key result one is none made = absurd (cc)
