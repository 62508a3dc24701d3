-- Destroys and applies are recorded one after another.
use Rattle.std.proofs.Common.{◌≡◌, ℕ, ◌&&◌, Bool, true, false, cond, List, [], ◌∷◌, ◌++◌, Option, Some, None, option_map, refl, sym, ap, ap₂, ◌∙◌, subst}
use Rattle.std.proofs.lemmas.Slice.Eq.{bytes_eq-Decides}
use Rattle.std.specs.List.{find}
use Rattle.std.specs.Option.{option_eq, option_map_or, option_or}
use Rattle.std.specs.Prelude.{bytes_eq, option_and_then}
use Rattle.tf_config_address.specs.ResourceAddr.{ResourceAddrView}
use Rattle.tf_config_address.specs.ObjectId.{InstanceKeyView, ObjectIdView}
use Rattle.tf_config_address.specs.Same.{same_addr, same_instance_key, same_object_id, addr_Decides, object_id_Decides}
use Rattle.tf_state_next.proofs.Finding.{found_first, found_joined, found_once}
use Rattle.tf_state_next.specs.Events.{ApplyView, DestroyView, AreApart, instance_of, object_of, is_instance, apply_of_instance, left_of_object, nothing_given}
use Rattle.tf_state_next.specs.Recorded.{AreApplied, AreDestroyed, record_among, places_among, heads_of}
use Rattle.tf_state_next.specs.After.{Places, IsAfter, after_destroy, destroy_under, instance_after, object_at, places_in}
use Rattle.tf_state_next.specs.Ends.{LeftView, unwanted, destroy_of}
use Rattle.tf_state_data.specs.Record.{RecordView}
use Rattle.tf_state_data.specs.Resource.{ResourceView, record_at}
use Rattle.tf_state_data.specs.State.{resource_at}

-- ---- tests and equations

and_both : (b c : Bool) → (b && c) ≡ true → (b ≡ true) × (c ≡ true)
and_both true true e = (refl, refl)
and_both true false e = absurd (cc)
and_both false c e = absurd (cc)

both_and : (b c : Bool) → b ≡ true → c ≡ true → (b && c) ≡ true
both_and true true e f = refl
both_and true false e f = absurd (cc)
both_and false c e f = absurd (cc)

-- instances are the same where their tests say so
pub keys_same : (j k : InstanceKeyView) → same_instance_key j k ≡ true → j ≡ k
keys_same j k e =
    let ids = (object_id_Decides (object_at j None) (object_at k None)).0 (both_and (same_instance_key j k) true e refl) in
    ap (λ (i : ObjectIdView). i.key) ids

pub key_itself : (k : InstanceKeyView) → same_instance_key k k ≡ true
key_itself k = (and_both (same_instance_key k k) (option_eq bytes_eq None None) ((object_id_Decides (object_at k None) (object_at k None)).1 refl)).0

pub addr_itself : (l : ResourceAddrView) → same_addr l l ≡ true
addr_itself l = (addr_Decides l l).1 refl

-- the test of the destroy of an object, and of the apply of an instance
abbrev pub destroys_it : ResourceAddrView → ObjectIdView → DestroyView → Bool
destroys_it addr id d = same_addr d.addr addr && same_object_id d.id id

abbrev pub applies_it : ResourceAddrView → InstanceKeyView → ApplyView → Bool
applies_it addr key a = is_instance addr key a.addr a.given.key

pub destroys_one : (addr : ResourceAddrView) (id : ObjectIdView) (d : DestroyView) → destroys_it addr id d ≡ true → object_of d ≡ (addr, id)
destroys_one addr id d e =
    let both = and_both (same_addr d.addr addr) (same_object_id d.id id) e in
    ap₂ {C = ResourceAddrView × ObjectIdView} (λ l i. (l, i)) ((addr_Decides d.addr addr).0 both.0) ((object_id_Decides d.id id).0 both.1)

pub applies_one : (addr : ResourceAddrView) (key : InstanceKeyView) (a : ApplyView) → applies_it addr key a ≡ true → instance_of a ≡ (addr, key)
applies_one addr key a e =
    let both = and_both (same_addr a.addr addr) (same_instance_key a.given.key key) e in
    ap₂ {C = ResourceAddrView × InstanceKeyView} (λ l k. (l, k)) ((addr_Decides a.addr addr).0 both.0) (keys_same a.given.key key both.1)

-- ---- destroys

abbrev left_by : Option DestroyView → Option LeftView
left_by o = option_map (λ d. d.left) o

-- no destroy changes nothing
pub none_destroyed : (rs : List ResourceView) → AreDestroyed [] rs rs
none_destroyed rs = record { known = λ addr id. refl; heads = refl }

left_joined : (o p : Option DestroyView) (before : Option RecordView) → ((d : DestroyView) → o ≡ Some d → p ≡ None) → after_destroy (left_by o) (after_destroy (left_by p) before) ≡ after_destroy (left_by (option_or o p)) before
left_joined None p before once = refl
left_joined (Some d) p before once = ap (λ (q : Option DestroyView). after_destroy (left_by (Some d)) (after_destroy (left_by q) before)) (once d refl)

-- destroys after others are all of them
pub destroyed_joined : (xs ys : List DestroyView) (before mid after : List ResourceView) → AreApart object_of (xs ++ ys) → AreDestroyed ys before mid → AreDestroyed xs mid after → AreDestroyed (xs ++ ys) before after
destroyed_joined xs ys before mid after apart first second = record {
  known = λ addr id.
      let q : DestroyView → Bool = destroys_it addr id in
      second.known addr id ∙ ap (after_destroy (left_of_object addr id xs)) (first.known addr id)
      ∙ left_joined (find q xs) (find q ys) (record_among addr id before) (λ d e. found_once object_of q (addr, id) (destroys_one addr id) xs ys d apart e)
      ∙ ap (λ (o : Option DestroyView). after_destroy (left_by o) (record_among addr id before)) (sym (found_joined q xs ys));
  heads = second.heads ∙ first.heads;
}

-- ---- applies

-- what comes of the apply of an instance, where there is one
abbrev pub after_by : Option ApplyView → InstanceKeyView → Places → Places
after_by o key before =
    instance_after (option_map_or (λ a. a.given) o (nothing_given key)) (record { applied = option_map_or (λ a. a.applied) o unwanted; destroyed = None; deposed = [] }) before

nothing_by : (key : InstanceKeyView) (before : Places) (deposed : Option (List ℕ)) → after_by None key before deposed ≡ before deposed
nothing_by key before None = refl
nothing_by key before (Some k) = refl

pub none_applied : (rs : List ResourceView) → AreApplied [] rs rs
none_applied rs = record { known = λ addr key deposed. sym (nothing_by key (places_among addr key rs) deposed); heads = refl }

after_joined : (o p : Option ApplyView) (key : InstanceKeyView) (before mid : Places) (deposed : Option (List ℕ)) → ((a : ApplyView) → o ≡ Some a → p ≡ None)
    → ((d : Option (List ℕ)) → mid d ≡ after_by p key before d) → after_by o key mid deposed ≡ after_by (option_or o p) key before deposed
after_joined None p key before mid deposed once is = nothing_by key mid deposed ∙ is deposed
after_joined (Some a) p key before mid deposed once is =
    let same : (d : Option (List ℕ)) → mid d ≡ before d = λ d. is d ∙ ap (λ (q : Option ApplyView). after_by q key before d) (once a refl) ∙ nothing_by key before d in
    ap (λ (places : Places). after_by (Some a) key places deposed) (λ i d. same d i)

-- applies after others are all of them
pub applied_joined : (xs ys : List ApplyView) (before mid after : List ResourceView) → AreApart instance_of (xs ++ ys) → AreApplied ys before mid → AreApplied xs mid after → AreApplied (xs ++ ys) before after
applied_joined xs ys before mid after apart first second = record {
  known = λ addr key deposed.
      let q : ApplyView → Bool = applies_it addr key in
      second.known addr key deposed
      ∙ after_joined (find q xs) (find q ys) key (places_among addr key before) (places_among addr key mid) deposed (λ a e. found_once instance_of q (addr, key) (applies_one addr key) xs ys a apart e) (first.known addr key)
      ∙ ap (λ (o : Option ApplyView). after_by o key (places_among addr key before) deposed) (sym (found_joined q xs ys));
  heads = second.heads ∙ first.heads;
}

-- ---- one resource is changed

-- one resource among others is another one, at the same address and of the same provider
pub record IsChanged (addr : ResourceAddrView) (r s : ResourceView) (before after : List ResourceView) : Type 0 where
  pub was : resource_at addr before ≡ Some r
  pub there : resource_at addr after ≡ Some s
  pub others : (l : ResourceAddrView) → same_addr addr l ≡ false → resource_at l after ≡ resource_at l before
  pub heads : heads_of after ≡ heads_of before

false_and : (b c : Bool) → c ≡ false → (b && c) ≡ false
false_and true c e = e
false_and false c e = refl

false_first : (b c : Bool) → b ≡ false → (b && c) ≡ false
false_first false c e = refl
false_first true c e = absurd (cc)

known_of : (addr : ResourceAddrView) (id : ObjectIdView) (rs : List ResourceView) (r : ResourceView) → resource_at addr rs ≡ Some r → record_among addr id rs ≡ record_at id r.records
known_of addr id rs r e = ap (option_and_then (λ (r : ResourceView). record_at id r.records)) e

module _ (a : ApplyView) (before after : List ResourceView) (r s : ResourceView) (change : IsChanged a.addr r s before after) (is : IsAfter a.given (record { applied = a.applied; destroyed = None; deposed = [] }) r s) where
  abbrev AppliedAt : ResourceAddrView → InstanceKeyView → Option (List ℕ) → Type 0
  AppliedAt addr key deposed = record_among addr (object_at key deposed) after ≡ after_by (apply_of_instance addr key (a ∷ [])) key (places_among addr key before) deposed

  unapplied : (addr : ResourceAddrView) (key : InstanceKeyView) (deposed : Option (List ℕ)) → applies_it addr key a ≡ false → record_among addr (object_at key deposed) after ≡ record_among addr (object_at key deposed) before → AppliedAt addr key deposed
  unapplied addr key deposed e same =
      same ∙ sym (nothing_by key (places_among addr key before) deposed)
      ∙ ap (λ (o : Option ApplyView). after_by o key (places_among addr key before) deposed) (sym (found_first (applies_it addr key) a [] false e))

  -- the instance itself
  applied_here : (deposed : Option (List ℕ)) → AppliedAt a.addr a.given.key deposed
  applied_here deposed =
      let test : applies_it a.addr a.given.key a ≡ true = both_and (same_addr a.addr a.addr) (same_instance_key a.given.key a.given.key) (addr_itself a.addr) (key_itself a.given.key) in
      let places : (d : Option (List ℕ)) → places_among a.addr a.given.key before d ≡ places_in a.given.key r.records d = λ d. known_of a.addr (object_at a.given.key d) before r change.was in
      known_of a.addr (object_at a.given.key deposed) after s change.there ∙ is.own deposed
      ∙ ap (λ (p : Places). after_by (Some a) a.given.key p deposed) (λ i d. sym (places d) i)
      ∙ ap (λ (o : Option ApplyView). after_by o a.given.key (places_among a.addr a.given.key before) deposed) (sym (found_first (applies_it a.addr a.given.key) a [] true test))

  -- another instance of the resource
  applied_beside : (key : InstanceKeyView) (deposed : Option (List ℕ)) → same_instance_key a.given.key key ≡ false → AppliedAt a.addr key deposed
  applied_beside key deposed e =
      let other : ¬ (key ≡ a.given.key) = λ h. let yes : same_instance_key a.given.key key ≡ true = ap (same_instance_key a.given.key) h ∙ key_itself a.given.key in let no : true ≡ false = sym yes ∙ e in absurd (cc) in
      unapplied a.addr key deposed (false_and (same_addr a.addr a.addr) (same_instance_key a.given.key key) e)
      (known_of a.addr (object_at key deposed) after s change.there ∙ is.others (object_at key deposed) other ∙ sym (known_of a.addr (object_at key deposed) before r change.was))

  applied_at : (addr : ResourceAddrView) (key : InstanceKeyView) (deposed : Option (List ℕ)) (b c : Bool) → same_addr a.addr addr ≡ b → same_instance_key a.given.key key ≡ c → AppliedAt addr key deposed
  applied_at addr key deposed false c e f =
      unapplied addr key deposed (false_first (same_addr a.addr addr) (same_instance_key a.given.key key) e)
      (ap (option_and_then (λ (r : ResourceView). record_at (object_at key deposed) r.records)) (change.others addr e))
  applied_at addr key deposed true false e f = subst (λ l. AppliedAt l key deposed) ((addr_Decides a.addr addr).0 e) (applied_beside key deposed f)
  applied_at addr key deposed true true e f =
      subst (λ l. AppliedAt l key deposed) ((addr_Decides a.addr addr).0 e) (subst (λ k. AppliedAt a.addr k deposed) (keys_same a.given.key key f) (applied_here deposed))

  -- what came of one apply
  pub one_applied : AreApplied (a ∷ []) before after
  one_applied = record { known = λ addr key deposed. applied_at addr key deposed (same_addr a.addr addr) (same_instance_key a.given.key key) refl refl; heads = change.heads }

-- ---- one destroy

bytes_itself : (k : List ℕ) → bytes_eq k k ≡ true
bytes_itself k = (bytes_eq-Decides k k).1 refl

under_first : (k j : List ℕ) (left : LeftView) (b : Bool) → bytes_eq k j ≡ b → destroy_under j ((k, left) ∷ []) ≡ cond b (Some left) None
under_first k j left true e = rw e refl
under_first k j left false e = rw e refl

-- a destroy tells of its own object
own_left : (id : ObjectIdView) (left : LeftView) (deposed : Option (List ℕ)) (before : Places) → instance_after (nothing_given id.key) (destroy_of deposed left) before deposed ≡ after_destroy (Some left) (before deposed)
own_left id left None before = refl
own_left id left (Some k) before = ap (λ (o : Option LeftView). after_destroy o (before (Some k))) (under_first k k left true (bytes_itself k))

-- and of no other
other_left : (id : ObjectIdView) (left : LeftView) (deposed other : Option (List ℕ)) (before : Places) → option_eq bytes_eq deposed other ≡ false → instance_after (nothing_given id.key) (destroy_of deposed left) before other ≡ before other
other_left id left None None before e = absurd (cc)
other_left id left None (Some j) before e = refl
other_left id left (Some k) None before e = refl
other_left id left (Some k) (Some j) before e = ap (λ (o : Option LeftView). after_destroy o (before (Some j))) (under_first k j left false e)

module _ (d : DestroyView) (before after : List ResourceView) (r s : ResourceView) (change : IsChanged d.addr r s before after) (is : IsAfter (nothing_given d.id.key) (destroy_of d.id.deposed d.left) r s) where
  abbrev DestroyedAt : ResourceAddrView → ObjectIdView → Type 0
  DestroyedAt addr id = record_among addr id after ≡ after_destroy (left_of_object addr id (d ∷ [])) (record_among addr id before)

  undestroyed : (addr : ResourceAddrView) (id : ObjectIdView) → destroys_it addr id d ≡ false → record_among addr id after ≡ record_among addr id before → DestroyedAt addr id
  undestroyed addr id e same = same ∙ ap (λ (o : Option DestroyView). after_destroy (left_by o) (record_among addr id before)) (sym (found_first (destroys_it addr id) d [] false e))

  destroyed_here : DestroyedAt d.addr d.id
  destroyed_here =
      let test : destroys_it d.addr d.id d ≡ true = both_and (same_addr d.addr d.addr) (same_object_id d.id d.id) (addr_itself d.addr) ((object_id_Decides d.id d.id).1 refl) in
      known_of d.addr d.id after s change.there ∙ is.own d.id.deposed ∙ own_left d.id d.left d.id.deposed (places_in d.id.key r.records)
      ∙ ap (after_destroy (Some d.left)) (sym (known_of d.addr d.id before r change.was))
      ∙ ap (λ (o : Option DestroyView). after_destroy (left_by o) (record_among d.addr d.id before)) (sym (found_first (destroys_it d.addr d.id) d [] true test))

  -- another object of the instance
  beside_at : (id : ObjectIdView) → same_instance_key d.id.key id.key ≡ true → option_eq bytes_eq d.id.deposed id.deposed ≡ false → record_at id s.records ≡ record_at id r.records
  beside_at id e f =
      let keys = keys_same d.id.key id.key e in
      let one : object_at d.id.key id.deposed ≡ id = ap (λ k. object_at k id.deposed) keys in
      ap (λ i. record_at i s.records) (sym one) ∙ is.own id.deposed ∙ other_left d.id d.left d.id.deposed id.deposed (places_in d.id.key r.records) f ∙ ap (λ i. record_at i r.records) one

  destroyed_beside : (id : ObjectIdView) (b c : Bool) → same_instance_key d.id.key id.key ≡ b → option_eq bytes_eq d.id.deposed id.deposed ≡ c → same_object_id d.id id ≡ false → record_at id s.records ≡ record_at id r.records
  destroyed_beside id true false e f n = beside_at id e f
  destroyed_beside id true true e f n =
      let yes = both_and (same_instance_key d.id.key id.key) (option_eq bytes_eq d.id.deposed id.deposed) e f in let no : true ≡ false = sym yes ∙ n in absurd (cc)
  destroyed_beside id false c e f n =
      is.others id (λ h. let yes : same_instance_key d.id.key id.key ≡ true = ap (same_instance_key d.id.key) h ∙ key_itself d.id.key in let no : true ≡ false = sym yes ∙ e in absurd (cc))

  destroyed_at : (addr : ResourceAddrView) (id : ObjectIdView) (b c : Bool) → same_addr d.addr addr ≡ b → same_object_id d.id id ≡ c → DestroyedAt addr id
  destroyed_at addr id false c e f =
      undestroyed addr id (false_first (same_addr d.addr addr) (same_object_id d.id id) e) (ap (option_and_then (λ (r : ResourceView). record_at id r.records)) (change.others addr e))
  destroyed_at addr id true true e f =
      subst (λ l. DestroyedAt l id) ((addr_Decides d.addr addr).0 e) (subst (λ i. DestroyedAt d.addr i) ((object_id_Decides d.id id).0 f) destroyed_here)
  destroyed_at addr id true false e f =
      subst (λ l. DestroyedAt l id) ((addr_Decides d.addr addr).0 e)
      (undestroyed d.addr id (false_and (same_addr d.addr d.addr) (same_object_id d.id id) f)
      (known_of d.addr id after s change.there ∙ destroyed_beside id (same_instance_key d.id.key id.key) (option_eq bytes_eq d.id.deposed id.deposed) refl refl f ∙ sym (known_of d.addr id before r change.was)))

  -- what came of one destroy
  pub one_destroyed : AreDestroyed (d ∷ []) before after
  one_destroyed = record { known = λ addr id. destroyed_at addr id (same_addr d.addr addr) (same_object_id d.id id) refl refl; heads = change.heads }

-- ---- what is there for nothing
