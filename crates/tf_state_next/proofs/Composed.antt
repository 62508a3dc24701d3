-- Destroys, and then metadata updates and applies, are what comes of all of them.
use Rattle.std.proofs.Common.{◌≡◌, ℕ, ◌&&◌, ◌||◌, Bool, true, false, cond, List, [], ◌∷◌, map, filter, Option, Some, None, option_map, refl, sym, ap, ap₂, ◌∙◌, subst}
use Rattle.std.specs.List.{AllByRecursion, cons_option, filter_map, find, list_any}
use Rattle.std.specs.Option.{option_eq, option_map_or, option_or}
use Rattle.std.specs.Prelude.{bytes_eq, option_and_then}
use Rattle.tf_config_address.proofs.Totals.{addr_total}
use Rattle.tf_config_address.specs.ResourceAddr.{ResourceAddrView, addr_cmp}
use Rattle.tf_config_address.specs.ObjectId.{InstanceKeyView, ObjectIdView}
use Rattle.tf_config_address.specs.Same.{same_addr, same_instance_key}
use Rattle.tf_state_next.proofs.Finding.{filtered_ordered, found_filtered, found_first}
use Rattle.tf_state_next.proofs.Changing.{heads_ordered, heads_providers}
use Rattle.tf_state_next.proofs.OneByOne.{applied_joined, destroys_it, addr_itself}
use Rattle.tf_state_next.specs.Events.{DestroyView, EventsView, AreEachAboutOne, as_apply, wanted, applied_by, given_in, ends_in, left_of_object, left_of_deposed}
use Rattle.tf_state_next.specs.StateDraft.{home_at, empty_home}
use Rattle.tf_state_next.specs.Recorded.{AreApplied, AreDestroyed, AreThere, IsRecorded, heads_of, record_among, places_among}
use Rattle.tf_state_next.specs.StateAfter.{IsStateAfter, has_records, next_serial}
use Rattle.tf_state.specs.Arrangement.{is_some_record}
use Rattle.tf_state_next.specs.After.{Places, after_destroy, current_after, deposed_anew, destroy_under, instance_after, object_at}
use Rattle.tf_state_next.specs.Ends.{LeftView, ApplyResultView, InstanceResultView, RecordInputView}
use Rattle.tf_state_data.proofs.Sorted.{all_mono}
use Rattle.tf_state_data.specs.Ids.{AreById}
use Rattle.tf_state_data.specs.declared.resource.Resource.{Resource}
use Rattle.tf_state_data.specs.Addresses.{AreByAddress}
use Rattle.tf_state_data.specs.Provider.{provider_text}
use Rattle.tf_state_data.specs.Record.{RecordView}
use Rattle.tf_state_data.specs.Resource.{ResourceView, record_at, resource_of}
use Rattle.tf_state_data.specs.State.{StateView, resource_at}
use Rattle.tf_value_data.specs.Tree.{Entries}

-- ---- the destroys of deposed objects

abbrev left_by : Option DestroyView → Option LeftView
left_by o = option_map (λ d. d.left) o

module _ (addr : ResourceAddrView) (key : InstanceKeyView) (k : List ℕ) where
  under_first : (j : List ℕ) (left : LeftView) (xs : List (List ℕ × LeftView)) (b : Bool) → bytes_eq j k ≡ b → destroy_under k ((j, left) ∷ xs) ≡ cond b (Some left) (destroy_under k xs)
  under_first j left xs true e = rw e refl
  under_first j left xs false e = rw e refl

  -- by whether the resource is the same, the instance, and what is deposed
  deposed_at : (d : DestroyView) (rest : List (List ℕ × LeftView)) (o : Option DestroyView) (a b : Bool) (deposed : Option (List ℕ)) → destroy_under k rest ≡ left_by o
      → destroy_under k (cons_option (cond (a && b) (option_map (λ j. (j, d.left)) deposed) None) rest) ≡ left_by (cond (a && (b && option_eq bytes_eq deposed (Some k))) (Some d) o)
  deposed_at d rest o false b deposed h = h
  deposed_at d rest o true false deposed h = h
  deposed_at d rest o true true None h = h
  deposed_at d rest o true true (Some j) h = matched (bytes_eq j k) refl
    where
      matched : (c : Bool) → bytes_eq j k ≡ c → destroy_under k ((j, d.left) ∷ rest) ≡ left_by (cond (bytes_eq j k) (Some d) o)
      matched true e = under_first j d.left rest true e ∙ ap (λ c. left_by (cond c (Some d) o)) (sym e)
      matched false e = under_first j d.left rest false e ∙ h ∙ ap (λ c. left_by (cond c (Some d) o)) (sym e)

  -- what came of the destroy of a deposed object is found under its key
  pub deposed_found : (ds : List DestroyView) → destroy_under k (filter_map (left_of_deposed addr key) ds) ≡ left_of_object addr (object_at key (Some k)) ds
  deposed_found [] = refl
  deposed_found (d ∷ ds) =
      deposed_at d (filter_map (left_of_deposed addr key) ds) (find (destroys_it addr (object_at key (Some k))) ds) (same_addr d.addr addr) (same_instance_key d.id.key key) d.id.deposed (deposed_found ds)
      ∙ ap left_by (sym (found_first (destroys_it addr (object_at key (Some k))) d ds (destroys_it addr (object_at key (Some k)) d) refl))

-- the destroys come first, and then what is wanted
combined : (g : RecordInputView) (a : ApplyResultView) (addr : ResourceAddrView) (key : InstanceKeyView) (ds : List DestroyView) (before mid : Places) (deposed : Option (List ℕ))
    → ((d : Option (List ℕ)) → mid d ≡ after_destroy (left_of_object addr (object_at key d) ds) (before d))
    → instance_after g (record { applied = a; destroyed = None; deposed = [] }) mid deposed
    ≡ instance_after g (record { applied = a; destroyed = left_of_object addr (object_at key None) ds; deposed = filter_map (left_of_deposed addr key) ds }) before deposed
combined g a addr key ds before mid None is = ap (current_after g a) (is None)
combined g a addr key ds before mid (Some k) is =
    ap₂ (λ (left : Option RecordView) (there : Option RecordView). option_or (deposed_anew g a left k) there) (is None)
    (is (Some k) ∙ ap (λ (o : Option LeftView). after_destroy o (before (Some k))) (sym (deposed_found addr key k ds)))

home_known : (prior : Option ResourceView) (b : Bool) (addr : ResourceAddrView) (id : ObjectIdView)
    → option_and_then (λ r. record_at id r.records) (option_or prior (cond b (Some (empty_home addr)) None)) ≡ option_and_then (λ r. record_at id r.records) prior
home_known (Some r) b addr id = refl
home_known None true addr id = refl
home_known None false addr id = refl

-- what is known of each object after all
pub known_after : (prior : List ResourceView) (addrs : List ResourceAddrView) (e : EventsView) (draft mid late after : List ResourceView) → ((addr : ResourceAddrView) → resource_at addr draft ≡ home_at prior addrs addr) → AreEachAboutOne e
    → AreDestroyed e.destroys draft mid → AreApplied (map as_apply e.metadata_updates) mid late → AreApplied e.applies late after
    → (addr : ResourceAddrView) (id : ObjectIdView) → record_among addr id after ≡ instance_after (given_in e addr id.key) (ends_in e addr id.key) (λ d. record_among addr (object_at id.key d) prior) id.deposed
known_after prior addrs e draft mid late after are apart destroyed renewed applied addr id =
    let all = applied_joined e.applies (map as_apply e.metadata_updates) mid late after apart.wanted renewed applied in
    all.known addr id.key id.deposed
    ∙ combined (given_in e addr id.key) (applied_by (wanted e) addr id.key) addr id.key e.destroys (λ d. record_among addr (object_at id.key d) prior) (places_among addr id.key mid) id.deposed
    (λ d. destroyed.known addr (object_at id.key d)
    ∙ ap (after_destroy (left_of_object addr (object_at id.key d) e.destroys))
    (ap (option_and_then (λ (r : ResourceView). record_at (object_at id.key d) r.records)) (are addr) ∙ home_known (resource_at addr prior) _ addr (object_at id.key d)))

-- ---- the state

home_provider : (prior : StateView) (o : Option ResourceView) (b : Bool) (addr : ResourceAddrView) (p : List ℕ) → Some p ≡ option_map (λ r. r.provider) (option_or o (cond b (Some (empty_home addr)) None))
    → p ≡ option_map_or (λ r. r.provider) o (provider_text addr.type_name)
home_provider prior (Some r) b addr p e = cc
home_provider prior None true addr p e = cc
home_provider prior None false addr p e = absurd (cc)

kept_records : (o : Option ResourceView) (id : ObjectIdView) → option_and_then (λ r. record_at id r.records) (option_and_then (λ r. cond (has_records r) (Some r) None) o) ≡ option_and_then (λ r. record_at id r.records) o
kept_records None id = refl
kept_records (Some r) id = at r.records refl
  where
    at : (xs : List RecordView) → r.records ≡ xs → option_and_then (λ (r : ResourceView). record_at id r.records) (cond (is_some_record r.records) (Some r) None) ≡ record_at id r.records
    at [] e = rw e refl
    at (x ∷ xs) e = rw e refl

kept_provider : (o : Option ResourceView) (r : ResourceView) → option_and_then (λ r. cond (has_records r) (Some r) None) o ≡ Some r → o ≡ Some r
kept_provider None r e = absurd (cc)
kept_provider (Some s) r e = at (has_records s) refl
  where
    at : (b : Bool) → has_records s ≡ b → Some s ≡ Some r
    at true is = sym (rw is refl) ∙ e
    at false is = let no : None ≡ Some r = sym (rw is refl) ∙ e in absurd (cc)

all_kept : {A : Type 0} (p : A → Bool) (xs : List A) → AllByRecursion (λ x. p x ≡ true) (filter p xs)
all_kept p [] = tt
all_kept p (x ∷ xs) = at (p x) refl (all_kept p xs)
  where
    at : (b : Bool) → p x ≡ b → AllByRecursion (λ x. p x ≡ true) (filter p xs) → AllByRecursion (λ x. p x ≡ true) (cond b (x ∷ filter p xs) (filter p xs))
    at true e rest = (e, rest)
    at false e rest = rest

pub state_is : (n : ℕ) (l v : List ℕ) (o p : Entries) (qs rs : List ResourceView) (m : ℕ) (k w : List ℕ) → n ≡ m → l ≡ k → v ≡ w → o ≡ p → qs ≡ rs
    → ◌≡◌ {A = StateView} (record { serial = n; lineage = l; terraform_version = v; outputs = o; resources = qs }) (record { serial = m; lineage = k; terraform_version = w; outputs = p; resources = rs })
state_is n l v o p qs rs m k w e f g h i = cc

module _ (prior : StateView) (given : ResourceAddrView → InstanceKeyView → RecordInputView) (ends : ResourceAddrView → InstanceKeyView → InstanceResultView) (outputs : Entries) (addrs : List ResourceAddrView) (draft rs : List ResourceView) where
  -- a state of these resources, as far as objects are known of them
  abbrev kept_state : StateView
  kept_state = record { serial = prior.serial; lineage = prior.lineage; terraform_version = prior.terraform_version; outputs = outputs; resources = filter has_records rs }

  pub is_after : AreByAddress rs → ((addr : ResourceAddrView) → resource_at addr draft ≡ home_at prior.resources addrs addr)
      → ((addr : ResourceAddrView) → option_map (λ r. r.provider) (resource_at addr rs) ≡ option_map (λ r. r.provider) (resource_at addr draft))
      → ((addr : ResourceAddrView) (id : ObjectIdView) → record_among addr id rs ≡ instance_after (given addr id.key) (ends addr id.key) (λ d. record_among addr (object_at id.key d) prior.resources) id.deposed)
      → IsStateAfter prior given ends outputs (record kept_state { serial = next_serial prior kept_state })
  is_after ordered are providers known =
      let found : (addr : ResourceAddrView) → resource_at addr (filter has_records rs) ≡ option_and_then (λ r. cond (has_records r) (Some r) None) (resource_at addr rs) =
      λ addr. found_filtered (λ (r : ResourceView). r.addr) addr_cmp addr_total has_records addr rs ordered in
      record {
        records = λ addr id. ap (option_and_then (λ (r : ResourceView). record_at id r.records)) (found addr) ∙ kept_records (resource_at addr rs) id ∙ known addr id;
        present = all_kept has_records rs;
        providers = λ addr r e.
            let there : resource_at addr rs ≡ Some r = kept_provider (resource_at addr rs) r (sym (found addr) ∙ e) in
            home_provider prior (resource_at addr prior.resources) _ addr r.provider
            (sym (ap (option_map (λ (r : ResourceView). r.provider)) there) ∙ providers addr ∙ ap (option_map (λ (r : ResourceView). r.provider)) (are addr));
        outputs_are = refl;
        lineage = refl;
        version = refl;
        serial = refl;
      }

  -- so it is of the code's state
  pub is_after_of : (n : ℕ) (l v : List ℕ) (qs : List ResourceView) (s t : StateView) → n ≡ prior.serial → l ≡ prior.lineage → v ≡ prior.terraform_version → qs ≡ filter has_records rs
      → s ≡ record { serial = n; lineage = l; terraform_version = v; outputs = outputs; resources = qs } → t ≡ record s { serial = next_serial prior s }
      → IsStateAfter prior given ends outputs (record kept_state { serial = next_serial prior kept_state }) → IsStateAfter prior given ends outputs t
  is_after_of n l v qs s t serial lineage version resources is raised h =
      let one : s ≡ kept_state = is ∙ state_is n l v outputs outputs qs (filter has_records rs) prior.serial prior.lineage prior.terraform_version serial lineage version refl resources in
      subst (IsStateAfter prior given ends outputs) (sym (raised ∙ ap (λ (u : StateView). record u { serial = next_serial prior u }) one)) h

-- ---- the whole

pub recorded_heads : (e : EventsView) (before after : List ResourceView) → IsRecorded e before after → heads_of after ≡ heads_of before
recorded_heads e before after h = h.applied.heads ∙ h.renewed.heads ∙ h.destroyed.heads

pub recorded_ordered : (e : EventsView) (before after : List ResourceView) → IsRecorded e before after → AreByAddress before → AreByAddress (filter has_records after)
recorded_ordered e before after h ordered =
    filtered_ordered (λ (r : ResourceView). r.addr) addr_cmp addr_total has_records after (heads_ordered before after (recorded_heads e before after h) ordered)

-- the state that the code makes of a draft and of what was recorded in it
pub whole_is : (prior : StateView) (e : EventsView) (outputs : Entries) (addrs : List ResourceAddrView) (draft rs : List ResourceView) (n : ℕ) (l v : List ℕ) (qs : List ResourceView) (s t : StateView)
    → AreByAddress draft → ((addr : ResourceAddrView) → resource_at addr draft ≡ home_at prior.resources addrs addr) → AreEachAboutOne e → IsRecorded e draft rs
    → n ≡ prior.serial → l ≡ prior.lineage → v ≡ prior.terraform_version → qs ≡ filter has_records rs
    → s ≡ record { serial = n; lineage = l; terraform_version = v; outputs = outputs; resources = qs } → t ≡ record s { serial = next_serial prior s }
    → IsStateAfter prior (given_in e) (ends_in e) outputs t
whole_is prior e outputs addrs draft rs n l v qs s t ordered are apart h serial lineage version resources is raised =
    let heads = recorded_heads e draft rs h in
    is_after_of prior (given_in e) (ends_in e) outputs addrs draft rs n l v qs s t serial lineage version resources is raised
    (is_after prior (given_in e) (ends_in e) outputs addrs draft rs (heads_ordered draft rs heads ordered) are (λ addr. heads_providers addr draft rs heads)
    (known_after prior.resources addrs e draft h.mid h.late rs are apart h.destroyed h.renewed h.applied))

any_at : (x l : ResourceAddrView) (b : Bool) → b ≡ true → (same_addr x l || b) ≡ true
any_at x l true e = or_true (same_addr x l)
  where
    or_true : (c : Bool) → (c || true) ≡ true
    or_true true = refl
    or_true false = refl
any_at x l false e = absurd (cc)

first_true : (c d : Bool) → c ≡ true → (c || d) ≡ true
first_true true d e = refl
first_true false d e = absurd (cc)

-- each of some addresses is one of them
each_is : (addrs : List ResourceAddrView) → AllByRecursion (λ l. list_any (λ k. same_addr k l) addrs ≡ true) addrs
each_is [] = tt
each_is (x ∷ addrs) = (
  first_true (same_addr x x) _ (addr_itself x),
  all_mono (λ l. list_any (λ k. same_addr k l) addrs ≡ true) (λ l. list_any (λ k. same_addr k l) (x ∷ addrs) ≡ true) addrs (λ l h. any_at x l (list_any (λ k. same_addr k l) addrs) h) (each_is addrs),
)

home_there : (prior : Option ResourceView) (b : Bool) (l : ResourceAddrView) → b ≡ true → ¬ (option_or prior (cond b (Some (empty_home l)) None) ≡ None)
home_there (Some r) b l e h = absurd (cc)
home_there None true l e h = absurd (cc)
home_there None false l e h = absurd (cc)

-- there is a home at each of the addresses
pub homes_there : (prior : List ResourceView) (addrs : List ResourceAddrView) (draft : List ResourceView) → ((addr : ResourceAddrView) → resource_at addr draft ≡ home_at prior addrs addr) → AreThere addrs draft
homes_there prior addrs draft are =
    all_mono (λ l. list_any (λ k. same_addr k l) addrs ≡ true) (λ l. ¬ (resource_at l draft ≡ None)) addrs
    (λ l one none. home_there (resource_at l prior) (list_any (λ k. same_addr k l) addrs) l one (sym (are l) ∙ none)) (each_is addrs)

-- the records of each resource are in order
pub records_ordered : (rs : List Resource) → AllByRecursion (λ r. AreById r.records) (map resource_of rs)
records_ordered [] = tt
records_ordered (r ∷ rs) = (r.ordered, records_ordered rs)
