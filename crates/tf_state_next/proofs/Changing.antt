-- One of some resources is changed in place.
use Rattle.std.proofs.Common.{◌≡◌, ◌<◌, ◌≤◌, ◌+◌, ◌&&◌, ℕ, zero, suc, Bool, true, false, cond, List, [], ◌∷◌, ◌++◌, length, map, set, get_or, take, drop, Option, Some, None, IfSome, is_eq, refl, sym, ap, ap₂, ◌∙◌, subst, arith}
use Rattle.std.proofs.Math.Seq.{map-set_same}
use Rattle.std.proofs.lemmas.List.{append-nil, drop_all, length-map, take_all}
use Rattle.std.proofs.lemmas.List.Sums.{sum_by-append}
use Rattle.std.proofs.lemmas.Map.Text.{is_eq-slice_cmp}
use Rattle.std.proofs.lemmas.Option.{slice_get-get_or}
use Rattle.std.specs.Cmp.{tied_then}
use Rattle.std.specs.List.Sorted.{IsStrictlySortedBy}
use Rattle.std.specs.Prelude.{option_map, slice_get}
use Rattle.tf_config_address.proofs.Totals.{addr_total}
use Rattle.tf_config_address.specs.ResourceAddr.{ResourceAddrView, addr_cmp, addr_of}
use Rattle.tf_config_address.specs.Same.{same_addr, addr_Decides}
use Rattle.tf_state_next.proofs.Finding.{found_passes}
use Rattle.tf_state_next.proofs.OneByOne.{IsChanged, addr_itself}
use Rattle.tf_state_next.specs.StateDraft.{HaveRoom, count_of}
use Rattle.tf_state_next.specs.Recorded.{AreThere, heads_of}
use Rattle.tf_state_next.specs.Ends.{ApplyResultView, unwanted, unplanned, nothing, saved}
use Rattle.tf_state_next.specs.Room.{records_more}
use Rattle.tf_state_data.proofs.Edits.{by_address, element_found, put_over}
use Rattle.tf_state_data.proofs.OneChanged.{put_changes_one}
use Rattle.tf_state_data.specs.Addresses.{AreByAddress, addresses_of}
use Rattle.tf_state_data.specs.Order.{IsAt, with_one}
use Rattle.tf_state_data.specs.Resource.{HasRoomForRecords, ResourceView, resource_of}
use Rattle.tf_state_data.specs.State.{resource_at}
use Rattle.tf_state_data.specs.declared.resource.Resource.{Resource}

-- addresses are in one place of their order exactly where they are the same
pub addrs_tied : (a b : ResourceAddrView) → is_eq (addr_cmp a b) ≡ same_addr a b
addrs_tied a b =
    sym (tied_then _ _) ∙ ap₂ (λ p q. p && q) (is_eq-slice_cmp a.type_name b.type_name) (is_eq-slice_cmp a.name b.name)

-- what is found at an address has it
pub found_addr : (addr : ResourceAddrView) (rs : List ResourceView) (r : ResourceView) → resource_at addr rs ≡ Some r → r.addr ≡ addr
found_addr addr rs r e =
    (addr_Decides r.addr addr).0 (sym (addrs_tied r.addr addr) ∙ found_passes (λ (r : ResourceView). is_eq (addr_cmp r.addr addr)) rs r e)

-- addresses that differ do so either way round
pub addrs_apart : (a b : ResourceAddrView) → same_addr a b ≡ false → is_eq (addr_cmp b a) ≡ false
addrs_apart a b e = addrs_tied b a ∙ other (same_addr b a) refl
  where
    other : (c : Bool) → same_addr b a ≡ c → same_addr b a ≡ false
    other false is = is
    other true is =
        let same : same_addr a b ≡ true = ap (same_addr a) ((addr_Decides b a).0 is) ∙ addr_itself a in
        let no : true ≡ false = sym same ∙ e in absurd (cc)

head : Resource → ResourceAddrView × List ℕ
head r = ((resource_of r).addr, (resource_of r).provider)

abbrev pub IsAtAddr : ResourceAddrView → List Resource → ℕ → Type 0
IsAtAddr addr rs i = IsAt (λ r. r.addr) addr_cmp addr (map resource_of rs) i

heads_map : (rs : List Resource) → heads_of (map resource_of rs) ≡ map head rs
unfolding head
heads_map [] = refl
heads_map (r ∷ rs) = ap (λ hs. head r ∷ hs) (heads_map rs)

-- a resource is changed at its address
pub changed_in : (addr : ResourceAddrView) (rs : List Resource) (i : ℕ) (old new : Resource) → IsAtAddr addr rs i → old ≡ get_or rs i old
    → (resource_of new).addr ≡ (resource_of old).addr → (resource_of new).provider ≡ (resource_of old).provider
    → IsChanged addr (resource_of old) (resource_of new) (map resource_of rs) (map resource_of (set rs i new))
unfolding head
changed_in addr rs i old new is e addrs providers =
    let was : resource_at addr (map resource_of rs) ≡ Some (resource_of old) = sym (element_found by_address addr rs i old is e) in
    let at : (resource_of new).addr ≡ addr = addrs ∙ found_addr addr (map resource_of rs) (resource_of old) was in
    let put : map resource_of (set rs i new) ≡ with_one (λ (r : ResourceView). r.addr) addr_cmp (resource_of new) (map resource_of rs) =
    put_over by_address rs new new i (subst (λ l. IsAtAddr l rs i) (sym at) is) refl in
    let one = put_changes_one (λ (r : ResourceView). r.addr) addr_cmp addr_total (resource_of new) (map resource_of rs) in
    record {
      was = was;
      there = ap (resource_at addr) put ∙ ap (λ l. resource_at l (with_one (λ (r : ResourceView). r.addr) addr_cmp (resource_of new) (map resource_of rs))) (sym at) ∙ one.0;
      others = λ l other. ap (resource_at l) put ∙ one.1 l (ap (λ k. is_eq (addr_cmp l k)) at ∙ addrs_apart addr l other);
      heads =
          heads_map (set rs i new)
          ∙ map-set_same head rs i new old (ap₂ {C = ResourceAddrView × List ℕ} (λ l p. (l, p)) addrs providers ∙ ap head e)
          ∙ sym (heads_map rs);
    }

-- the resource at the index
pub read_at : (addr : ResourceAddrView) (rs : List Resource) (i : ℕ) (old : Resource) → IsAtAddr addr rs i → old ≡ get_or rs i old → slice_get rs i ≡ Some old
read_at addr rs i old is e =
    let below : i < length rs = omega (arith, is.within, length-map rs resource_of) in
    slice_get-get_or rs i old below ∙ ap Some (sym e)

-- ---- room

some_weaker : {A : Type 0} (P Q : A → Type 0) (o : Option A) → ((a : A) → P a → Q a) → IfSome o P → IfSome o Q
some_weaker P Q None f h = tt
some_weaker P Q (Some a) f h = f a h

-- what holds of each holds still where one element is replaced
each_replaced : {A : Type 0} (P Q : A → Type 0) (xs : List A) (index : ℕ) (old new : A) → slice_get xs index ≡ Some old → ((a : A) → P a → Q a) → (P old → Q new)
    → ((n : ℕ) → IfSome (slice_get xs n) P) → (n : ℕ) → IfSome (slice_get (set xs index new) n) Q
each_replaced P Q [] index old new is others here all n = absurd (cc)
each_replaced P Q (x ∷ xs) zero old new is others here all zero = let same : x ≡ old = (cc) in here (subst P same (all zero))
each_replaced P Q (x ∷ xs) zero old new is others here all (suc n) = some_weaker P Q (slice_get xs n) others (all (suc n))
each_replaced P Q (x ∷ xs) (suc index) old new is others here all zero = others x (all zero)
each_replaced P Q (x ∷ xs) (suc index) old new is others here all (suc n) = each_replaced P Q xs index old new is others here (λ k. all (suc k)) n

pub room_weaker : (r : Resource) (n m : ℕ) → m ≤ n → HasRoomForRecords n r → HasRoomForRecords m r
room_weaker r n m h g = omega arith

-- where a resource is changed that has room for no fewer, each has room
pub room_kept : (count : ResourceAddrView → ℕ) (rs : List Resource) (index : ℕ) (old new : Resource) → slice_get rs index ≡ Some old → (resource_of new).addr ≡ (resource_of old).addr
    → ((n : ℕ) → HasRoomForRecords n old → HasRoomForRecords n new) → HaveRoom count rs → HaveRoom count (set rs index new)
room_kept count rs index old new is addrs keeps room =
    each_replaced (λ (r : Resource). HasRoomForRecords (count (addr_of r.addr)) r) (λ (r : Resource). HasRoomForRecords (count (addr_of r.addr)) r) rs index old new is (λ r h. h)
    (λ h. subst (λ (l : ResourceAddrView). HasRoomForRecords (count l) new) (sym addrs) (keeps (count (addr_of old.addr)) h)) room

pub count_joined : (addrs more : List ResourceAddrView) (l : ResourceAddrView) → count_of (addrs ++ more) l ≡ count_of addrs l + count_of more l
count_joined addrs more l = sum_by-append (λ x. cond (same_addr x l) 1 0) addrs more

one_counted : (l : ResourceAddrView) → count_of (l ∷ []) l ≡ 1
one_counted l = let e = addr_itself l in rw e refl

pub one_more : (a : ApplyResultView) → records_more a ≤ 1
one_more (saved s) = omega arith
one_more nothing = omega arith
one_more unplanned = omega arith
one_more unwanted = omega arith

-- there is room for what comes of one apply
pub room_here : (l : ResourceAddrView) (rs : List Resource) (index : ℕ) (old : Resource) (a : ApplyResultView) → slice_get rs index ≡ Some old → l ≡ (resource_of old).addr → HaveRoom (count_of (l ∷ [])) rs → HasRoomForRecords (records_more a) old
room_here l rs index old a is addrs room =
    let here : IfSome (Some old) (λ (r : Resource). HasRoomForRecords (count_of (l ∷ []) (addr_of r.addr)) r) = subst (λ (o : Option Resource). IfSome o (λ (r : Resource). HasRoomForRecords (count_of (l ∷ []) (addr_of r.addr)) r)) is (room index) in
    let counted : count_of (l ∷ []) (addr_of old.addr) ≡ 1 = ap (count_of (l ∷ [])) (sym addrs) ∙ one_counted l in
    room_weaker old 1 (records_more a) (one_more a) (subst (λ (n : ℕ). HasRoomForRecords n old) counted here)

-- what comes of an apply takes the room that was for it
pub room_taken : (addrs : List ResourceAddrView) (l : ResourceAddrView) (rs : List Resource) (index : ℕ) (old new : Resource) (a : ApplyResultView) → slice_get rs index ≡ Some old → l ≡ (resource_of old).addr → (resource_of new).addr ≡ (resource_of old).addr
    → ((n : ℕ) → HasRoomForRecords (n + records_more a) old → HasRoomForRecords n new) → HaveRoom (count_of (addrs ++ l ∷ [])) rs → HaveRoom (count_of addrs) (set rs index new)
room_taken addrs l rs index old new a is addr addrs_same takes room =
    each_replaced (λ (r : Resource). HasRoomForRecords (count_of (addrs ++ l ∷ []) (addr_of r.addr)) r) (λ (r : Resource). HasRoomForRecords (count_of addrs (addr_of r.addr)) r) rs index old new is
    (λ r h. let more = count_joined addrs (l ∷ []) (addr_of r.addr) in room_weaker r (count_of (addrs ++ l ∷ []) (addr_of r.addr)) (count_of addrs (addr_of r.addr)) (omega arith) h)
    (λ h.
    let counted : count_of (addrs ++ l ∷ []) (addr_of old.addr) ≡ count_of addrs (addr_of old.addr) + 1 =
    count_joined addrs (l ∷ []) (addr_of old.addr) ∙ ap (λ n. count_of addrs (addr_of old.addr) + n) (ap (count_of (l ∷ [])) (sym addr) ∙ one_counted l) in
    let few = one_more a in
    subst (λ (k : ResourceAddrView). HasRoomForRecords (count_of addrs k) new) (sym addrs_same)
    (takes (count_of addrs (addr_of old.addr))
    (room_weaker old (count_of (addrs ++ l ∷ []) (addr_of old.addr)) (count_of addrs (addr_of old.addr) + records_more a) (omega arith) h))) room

pub found_at : (addr : ResourceAddrView) (rs : List Resource) (i : ℕ) (old : Resource) → IsAtAddr addr rs i → old ≡ get_or rs i old → resource_at addr (map resource_of rs) ≡ Some (resource_of old)
found_at addr rs i old is e = sym (element_found by_address addr rs i old is e)

addresses_in : (rs : List ResourceView) → addresses_of rs ≡ map (λ h. h.0) (heads_of rs)
addresses_in [] = refl
addresses_in (r ∷ rs) = ap (λ ls. r.addr ∷ ls) (addresses_in rs)

-- resources with the same addresses are in order
pub heads_ordered : (rs qs : List ResourceView) → heads_of qs ≡ heads_of rs → AreByAddress rs → AreByAddress qs
heads_ordered rs qs e ordered = subst (λ ls. IsStrictlySortedBy addr_cmp ls) (addresses_in rs ∙ ap (map (λ h. h.0)) (sym e) ∙ sym (addresses_in qs)) ordered

provider_from : (addr : ResourceAddrView) → List (ResourceAddrView × List ℕ) → Option (List ℕ)
provider_from addr [] = None
provider_from addr (h ∷ hs) = cond (is_eq (addr_cmp h.0 addr)) (Some h.1) (provider_from addr hs)

provider_of : (addr : ResourceAddrView) (rs : List ResourceView) → option_map (λ r. r.provider) (resource_at addr rs) ≡ provider_from addr (heads_of rs)
unfolding provider_from
provider_of addr [] = refl
provider_of addr (r ∷ rs) = at (is_eq (addr_cmp r.addr addr)) refl (provider_of addr rs)
  where
    at : (b : Bool) → is_eq (addr_cmp r.addr addr) ≡ b → option_map (λ r. r.provider) (resource_at addr rs) ≡ provider_from addr (heads_of rs)
        → option_map (λ r. r.provider) (resource_at addr (r ∷ rs)) ≡ provider_from addr (heads_of (r ∷ rs))
    at true e rest = rw e refl
    at false e rest = rw e rest

-- and with the same providers
pub heads_providers : (addr : ResourceAddrView) (rs qs : List ResourceView) → heads_of qs ≡ heads_of rs → option_map (λ r. r.provider) (resource_at addr qs) ≡ option_map (λ r. r.provider) (resource_at addr rs)
heads_providers addr rs qs e = provider_of addr qs ∙ ap (provider_from addr) e ∙ sym (provider_of addr rs)

-- there is one where there was one
pub heads_there : (addr : ResourceAddrView) (rs qs : List ResourceView) → heads_of qs ≡ heads_of rs → ¬ (resource_at addr rs ≡ None) → ¬ (resource_at addr qs ≡ None)
heads_there addr rs qs e there none = there (absent (resource_at addr rs) (sym (heads_providers addr rs qs e) ∙ ap (option_map (λ r. r.provider)) none))
  where
    absent : (o : Option ResourceView) → option_map (λ r. r.provider) o ≡ None → o ≡ None
    absent None h = refl
    absent (Some r) h = absurd (cc)

pub all_there : (addrs : List ResourceAddrView) (rs qs : List ResourceView) → heads_of qs ≡ heads_of rs → AreThere addrs rs → AreThere addrs qs
all_there [] rs qs e h = tt
all_there (l ∷ addrs) rs qs e h = (heads_there l rs qs e h.0, all_there addrs rs qs e h.1)

pub there_front : (addrs more : List ResourceAddrView) (rs : List ResourceView) → AreThere (addrs ++ more) rs → AreThere addrs rs × AreThere more rs
there_front [] more rs h = (tt, h)
there_front (l ∷ addrs) more rs h = let rest = there_front addrs more rs h.1 in ((h.0, rest.0), rest.1)

pub empty : {A : Type 0} (xs : List A) → length xs ≡ 0 → xs ≡ []
empty [] h = refl
empty (x ∷ xs) h = absurd (omega (arith, h))

-- room for more is room for fewer
pub room_fewer : (count fewer : ResourceAddrView → ℕ) (rs : List Resource) → ((l : ResourceAddrView) → fewer l ≤ count l) → HaveRoom count rs → HaveRoom fewer rs
room_fewer count fewer rs less room n =
    some_weaker (λ (r : Resource). HasRoomForRecords (count (addr_of r.addr)) r) (λ (r : Resource). HasRoomForRecords (fewer (addr_of r.addr)) r) (slice_get rs n)
    (λ r h. room_weaker r (count (addr_of r.addr)) (fewer (addr_of r.addr)) (less (addr_of r.addr)) h) (room n)

pub room_last : (addrs : List ResourceAddrView) (l : ResourceAddrView) (rs : List Resource) → HaveRoom (count_of (addrs ++ l ∷ [])) rs → HaveRoom (count_of (l ∷ [])) rs
room_last addrs l rs room = room_fewer (count_of (addrs ++ l ∷ [])) (count_of (l ∷ [])) rs (λ k. let more = count_joined addrs (l ∷ []) k in omega arith) room

-- what is written into a whole list is the list
pub written : {A : Type 0} (xs ys : List A) (n : ℕ) → length ys ≡ length xs → n ≡ length xs → take n (ys ++ drop (length ys) xs) ≡ ys
written {A} xs ys n e f =
    ap (λ (zs : List A). take n (ys ++ zs)) (drop_all (length ys) xs (omega arith)) ∙ ap (take n) (append-nil ys) ∙ take_all n ys (omega arith)
