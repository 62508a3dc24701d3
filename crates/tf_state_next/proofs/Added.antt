-- Empty resources are added, and room is made.
use Rattle.std.proofs.Common.{add-one, drop, drop-cons, get_or, ◌≡◌, ◌≢◌, ◌<◌, ◌≤◌, ◌+◌, ◌||◌, ℕ, zero, suc, Bool, true, false, cond, List, [], ◌∷◌, length, map, set, Option, Some, None, IfSome, refl, sym, ap, ◌∙◌, subst, arith}
use Rattle.std.specs.List.{list_any}
use Rattle.std.specs.Option.{option_or}
use Rattle.std.specs.Prelude.{slice_get}
use Rattle.tf_config_address.proofs.Totals.{addr_total}
use Rattle.tf_config_address.specs.ResourceAddr.{ResourceAddrView, addr_cmp, addr_of}
use Rattle.tf_config_address.specs.Same.{same_addr, addr_Decides}
use Rattle.tf_state_next.proofs.Changing.{addrs_apart}
use Rattle.tf_state_next.specs.StateDraft.{AreAdded, HaveRoom, empty_home}
use Rattle.tf_state_data.proofs.OneChanged.{put_changes_one}
use Rattle.tf_state_data.proofs.OrderKept.{with-sorted}
use Rattle.tf_state_data.specs.Addresses.{AreByAddress}
use Rattle.tf_state_data.specs.Order.{with_one}
use Rattle.tf_state_data.specs.Provider.{provider_text}
use Rattle.tf_state_data.specs.Resource.{HasRoomForRecords, ResourceView}
use Rattle.tf_state_data.specs.State.{resource_at}
use Rattle.tf_state_data.specs.declared.resource.Resource.{Resource}

or_none : {A : Type 0} (o : Option A) → option_or o None ≡ o
or_none None = refl
or_none (Some x) = refl

home_by : Option ResourceView → Bool → ResourceAddrView → Option ResourceView
home_by before b addr = option_or before (cond b (Some (empty_home addr)) None)

or_false : (b : Bool) → (b || false) ≡ b
or_false true = refl
or_false false = refl

-- none is added
pub none_added : (rs : List ResourceView) → AreByAddress rs → AreAdded [] rs rs
none_added rs ordered = record { resources = λ addr. sym (or_none (resource_at addr rs)); ordered = ordered }

more_at : (p : Option ResourceView) (b c : Bool) (addr : ResourceAddrView) → home_by (home_by p b addr) c addr ≡ home_by p (b || c) addr
unfolding home_by
more_at (Some r) true true addr = refl
more_at (Some r) true false addr = refl
more_at (Some r) false true addr = refl
more_at (Some r) false false addr = refl
more_at None true true addr = refl
more_at None true false addr = refl
more_at None false true addr = refl
more_at None false false addr = refl

-- one is added, and then the others
pub added_more : (l : ResourceAddrView) (addrs : List ResourceAddrView) (before mid after : List ResourceView) → AreAdded (l ∷ []) before mid → AreAdded addrs mid after → AreAdded (l ∷ addrs) before after
unfolding home_by
added_more l addrs before mid after first rest = record {
  resources = λ addr.
      let b : Bool = same_addr l addr in
      let c : Bool = list_any (λ k. same_addr k addr) addrs in
      let one : resource_at addr mid ≡ home_by (resource_at addr before) b addr = first.resources addr ∙ ap (λ d. home_by (resource_at addr before) d addr) (or_false b) in
      rest.resources addr ∙ ap (λ p. home_by p c addr) one ∙ more_at (resource_at addr before) b c addr;
  ordered = rest.ordered;
}

-- where there is a resource, none is added
pub added_there : (l : ResourceAddrView) (rs : List ResourceView) (r : ResourceView) → AreByAddress rs → resource_at l rs ≡ Some r → AreAdded (l ∷ []) rs rs
unfolding home_by
added_there l rs r ordered is = record { resources = λ addr. at addr (same_addr l addr) refl; ordered = ordered }
  where
    at : (addr : ResourceAddrView) (b : Bool) → same_addr l addr ≡ b → resource_at addr rs ≡ home_by (resource_at addr rs) (same_addr l addr || false) addr
    at addr true e =
        let here : resource_at addr rs ≡ Some r = ap (λ k. resource_at k rs) (sym ((addr_Decides l addr).0 e)) ∙ is in
        here ∙ ap (λ p. home_by p (same_addr l addr || false) addr) (sym here)
    at addr false e = sym (or_none (resource_at addr rs)) ∙ ap (λ b. home_by (resource_at addr rs) (b || false) addr) (sym e)

-- where there is none, an empty one is
pub added_empty : (l : ResourceAddrView) (rs qs : List ResourceView) → AreByAddress rs → resource_at l rs ≡ None → qs ≡ with_one (λ (r : ResourceView). r.addr) addr_cmp (empty_home l) rs → AreAdded (l ∷ []) rs qs
unfolding home_by
added_empty l rs qs ordered none put = record {
  resources = λ addr. ap (resource_at addr) put ∙ at addr (same_addr l addr) refl;
  ordered = subst AreByAddress (sym put) (with-sorted (λ (r : ResourceView). r.addr) addr_cmp addr_total (empty_home l) rs ordered);
}
  where
    at : (addr : ResourceAddrView) (b : Bool) → same_addr l addr ≡ b → resource_at addr (with_one (λ (r : ResourceView). r.addr) addr_cmp (empty_home l) rs) ≡ home_by (resource_at addr rs) (same_addr l addr || false) addr
    at addr true e =
        let one = put_changes_one (λ (r : ResourceView). r.addr) addr_cmp addr_total (empty_home l) rs in
        let same = (addr_Decides l addr).0 e in
        ap (λ k. resource_at k (with_one (λ (r : ResourceView). r.addr) addr_cmp (empty_home l) rs)) (sym same) ∙ one.0 ∙ ap (λ k. Some (empty_home k)) same
        ∙ ap (λ b. home_by None (b || false) addr) (sym e) ∙ ap (λ p. home_by p (same_addr l addr || false) addr) (sym (ap (λ k. resource_at k rs) (sym same) ∙ none))
    at addr false e =
        let one = put_changes_one (λ (r : ResourceView). r.addr) addr_cmp addr_total (empty_home l) rs in
        one.1 addr (addrs_apart l addr e) ∙ sym (or_none (resource_at addr rs)) ∙ ap (λ b. home_by (resource_at addr rs) (b || false) addr) (sym e)

-- ---- room

some_weaker : {A : Type 0} (P Q : A → Type 0) (o : Option A) → ((a : A) → P a → Q a) → IfSome o P → IfSome o Q
some_weaker P Q None f h = tt
some_weaker P Q (Some a) f h = f a h

-- what holds at each place holds still where one element is replaced
each_replaced : {A : Type 0} (P Q : ℕ → A → Type 0) (xs : List A) (index : ℕ) (old new : A) → slice_get xs index ≡ Some old
    → ((n : ℕ) → n ≢ index → (a : A) → P n a → Q n a) → (P index old → Q index new)
    → ((n : ℕ) → IfSome (slice_get xs n) (P n)) → (n : ℕ) → IfSome (slice_get (set xs index new) n) (Q n)
each_replaced P Q [] index old new is others here all n = absurd (cc)
each_replaced P Q (x ∷ xs) zero old new is others here all zero =
    let same : x ≡ old = (cc) in
    here (subst (P zero) same (all zero))
each_replaced P Q (x ∷ xs) zero old new is others here all (suc n) =
    some_weaker (P (suc n)) (Q (suc n)) (slice_get xs n) (others (suc n) (λ e. absurd (omega arith))) (all (suc n))
each_replaced P Q (x ∷ xs) (suc index) old new is others here all zero = others zero (λ e. absurd (omega arith)) x (all zero)
each_replaced P Q (x ∷ xs) (suc index) old new is others here all (suc n) =
    each_replaced (λ k. P (suc k)) (λ k. Q (suc k)) xs index old new is (λ k other. others (suc k) (λ e. other (omega arith))) here (λ k. all (suc k)) n

-- the resources before a place have room for as many as are counted for their addresses
abbrev pub HaveRoomTo : (ResourceAddrView → ℕ) → ℕ → List Resource → Type 0
HaveRoomTo count i rs = (n : ℕ) → IfSome (slice_get rs n) (λ r. n < i → HasRoomForRecords (count (addr_of r.addr)) r)

pub room_more : (count : ResourceAddrView → ℕ) (rs : List Resource) (i : ℕ) (old new : Resource) → slice_get rs i ≡ Some old → HasRoomForRecords (count (addr_of new.addr)) new → HaveRoomTo count i rs → HaveRoomTo count (i + 1) (set rs i new)
room_more count rs i old new is room before =
    each_replaced (λ n (r : Resource). n < i → HasRoomForRecords (count (addr_of r.addr)) r) (λ n (r : Resource). n < i + 1 → HasRoomForRecords (count (addr_of r.addr)) r) rs i old new is
    (λ n other r h below. h (omega arith)) (λ h below. room) before

slice_get-below : {A : Type 0} (xs : List A) (n : ℕ) (x : A) → slice_get xs n ≡ Some x → n < length xs
slice_get-below [] n x e = absurd (cc)
slice_get-below (y ∷ xs) zero x e = omega arith
slice_get-below (y ∷ xs) (suc n) x e = let rest = slice_get-below xs n x e in omega arith

all_within : (count : ResourceAddrView → ℕ) (rs : List Resource) (i n : ℕ) (o : Option Resource) → slice_get rs n ≡ o → length rs ≤ i → IfSome o (λ r. n < i → HasRoomForRecords (count (addr_of r.addr)) r) → IfSome o (λ r. HasRoomForRecords (count (addr_of r.addr)) r)
all_within count rs i n None e le h = tt
all_within count rs i n (Some r) e le h = let below = slice_get-below rs n r e in h (omega arith)

pub room_all : (count : ResourceAddrView → ℕ) (rs : List Resource) (i : ℕ) → length rs ≤ i → HaveRoomTo count i rs → HaveRoom count rs
room_all count rs i le h n = all_within count rs i n (slice_get rs n) refl le (h n)

-- ---- lists and addresses

pub cons_drop : {A B : Type 0} (f : A → B) (xs : List A) (i : ℕ) (x : A) → x ≡ get_or xs i x → i < length xs → map f (drop i xs) ≡ f x ∷ map f (drop (i + 1) xs)
cons_drop f xs i x e below =
    ap (map f) (drop-cons xs i x below) ∙ ap (λ y. f y ∷ map f (drop (suc i) xs)) (sym e) ∙ ap (λ n. f x ∷ map f (drop n xs)) (sym (add-one i))

-- an empty resource at an address
pub new_home : (l k : ResourceAddrView) (p t : List ℕ) → k ≡ l → p ≡ provider_text t → t ≡ l.type_name → ◌≡◌ {A = ResourceView} (record { addr = k; provider = p; records = [] }) (empty_home l)
new_home l k p t e f g = let provider : p ≡ provider_text l.type_name = f ∙ ap provider_text g in cc
