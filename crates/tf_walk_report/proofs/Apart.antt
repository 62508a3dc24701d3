-- No two events of an apply are about the same.
use Rattle.std.proofs.Common.{◌≡◌, ◌∙◌, ◌==◌, ◌++◌, ◌&&◌, ◌||◌, ℕ, suc, Bool, true, false, not, cond, List, [], ◌∷◌, length, map, filter, Ordering, Less, Greater, refl, sym, ap, subst, arith}
use Rattle.std.proofs.lemmas.Bool.{eq-eqb}
use Rattle.std.proofs.lemmas.Slice.Eq.{bytes_eq-Decides}
use Rattle.std.specs.List.{AllByRecursion, flat_map, list_any}
use Rattle.std.specs.List.Sorted.{IsStrictlySortedBy}
use Rattle.std.specs.Ordering.{ordering_reverse}
use Rattle.std.specs.Cmp.{IsTotalOrder}
use Rattle.std.specs.Prelude.{Option, Some, None, if◌then◌else◌, nat_lt, slice_get}
use Rattle.tf_plan_data.specs.Action.{ActionView, StepView, create, update, replacement, replaced, destroyed, deposed_destroyed}
use Rattle.tf_walk_report.specs.Change.{ChangeView, applies_in, change_by, changes_in, destroys_in, applied_of_done, left_of_done}
use Rattle.tf_walk_buffers.specs.Head.{AreHeads, Head, Target, an_instance, an_object, given_with, key_in}
use Rattle.tf_config_address.proofs.Totals.{addr_total, object_id_total}
use Rattle.tf_config_address.specs.ResourceAddr.{ResourceAddrView, addr_cmp}
use Rattle.tf_config_address.specs.ObjectId.{InstanceKeyView, single, number, name, ObjectIdView, object_id_cmp}
use Rattle.tf_config_address.specs.Same.{same_instance_key}
use Rattle.tf_state_next.specs.Events.{AreApart as AreAllApart, AreEachAboutOne, MetadataUpdateView, as_apply, instance_of, object_of}
use Rattle.tf_walk_action.specs.Outcome.{ActionResultView}
use Rattle.tf_plan_data.specs.Fits.{AreApart, IsPlaced, about, is_apply, deposed_key}
use Rattle.tf_plan_data.specs.Plan.{PlanView, plan_names}
use Rattle.tf_provider_protocol.specs.Meaning.{Meaning}
use Rattle.tf_plan_order.specs.ResourceIndex.{ResourceRefView, numbered, place_in}
use Rattle.tf_state_next.specs.After.{object_at}
use Rattle.tf_state_next.specs.Ends.{ApplyResultView, LeftView, RecordInputView}
use Rattle.tf_state_data.specs.Addresses.{AreByAddress}
use Rattle.tf_state_data.specs.Ids.{AreById}
use Rattle.tf_state_data.specs.Record.{RecordView}
use Rattle.tf_state_data.specs.Resource.{ResourceView}
use Rattle.tf_walk_report.specs.Events.{events}
use Rattle.tf_walk_buffers.specs.MetadataUpdates.{is_about, is_none, metadata_update_of_record, metadata_updates, metadata_updates_at, metadata_updates_of, stays}

-- an object, and an instance, at an address
abbrev the_object : ResourceAddrView → ObjectIdView → ResourceAddrView × ObjectIdView
the_object addr id = (addr, id)

abbrev the_instance : ResourceAddrView → InstanceKeyView → ResourceAddrView × InstanceKeyView
the_instance addr key = (addr, key)

-- ---- actions

-- each action differs from all behind it
abbrev Apart : List ActionView → Type 0
Apart actions = AreAllApart about actions

each_of : {A : Type 0} (P : A → Type 0) (xs : List A) → ((n : ℕ) (x : A) → slice_get xs n ≡ Some x → P x) → AllByRecursion P xs
each_of P [] h = tt
each_of P (x ∷ xs) h = (h 0 x refl, each_of P xs (λ n y is. h (suc n) y is))

pub apart-listed : (actions : List ActionView) → AreApart actions → AreAllApart about actions
apart-listed [] h = tt
apart-listed (a ∷ actions) h = (
  each_of (λ b. ¬ (about a ≡ about b)) actions (λ n b is same. let no : 0 ≡ suc n = h 0 (suc n) a b refl is same in absurd (omega (arith, no))),
  apart-listed actions (λ i j b c at to same. let one : suc i ≡ suc j = h (suc i) (suc j) b c at to same in omega (arith, one)),
)

-- ---- destroys

one_destroy : (P : ResourceAddrView × ObjectIdView → Type 0) (addr own : ResourceAddrView) (t : Target) (applied : ApplyResultView) (left : LeftView) (rest : List ChangeView) (b : Bool) (given : RecordInputView) (id : ObjectIdView)
    → t ≡ (if b then an_instance given else an_object id) → addr ≡ own → (b ≡ false → P (own, id)) → AllByRecursion (λ y. P (object_of y)) (destroys_in rest)
    → AllByRecursion (λ y. P (object_of y)) (destroys_in (change_by addr t applied left ∷ rest))
one_destroy P addr own t applied left rest true given id e l h m = subst (λ x. AllByRecursion (λ y. P (object_of y)) (destroys_in (change_by addr x applied left ∷ rest))) (sym e) m
one_destroy P addr own t applied left rest false given id e l h m =
    subst (λ x. AllByRecursion (λ y. P (object_of y)) (destroys_in (change_by addr x applied left ∷ rest))) (sym e) (subst (λ (x : ResourceAddrView). P (x, id)) (sym l) (h refl), m)

-- what holds of the object of each action that destroys one holds of all that destroys are about
destroys_all : (ms : List Meaning) (plan : PlanView) (P : ResourceAddrView × ObjectIdView → Type 0) (actions : List ActionView) (heads : List Head) (done : List ActionResultView) → AreHeads plan actions heads
    → AllByRecursion (λ b. is_apply b.step ≡ false → P (b.addr, object_at b.key (deposed_key b.step))) actions → AllByRecursion (λ y. P (object_of y)) (destroys_in (changes_in ms heads done))
destroys_all ms plan P [] [] done are h = tt
destroys_all ms plan P [] (k ∷ heads) done are h = absurd are
destroys_all ms plan P (a ∷ actions) [] done are h = absurd are
destroys_all ms plan P (a ∷ actions) (k ∷ heads) [] are h = tt
destroys_all ms plan P (a ∷ actions) (k ∷ heads) (d ∷ done) are h =
    one_destroy P k.addr a.addr k.target (applied_of_done ms k.op d) (left_of_done ms d) (changes_in ms heads done) (is_apply a.step) (given_with plan a (key_in k.target)) (object_at a.key (deposed_key a.step))
    are.0.target.same are.0.addr h.0 (destroys_all ms plan P actions heads done are.1 h.1)

about_same : (a b : ActionView) → a.addr ≡ b.addr → a.key ≡ b.key → is_apply a.step ≡ is_apply b.step → deposed_key a.step ≡ deposed_key b.step → about a ≡ about b
about_same a b l k s d = λ i. record { addr = l i; key = k i; applies = s i; deposed = d i }

objects_differ : (a : ActionView) (actions : List ActionView) → is_apply a.step ≡ false → AllByRecursion (λ b. ¬ (about a ≡ about b)) actions
    → AllByRecursion (λ b. is_apply b.step ≡ false → ¬ (the_object a.addr (object_at a.key (deposed_key a.step)) ≡ the_object b.addr (object_at b.key (deposed_key b.step)))) actions
objects_differ a [] destroys h = tt
objects_differ a (b ∷ actions) destroys h = (
  λ also same. h.0 (about_same a b (ap (λ p. p.0) same) (ap (λ p. p.1.key) same) (destroys ∙ sym also) (ap (λ p. p.1.deposed) same)),
  objects_differ a actions destroys h.1,
)

destroy_apart : (addr own : ResourceAddrView) (t : Target) (applied : ApplyResultView) (left : LeftView) (rest : List ChangeView) (b : Bool) (given : RecordInputView) (id : ObjectIdView)
    → t ≡ (if b then an_instance given else an_object id) → addr ≡ own → (b ≡ false → AllByRecursion (λ y. ¬ (the_object own id ≡ object_of y)) (destroys_in rest)) → AreAllApart object_of (destroys_in rest)
    → AreAllApart object_of (destroys_in (change_by addr t applied left ∷ rest))
destroy_apart addr own t applied left rest true given id e l h m = subst (λ x. AreAllApart object_of (destroys_in (change_by addr x applied left ∷ rest))) (sym e) m
destroy_apart addr own t applied left rest false given id e l h m =
    subst (λ x. AreAllApart object_of (destroys_in (change_by addr x applied left ∷ rest))) (sym e) (subst (λ (x : ResourceAddrView). AllByRecursion (λ y. ¬ (the_object x id ≡ object_of y)) (destroys_in rest)) (sym l) (h refl), m)

pub destroys-apart : (ms : List Meaning) (plan : PlanView) (actions : List ActionView) (heads : List Head) (done : List ActionResultView) → AreHeads plan actions heads → AreAllApart about actions → AreAllApart object_of (destroys_in (changes_in ms heads done))
destroys-apart ms plan [] [] done are h = tt
destroys-apart ms plan [] (k ∷ heads) done are h = absurd are
destroys-apart ms plan (a ∷ actions) [] done are h = absurd are
destroys-apart ms plan (a ∷ actions) (k ∷ heads) [] are h = tt
destroys-apart ms plan (a ∷ actions) (k ∷ heads) (d ∷ done) are h =
    let id = object_at a.key (deposed_key a.step) in
    destroy_apart k.addr a.addr k.target (applied_of_done ms k.op d) (left_of_done ms d) (changes_in ms heads done) (is_apply a.step) (given_with plan a (key_in k.target)) id are.0.target.same are.0.addr
    (λ destroys. destroys_all ms plan (λ o. ¬ (the_object a.addr id ≡ o)) actions heads done are.1 (objects_differ a actions destroys h.0)) (destroys-apart ms plan actions heads done are.1 h.1)

-- ---- creates and updates

one_apply : (P : ResourceAddrView × InstanceKeyView → Type 0) (addr own : ResourceAddrView) (t : Target) (applied : ApplyResultView) (left : LeftView) (rest : List ChangeView) (b : Bool) (given : RecordInputView) (id : ObjectIdView)
    → t ≡ (if b then an_instance given else an_object id) → addr ≡ own → (b ≡ true → P (own, given.key)) → AllByRecursion (λ y. P (instance_of y)) (applies_in rest)
    → AllByRecursion (λ y. P (instance_of y)) (applies_in (change_by addr t applied left ∷ rest))
one_apply P addr own t applied left rest true given id e l h m =
    subst (λ x. AllByRecursion (λ y. P (instance_of y)) (applies_in (change_by addr x applied left ∷ rest))) (sym e) (subst (λ (x : ResourceAddrView). P (x, given.key)) (sym l) (h refl), m)
one_apply P addr own t applied left rest false given id e l h m = subst (λ x. AllByRecursion (λ y. P (instance_of y)) (applies_in (change_by addr x applied left ∷ rest))) (sym e) m

-- what holds of the instance of each action that creates or updates holds of all that applies are about
applies_all : (ms : List Meaning) (plan : PlanView) (P : ResourceAddrView × InstanceKeyView → Type 0) (actions : List ActionView) (heads : List Head) (done : List ActionResultView) → AreHeads plan actions heads
    → AllByRecursion (λ b. is_apply b.step ≡ true → P (b.addr, b.key)) actions → AllByRecursion (λ y. P (instance_of y)) (applies_in (changes_in ms heads done))
applies_all ms plan P [] [] done are h = tt
applies_all ms plan P [] (k ∷ heads) done are h = absurd are
applies_all ms plan P (a ∷ actions) [] done are h = absurd are
applies_all ms plan P (a ∷ actions) (k ∷ heads) [] are h = tt
applies_all ms plan P (a ∷ actions) (k ∷ heads) (d ∷ done) are h =
    one_apply P k.addr a.addr k.target (applied_of_done ms k.op d) (left_of_done ms d) (changes_in ms heads done) (is_apply a.step) (given_with plan a (key_in k.target)) (object_at a.key (deposed_key a.step))
    are.0.target.same are.0.addr h.0 (applies_all ms plan P actions heads done are.1 h.1)

pub apply_is_current : (s : StepView) → is_apply s ≡ true → deposed_key s ≡ None
apply_is_current (create t) h = refl
apply_is_current (update p t ns) h = refl
apply_is_current (replacement t ns) h = refl
apply_is_current (replaced p) h = refl
apply_is_current (destroyed p) h = refl
apply_is_current (deposed_destroyed k p) h = absurd (cc)

instances_differ : (a : ActionView) (actions : List ActionView) → is_apply a.step ≡ true → AllByRecursion (λ b. ¬ (about a ≡ about b)) actions
    → AllByRecursion (λ b. is_apply b.step ≡ true → ¬ (the_instance a.addr a.key ≡ the_instance b.addr b.key)) actions
instances_differ a [] applies h = tt
instances_differ a (b ∷ actions) applies h = (
  λ also same. h.0 (about_same a b (ap (λ p. p.0) same) (ap (λ p. p.1) same) (applies ∙ sym also) (apply_is_current a.step applies ∙ sym (apply_is_current b.step also))),
  instances_differ a actions applies h.1,
)

apply_apart : (addr own : ResourceAddrView) (t : Target) (applied : ApplyResultView) (left : LeftView) (rest : List ChangeView) (b : Bool) (given : RecordInputView) (id : ObjectIdView)
    → t ≡ (if b then an_instance given else an_object id) → addr ≡ own → (b ≡ true → AllByRecursion (λ y. ¬ (the_instance own given.key ≡ instance_of y)) (applies_in rest)) → AreAllApart instance_of (applies_in rest)
    → AreAllApart instance_of (applies_in (change_by addr t applied left ∷ rest))
apply_apart addr own t applied left rest true given id e l h m =
    subst (λ x. AreAllApart instance_of (applies_in (change_by addr x applied left ∷ rest))) (sym e) (subst (λ (x : ResourceAddrView). AllByRecursion (λ y. ¬ (the_instance x given.key ≡ instance_of y)) (applies_in rest)) (sym l) (h refl), m)
apply_apart addr own t applied left rest false given id e l h m = subst (λ x. AreAllApart instance_of (applies_in (change_by addr x applied left ∷ rest))) (sym e) m

applies_apart : (ms : List Meaning) (plan : PlanView) (actions : List ActionView) (heads : List Head) (done : List ActionResultView) → AreHeads plan actions heads → AreAllApart about actions → AreAllApart instance_of (applies_in (changes_in ms heads done))
applies_apart ms plan [] [] done are h = tt
applies_apart ms plan [] (k ∷ heads) done are h = absurd are
applies_apart ms plan (a ∷ actions) [] done are h = absurd are
applies_apart ms plan (a ∷ actions) (k ∷ heads) [] are h = tt
applies_apart ms plan (a ∷ actions) (k ∷ heads) (d ∷ done) are h =
    apply_apart k.addr a.addr k.target (applied_of_done ms k.op d) (left_of_done ms d) (changes_in ms heads done) (is_apply a.step) (given_with plan a (key_in k.target)) (object_at a.key (deposed_key a.step))
    are.0.target.same are.0.addr
    (λ applies. applies_all ms plan (λ o. ¬ (the_instance a.addr a.key ≡ o)) actions heads done are.1 (instances_differ a actions applies h.0)) (applies_apart ms plan actions heads done are.1 h.1)

-- ---- lists

all_append : {A : Type 0} (P : A → Type 0) (xs ys : List A) → AllByRecursion P xs → AllByRecursion P ys → AllByRecursion P (xs ++ ys)
all_append P [] ys h k = k
all_append P (x ∷ xs) ys h k = (h.0, all_append P xs ys h.1 k)

apart_append : {A B : Type 0} (f : A → B) (xs ys : List A) → AreAllApart f xs → AreAllApart f ys → AllByRecursion (λ x. AllByRecursion (λ y. ¬ (f x ≡ f y)) ys) xs → AreAllApart f (xs ++ ys)
apart_append f [] ys h k c = k
apart_append f (x ∷ xs) ys h k c = (all_append (λ y. ¬ (f x ≡ f y)) xs ys h.0 c.0, apart_append f xs ys h.1 k c.1)

all_map : {A B : Type 0} (P : B → Type 0) (f : A → B) (xs : List A) → AllByRecursion (λ x. P (f x)) xs → AllByRecursion P (map f xs)
all_map P f [] h = tt
all_map P f (x ∷ xs) h = (h.0, all_map P f xs h.1)

apart_map : {A B C : Type 0} (f : B → C) (g : A → B) (xs : List A) → AreAllApart (λ x. f (g x)) xs → AreAllApart f (map g xs)
apart_map f g [] h = tt
apart_map f g (x ∷ xs) h = (all_map (λ y. ¬ (f (g x) ≡ f y)) g xs h.0, apart_map f g xs h.1)

all_first : {A B : Type 0} (R : A → B → Type 0) (x : A) (xs : List A) (ys : List B) → AllByRecursion (λ y. AllByRecursion (λ z. R z y) (x ∷ xs)) ys → AllByRecursion (λ y. R x y) ys
all_first R x xs [] h = tt
all_first R x xs (y ∷ ys) h = (h.0.0, all_first R x xs ys h.1)

all_later : {A B : Type 0} (R : A → B → Type 0) (x : A) (xs : List A) (ys : List B) → AllByRecursion (λ y. AllByRecursion (λ z. R z y) (x ∷ xs)) ys → AllByRecursion (λ y. AllByRecursion (λ z. R z y) xs) ys
all_later R x xs [] h = tt
all_later R x xs (y ∷ ys) h = (h.0.1, all_later R x xs ys h.1)

all_swapped : {A B : Type 0} (R : A → B → Type 0) (xs : List A) (ys : List B) → AllByRecursion (λ y. AllByRecursion (λ x. R x y) xs) ys → AllByRecursion (λ x. AllByRecursion (λ y. R x y) ys) xs
all_swapped R [] ys h = tt
all_swapped R (x ∷ xs) ys h = (all_first R x xs ys h, all_swapped R xs ys (all_later R x xs ys h))

-- ---- metadata updates

-- the instance that a metadata update is about
abbrev renewed_instance : MetadataUpdateView → ResourceAddrView × InstanceKeyView
renewed_instance y = instance_of (as_apply y)

kept_all : {A : Type 0} (Q : A → Type 0) (f : RecordView → A) (b : Bool) (test : RecordView → Bool) (x : RecordView) (rs : List RecordView) → (b ≡ true → Q (f x)) → AllByRecursion Q (map f (filter test rs))
    → AllByRecursion Q (map f (cond b (x ∷ filter test rs) (filter test rs)))
kept_all Q f true test x rs h k = (h refl, k)
kept_all Q f false test x rs h k = k

filtered_all : {A : Type 0} (Q : A → Type 0) (f : RecordView → A) (test : RecordView → Bool) (rs : List RecordView) → ((x : RecordView) → test x ≡ true → Q (f x)) → AllByRecursion Q (map f (filter test rs))
filtered_all Q f test [] h = tt
filtered_all Q f test (x ∷ rs) h = kept_all Q f (test x) test x rs (h x) (filtered_all Q f test rs h)

within_all : {A : Type 0} (Q : A → Type 0) (b : Bool) (xs : List A) → AllByRecursion Q xs → AllByRecursion Q (if b then xs else [])
within_all Q true xs h = h
within_all Q false xs h = tt

at_all : (Q : MetadataUpdateView → Type 0) (plan : PlanView) (r : ResourceView) (o : Option ℕ) → ((n : ℕ) (x : RecordView) → o ≡ Some n → stays plan n x ≡ true → Q (metadata_update_of_record plan r.addr n x)) → AllByRecursion Q (metadata_updates_at plan r o)
at_all Q plan r None h = tt
at_all Q plan r (Some n) h =
    within_all Q (nat_lt n (length (plan_names plan))) (map (metadata_update_of_record plan r.addr n) (filter (stays plan n) r.records))
    (filtered_all Q (metadata_update_of_record plan r.addr n) (stays plan n) r.records (λ x stay. h n x refl stay))

-- what holds of each record that stays
abbrev pub IsOfEach : PlanView → (MetadataUpdateView → Type 0) → ResourceView → Type 0
IsOfEach plan Q r = (n : ℕ) (x : RecordView) → place_in (numbered (plan_names plan) plan.prior.resources) r.addr ≡ Some n → stays plan n x ≡ true → Q (metadata_update_of_record plan r.addr n x)

pub metadata_updates-all : (Q : MetadataUpdateView → Type 0) (plan : PlanView) (rs : List ResourceView) → AllByRecursion (IsOfEach plan Q) rs → AllByRecursion Q (flat_map (metadata_updates_of plan) rs)
metadata_updates-all Q plan [] h = tt
metadata_updates-all Q plan (r ∷ rs) h =
    all_append Q (metadata_updates_of plan r) (flat_map (metadata_updates_of plan) rs) (at_all Q plan r (place_in (numbered (plan_names plan) plan.prior.resources) r.addr) h.0) (metadata_updates-all Q plan rs h.1)

less_differ : {A : Type 0} {c : A → A → Ordering} (o : IsTotalOrder c) (x y : A) → c x y ≡ Less → x ≡ y → ⊥
less_differ {A} {c} o x y less same =
    let here : c x x ≡ Less = subst (λ z. c x z ≡ Less) (sym same) less in
    let other : c x x ≡ Greater = o.antisymm x x ∙ ap ordering_reverse here in
    let no : Less ≡ Greater = sym here ∙ other in
    absurd (cc)

current : (o : Option (List ℕ)) → is_none o ≡ true → o ≡ None
current None h = refl
current (Some k) h = absurd (cc)

and_first : (x y : Bool) → (x && y) ≡ true → x ≡ true
and_first true y h = refl
and_first false y h = h

stays_current : (plan : PlanView) (n : ℕ) (x : RecordView) → stays plan n x ≡ true → x.id.deposed ≡ None
stays_current plan n x h = current x.id.deposed (and_first (is_none x.id.deposed) (not (list_any (is_about n x.id.key) plan.actions)) h)

ids_same : (i j : ObjectIdView) → i.key ≡ j.key → i.deposed ≡ None → j.deposed ≡ None → i ≡ j
ids_same i j k d e = let same : i.deposed ≡ j.deposed = d ∙ sym e in λ t. record { key = k t; deposed = same t }

module _ (plan : PlanView) (addr : ResourceAddrView) (n : ℕ) where
  keys_differ : (x : RecordView) (rs : List RecordView) → x.id.deposed ≡ None → AllByRecursion (λ i. object_id_cmp x.id i ≡ Less) (map (λ r. r.id) rs)
      → AllByRecursion (λ y. ¬ (renewed_instance (metadata_update_of_record plan addr n x) ≡ renewed_instance y)) (map (metadata_update_of_record plan addr n) (filter (stays plan n) rs))
  keys_differ x [] none h = tt
  keys_differ x (y ∷ rs) none h =
      kept_all (λ z. ¬ (renewed_instance (metadata_update_of_record plan addr n x) ≡ renewed_instance z)) (metadata_update_of_record plan addr n) (stays plan n y) (stays plan n) y rs
      (λ stay same. less_differ object_id_total x.id y.id h.0 (ids_same x.id y.id (ap (λ p. p.1) same) none (stays_current plan n y stay))) (keys_differ x rs none h.1)

  kept_apart : (b : Bool) (x : RecordView) (rs : List RecordView) → stays plan n x ≡ b
      → (x.id.deposed ≡ None → AllByRecursion (λ y. ¬ (renewed_instance (metadata_update_of_record plan addr n x) ≡ renewed_instance y)) (map (metadata_update_of_record plan addr n) (filter (stays plan n) rs)))
      → AreAllApart renewed_instance (map (metadata_update_of_record plan addr n) (filter (stays plan n) rs))
      → AreAllApart renewed_instance (map (metadata_update_of_record plan addr n) (cond b (x ∷ filter (stays plan n) rs) (filter (stays plan n) rs)))
  kept_apart true x rs stay h k = (h (stays_current plan n x stay), k)
  kept_apart false x rs stay h k = k

  records_apart : (rs : List RecordView) → AreById rs → AreAllApart renewed_instance (map (metadata_update_of_record plan addr n) (filter (stays plan n) rs))
  unfolding IsStrictlySortedBy
  records_apart [] s = tt
  records_apart (x ∷ rs) s = kept_apart (stays plan n x) x rs refl (λ none. keys_differ x rs none s.0) (records_apart rs s.1)

within_apart : {A B : Type 0} (f : A → B) (b : Bool) (xs : List A) → AreAllApart f xs → AreAllApart f (if b then xs else [])
within_apart f true xs h = h
within_apart f false xs h = tt

at_apart : (plan : PlanView) (r : ResourceView) (o : Option ℕ) → AreById r.records → AreAllApart renewed_instance (metadata_updates_at plan r o)
at_apart plan r None s = tt
at_apart plan r (Some n) s = within_apart renewed_instance (nat_lt n (length (plan_names plan))) (map (metadata_update_of_record plan r.addr n) (filter (stays plan n) r.records)) (records_apart plan r.addr n r.records s)

below_each : (plan : PlanView) (addr : ResourceAddrView) (rs : List ResourceView) → AllByRecursion (λ l. addr_cmp addr l ≡ Less) (map (λ r. r.addr) rs) → AllByRecursion (IsOfEach plan (λ y. ¬ (addr ≡ y.addr))) rs
below_each plan addr [] h = tt
below_each plan addr (r ∷ rs) h = (λ n x place stay same. less_differ addr_total addr r.addr h.0 same, below_each plan addr rs h.1)

across : (addr : ResourceAddrView) (ys : List MetadataUpdateView) (xs : List MetadataUpdateView) → AllByRecursion (λ y. ¬ (addr ≡ y.addr)) ys → AllByRecursion (λ x. x.addr ≡ addr) xs
    → AllByRecursion (λ x. AllByRecursion (λ y. ¬ (renewed_instance x ≡ renewed_instance y)) ys) xs
across addr ys [] h own = tt
across addr ys (x ∷ xs) h own = (one ys h, across addr ys xs h own.1)
  where
    one : (zs : List MetadataUpdateView) → AllByRecursion (λ y. ¬ (addr ≡ y.addr)) zs → AllByRecursion (λ y. ¬ (renewed_instance x ≡ renewed_instance y)) zs
    one [] k = tt
    one (z ∷ zs) k = (λ same. k.0 (sym own.0 ∙ ap (λ p. p.0) same), one zs k.1)

renewals_apart : (plan : PlanView) (rs : List ResourceView) → AreByAddress rs → AllByRecursion (λ r. AreById r.records) rs → AreAllApart renewed_instance (flat_map (metadata_updates_of plan) rs)
unfolding IsStrictlySortedBy
renewals_apart plan [] s t = tt
renewals_apart plan (r ∷ rs) s t =
    let o = place_in (numbered (plan_names plan) plan.prior.resources) r.addr in
    apart_append renewed_instance (metadata_updates_of plan r) (flat_map (metadata_updates_of plan) rs) (at_apart plan r o t.0) (renewals_apart plan rs s.1 t.1)
    (across r.addr (flat_map (metadata_updates_of plan) rs) (metadata_updates_of plan r) (metadata_updates-all (λ y. ¬ (r.addr ≡ y.addr)) plan rs (below_each plan r.addr rs s.0)) (at_all (λ x. x.addr ≡ r.addr) plan r o (λ n x place stay. refl)))

-- ---- both

or_first : (x y : Bool) → (x || y) ≡ false → x ≡ false
or_first false y h = refl
or_first true y h = h

or_second : (x y : Bool) → (x || y) ≡ false → y ≡ false
or_second false y h = h
or_second true y h = absurd (cc)

key_is : (k : InstanceKeyView) → same_instance_key k k ≡ true
key_is single = refl
key_is (number n) = eq-eqb n n refl
key_is (name s) = (bytes_eq-Decides s s).1 refl

three : (x y z : Bool) → x ≡ true → y ≡ true → z ≡ true → (x && y && z) ≡ true
three true true true a b c = refl
three true true false a b c = c
three true false z a b c = absurd (cc)
three false y z a b c = absurd (cc)

about_one : (n : ℕ) (key : InstanceKeyView) (b : ActionView) → b.resource ≡ n → is_apply b.step ≡ true → b.key ≡ key → is_about n key b ≡ true
about_one n key b at applies k =
    three (b.resource == n) (is_none (deposed_key b.step)) (same_instance_key b.key key) (eq-eqb b.resource n at) (ap is_none (apply_is_current b.step applies)) (subst (λ x. same_instance_key b.key x ≡ true) k (key_is b.key))

none_about : (all : List ResourceRefView) (addr : ResourceAddrView) (n : ℕ) (key : InstanceKeyView) (actions : List ActionView) → list_any (is_about n key) actions ≡ false → AllByRecursion (IsPlaced all) actions → place_in all addr ≡ Some n
    → AllByRecursion (λ b. is_apply b.step ≡ true → ¬ (the_instance b.addr b.key ≡ the_instance addr key)) actions
none_about all addr n key [] none placed place = tt
none_about all addr n key (b ∷ actions) none placed place = (
  λ applies same.
      let at : Some b.resource ≡ Some n = sym placed.0 ∙ (ap (λ p. place_in all p.0) same ∙ place) in
      let number : b.resource ≡ n = (cc) in
      let yes : is_about n key b ≡ true = about_one n key b number applies (ap (λ p. p.1) same) in
      let no : is_about n key b ≡ false = or_first (is_about n key b) (list_any (is_about n key) actions) none in
      absurd (cc),
  none_about all addr n key actions (or_second (is_about n key b) (list_any (is_about n key) actions) none) placed.1 place,
)

not_any : (x y : Bool) → (x && not y) ≡ true → y ≡ false
not_any true false h = refl
not_any true true h = absurd (cc)
not_any false y h = absurd (cc)

-- an instance for which nothing is planned isn't one of those that actions create or update
unplanned_each : (plan : PlanView) (rs : List ResourceView) → AllByRecursion (IsPlaced (numbered (plan_names plan) plan.prior.resources)) plan.actions
    → AllByRecursion (IsOfEach plan (λ y. AllByRecursion (λ b. is_apply b.step ≡ true → ¬ (the_instance b.addr b.key ≡ renewed_instance y)) plan.actions)) rs
unplanned_each plan [] placed = tt
unplanned_each plan (r ∷ rs) placed = (
  λ n x place stay. none_about (numbered (plan_names plan) plan.prior.resources) r.addr n x.id.key plan.actions (not_any (is_none x.id.deposed) (list_any (is_about n x.id.key) plan.actions) stay) placed place,
  unplanned_each plan rs placed,
)

applies_differ : (ms : List Meaning) (plan : PlanView) (heads : List Head) (done : List ActionResultView) (ys : List MetadataUpdateView) → AreHeads plan plan.actions heads
    → AllByRecursion (λ y. AllByRecursion (λ b. is_apply b.step ≡ true → ¬ (the_instance b.addr b.key ≡ renewed_instance y)) plan.actions) ys
    → AllByRecursion (λ y. AllByRecursion (λ x. ¬ (instance_of x ≡ instance_of y)) (applies_in (changes_in ms heads done))) (map as_apply ys)
applies_differ ms plan heads done [] are h = tt
applies_differ ms plan heads done (y ∷ ys) are h = (applies_all ms plan (λ o. ¬ (o ≡ renewed_instance y)) plan.actions heads done are h.0, applies_differ ms plan heads done ys are h.1)

-- no two destroys are of one object, and no two of what is wanted are of one instance
pub each-about_one : (ms : List Meaning) (plan : PlanView) (heads : List Head) (done : List ActionResultView) → AreHeads plan plan.actions heads → AreApart plan.actions
    → AllByRecursion (IsPlaced (numbered (plan_names plan) plan.prior.resources)) plan.actions → AreByAddress plan.prior.resources → AllByRecursion (λ r. AreById r.records) plan.prior.resources → AreEachAboutOne (events ms plan heads done)
each-about_one ms plan heads done are apart placed s t =
    let listed = apart-listed plan.actions apart in
    let applies = applies_in (changes_in ms heads done) in
    record {
      destroys = destroys-apart ms plan plan.actions heads done are listed;
      wanted =
          apart_append instance_of applies (map as_apply (metadata_updates plan)) (applies_apart ms plan plan.actions heads done are listed)
          (apart_map instance_of as_apply (metadata_updates plan) (renewals_apart plan plan.prior.resources s t))
          (all_swapped (λ x y. ¬ (instance_of x ≡ instance_of y)) applies (map as_apply (metadata_updates plan))
          (applies_differ ms plan heads done (metadata_updates plan) are (metadata_updates-all (λ y. AllByRecursion (λ b. is_apply b.step ≡ true → ¬ (the_instance b.addr b.key ≡ renewed_instance y)) plan.actions) plan plan.prior.resources (unplanned_each plan plan.prior.resources placed))));
    }
