-- The members of a resource of which the state has no others than the configuration.
use Rattle.std.proofs.Common.{◌≡◌, ◌∙◌, ◌||◌, Bool, true, false, List, [], ◌∷◌, None, map, refl, sym, ap, subst, inl, inr}
use Rattle.std.specs.Prelude.{Contains}
use Rattle.std.specs.List.{AllByRecursion}
use Rattle.tf_config_address.specs.ObjectId.{InstanceKeyView, ObjectIdView}
use Rattle.tf_config_address.specs.Same.{object_id_Decides, same_instance_key}
use Rattle.tf_plan_order.proofs.Known.{among-recorded, among-with}
use Rattle.tf_plan_order.specs.Members.{InstanceToPlanView, all_keys, is_among, is_of, is_recorded, member, members, recorded_keys, with_keys}
use Rattle.tf_graph.proofs.Edges.{contains_cases, contains_head, contains_tail}
use Rattle.tf_plan_planner.proofs.Distinct.{in_map, to_map}
use Rattle.tf_plan_planner.proofs.Objects.{one_key}
use Rattle.tf_state_data.specs.Record.{RecordView}
use Rattle.tf_value_data.proofs.Conjunction.{and-first}
use Rattle.tf_laws.proofs.Lists.{nothing_in, or_first, or_second}

pub same_key : (k : InstanceKeyView) → same_instance_key k k ≡ true
same_key k = let id : ObjectIdView = record { key = k; deposed = None } in and-first (same_instance_key k k) true ((object_id_Decides id id).1 refl)

-- what holds of each that is among some keys holds of all of them
pub all_among : (P : InstanceKeyView → Type 0) (ks : List InstanceKeyView) → ((k : InstanceKeyView) → is_among ks k ≡ true → P k) → AllByRecursion P ks
all_among P [] h = tt
all_among P (k ∷ ks) h = (
  h k (or_first (same_instance_key k k) (is_among ks k) (same_key k)),
  all_among P ks (λ j among. h j (or_second (same_instance_key k j) (is_among ks j) among)),
)

-- and what holds of all of them of each
pub among_holds : (P : InstanceKeyView → Type 0) (ks : List InstanceKeyView) (k : InstanceKeyView) → AllByRecursion P ks → is_among ks k ≡ true → P k
among_holds P [] k all among = absurd (cc)
among_holds P (j ∷ ks) k all among = by_test (same_instance_key j k) refl among (among_holds P ks k all.1)
  where
    by_test : (b : Bool) → same_instance_key j k ≡ b → (b || is_among ks k) ≡ true → (is_among ks k ≡ true → P k) → P k
    by_test true is h again = subst P (one_key j k is) all.0
    by_test false is h again = again h

declared_recorded : (keys : List InstanceKeyView) (records : List RecordView) (k : InstanceKeyView) → AllByRecursion (λ r. is_among keys r.id.key ≡ true) records → is_recorded records k ≡ true → is_among keys k ≡ true
declared_recorded keys [] k all h = absurd (cc)
declared_recorded keys (r ∷ records) k all h = by_test (is_of k r) refl h (declared_recorded keys records k all.1)
  where
    by_test : (b : Bool) → is_of k r ≡ b → (b || is_recorded records k) ≡ true → (is_recorded records k ≡ true → is_among keys k ≡ true) → is_among keys k ≡ true
    by_test true is g again = subst (λ (j : InstanceKeyView). is_among keys j ≡ true) (one_key r.id.key k is) all.0
    by_test false is g again = again g

either : (b c : Bool) (P : Type 0) → (b || c) ≡ true → (b ≡ true → P) → (c ≡ true → P) → P
either true c P h f g = f refl
either false c P h f g = g h

-- each member is one of the configuration's
pub all_declared : (keys : List InstanceKeyView) (records : List RecordView) → AllByRecursion (λ r. is_among keys r.id.key ≡ true) records → AllByRecursion (λ k. is_among keys k ≡ true) (all_keys keys records)
all_declared keys records all =
    all_among (λ k. is_among keys k ≡ true) (all_keys keys records)
    (λ k there.
    let by_both : (is_among (with_keys [] keys) k || is_recorded records k) ≡ true = sym (among-with (with_keys [] keys) (recorded_keys records) k ∙ ap (λ (b : Bool). is_among (with_keys [] keys) k || b) (among-recorded records k)) ∙ there in
    either (is_among (with_keys [] keys) k) (is_recorded records k) (is_among keys k ≡ true) by_both
    (λ own. sym (among-with [] keys k) ∙ own) (declared_recorded keys records k all))

-- so what holds of each instance of the configuration holds of each member
pub members_hold : (P : InstanceToPlanView → Type 0) (keys : List InstanceKeyView) (records : List RecordView) → AllByRecursion (λ r. is_among keys r.id.key ≡ true) records
    → ((k : InstanceKeyView) → is_among keys k ≡ true → P (member keys records k)) → AllByRecursion P (members keys records)
members_hold P keys records all each = along (all_keys keys records) (all_declared keys records all)
  where
    along : (ks : List InstanceKeyView) → AllByRecursion (λ k. is_among keys k ≡ true) ks → AllByRecursion P (map (member keys records) ks)
    along [] h = tt
    along (k ∷ ks) h = (each k h.0, along ks h.1)

-- ---- an instance of the configuration is a member

among_keys : (keys : List InstanceKeyView) (records : List RecordView) (k : InstanceKeyView) → is_among keys k ≡ true → is_among (all_keys keys records) k ≡ true
among_keys keys records k h =
    among-with (with_keys [] keys) (recorded_keys records) k
    ∙ or_first (is_among (with_keys [] keys) k) (is_among (recorded_keys records) k) (among-with [] keys k ∙ h)

-- what holds of each member holds of each instance of the configuration
pub instance_holds : (P : InstanceToPlanView → Type 0) (keys : List InstanceKeyView) (records : List RecordView) (k : InstanceKeyView) → AllByRecursion P (members keys records) → is_among keys k ≡ true → P (member keys records k)
instance_holds P keys records k all h = among_holds (λ j. P (member keys records j)) (all_keys keys records) k (along (all_keys keys records) all) (among_keys keys records k h)
  where
    along : (ks : List InstanceKeyView) → AllByRecursion P (map (member keys records) ks) → AllByRecursion (λ j. P (member keys records j)) ks
    along [] g = tt
    along (j ∷ ks) g = (g.0, along ks g.1)

-- and of each instance that there is a record of
pub recorded_holds : (P : InstanceToPlanView → Type 0) (keys : List InstanceKeyView) (records : List RecordView) (k : InstanceKeyView) → AllByRecursion P (members keys records) → is_recorded records k ≡ true → P (member keys records k)
recorded_holds P keys records k all h =
    let there : is_among (all_keys keys records) k ≡ true = among-with (with_keys [] keys) (recorded_keys records) k ∙ or_second (is_among (with_keys [] keys) k) (is_among (recorded_keys records) k) (among-recorded records k ∙ h) in
    among_holds (λ j. P (member keys records j)) (all_keys keys records) k (along (all_keys keys records) all) there
  where
    along : (ks : List InstanceKeyView) → AllByRecursion P (map (member keys records) ks) → AllByRecursion (λ j. P (member keys records j)) ks
    along [] g = tt
    along (j ∷ ks) g = (g.0, along ks g.1)

-- ---- which members there are

contains_among : (ks : List InstanceKeyView) (k : InstanceKeyView) → is_among ks k ≡ true → Contains ks k
contains_among [] k h = absurd (cc)
contains_among (j ∷ ks) k h = by_test (same_instance_key j k) refl h (contains_among ks k)
  where
    by_test : (b : Bool) → same_instance_key j k ≡ b → (b || is_among ks k) ≡ true → (is_among ks k ≡ true → Contains ks k) → Contains (j ∷ ks) k
    by_test true is g again = contains_head k j ks (one_key j k is)
    by_test false is g again = contains_tail k j ks (again g)

-- each instance of the configuration is one
pub member_there : (keys : List InstanceKeyView) (records : List RecordView) (k : InstanceKeyView) → is_among keys k ≡ true → Contains (members keys records) (member keys records k)
member_there keys records k h = to_map (member keys records) (all_keys keys records) k (contains_among (all_keys keys records) k (among_keys keys records k h))

-- and each that there is a record of
pub recorded_there : (keys : List InstanceKeyView) (records : List RecordView) (k : InstanceKeyView) → is_recorded records k ≡ true → Contains (members keys records) (member keys records k)
recorded_there keys records k h =
    let there : is_among (all_keys keys records) k ≡ true = among-with (with_keys [] keys) (recorded_keys records) k ∙ or_second (is_among (with_keys [] keys) k) (is_among (recorded_keys records) k) (among-recorded records k ∙ h) in
    to_map (member keys records) (all_keys keys records) k (contains_among (all_keys keys records) k there)

-- each member is told by its key
pub member_is : (keys : List InstanceKeyView) (records : List RecordView) (m : InstanceToPlanView) → Contains (members keys records) m → m ≡ member keys records m.key
member_is keys records m c =
    let k = in_map (member keys records) (all_keys keys records) m c in
    let key : k.0 ≡ m.key = ap (λ (x : InstanceToPlanView). x.key) k.2 in
    sym k.2 ∙ ap (member keys records) key

-- an instance of which there is a record is recorded
pub record_recorded : (records : List RecordView) (x : RecordView) → Contains records x → is_recorded records x.id.key ≡ true
record_recorded [] x c = absurd (nothing_in x c)
record_recorded (r ∷ records) x c = elim (contains_cases x r records c) [
  | inl here ↦ or_first (is_of x.id.key r) (is_recorded records x.id.key) (ap (λ (y : RecordView). is_of x.id.key y) here ∙ same_key x.id.key)
  | inr rest ↦ or_second (is_of x.id.key r) (is_recorded records x.id.key) (record_recorded records x rest)
]
