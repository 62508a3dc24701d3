-- How far a plan is carried out, step by step.
use Rattle.std.proofs.Common.{◌≡◌, ◌∙◌, ◌<◌, ◌+◌, ◌&&◌, ◌≢◌, ℕ, zero, suc, Bool, true, false, if◌then◌else◌, List, [], ◌∷◌, Option, Some, None, Result, Err, Ok, ap, ap₂, arith, inl, inr, length, map, refl, subst, sym}
use Rattle.std.proofs.Math.Path.{fun_ext}
use Rattle.std.proofs.lemmas.Bool.{and_from, and_parts, cases_eq}
use Rattle.std.proofs.lemmas.List.{get_or-set_other, get_or-set_same, length-map, length-set}
use Rattle.std.specs.List.{list_all, position_from}
use Rattle.std.specs.Option.{option_map_or}
use Rattle.std.specs.Prelude.{Contains, slice_get, slice_set}
use Rattle.tf_graph.proofs.Edges.{contains_head, contains_tail}
use Rattle.tf_graph.specs.Digraph.{predecessors_of}
use Rattle.tf_plan_data.specs.Plan.{PlanView}
use Rattle.tf_plan_object.specs.Instance.{InstanceFaultView}
use Rattle.tf_provider_log.proofs.Replays.{same_is_equality}
use Rattle.tf_provider_log.specs.LogEntry.{LogEntryView, begun, replied}
use Rattle.tf_provider_log.specs.Replayed.{is_about}
use Rattle.tf_provider_protocol.specs.Meaning.{Answer, Asked, Meaning}
use Rattle.tf_value_data.specs.Tree.{Tree, null}
use Rattle.tf_walk_requests.proofs.Finding.{found}
use Rattle.tf_walk_requests.specs.Asks.{HaveObjects, IsAskedOf}
use Rattle.tf_walk_requests.specs.Progress.{AreReached, AreReturned, EndedWell, IsDue, IsNew, IsReached, IsRequestIn, all_good_before, is_ready}
use Rattle.tf_walk_requests.specs.Stages.{StageView, failed, good, is_good_reply, is_good_stage, is_pending, object_by, objects_in, pending, requested, stage_by, stage_in, with_reply}

-- ---- lists

-- each item of a list passes a test that all pass
all_true : {X : Type 0} (p : X → Bool) (xs : List X) (x : X) → Contains xs x → list_all p xs ≡ true → p x ≡ true
all_true p [] x (k, within, at) h = absurd (omega (arith, within))
all_true p (y ∷ ys) x (zero, within, at) h = ap p (sym at) ∙ (and_parts (p y) (list_all p ys) h).0
all_true p (y ∷ ys) x (suc k, within, at) h = all_true p ys x (k, omega (arith, within), at) (and_parts (p y) (list_all p ys) h).1

-- all pass a test that each passes which passes another one
all_weaker : {X : Type 0} (p r : X → Bool) (xs : List X) → ((x : X) → Contains xs x → p x ≡ true → r x ≡ true) → list_all p xs ≡ true → list_all r xs ≡ true
all_weaker p r [] f h = refl
all_weaker p r (y ∷ ys) f h =
    let parts = and_parts (p y) (list_all p ys) h in
    and_from (r y) (list_all r ys) (f y (contains_head y y ys refl) parts.0) (all_weaker p r ys (λ x there. f x (contains_tail x y ys there)) parts.1)

-- the stage of an action after a change of all stages
pub stage_map : (f : StageView → StageView) (stages : List StageView) (n : ℕ) → f pending ≡ pending → stage_in (map f stages) n ≡ f (stage_in stages n)
stage_map f [] n same = sym same
stage_map f (s ∷ stages) zero same = refl
stage_map f (s ∷ stages) (suc n) same = stage_map f stages n same

-- ---- the request of an action stays the same while the actions before it do

asked_still : (ms : List Meaning) (plan : PlanView) (n : ℕ) (objects others : ℕ → Tree) (answer : Result Asked InstanceFaultView) → ((m : ℕ) → Contains (predecessors_of plan.order n) m → objects m ≡ others m)
    → IsAskedOf ms plan n objects answer → IsAskedOf ms plan n others answer
asked_still ms plan n objects others answer same h = record {
  action = h.action;
  schema = h.schema;
  is_action = h.is_action;
  is_schema = h.is_schema;
  asks = λ requests done are have. h.asks requests done are (λ m there applies. have m there applies ∙ sym (same m there));
}

-- the actions that ended well are at the same stages
abbrev pub AreStillGood : List StageView → List StageView → Type 0
AreStillGood old new = (m : ℕ) → is_good_stage (stage_in old m) ≡ true → stage_in new m ≡ stage_in old m

before_still : (plan : PlanView) (old new : List StageView) (n : ℕ) → AreStillGood old new → all_good_before plan old n ≡ true → all_good_before plan new n ≡ true
before_still plan old new n still h = all_weaker (λ m. is_good_stage (stage_in old m)) (λ m. is_good_stage (stage_in new m)) (predecessors_of plan.order n) (λ m there is. ap is_good_stage (still m is) ∙ is) h

same_before : (plan : PlanView) (es : List LogEntryView) (old new : List StageView) (n : ℕ) → AreStillGood old new → all_good_before plan old n ≡ true → (m : ℕ) → Contains (predecessors_of plan.order n) m
    → objects_in es old m ≡ objects_in es new m
same_before plan es old new n still h m there = sym (ap (object_by es) (still m (all_true (λ k. is_good_stage (stage_in old k)) (predecessors_of plan.order n) m there h)))

request_still : (ms : List Meaning) (plan : PlanView) (es : List LogEntryView) (old new : List StageView) (n : ℕ) (q : Asked) → AreStillGood old new → IsRequestIn ms plan es old n q → IsRequestIn ms plan es new n q
request_still ms plan es old new n q still h = record {
  before = before_still plan old new n still h.before;
  is_asked = asked_still ms plan n (objects_in es old) (objects_in es new) (Ok q) (same_before plan es old new n still h.before) h.is_asked;
  full = h.full;
}

reached_still : (ms : List Meaning) (plan : PlanView) (es : List LogEntryView) (old new : List StageView) (n : ℕ) (s : StageView) → AreStillGood old new → IsReached ms plan es old n s → IsReached ms plan es new n s
reached_still ms plan es old new n pending still h = tt
reached_still ms plan es old new n failed still (inl h) =
    inl record { request = h.request; answer = h.answer; place = h.place; is_request = request_still ms plan es old new n h.request still h.is_request; is_entry = h.is_entry; is_bad = h.is_bad }
reached_still ms plan es old new n failed still (inr h) =
    inr record { before = before_still plan old new n still h.before; why = h.why; is_fault = asked_still ms plan n (objects_in es old) (objects_in es new) (Err h.why) (same_before plan es old new n still h.before) h.is_fault }
reached_still ms plan es old new n (requested q) still h = request_still ms plan es old new n q still h
reached_still ms plan es old new n (good place) still h = record { request = h.request; answer = h.answer; is_request = request_still ms plan es old new n h.request still h.is_request; is_entry = h.is_entry; is_good = h.is_good }

-- ---- replies are noted

good_same : (ms : List Meaning) (es : List LogEntryView) (s : StageView) → is_good_stage s ≡ true → with_reply ms es s ≡ s
good_same ms es pending h = absurd (cc)
good_same ms es (requested q) h = absurd (cc)
good_same ms es (good place) h = refl
good_same ms es failed h = absurd (cc)

-- the stage by the verdict on a reply
by_verdict : (ms : List Meaning) (plan : PlanView) (es : List LogEntryView) (stages : List StageView) (n place : ℕ) (q : Asked) (a : Option Answer) (b : Bool) → is_good_reply ms q a ≡ b
    → IsRequestIn ms plan es stages n q → slice_get es place ≡ Some (replied q a) → IsReached ms plan es stages n (if b then good place else failed)
by_verdict ms plan es stages n place q a true is h there = record { request = q; answer = a; is_request = h; is_entry = there; is_good = is }
by_verdict ms plan es stages n place q a false is h there = inl record { request = q; answer = a; place = place; is_request = h; is_entry = there; is_bad = is }

-- the stage by an entry about the request
by_entry : (ms : List Meaning) (plan : PlanView) (es : List LogEntryView) (stages : List StageView) (n place : ℕ) (q : Asked) (e : LogEntryView) → is_about q e ≡ true
    → IsRequestIn ms plan es stages n q → slice_get es place ≡ Some e → IsReached ms plan es stages n (stage_by ms q place (Some e))
by_entry ms plan es stages n place q (begun r) about h there = h
by_entry ms plan es stages n place q (replied r a) about h there = by_verdict ms plan es stages n place q a (is_good_reply ms q a) refl h (there ∙ ap (λ x. Some (replied x a)) ((same_is_equality r q).0 about))

by_place : (ms : List Meaning) (plan : PlanView) (es : List LogEntryView) (stages : List StageView) (n : ℕ) (q : Asked) (o : Option ℕ) → position_from (is_about q) 0 es ≡ o
    → IsRequestIn ms plan es stages n q → IsReached ms plan es stages n (option_map_or (λ place. stage_by ms q place (slice_get es place)) o (requested q))
by_place ms plan es stages n q None at h = h
by_place ms plan es stages n q (Some place) at h =
    let entry = found (is_about q) 0 es place at in
    let is : place ≡ entry.place = (let same : place ≡ 0 + entry.place = entry.is_place in omega (arith, same)) in
    let there : slice_get es place ≡ Some entry.item = ap (slice_get es) is ∙ entry.there in
    subst (λ o. IsReached ms plan es stages n (stage_by ms q place o)) (sym there) (by_entry ms plan es stages n place q entry.item entry.passes h there)

noted : (ms : List Meaning) (plan : PlanView) (es : List LogEntryView) (stages : List StageView) (n : ℕ) (s : StageView) → IsReached ms plan es stages n s → IsReached ms plan es stages n (with_reply ms es s)
noted ms plan es stages n pending h = tt
noted ms plan es stages n failed h = h
noted ms plan es stages n (good place) h = h
noted ms plan es stages n (requested q) h = by_place ms plan es stages n q (position_from (is_about q) 0 es) refl h

pub reached_noted : (ms : List Meaning) (plan : PlanView) (es : List LogEntryView) (stages : List StageView) → AreReached ms plan es stages → AreReached ms plan es (map (with_reply ms es) stages)
reached_noted ms plan es stages h =
    let new = map (with_reply ms es) stages in
    let still : AreStillGood stages new = λ m is. stage_map (with_reply ms es) stages m refl ∙ good_same ms es (stage_in stages m) is in
    record {
      all = length-map stages (with_reply ms es) ∙ h.all;
      each = λ n. subst (IsReached ms plan es new n) (sym (stage_map (with_reply ms es) stages n refl)) (reached_still ms plan es stages new n (with_reply ms es (stage_in stages n)) still (noted ms plan es stages n (stage_in stages n) (h.each n)));
    }

-- an action whose reply isn't noted was requested before
requested_by_entry : (ms : List Meaning) (q r : Asked) (place : ℕ) (o : Option LogEntryView) → stage_by ms q place o ≡ requested r → requested q ≡ requested r
requested_by_entry ms q r place None h = h
requested_by_entry ms q r place (Some (begun b)) h = h
requested_by_entry ms q r place (Some (replied b a)) h = absurd (by_test (is_good_reply ms q a) h) where
  by_test : (b : Bool) → (if b then good place else failed) ≡ requested r → ⊥
  by_test true e = cc
  by_test false e = cc

requested_by_place : (ms : List Meaning) (es : List LogEntryView) (q r : Asked) (o : Option ℕ) → option_map_or (λ place. stage_by ms q place (slice_get es place)) o (requested q) ≡ requested r → requested q ≡ requested r
requested_by_place ms es q r None h = h
requested_by_place ms es q r (Some place) h = requested_by_entry ms q r place (slice_get es place) h

requested_before : (ms : List Meaning) (es : List LogEntryView) (s : StageView) (q : Asked) → with_reply ms es s ≡ requested q → s ≡ requested q
requested_before ms es pending q h = absurd (cc)
requested_before ms es (good place) q h = absurd (cc)
requested_before ms es failed q h = absurd (cc)
requested_before ms es (requested r) q h = requested_by_place ms es r q (position_from (is_about r) 0 es) h

pub returned_noted : (ms : List Meaning) (es : List LogEntryView) (stages new : List StageView) (requests : List Asked) → AreReturned (map (with_reply ms es) stages) new requests → AreReturned stages new requests
returned_noted ms es stages new requests h n q is =
    elim (h n q is) [
      | inl before ↦ inl (requested_before ms es (stage_in stages n) q (sym (stage_map (with_reply ms es) stages n refl) ∙ before))
      | inr there ↦ inr there
    ]

-- ---- an action gets another stage

-- the stages after the replies are noted
pub noted_map : (ms : List Meaning) (es : List LogEntryView) (stages : List StageView) (n : ℕ) (q : Asked) → stage_in stages n ≡ requested q → stage_in (map (with_reply ms es) stages) n ≡ with_reply ms es (requested q)
noted_map ms es stages n q is = stage_map (with_reply ms es) stages n refl ∙ ap (with_reply ms es) is

-- the stages of actions that were requested stay the same
abbrev pub AreSameBut : List StageView → List StageView → Type 0
AreSameBut first stages = (n : ℕ) → is_pending (stage_in first n) ≡ false → stage_in stages n ≡ stage_in first n

pub same_but_set : (first stages : List StageView) (n : ℕ) (s : StageView) → is_pending (stage_in stages n) ≡ true → AreSameBut first stages → AreSameBut first (slice_set stages n s)
same_but_set first stages n s pending_there h m started =
    get_or-set_other stages n m s pending (λ same. let both : is_pending (stage_in stages n) ≡ false = ap (λ k. is_pending (stage_in stages k)) (sym same) ∙ ap is_pending (h m started) ∙ started in absurd (cc))
    ∙ h m started

-- an action that is pending was so before
pub was_pending : (first stages : List StageView) (n : ℕ) → AreSameBut first stages → is_pending (stage_in stages n) ≡ true → is_pending (stage_in first n) ≡ true
was_pending first stages n same h = by_test (is_pending (stage_in first n)) refl where
  by_test : (b : Bool) → is_pending (stage_in first n) ≡ b → is_pending (stage_in first n) ≡ true
  by_test true is = is
  by_test false is = (let both : is_pending (stage_in stages n) ≡ false = ap is_pending (same n is) ∙ is in absurd (cc))

-- a new request stays new if another action gets another stage
pub new_set : (first stages : List StageView) (n : ℕ) (s : StageView) (q : Asked) → is_pending (stage_in stages n) ≡ true → IsNew first stages q → IsNew first (slice_set stages n s) q
new_set first stages n s q pending_there (m, before, now) =
    (m, before, get_or-set_other stages n m s pending (λ same. let both : stage_in stages n ≡ requested q = ap (stage_in stages) (sym same) ∙ now in absurd (cc)) ∙ now)

-- what is pending after the replies are noted was so before
pending_before : (ms : List Meaning) (es : List LogEntryView) (s : StageView) → is_pending (with_reply ms es s) ≡ true → is_pending s ≡ true
pending_before ms es pending h = refl
pending_before ms es (good place) h = h
pending_before ms es failed h = h
pending_before ms es (requested q) h = absurd (by_place (position_from (is_about q) 0 es) h) where
  by_verdict : (place : ℕ) (b : Bool) → is_pending (if b then good place else failed) ≡ true → ⊥
  by_verdict place true e = cc
  by_verdict place false e = cc

  by_entry : (place : ℕ) (o : Option LogEntryView) → is_pending (stage_by ms q place o) ≡ true → ⊥
  by_entry place None e = cc
  by_entry place (Some (begun r)) e = cc
  by_entry place (Some (replied r a)) e = by_verdict place (is_good_reply ms q a) e

  by_place : (o : Option ℕ) → is_pending (option_map_or (λ place. stage_by ms q place (slice_get es place)) o (requested q)) ≡ true → ⊥
  by_place None e = cc
  by_place (Some place) e = by_entry place (slice_get es place) e

pub new_noted : (ms : List Meaning) (es : List LogEntryView) (stages new : List StageView) (q : Asked) → IsNew (map (with_reply ms es) stages) new q → IsNew stages new q
new_noted ms es stages new q (n, before, now) = (n, pending_before ms es (stage_in stages n) (ap is_pending (sym (stage_map (with_reply ms es) stages n refl)) ∙ before), now)

-- if an action gets another stage, and its request is among those returned, so are the requests of all
pub returned_set : (first stages : List StageView) (requests more : List Asked) (n : ℕ) (s : StageView) → n < length stages → ((q : Asked) → Contains requests q → Contains more q) → ((q : Asked) → s ≡ requested q → Contains more q)
    → AreReturned first stages requests → AreReturned first (slice_set stages n s) more
returned_set first stages requests more n s within all own h m q is =
    elim (cases_eq m n) [
      | inl same ↦ inr (own q (sym (get_or-set_same stages n s pending within) ∙ ap (λ k. stage_in (slice_set stages n s) k) (sym same) ∙ is))
      | inr other ↦ (elim (h m q (sym (get_or-set_other stages n m s pending other) ∙ is)) [ inl before ↦ inl before | inr there ↦ inr (all q there) ])
    ]

still_set : (stages : List StageView) (n : ℕ) (s : StageView) → is_good_stage (stage_in stages n) ≡ false → AreStillGood stages (slice_set stages n s)
still_set stages n s bad m is = get_or-set_other stages n m s pending (λ same. let both : is_good_stage (stage_in stages n) ≡ true = ap (λ k. is_good_stage (stage_in stages k)) (sym same) ∙ is in absurd (cc))

pub reached_set : (ms : List Meaning) (plan : PlanView) (es : List LogEntryView) (stages : List StageView) (n : ℕ) (s : StageView) → AreReached ms plan es stages → n < length stages → is_good_stage (stage_in stages n) ≡ false
    → IsReached ms plan es stages n s → AreReached ms plan es (slice_set stages n s)
reached_set ms plan es stages n s h within bad is =
    let new = slice_set stages n s in
    let still : AreStillGood stages new = still_set stages n s bad in
    record {
      all = length-set stages n s ∙ h.all;
      each = λ m. elim (cases_eq m n) [
        | inl same ↦ subst (λ k. IsReached ms plan es new k (stage_in new k)) (sym same) (subst (IsReached ms plan es new n) (sym (get_or-set_same stages n s pending within)) (reached_still ms plan es stages new n s still is))
        | inr other ↦ subst (IsReached ms plan es new m) (sym (get_or-set_other stages n m s pending other)) (reached_still ms plan es stages new m (stage_in stages m) still (h.each m))
      ];
    }

-- a function of stages that doesn't tell apart those that aren't good has the same values
same_set : {Y : Type 0} (f : StageView → Y) (y : Y) → ((s : StageView) → is_good_stage s ≡ false → f s ≡ y) → (stages : List StageView) (n : ℕ) (s : StageView) → n < length stages
    → is_good_stage (stage_in stages n) ≡ false → is_good_stage s ≡ false → (m : ℕ) → f (stage_in (slice_set stages n s) m) ≡ f (stage_in stages m)
same_set f y alike stages n s within bad also m =
    elim (cases_eq m n) [
      | inl same ↦ ap (λ k. f (stage_in (slice_set stages n s) k)) same ∙ ap f (get_or-set_same stages n s pending within) ∙ alike s also ∙ sym (alike (stage_in stages n) bad) ∙ ap (λ k. f (stage_in stages k)) (sym same)
      | inr other ↦ ap f (get_or-set_other stages n m s pending other)
    ]

no_object : (es : List LogEntryView) (s : StageView) → is_good_stage s ≡ false → object_by es s ≡ null
no_object es pending h = refl
no_object es (requested q) h = refl
no_object es (good place) h = absurd (cc)
no_object es failed h = refl

pub objects_set : (es : List LogEntryView) (stages : List StageView) (n : ℕ) (s : StageView) → n < length stages → is_good_stage (stage_in stages n) ≡ false → is_good_stage s ≡ false
    → objects_in es (slice_set stages n s) ≡ objects_in es stages
objects_set es stages n s within bad also = fun_ext (same_set (object_by es) null (no_object es) stages n s within bad also)

-- whether another action is ready doesn't change
pub ready_set : (plan : PlanView) (stages : List StageView) (n : ℕ) (s : StageView) (m : ℕ) → n < length stages → is_good_stage (stage_in stages n) ≡ false → is_good_stage s ≡ false → m ≢ n
    → is_ready plan (slice_set stages n s) m ≡ is_ready plan stages m
ready_set plan stages n s m within bad also other =
    let goods : (λ (k : ℕ). is_good_stage (stage_in (slice_set stages n s) k)) ≡ (λ (k : ℕ). is_good_stage (stage_in stages k)) = fun_ext (same_set is_good_stage false (λ t is. is) stages n s within bad also) in
    ap₂ (λ x y. x && y) (ap is_pending (get_or-set_other stages n m s pending other)) (ap (λ (p : ℕ → Bool). list_all p (predecessors_of plan.order m)) goods)

-- an action that has another stage than `pending` isn't ready
pub not_ready : (plan : PlanView) (stages : List StageView) (n : ℕ) (s : StageView) → n < length stages → is_pending s ≡ false → is_ready plan (slice_set stages n s) n ≡ false
not_ready plan stages n s within is = ap (λ t. is_pending t && all_good_before plan (slice_set stages n s) n) (get_or-set_same stages n s pending within) ∙ ap (λ b. b && all_good_before plan (slice_set stages n s) n) is

pub pending_not_good : (s : StageView) → is_pending s ≡ true → is_good_stage s ≡ false
pending_not_good pending h = refl
pending_not_good (requested q) h = absurd (cc)
pending_not_good (good place) h = absurd (cc)
pending_not_good failed h = absurd (cc)
