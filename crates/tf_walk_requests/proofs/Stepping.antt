-- The requests of the actions that are ready, one action after another.
use Rattle.std.proofs.Common.{◌≡◌, ◌∙◌, ◌<◌, ◌≤◌, ◌+◌, ◌++◌, ◌∷◌, [], ℕ, Bool, true, false, List, None, ap, arith, get_or, inl, inr, length, map, refl, subst, sym}
use Rattle.std.proofs.lemmas.Bool.{and_parts, cases_eq}
use Rattle.std.proofs.lemmas.List.{get_or-map, get_or-set_same, map-append}
use Rattle.std.proofs.lemmas.List.Elements.{Contains-append_left, Contains-push, Contains-push_cases}
use Rattle.std.specs.List.{All, Contains}
use Rattle.std.specs.List.{position_from}
use Rattle.std.specs.Option.{option_map_or}
use Rattle.std.specs.Prelude.{Err, IfOk, Ok, Option, Result, Some, Vec, if◌then◌else◌, slice_get, slice_set}
use Rattle.std.specs.declared.alloc.Global.{Global}
use Rattle.tf_plan_data.specs.Plan.{PlanView}
use Rattle.tf_provider_log.specs.LogEntry.{LogEntryView, begun, replied}
use Rattle.tf_provider_log.specs.Replayed.{is_about}
use Rattle.tf_provider_protocol.specs.Meaning.{Asked, Meaning, asked}
use Rattle.tf_provider_protocol.specs.declared.request.Request.{Request}
use Rattle.tf_walk_requests.proofs.Memos.{holds_at_first, holds_with}
use Rattle.tf_walk_requests.proofs.Reached.{AreSameBut, new_noted, new_set, not_ready, noted_map, objects_set, pending_not_good, reached_set, ready_set, returned_noted, returned_set, same_but_set, was_pending}
use Rattle.tf_walk_requests.specs.Memo.{IsTrueOf}
use Rattle.tf_walk_requests.specs.Progress.{AreReached, AreReturned, IsDue, IsReached, HasFault, IsNew, IsReadyRound, IsRequestIn, IsRound, all_good_before, is_ready}
use Rattle.tf_walk_requests.specs.Stages.{IsFullyRequested, StageView, failed, good, is_good_reply, is_good_stage, is_pending, objects_in, pending, requested, stage_by, stage_in, stage_of, with_reply}
use Rattle.tf_walk_requests.specs.declared.memo.Memo.{Memo}
use Rattle.tf_walk_requests.specs.declared.stage.Stage.{Stage}

-- the stages are reached, the requests are due, and none of the first actions is ready
pub record AreRequested (ms : List Meaning) (plan : PlanView) (es : List LogEntryView) (first stages : List StageView) (requests : List Request) (memo : Memo) (count : ℕ) : Type 0 where
  pub reached : AreReached ms plan es stages
  pub due : (q : Asked) → Contains (map asked requests) q → IsDue ms plan es q
  pub returned : AreReturned first stages (map asked requests)
  pub same : AreSameBut first stages
  pub fresh : (q : Asked) → Contains (map asked requests) q → IsNew first stages q
  pub none : (n : ℕ) → n < count → is_ready plan stages n ≡ false
  pub holds : IsTrueOf plan (objects_in es stages) memo

-- one action more isn't ready
none_more : (p : ℕ → Bool) (count : ℕ) → ((n : ℕ) → n < count → p n ≡ false) → p count ≡ false → (n : ℕ) → n < count + 1 → p n ≡ false
none_more p count none last n within = elim (cases_eq n count) [ inl same ↦ subst (λ k. p k ≡ false) (sym same) last | inr other ↦ none n (omega (arith, within, other)) ]

pub passed : (ms : List Meaning) (plan : PlanView) (es : List LogEntryView) (first stages : List StageView) (requests : List Request) (memo : Memo) (i : ℕ) → AreRequested ms plan es first stages requests memo i → is_ready plan stages i ≡ false
    → AreRequested ms plan es first stages requests memo (i + 1)
passed ms plan es first stages requests memo i h is = record { reached = h.reached; due = h.due; returned = h.returned; same = h.same; fresh = h.fresh; none = none_more (is_ready plan stages) i h.none is; holds = h.holds }

-- an action that is ready is pending
is_pending_of : (plan : PlanView) (stages : List StageView) (n : ℕ) → is_ready plan stages n ≡ true → is_pending (stage_in stages n) ≡ true
is_pending_of plan stages n ready = (and_parts (is_pending (stage_in stages n)) (all_good_before plan stages n) ready).0

-- an action that was ready gets another stage
changed : (ms : List Meaning) (plan : PlanView) (es : List LogEntryView) (first stages : List StageView) (requests more : List Request) (before after : Memo) (i : ℕ) (s : StageView) → AreRequested ms plan es first stages requests before i
    → i < length stages → is_ready plan stages i ≡ true → is_good_stage s ≡ false → is_pending s ≡ false → IsReached ms plan es stages i s → IsTrueOf plan (objects_in es stages) after
    → ((q : Asked) → Contains (map asked more) q → IsDue ms plan es q) → AreReturned first (slice_set stages i s) (map asked more) → ((q : Asked) → Contains (map asked more) q → IsNew first (slice_set stages i s) q) → AreRequested ms plan es first (slice_set stages i s) more after (i + 1)
changed ms plan es first stages requests more before after i s h within ready bad started is memo due returned fresh =
    let new = slice_set stages i s in
    let is_pending_there = is_pending_of plan stages i ready in
    let not_good : is_good_stage (stage_in stages i) ≡ false = pending_not_good (stage_in stages i) is_pending_there in
    record {
      reached = reached_set ms plan es stages i s h.reached within not_good is;
      due = due;
      returned = returned;
      same = same_but_set first stages i s is_pending_there h.same;
      fresh = fresh;
      none = none_more (is_ready plan new) i (λ n below. ready_set plan stages i s n within not_good bad (λ same. let again : n ≡ i = same in absurd (omega (arith, below, again))) ∙ h.none n below) (not_ready plan stages i s within started);
      holds = holds_with plan (objects_in es stages) (objects_in es new) after.action after.kept.items (objects_set es stages i s within not_good bad) memo;
    }

-- one request more is due
due_more : (ms : List Meaning) (plan : PlanView) (es : List LogEntryView) (requests : List Request) (r : Request) → ((q : Asked) → Contains (map asked requests) q → IsDue ms plan es q) → IsDue ms plan es (asked r)
    → (q : Asked) → Contains (map asked (requests ++ r ∷ [])) q → IsDue ms plan es q
due_more ms plan es requests r all one q h =
    elim (Contains-push_cases (map asked requests) (asked r) q (subst (λ l. Contains l q) (map-append asked requests (r ∷ [])) h)) [ inl there ↦ all q there | inr is ↦ subst (IsDue ms plan es) is one ]

pub one_requested : (ms : List Meaning) (plan : PlanView) (es : List LogEntryView) (first stages : List StageView) (requests : List Request) (before after : Memo) (i : ℕ) (r : Request) → AreRequested ms plan es first stages requests before i
    → i < length stages → is_ready plan stages i ≡ true → IsRequestIn ms plan es stages i (asked r) → IsTrueOf plan (objects_in es stages) after
    → AreRequested ms plan es first (slice_set stages i (requested (asked r))) (requests ++ r ∷ []) after (i + 1)
one_requested ms plan es first stages requests before after i r h within ready is memo =
    let due : IsDue ms plan es (asked r) = record { stages = stages; action = i; reached = h.reached; is_request = is } in
    changed ms plan es first stages requests (requests ++ r ∷ []) before after i (requested (asked r)) h within ready refl refl is memo (due_more ms plan es requests r h.due due)
    (returned_set first stages (map asked requests) (map asked (requests ++ r ∷ [])) i (requested (asked r)) within (λ q there. rw (map-append asked requests (r ∷ [])) (Contains-append_left (map asked requests) (asked r ∷ []) q there))
    (λ q same. let is_own : asked r ≡ q = cc in rw (map-append asked requests (r ∷ [])) (subst (Contains (map asked requests ++ asked r ∷ [])) is_own (Contains-push (map asked requests) (asked r)))) h.returned)
    (λ q there. elim (Contains-push_cases (map asked requests) (asked r) q (subst (λ l. Contains l q) (map-append asked requests (r ∷ [])) there)) [
      | inl old ↦ new_set first stages i (requested (asked r)) q (is_pending_of plan stages i ready) (h.fresh q old)
      | inr is_own ↦ (i, was_pending first stages i h.same (is_pending_of plan stages i ready), get_or-set_same stages i (requested (asked r)) pending within ∙ ap requested is_own)
    ])

pub one_failed : (ms : List Meaning) (plan : PlanView) (es : List LogEntryView) (first stages : List StageView) (requests : List Request) (before after : Memo) (i : ℕ) → AreRequested ms plan es first stages requests before i
    → i < length stages → is_ready plan stages i ≡ true → HasFault ms plan es stages i → IsTrueOf plan (objects_in es stages) after → AreRequested ms plan es first (slice_set stages i failed) requests after (i + 1)
one_failed ms plan es first stages requests before after i h within ready fault memo = changed ms plan es first stages requests requests before after i failed h within ready refl refl (inr fault) memo h.due
    (returned_set first stages (map asked requests) (map asked requests) i failed within (λ q there. there) (λ q same. absurd (cc)) h.returned)
    (λ q there. new_set first stages i failed q (is_pending_of plan stages i ready) (h.fresh q there))

-- the requests of stages that are reached have what their operations need
full : (ms : List Meaning) (plan : PlanView) (es : List LogEntryView) (stages : List StageView) (n : ℕ) (s : StageView) → IsReached ms plan es stages n s → IsFullyRequested ms s
full ms plan es stages n pending h = tt
full ms plan es stages n (requested q) h = h.full
full ms plan es stages n (good place) h = tt
full ms plan es stages n failed h = tt

pub all_full : (ms : List Meaning) (plan : PlanView) (es : List LogEntryView) (stages : List Stage) → AreReached ms plan es (map stage_of stages) → All (λ s. IsFullyRequested ms (stage_of s)) stages
all_full ms plan es stages h k d within = subst (IsFullyRequested ms) (get_or-map stage_of stages k d pending within) (full ms plan es (map stage_of stages) k (stage_in (map stage_of stages) k) (h.each k))

-- before the first action
pub at_first : (ms : List Meaning) (plan : PlanView) (es : List LogEntryView) (stages : List StageView) (requests : List Request) (memo : Memo) → requests ≡ [] → memo.action ≡ None → AreReached ms plan es stages
    → AreRequested ms plan es stages stages requests memo 0
at_first ms plan es stages requests memo none empty reached = record {
  reached = reached;
  due = λ q h. let nowhere = (subst (λ xs. Contains (map asked xs) q) none h).1 in absurd (omega (arith, nowhere));
  returned = λ n q is. inl is;
  same = λ n started. refl;
  fresh = λ q h. let nowhere = (subst (λ xs. Contains (map asked xs) q) none h).1 in absurd (omega (arith, nowhere));
  none = λ n below. absurd (omega (arith, below));
  holds = holds_at_first plan (objects_in es stages) memo.action memo.kept.items empty;
}

-- after the last action: a round, if the replies were noted before
pub at_last : (ms : List Meaning) (plan : PlanView) (es : List LogEntryView) (first stages : List StageView) (requests : List Request) (memo : Memo) (count : ℕ) → length stages ≤ count → AreRequested ms plan es first stages requests memo count
    → IsReadyRound ms plan es first stages (map asked requests)
at_last ms plan es first stages requests memo count all h = record {
  reached = h.reached;
  due = h.due;
  returned = h.returned;
  same = h.same;
  fresh = h.fresh;
  none_left = λ n within. h.none n (let long : length stages ≡ length plan.actions = h.reached.all in omega (arith, all, within, long));
}

-- an action that was requested isn't pending after its reply
begun_by : (ms : List Meaning) (q : Asked) (place : ℕ) (o : Option LogEntryView) → is_pending (stage_by ms q place o) ≡ false
begun_by ms q place None = refl
begun_by ms q place (Some (begun r)) = refl
begun_by ms q place (Some (replied r a)) = by_verdict (is_good_reply ms q a) where
  by_verdict : (b : Bool) → is_pending (if b then good place else failed) ≡ false
  by_verdict true = refl
  by_verdict false = refl

begun_noted : (ms : List Meaning) (es : List LogEntryView) (q : Asked) → is_pending (with_reply ms es (requested q)) ≡ false
begun_noted ms es q = by_place (position_from (is_about q) 0 es) where
  by_place : (o : Option ℕ) → is_pending (option_map_or (λ place. stage_by ms q place (slice_get es place)) o (requested q)) ≡ false
  by_place None = refl
  by_place (Some place) = begun_by ms q place (slice_get es place)

-- a round after the replies are noted
noted_round : (ms : List Meaning) (plan : PlanView) (es : List LogEntryView) (stages new : List StageView) (requests : List Asked) → IsReadyRound ms plan es (map (with_reply ms es) stages) new requests → IsRound ms plan es stages new requests
noted_round ms plan es stages new requests h = record {
  reached = h.reached;
  noted = λ n q is. h.same n (ap is_pending (noted_map ms es stages n q is) ∙ begun_noted ms es q) ∙ noted_map ms es stages n q is;
  due = h.due;
  fresh = λ q there. new_noted ms es stages new q (h.fresh q there);
  returned = returned_noted ms es stages new requests h.returned;
  none_left = h.none_left;
}

pub round_through : {E : Type 0} (r : Result (Vec Request Global) E) (ms : List Meaning) (plan : PlanView) (es : List LogEntryView) (stages new : List StageView)
    → IfOk r (λ requests. IsReadyRound ms plan es (map (with_reply ms es) stages) new (map asked requests.items)) → IfOk r (λ requests. IsRound ms plan es stages new (map asked requests.items))
round_through (Ok requests) ms plan es stages new h = noted_round ms plan es stages new (map asked requests.items) h
round_through (Err e) ms plan es stages new h = tt
