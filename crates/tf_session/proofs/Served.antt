-- Calls that are made.
use Rattle.std.proofs.Common.{◌≡◌, ◌++◌, ◌⊎◌, ◌||◌, ◌∷◌, [], Bool, List, Ok, Err, Result, arith, inl, inr, map, subst, sym, true}
use Rattle.std.proofs.lemmas.Bool.{or_cases}
use Rattle.std.proofs.lemmas.List.{map-append}
use Rattle.std.proofs.lemmas.List.Elements.{All-push, All-weaker, Contains-append_cases, Contains-append_left, Contains-append_right, Contains-push}
use Rattle.std.proofs.lemmas.List.Folds.{list_any-append, list_any_at}
use Rattle.std.specs.List.{All, Contains, list_any}
use Rattle.std.specs.Prelude.{MatchResult, OnOk}
use Rattle.tf_provider_log.specs.LogEntry.{log_entry_of}
use Rattle.tf_provider_log.specs.Replayed.{is_about}
use Rattle.tf_provider_log.specs.declared.entry.LogEntry.{LogEntry}
use Rattle.tf_provider_log.specs.declared.entry.LogEntry.TheVariants.{Answered}
use Rattle.tf_provider_protocol.specs.Meaning.{Asked, asked}
use Rattle.tf_provider_protocol.specs.declared.request.Reply.{Reply}
use Rattle.tf_provider_protocol.specs.declared.request.Request.{Request}
use Rattle.tf_provider_remote.specs.Flights.{has_call, is_call}
use Rattle.tf_provider_remote.specs.declared.flights.Flight.{Flight}
use Rattle.tf_session.proofs.Kept.{first_or_later, or_left, or_right}
use Rattle.tf_session.proofs.Same.{about_call, about_itself, is_call_itself}
use Rattle.tf_session.specs.Calls.{Continues, IsMade, IsTakenUp, calls_made, calls_taken_up, has_begun, is_closed, request_in}
use Rattle.tf_session.specs.Laws.{MadeCallsHaveBegun}
use Rattle.tf_session.specs.declared.calls.Calls.{Calls}
use Rattle.tf_session.specs.declared.session.Session.{Session}

any_of : {X : Type 0} (p : X → Bool) (xs : List X) (x : X) → Contains xs x → p x ≡ true → list_any p xs ≡ true
any_of p xs x (k, within, at) h = list_any_at p xs k x within (subst (λ y. p y ≡ true) (sym at) h)

-- an item of a list passes a test
record HasOne {X : Type 0} (p : X → Bool) (xs : List X) : Type 0 where
  item : X
  there : Contains xs item
  passes : p item ≡ true

one_of : {X : Type 0} (p : X → Bool) (xs : List X) → list_any p xs ≡ true → HasOne p xs
one_of p [] h = absurd (cc)
one_of p (x ∷ xs) h =
    elim (or_cases (p x) (list_any p xs) h) [
      | inl first ↦ record { item = x; there = Contains-append_left (x ∷ []) xs x (Contains-push [] x); passes = first }
      | inr later ↦ (let found = one_of p xs later in record { item = found.item; there = Contains-append_right (x ∷ []) xs found.item found.there; passes = found.passes })
    ]

any_left : {X : Type 0} (p : X → Bool) (xs ys : List X) → list_any p xs ≡ true → list_any p (xs ++ ys) ≡ true
any_left p xs ys h = rw (list_any-append p xs ys) (or_left (list_any p xs) (list_any p ys) h)

any_right : {X : Type 0} (p : X → Bool) (xs ys : List X) → list_any p ys ≡ true → list_any p (xs ++ ys) ≡ true
any_right p xs ys h = rw (list_any-append p xs ys) (or_right (list_any p xs) (list_any p ys) h)

-- an entry about a request is of the same call
any_about : (q : Asked) (es : List LogEntry) → list_any (is_about q) (map log_entry_of es) ≡ true → list_any (is_call q) (map (λ e. request_in (log_entry_of e)) es) ≡ true
any_about q [] h = absurd (cc)
any_about q (e ∷ es) h =
    elim (or_cases (is_about q (log_entry_of e)) (list_any (is_about q) (map log_entry_of es)) h) [
      | inl first ↦ or_left (is_call q (request_in (log_entry_of e))) _ (about_call q (log_entry_of e) first)
      | inr later ↦ or_right (is_call q (request_in (log_entry_of e))) _ (any_about q es later)
    ]

-- a request that is begun is taken up
begun_any : (q : Asked) (c : Calls) → has_begun q c ≡ true → list_any (is_call q) (calls_taken_up c) ≡ true
begun_any q c h =
    let waiting = map (λ f. asked f.request) c.waiting.flights.items in
    let flights = map (λ f. asked f.request) c.flights.flights.items in
    let ended = map (λ e. request_in (log_entry_of e)) c.entries.items in
    elim (or_cases (has_call q c.waiting.flights.items || has_call q c.flights.flights.items) (list_any (is_about q) (map log_entry_of c.entries.items)) h) [
      | inl sent ↦ (elim (or_cases (has_call q c.waiting.flights.items) (has_call q c.flights.flights.items) sent) [
        | inl waits ↦ any_left (is_call q) waiting (flights ++ ended) waits
        | inr flies ↦ any_right (is_call q) waiting (flights ++ ended) (any_left (is_call q) flights ended flies)
      ])
      | inr about ↦ any_right (is_call q) waiting (flights ++ ended) (any_right (is_call q) flights ended (any_about q c.entries.items about))
    ]

pub taken_begun : (C : Type 0) (q : Asked) (c : Calls) → has_begun q c ≡ true → C ⊎ (list_any (is_call q) (calls_taken_up c) ≡ true)
taken_begun C q c h = inr (begun_any q c h)

-- a request that is among those begun is taken up
taken_there : (q : Asked) (c : Calls) → Contains (calls_taken_up c) q → list_any (is_call q) (calls_taken_up c) ≡ true
taken_there q c h = any_of (is_call q) (calls_taken_up c) q h (is_call_itself q)

-- what is taken up stays so
pub taken_then : (qs : List Asked) (a b : Session) (q : Asked) → Continues qs a b → IsTakenUp q a → IsTakenUp q b
taken_then qs a b q on (inl closed) = inl (on.closed closed)
taken_then qs a b q on (inr any) =
    let found = one_of (is_call q) (calls_taken_up a.calls) any in
    elim (on.taken_up found.item found.there) [
      | inl closed ↦ inl closed
      | inr there ↦ inr (any_of (is_call q) (calls_taken_up b.calls) found.item there found.passes)
    ]

-- what is made stays so
pub made_then : (qs : List Asked) (a b : Session) (q : Asked) → Continues qs a b → IsMade q a → IsMade q b
made_then qs a b q on (inl closed) = inl (on.closed closed)
made_then qs a b q on (inr any) =
    let found = one_of (is_call q) (calls_made a.calls) any in
    inr (any_of (is_call q) (calls_made b.calls) found.item (on.calls.made found.item found.there) found.passes)

-- what is taken up is made, if none waits
made_if_none_waits : (s : Session) (q : Asked) → (is_closed s ≡ true) ⊎ (s.calls.waiting.flights.items ≡ []) → IsTakenUp q s → IsMade q s
made_if_none_waits s q none (inl closed) = inl closed
made_if_none_waits s q (inl closed) taken = inl closed
made_if_none_waits s q (inr none) (inr any) = inr (subst (λ w. list_any (is_call q) (map (λ f. asked f.request) w ++ calls_made s.calls) ≡ true) none any)

-- the same for each of some requests
pub all_taken_then : (qs : List Asked) (a b : Session) (rs : List Request) → Continues qs a b → All (λ r. IsTakenUp (asked r) a) rs → All (λ r. IsTakenUp (asked r) b) rs
all_taken_then qs a b rs on all = All-weaker (λ r. IsTakenUp (asked r) a) (λ r. IsTakenUp (asked r) b) (λ r h. taken_then qs a b (asked r) on h) rs all

pub all_made_then : (qs : List Asked) (a b : Session) (rs : List Request) → Continues qs a b → All (λ r. IsMade (asked r) a) rs → All (λ r. IsMade (asked r) b) rs
all_made_then qs a b rs on all = All-weaker (λ r. IsMade (asked r) a) (λ r. IsMade (asked r) b) (λ r h. made_then qs a b (asked r) on h) rs all

pub all_made : (qs : List Asked) (a b : Session) (rs : List Request) → Continues qs a b → (is_closed b ≡ true) ⊎ (b.calls.waiting.flights.items ≡ []) → All (λ r. IsTakenUp (asked r) a) rs → All (λ r. IsMade (asked r) b) rs
all_made qs a b rs on none all = All-weaker (λ r. IsTakenUp (asked r) a) (λ r. IsMade (asked r) b) (λ r h. made_if_none_waits b (asked r) none (taken_then qs a b (asked r) on h)) rs all

pub all_closed : (s : Session) (rs : List Request) → is_closed s ≡ true → All (λ r. IsTakenUp (asked r) s) rs
all_closed s rs closed k d within = inl closed

-- one call more is taken up
pub one_more : (qs : List Asked) (a b : Session) (rs : List Request) (r : Request) → Continues qs a b → All (λ r. IsTakenUp (asked r) a) rs → IsTakenUp (asked r) b → All (λ r. IsTakenUp (asked r) b) (rs ++ r ∷ [])
one_more qs a b rs r on all one = All-push (λ r. IsTakenUp (asked r) b) rs r (all_taken_then qs a b rs on all) one

-- a request whose reply was noted is taken up
pub taken_answered : {A E : Type 0} (C P : Type 0) (r : Result A E) (q : Request) (a : Reply) (c : Calls) (es : List LogEntry) → MatchResult r (λ _. c.entries.items ≡ es ++ Answered q a ∷ []) (λ _. P)
    → OnOk r (C ⊎ (list_any (is_call (asked q)) (calls_taken_up c) ≡ true))
taken_answered C P (Ok v) q a c es holds =
    let flights = map (λ f. asked f.request) c.flights.flights.items in
    let ended = map (λ e. request_in (log_entry_of e)) c.entries.items in
    let last : Contains ended (asked q) = rw (holds, map-append (λ (e : LogEntry). request_in (log_entry_of e)) es (Answered q a ∷ [])) (Contains-push (map (λ e. request_in (log_entry_of e)) es) (asked q)) in
    inr (taken_there (asked q) c (Contains-append_right (map (λ f. asked f.request) c.waiting.flights.items) (flights ++ ended) (asked q) (Contains-append_right flights ended (asked q) last)))
taken_answered C P (Err e) q a c es holds = tt

-- a request that waits is taken up
pub taken_waits : {A E : Type 0} (C : Type 0) (r : Result A E) (f : Flight) (c : Calls) (fs : List Flight) → OnOk r (c.waiting.flights.items ≡ fs ++ f ∷ []) → OnOk r (C ⊎ (list_any (is_call (asked f.request)) (calls_taken_up c) ≡ true))
taken_waits C (Ok v) f c fs waits =
    let last : Contains (map (λ f. asked f.request) c.waiting.flights.items) (asked f.request) = rw (waits, map-append (λ (f : Flight). asked f.request) fs (f ∷ [])) (Contains-push (map (λ f. asked f.request) fs) (asked f.request)) in
    inr (taken_there (asked f.request) c (Contains-append_left (map (λ f. asked f.request) c.waiting.flights.items) (calls_made c) (asked f.request) last))
taken_waits C (Err e) f c fs waits = tt

-- an entry of a list is about a request that is in one of them
about_there : (q : Asked) (es : List LogEntry) → Contains (map (λ e. request_in (log_entry_of e)) es) q → list_any (is_about q) (map log_entry_of es) ≡ true
about_there q [] h = (let none = h.1 in absurd (omega (arith, none)))
about_there q (e ∷ es) h =
    elim (first_or_later (request_in (log_entry_of e)) (map (λ e. request_in (log_entry_of e)) es) q h) [
      | inl later ↦ or_right (is_about q (log_entry_of e)) _ (about_there q es later)
      | inr first ↦ or_left (is_about q (log_entry_of e)) _ (about_itself q (log_entry_of e) first)
    ]

-- a call that was made has begun
pub made_has_begun : MadeCallsHaveBegun
made_has_begun q c h =
    let waiting = has_call q c.waiting.flights.items in
    let flights = map (λ f. asked f.request) c.flights.flights.items in
    let about = list_any (is_about q) (map log_entry_of c.entries.items) in
    elim (Contains-append_cases flights (map (λ e. request_in (log_entry_of e)) c.entries.items) q h) [
      | inl flies ↦ or_left (waiting || has_call q c.flights.flights.items) about (or_right waiting (has_call q c.flights.flights.items) (any_of (is_call q) flights q flies (is_call_itself q)))
      | inr ended ↦ or_right (waiting || has_call q c.flights.flights.items) about (about_there q c.entries.items ended)
    ]
