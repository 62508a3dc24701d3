-- Calls that are kept.
use Rattle.std.proofs.Common.{◌≡◌, ◌≤◌, ◌<◌, ◌∙◌, ◌++◌, ◌⊎◌, ◌||◌, ◌∷◌, [], ℕ, Bool, List, ap, arith, drop, false, inl, inr, length, map, nat_lt, refl, subst, sym, take, true}
use Rattle.std.proofs.Math.Seq.{take-append_seam}
use Rattle.std.proofs.lemmas.Bool.{cases_lt, lt-ltb}
use Rattle.std.proofs.lemmas.List.{append_assoc, append-nil, length-map, length-take, map-append, take-append-drop, take-append-le, take_all}
use Rattle.std.proofs.lemmas.List.Elements.{Contains-append_cases, Contains-append_left, Contains-append_right, Contains-push, Contains-push_cases}
use Rattle.std.proofs.lemmas.List.Sorted.{Contains-permutation, IsPermutation-map, IsPermutation-remove}
use Rattle.std.specs.List.{Contains, remove}
use Rattle.std.specs.Prelude.{Err, IsOk, MatchResult, Ok, OnOk, Result, Vec, slice_index_or}
use Rattle.std.specs.declared.alloc.Global.{Global}
use Rattle.tf_provider_log.specs.LogEntry.{log_entry_of}
use Rattle.tf_provider_log.specs.declared.entry.LogEntry.{LogEntry}
use Rattle.tf_provider_log.specs.declared.entry.LogEntry.TheVariants.{Answered}
use Rattle.tf_provider_protocol.specs.Meaning.{Asked, asked}
use Rattle.tf_provider_protocol.specs.declared.request.Reply.{Reply}
use Rattle.tf_provider_remote.specs.declared.flights.Flight.{Flight}
use Rattle.tf_provider_remote.specs.declared.flights.Flights.{Flights}
use Rattle.tf_session.proofs.Only.{only_more, only_same, only_sent, only_then, only_waits}
use Rattle.tf_session.specs.Calls.{AreKept, Continues, TakesUpOnly, calls_made, calls_taken_up, is_closed, request_in}
use Rattle.tf_session.specs.declared.calls.Calls.{Calls}
use Rattle.tf_session.specs.declared.session.Session.{Session}

-- what is in two lists is in them when one of them is longer
more_left : {X Y : Type 0} (f : X → Y) (xs more : List X) (ys : List Y) (q : Y) → Contains (map f xs ++ ys) q → Contains (map f (xs ++ more) ++ ys) q
more_left f xs more ys q h =
    elim (Contains-append_cases (map f xs) ys q h) [
      | inl there ↦ Contains-append_left (map f (xs ++ more)) ys q (subst (λ l. Contains l q) (sym (map-append f xs more)) (Contains-append_left (map f xs) (map f more) q there))
      | inr there ↦ Contains-append_right (map f (xs ++ more)) ys q there
    ]

more_right : {X Y : Type 0} (f : X → Y) (ys : List Y) (xs more : List X) (q : Y) → Contains (ys ++ map f xs) q → Contains (ys ++ map f (xs ++ more)) q
more_right f ys xs more q h =
    elim (Contains-append_cases ys (map f xs) q h) [
      | inl there ↦ Contains-append_left ys (map f (xs ++ more)) q there
      | inr there ↦ Contains-append_right ys (map f (xs ++ more)) q (subst (λ l. Contains l q) (sym (map-append f xs more)) (Contains-append_left (map f xs) (map f more) q there))
    ]

-- what is in a list that isn't empty is its first item or in the rest
pub first_or_later : {Y : Type 0} (y : Y) (ys : List Y) (q : Y) → Contains (y ∷ ys) q → Contains ys q ⊎ (y ≡ q)
first_or_later y ys q h =
    elim (Contains-append_cases (y ∷ []) ys q h) [
      | inl there ↦ (elim (Contains-push_cases [] y q there) [
        | inl none ↦ (let impossible = none.1 in absurd (omega (arith, impossible)))
        | inr is ↦ inr is
      ])
      | inr there ↦ inl there
    ]

-- what is in a list is the item at a place, or is in the list without it
there_or_taken : {X Y : Type 0} (f : X → Y) (xs : List X) (i : ℕ) (x : X) (q : Y) → i < length xs → x ≡ slice_index_or xs i x → Contains (map f xs) q → Contains (map f (remove xs i)) q ⊎ (f x ≡ q)
there_or_taken f xs i x q within is h =
    first_or_later (f x) (map f (remove xs i)) q (Contains-permutation _ _ q (IsPermutation-map f xs (x ∷ remove xs i) (IsPermutation-remove xs i x within is)) h)

-- an item moves from one list to the end of another
moved : {X Y Z : Type 0} (f : X → Y) (g : Z → Y) (xs : List X) (i : ℕ) (x : X) (zs : List Z) (z : Z) (q : Y) → i < length xs → x ≡ slice_index_or xs i x → g z ≡ f x
    → Contains (map f xs ++ map g zs) q → Contains (map f (remove xs i) ++ map g (zs ++ z ∷ [])) q
moved f g xs i x zs z q within is same h =
    let more : map g (zs ++ z ∷ []) ≡ map g zs ++ f x ∷ [] = map-append g zs (z ∷ []) ∙ ap (λ y. map g zs ++ y ∷ []) same in
    elim (Contains-append_cases (map f xs) (map g zs) q h) [
      | inl there ↦ (elim (there_or_taken f xs i x q within is there) [
        | inl left ↦ Contains-append_left (map f (remove xs i)) (map g (zs ++ z ∷ [])) q left
        | inr taken ↦ Contains-append_right (map f (remove xs i)) (map g (zs ++ z ∷ [])) q (subst (λ l. Contains l q) (sym more) (subst (λ y. Contains (map g zs ++ f x ∷ []) y) taken (Contains-push (map g zs) (f x))))
      ])
      | inr there ↦ Contains-append_right (map f (remove xs i)) (map g (zs ++ z ∷ [])) q (subst (λ l. Contains l q) (sym more) (Contains-append_left (map g zs) (f x ∷ []) q there))
    ]

-- a list that is another one and more begins with that
pub begins_with : {X Y : Type 0} (f : X → Y) (xs : List X) (all rest : List Y) → all ≡ map f xs ++ rest → map f xs ≡ take (length xs) all
begins_with f xs all rest e = sym (ap (take (length xs)) e ∙ ap (λ n. take n (map f xs ++ rest)) (sym (length-map xs f)) ∙ take-append_seam (map f xs) rest)

-- one item more is taken from the rest
pub one_more_first : {X Y : Type 0} (f : X → Y) (xs more : List X) (x : X) (y : Y) (all rest left : List Y) → all ≡ map f xs ++ rest → rest ≡ y ∷ left → more ≡ xs ++ x ∷ [] → f x ≡ y → all ≡ map f more ++ left
one_more_first f xs more x y all rest left e cons longer same =
    e ∙ ap (λ r. map f xs ++ r) cons ∙ sym (append_assoc (map f xs) (y ∷ []) left) ∙ ap (λ z. (map f xs ++ z ∷ []) ++ left) (sym same) ∙ ap (λ l. l ++ left) (sym (ap (map f) longer ∙ map-append f xs (x ∷ [])))

-- a list begins with a second one, if it begins with one that begins with that
begins_then : {X : Type 0} (xs ys zs : List X) → take (length xs) ys ≡ xs → take (length ys) zs ≡ ys → take (length xs) zs ≡ xs
begins_then xs ys zs a b =
    let as_long = sym (length-take (length xs) ys) ∙ ap length a in
    let shorter : length xs ≤ length ys = omega (arith, as_long) in
    ap (take (length xs)) (sym (take-append-drop (length ys) zs)) ∙ ap (λ l. take (length xs) (l ++ drop (length ys) zs)) b ∙ take-append-le (length xs) ys (drop (length ys) zs) shorter ∙ a

pub or_left : (a b : Bool) → a ≡ true → (a || b) ≡ true
or_left true b e = refl
or_left false b e = absurd (cc)

pub or_right : (a b : Bool) → b ≡ true → (a || b) ≡ true
or_right true b e = refl
or_right false b e = e

-- what is in three lists is in the last two, if the first is put behind the second
sent_all : (ws fs es : List Asked) (q : Asked) → Contains (ws ++ (fs ++ es)) q → Contains ((fs ++ ws) ++ es) q
sent_all ws fs es q h =
    elim (Contains-append_cases ws (fs ++ es) q h) [
      | inl waits ↦ Contains-append_left (fs ++ ws) es q (Contains-append_right fs ws q waits)
      | inr sent ↦ (elim (Contains-append_cases fs es q sent) [
        | inl flies ↦ Contains-append_left (fs ++ ws) es q (Contains-append_left fs ws q flies)
        | inr ended ↦ Contains-append_right (fs ++ ws) es q ended
      ])
    ]

-- calls are kept if the same are in flight and have ended
pub kept_same : (c d : Calls) → d.flights.flights.items ≡ c.flights.flights.items → d.entries.items ≡ c.entries.items → AreKept c d
kept_same c d f e = record {
  made = λ q h. rw (f, e) h;
  ended = ap (take (length c.entries.items)) (e ∙ sym (append-nil c.entries.items)) ∙ take-append_seam c.entries.items [];
}

-- calls are kept if more are in flight
pub kept_sent : (c d : Calls) (more : List Flight) → d.flights.flights.items ≡ c.flights.flights.items ++ more → d.entries.items ≡ c.entries.items → AreKept c d
kept_sent c d more f e = record {
  made = λ q h. rw (f, e) (more_left (λ (f : Flight). asked f.request) c.flights.flights.items more (map (λ e. request_in (log_entry_of e)) c.entries.items) q h);
  ended = ap (take (length c.entries.items)) (e ∙ sym (append-nil c.entries.items)) ∙ take-append_seam c.entries.items [];
}

-- calls are kept if one more has ended
pub kept_answered : (c d : Calls) (e : LogEntry) → d.flights.flights.items ≡ c.flights.flights.items → d.entries.items ≡ c.entries.items ++ e ∷ [] → AreKept c d
kept_answered c d e f es = record {
  made = λ q h. rw (f, es) (more_right (λ (e : LogEntry). request_in (log_entry_of e)) (map (λ f. asked f.request) c.flights.flights.items) c.entries.items (e ∷ []) q h);
  ended = ap (take (length c.entries.items)) es ∙ take-append_seam c.entries.items (e ∷ []);
}

-- calls are kept if one that was in flight has ended
pub kept_ended : (c d : Calls) (i : ℕ) (f : Flight) (r : Reply) → i < length c.flights.flights.items → f ≡ slice_index_or c.flights.flights.items i f → d.flights.flights.items ≡ remove c.flights.flights.items i
    → d.entries.items ≡ c.entries.items ++ Answered f.request r ∷ [] → AreKept c d
kept_ended c d i f r within is fs es = record {
  made = λ q h. rw (fs, es) (moved (λ (f : Flight). asked f.request) (λ (e : LogEntry). request_in (log_entry_of e)) c.flights.flights.items i f c.entries.items (Answered f.request r) q within is refl h);
  ended = ap (take (length c.entries.items)) es ∙ take-append_seam c.entries.items (Answered f.request r ∷ []);
}

-- what is kept twice is kept
pub kept_then : (c d e : Calls) → AreKept c d → AreKept d e → AreKept c e
kept_then c d e one other = record {
  made = λ q h. other.made q (one.made q h);
  ended = begins_then c.entries.items d.entries.items e.entries.items one.ended other.ended;
}

-- what holds, holds for as long as there is memory
pub always : {A E : Type 0} (r : Result A E) (P : Type 0) → P → OnOk r P
always (Ok a) P holds = holds
always (Err e) P holds = tt

-- what holds if a result isn't an error
pub only_ok : {A E : Type 0} (r : Result A E) (P Q : Type 0) → IsOk r → MatchResult r (λ _. P) (λ _. Q) → P
only_ok (Ok a) P Q is holds = holds
only_ok (Err e) P Q is holds = absurd (cc)

-- what is begun stays begun if the same requests wait and the calls are kept
pub begun_kept : (c d : Calls) → d.waiting.flights.items ≡ c.waiting.flights.items → AreKept c d → (q : Asked) → Contains (calls_taken_up c) q → Contains (calls_taken_up d) q
begun_kept c d same kept q h =
    elim (Contains-append_cases (map (λ f. asked f.request) c.waiting.flights.items) (calls_made c) q h) [
      | inl there ↦ Contains-append_left (map (λ f. asked f.request) d.waiting.flights.items) (calls_made d) q (rw same there)
      | inr there ↦ Contains-append_right (map (λ f. asked f.request) d.waiting.flights.items) (calls_made d) q (kept.made q there)
    ]

-- what is begun stays begun if one request more waits
pub begun_waits : (c d : Calls) (f : Flight) → d.waiting.flights.items ≡ c.waiting.flights.items ++ f ∷ [] → d.flights ≡ c.flights → d.entries ≡ c.entries → (q : Asked) → Contains (calls_taken_up c) q → Contains (calls_taken_up d) q
begun_waits c d f waits flights entries q h = rw (waits, flights, entries) (more_left (λ (f : Flight). asked f.request) c.waiting.flights.items (f ∷ []) (calls_made c) q h)

-- requests that waited are in flight, if all of them are sent
all_sent : (was : Bool) (count : ℕ) (ws fs : List Flight) (es : List Asked) (q : Asked) → Contains (map (λ f. asked f.request) ws ++ (map (λ f. asked f.request) fs ++ es)) q
    → ((was || nat_lt count (length ws)) ≡ true) ⊎ Contains (map (λ f. asked f.request) (fs ++ take count ws) ++ es) q
all_sent was count ws fs es q h =
    elim (cases_lt count (length ws)) [
      | inl fewer ↦ inl (or_right was (nat_lt count (length ws)) (lt-ltb count (length ws) fewer))
      | inr all ↦ inr (rw (take_all count ws all, map-append (λ (f : Flight). asked f.request) fs ws) (sent_all (map (λ f. asked f.request) ws) (map (λ f. asked f.request) fs) es q h))
    ]

-- the calls of a session after its requests that waited were sent
pub begun_sent : (c d : Calls) (was : Bool) (count : ℕ) → d.waiting.flights.items ≡ [] → d.flights.flights.items ≡ c.flights.flights.items ++ take count c.waiting.flights.items → d.entries.items ≡ c.entries.items
    → (q : Asked) → Contains (calls_taken_up c) q → ((was || nat_lt count (length c.waiting.flights.items)) ≡ true) ⊎ Contains (calls_taken_up d) q
begun_sent c d was count none flights entries q h = rw (none, flights, entries) (all_sent was count c.waiting.flights.items c.flights.flights.items (map (λ e. request_in (log_entry_of e)) c.entries.items) q h)

-- a session continues if it has the same types and calls
pub continues_same : (qs : List Asked) (a b : Session) → (b.types ≡ a.types) × (b.calls ≡ a.calls) → (is_closed a ≡ true → is_closed b ≡ true) → Continues qs a b
continues_same qs a b (types, calls) closed = record {
  types = types;
  calls = kept_same a.calls b.calls (ap (λ (c : Calls). c.flights.flights.items) calls) (ap (λ (c : Calls). c.entries.items) calls);
  closed = closed;
  taken_up = λ q h. inr (rw calls h);
  only = only_same qs a.calls b.calls (ap (λ (c : Calls). c.waiting.flights.items) calls) (ap (λ (c : Calls). c.flights.flights.items) calls) (ap (λ (c : Calls). c.entries.items) calls);
}

-- a session continues if it has the same types, keeps its calls, takes up no others but these, and the same requests wait
pub continues_calls : (qs : List Asked) (a b : Session) → b.types ≡ a.types → (is_closed a ≡ true → is_closed b ≡ true) → b.calls.waiting ≡ a.calls.waiting → AreKept a.calls b.calls → TakesUpOnly qs a.calls b.calls → Continues qs a b
continues_calls qs a b types closed waiting calls only = record {
  types = types;
  calls = calls;
  closed = closed;
  taken_up = λ q h. inr (begun_kept a.calls b.calls (ap (λ (w : Flights). w.flights.items) waiting) calls q h);
  only = only;
}

-- a session continues if one request more waits
pub continues_waits : {A E : Type 0} (r : Result A E) (a b : Session) (f : Flight) → (b.types ≡ a.types) × (is_closed b ≡ is_closed a) → (b.calls.flights ≡ a.calls.flights) × (b.calls.entries ≡ a.calls.entries)
    → OnOk r (b.calls.waiting.flights.items ≡ a.calls.waiting.flights.items ++ f ∷ []) → OnOk r (Continues (asked f.request ∷ []) a b)
continues_waits (Ok v) a b f (types, closed) (flights, entries) waits = record {
  types = types;
  calls = kept_same a.calls b.calls (ap (λ (w : Flights). w.flights.items) flights) (ap (λ (es : Vec LogEntry Global). es.items) entries);
  closed = λ e. closed ∙ e;
  taken_up = λ q h. inr (begun_waits a.calls b.calls f waits flights entries q h);
  only = only_waits a.calls b.calls f waits flights entries;
}
continues_waits (Err e) a b f same others waits = tt

-- a session that continues twice continues
pub continues_then : (qs : List Asked) (a b c : Session) → Continues qs a b → Continues qs b c → Continues qs a c
continues_then qs a b c one other = record {
  types = other.types ∙ one.types;
  calls = kept_then a.calls b.calls c.calls one.calls other.calls;
  closed = λ e. other.closed (one.closed e);
  taken_up = λ q h. elim (one.taken_up q h) [ inl e ↦ inl (other.closed e) | inr there ↦ other.taken_up q there ];
  only = only_then qs a.calls b.calls c.calls one.only other.only;
}

-- a session that takes up no calls but some takes up no calls but these and others
pub continues_for : (qs rs : List Asked) (a b : Session) → ((q : Asked) → Contains qs q → Contains rs q) → Continues qs a b → Continues rs a b
continues_for qs rs a b more h = record { types = h.types; calls = h.calls; closed = h.closed; taken_up = h.taken_up; only = only_more qs rs a.calls b.calls more h.only }

-- a session that takes up no calls
pub continues_with : (qs : List Asked) (a b : Session) → Continues [] a b → Continues qs a b
continues_with qs a b h = continues_for [] qs a b (λ q there. let none = there.1 in absurd (omega (arith, none))) h

-- a session that continues, and then continues for as long as there is memory
pub continues_on : {A E : Type 0} (qs : List Asked) (r : Result A E) (a b c : Session) → Continues [] a b → OnOk r (Continues qs b c) → OnOk r (Continues qs a c)
continues_on qs (Ok v) a b c one other = continues_then qs a b c (continues_with qs a b one) other
continues_on qs (Err e) a b c one other = tt

-- the calls of a session after those that waited were sent: they are taken out, there is memory for them, and those that were announced are in flight
pub flushed : (a b c d : Calls) (was : Bool) (count n : ℕ) (waited sent : List Flight) → (b.flights ≡ a.flights) × (b.entries ≡ a.entries) → waited ≡ a.waiting.flights.items → b.waiting.flights.items ≡ []
    → c.waiting ≡ b.waiting → (c.flights.flights.items ≡ b.flights.flights.items) × (c.entries.items ≡ b.entries.items) → n ≡ length waited → sent ≡ take count waited
    → (d.waiting ≡ c.waiting) × (d.entries ≡ c.entries) → d.flights.flights.items ≡ c.flights.flights.items ++ sent
    → AreKept a d × ((q : Asked) → Contains (calls_taken_up a) q → ((was || nat_lt count n) ≡ true) ⊎ Contains (calls_taken_up d) q) × TakesUpOnly [] a d
flushed a b c d was count n waited sent taken all none reserved same many cut others added =
    let entries : d.entries.items ≡ a.entries.items = ap (λ (es : Vec LogEntry Global). es.items) others.1 ∙ same.1 ∙ ap (λ (es : Vec LogEntry Global). es.items) taken.1 in
    let waiting : d.waiting.flights.items ≡ [] = ap (λ (w : Flights). w.flights.items) (others.0 ∙ reserved) ∙ none in
    let flights : c.flights.flights.items ≡ a.flights.flights.items = same.0 ∙ ap (λ (w : Flights). w.flights.items) taken.0 in
    let more : d.flights.flights.items ≡ a.flights.flights.items ++ take count a.waiting.flights.items = added ∙ ap (λ fs. fs ++ sent) flights ∙ ap (λ fs. a.flights.flights.items ++ fs) (cut ∙ ap (take count) all) in
    let as_many : n ≡ length a.waiting.flights.items = many ∙ ap length all in (
      kept_sent a d (take count a.waiting.flights.items) more entries,
      (λ q h. rw as_many (begun_sent a d was count waiting more entries q h)),
      only_sent a d count waiting more entries,
    )

-- the request at a place, which has a number and was sent to a provider, is the one whose reply is noted
pub noted_at : (C : Type 0) (provider id place : ℕ) (reply : Reply) (c d : Calls) → place < length c.flights.flights.items
    → ((f : Flight) → ((slice_index_or c.flights.flights.items place f).id ≡ id) × ((slice_index_or c.flights.flights.items place f).provider ≡ provider))
    → (f : Flight) × (f ≡ slice_index_or c.flights.flights.items place f) × (d.entries.items ≡ c.entries.items ++ Answered f.request reply ∷ [])
    → C ⊎ ((f : Flight) × Contains c.flights.flights.items f × (f.id ≡ id) × (f.provider ≡ provider) × (d.entries.items ≡ c.entries.items ++ Answered f.request reply ∷ []))
noted_at C provider id place reply c d within sent (f, is, entries) =
    inr (f, (place, within, sym is), ap (λ (x : Flight). x.id) is ∙ (sent f).0, ap (λ (x : Flight). x.provider) is ∙ (sent f).1, entries)
