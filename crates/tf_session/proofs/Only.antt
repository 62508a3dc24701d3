-- No other calls are taken up.
use Rattle.std.proofs.Common.{◌≡◌, ◌<◌, ◌++◌, ◌⊎◌, ◌∷◌, [], ℕ, List, drop, inl, inr, length, map, refl, subst, sym, take}
use Rattle.std.proofs.lemmas.List.{map-append, take-append-drop, take-map}
use Rattle.std.proofs.lemmas.List.Elements.{Contains-append_cases, Contains-append_left, Contains-append_right}
use Rattle.std.proofs.lemmas.List.Sorted.{Contains-permutation, IsPermutation-map, IsPermutation-remove, IsPermutation-sym}
use Rattle.std.specs.List.{Contains, remove}
use Rattle.std.specs.Prelude.{slice_index_or}
use Rattle.tf_provider_log.specs.LogEntry.{log_entry_of}
use Rattle.tf_provider_log.specs.declared.entry.LogEntry.{LogEntry}
use Rattle.tf_provider_log.specs.declared.entry.LogEntry.TheVariants.{Answered}
use Rattle.tf_provider_protocol.specs.Meaning.{Asked, asked}
use Rattle.tf_provider_protocol.specs.declared.request.Reply.{Reply}
use Rattle.tf_provider_protocol.specs.declared.request.Request.{Request}
use Rattle.tf_provider_remote.specs.declared.flights.Flight.{Flight}
use Rattle.tf_session.specs.Calls.{TakesUpOnly, calls_made, calls_taken_up, request_in}
use Rattle.tf_session.specs.declared.calls.Calls.{Calls}

-- ---- lists

-- what is in a list with one item more is in the list, or is that item
one_left : {X Y : Type 0} (f : X → Y) (xs : List X) (x : X) (rest : List Y) (q : Y) → Contains (map f (xs ++ x ∷ []) ++ rest) q → Contains (map f xs ++ rest) q ⊎ Contains (f x ∷ []) q
one_left f xs x rest q h =
    elim (Contains-append_cases (map f (xs ++ x ∷ [])) rest q h) [
      | inl there ↦ (elim (Contains-append_cases (map f xs) (f x ∷ []) q (subst (λ l. Contains l q) (map-append f xs (x ∷ [])) there)) [
        | inl old ↦ inl (Contains-append_left (map f xs) rest q old)
        | inr new ↦ inr new
      ])
      | inr there ↦ inl (Contains-append_right (map f xs) rest q there)
    ]

one_right : {X Y : Type 0} (f : X → Y) (rest : List Y) (xs : List X) (x : X) (q : Y) → Contains (rest ++ map f (xs ++ x ∷ [])) q → Contains (rest ++ map f xs) q ⊎ Contains (f x ∷ []) q
one_right f rest xs x q h =
    elim (Contains-append_cases rest (map f (xs ++ x ∷ [])) q h) [
      | inl there ↦ inl (Contains-append_left rest (map f xs) q there)
      | inr there ↦ (elim (Contains-append_cases (map f xs) (f x ∷ []) q (subst (λ l. Contains l q) (map-append f xs (x ∷ [])) there)) [
        | inl old ↦ inl (Contains-append_right rest (map f xs) q old)
        | inr new ↦ inr new
      ])
    ]

-- what is in the first part of a list is in the list
in_part : {Y : Type 0} (count : ℕ) (ys : List Y) (q : Y) → Contains (take count ys) q → Contains ys q
in_part count ys q h = subst (λ l. Contains l q) (take-append-drop count ys) (Contains-append_left (take count ys) (drop count ys) q h)

-- what is in a list whose first items went behind another one is in both as they were
sent_back : {X Y : Type 0} (f : X → Y) (ws fs : List X) (count : ℕ) (es : List Y) (q : Y) → Contains (map f (fs ++ take count ws) ++ es) q → Contains (map f ws ++ (map f fs ++ es)) q
sent_back f ws fs count es q h =
    elim (Contains-append_cases (map f (fs ++ take count ws)) es q h) [
      | inl there ↦ (elim (Contains-append_cases (map f fs) (map f (take count ws)) q (subst (λ l. Contains l q) (map-append f fs (take count ws)) there)) [
        | inl flies ↦ Contains-append_right (map f ws) (map f fs ++ es) q (Contains-append_left (map f fs) es q flies)
        | inr sent ↦ Contains-append_left (map f ws) (map f fs ++ es) q (in_part count (map f ws) q (rw (take-map f count ws) sent))
      ])
      | inr ended ↦ Contains-append_right (map f ws) (map f fs ++ es) q (Contains-append_right (map f fs) es q ended)
    ]

-- what is in a list without an item, or in one with that item more, is in the lists as they were
ended_back : {X Y Z : Type 0} (f : X → Y) (g : Z → Y) (xs : List X) (i : ℕ) (x : X) (zs : List Z) (z : Z) (q : Y) → i < length xs → x ≡ slice_index_or xs i x → g z ≡ f x
    → Contains (map f (remove xs i) ++ map g (zs ++ z ∷ [])) q → Contains (map f xs ++ map g zs) q
ended_back f g xs i x zs z q within is same h =
    let back = IsPermutation-sym (map f xs) (f x ∷ map f (remove xs i)) (IsPermutation-map f xs (x ∷ remove xs i) (IsPermutation-remove xs i x within is)) in
    elim (one_right g (map f (remove xs i)) zs z q h) [
      | inl old ↦ (elim (Contains-append_cases (map f (remove xs i)) (map g zs) q old) [
        | inl left ↦ Contains-append_left (map f xs) (map g zs) q (Contains-permutation _ _ q back (Contains-append_right (f x ∷ []) (map f (remove xs i)) q left))
        | inr there ↦ Contains-append_right (map f xs) (map g zs) q there
      ])
      | inr new ↦ Contains-append_left (map f xs) (map g zs) q (Contains-permutation _ _ q back (Contains-append_left (f x ∷ []) (map f (remove xs i)) q (rw (sym same) new)))
    ]

-- ---- the calls of a session

pub only_same : (qs : List Asked) (c d : Calls) → d.waiting.flights.items ≡ c.waiting.flights.items → d.flights.flights.items ≡ c.flights.flights.items → d.entries.items ≡ c.entries.items → TakesUpOnly qs c d
only_same qs c d w f e = record { each = λ q h. inl (rw (← w, ← f, ← e) h) }

pub only_then : (qs : List Asked) (a b c : Calls) → TakesUpOnly qs a b → TakesUpOnly qs b c → TakesUpOnly qs a c
only_then qs a b c one other = record { each = λ q h. elim (other.each q h) [ inl there ↦ one.each q there | inr new ↦ inr new ] }

pub only_more : (qs rs : List Asked) (a b : Calls) → ((q : Asked) → Contains qs q → Contains rs q) → TakesUpOnly qs a b → TakesUpOnly rs a b
only_more qs rs a b more one = record { each = λ q h. elim (one.each q h) [ inl there ↦ inl there | inr new ↦ inr (more q new) ] }

-- one request more waits
pub only_waits : (c d : Calls) (f : Flight) → d.waiting.flights.items ≡ c.waiting.flights.items ++ f ∷ [] → d.flights ≡ c.flights → d.entries ≡ c.entries → TakesUpOnly (asked f.request ∷ []) c d
only_waits c d f waits flights entries = record { each = λ q h. one_left (λ (f : Flight). asked f.request) c.waiting.flights.items f (calls_made c) q (rw (← waits, ← flights, ← entries) h) }

-- requests that waited are in flight
pub only_sent : (c d : Calls) (count : ℕ) → d.waiting.flights.items ≡ [] → d.flights.flights.items ≡ c.flights.flights.items ++ take count c.waiting.flights.items → d.entries.items ≡ c.entries.items → TakesUpOnly [] c d
only_sent c d count none flights entries = record {
  each = λ q h.
      inl (sent_back (λ (f : Flight). asked f.request) c.waiting.flights.items c.flights.flights.items count (map (λ e. request_in (log_entry_of e)) c.entries.items) q
      (subst (λ (x : List Flight). Contains (map (λ f. asked f.request) x ++ map (λ e. request_in (log_entry_of e)) c.entries.items) q) flights
      (rw (← entries) (subst (λ (x : List Flight). Contains (map (λ f. asked f.request) x ++ calls_made d) q) none h))));
}

-- one call more has ended
answered_or_new : (c d : Calls) (r : Request) (a : Reply) → d.waiting ≡ c.waiting → d.flights ≡ c.flights → d.entries.items ≡ c.entries.items ++ Answered r a ∷ [] → (q : Asked) → Contains (calls_taken_up d) q
    → Contains (calls_taken_up c) q ⊎ Contains (asked r ∷ []) q
answered_or_new c d r a waiting flights entries q h =
    let ws = map (λ (f : Flight). asked f.request) c.waiting.flights.items in
    let fs = map (λ (f : Flight). asked f.request) c.flights.flights.items in
    let now : Contains (ws ++ (fs ++ map (λ e. request_in (log_entry_of e)) (c.entries.items ++ Answered r a ∷ []))) q = rw (← waiting, ← flights, ← entries) h in
    elim (Contains-append_cases ws (fs ++ map (λ e. request_in (log_entry_of e)) (c.entries.items ++ Answered r a ∷ [])) q now) [
      | inl waits ↦ inl (Contains-append_left ws (calls_made c) q waits)
      | inr there ↦ (elim (one_right (λ (e : LogEntry). request_in (log_entry_of e)) fs c.entries.items (Answered r a) q there) [
        | inl old ↦ inl (Contains-append_right ws (calls_made c) q old)
        | inr new ↦ inr new
      ])
    ]

pub only_answered : (c d : Calls) (r : Request) (a : Reply) → d.waiting ≡ c.waiting → d.flights ≡ c.flights → d.entries.items ≡ c.entries.items ++ Answered r a ∷ [] → TakesUpOnly (asked r ∷ []) c d
only_answered c d r a waiting flights entries = record { each = answered_or_new c d r a waiting flights entries }

-- a call that was in flight has ended
ended_before : (c d : Calls) (i : ℕ) (f : Flight) (a : Reply) → i < length c.flights.flights.items → f ≡ slice_index_or c.flights.flights.items i f → d.waiting ≡ c.waiting → d.flights.flights.items ≡ remove c.flights.flights.items i
    → d.entries.items ≡ c.entries.items ++ Answered f.request a ∷ [] → (q : Asked) → Contains (calls_taken_up d) q → Contains (calls_taken_up c) q
ended_before c d i f a within is waiting flights entries q h =
    let ws = map (λ (f : Flight). asked f.request) c.waiting.flights.items in
    let now : Contains (ws ++ (map (λ f. asked f.request) (remove c.flights.flights.items i) ++ map (λ e. request_in (log_entry_of e)) (c.entries.items ++ Answered f.request a ∷ []))) q = rw (← waiting, ← flights, ← entries) h in
    elim (Contains-append_cases ws _ q now) [
      | inl waits ↦ Contains-append_left ws (calls_made c) q waits
      | inr there ↦ Contains-append_right ws (calls_made c) q (ended_back (λ (f : Flight). asked f.request) (λ (e : LogEntry). request_in (log_entry_of e)) c.flights.flights.items i f c.entries.items (Answered f.request a) q within is refl there)
    ]

pub only_ended : (c d : Calls) (i : ℕ) (f : Flight) (a : Reply) → i < length c.flights.flights.items → f ≡ slice_index_or c.flights.flights.items i f → d.waiting ≡ c.waiting → d.flights.flights.items ≡ remove c.flights.flights.items i
    → d.entries.items ≡ c.entries.items ++ Answered f.request a ∷ [] → TakesUpOnly [] c d
only_ended c d i f a within is waiting flights entries = record { each = λ q h. inl (ended_before c d i f a within is waiting flights entries q h) }
