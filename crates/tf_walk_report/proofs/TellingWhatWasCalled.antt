-- Entries are those that are told exactly where each is told, and there are as many as are told.
use Rattle.std.proofs.Common.{◌≡◌, ◌≢◌, ◌<◌, ◌==◌, ℕ, zero, suc, true, false, List, [], ◌∷◌, length, Option, Some, None, All, refl, sym, ap, ◌∙◌, subst, arith, inl, inr, eq-eqb, ne_eqb}
use Rattle.std.specs.Prelude.{is_some, nat_eq, slice_index, slice_index_or}
use Rattle.std.proofs.lemmas.Bool.{cases_eq, true≢false}
use Rattle.std.proofs.lemmas.List.{length-map}
use Rattle.tf_claim.specs.Claims.{how_many}
use Rattle.tf_claim.proofs.Counting.{how_many-same}
use Rattle.tf_provider.specs.Entries.{actions_of}
use Rattle.tf_provider.specs.declared.journal.Entry.{Entry}
use Rattle.tf_walk_action.specs.Journal.{verdict_in}
use Rattle.tf_provider_protocol.specs.declared.verdict.Verdict.{Verdict}
use Rattle.tf_walk_report.proofs.Matching.{how_many-lt, how_many-stand, stands, nat_eq-same, nat_eq-other}

-- an action has a verdict where it stands among the entries
entered-stands : (entries : List Entry) (n : ℕ) → is_some (verdict_in entries n) ≡ stands (actions_of entries) n
entered-stands [] n = refl
entered-stands (e ∷ es) n =
    elim (cases_eq e.action n) [
      | inl is ↦
          let here : (e.action == n) ≡ true = eq-eqb e.action n is in
          let stand : nat_eq n e.action ≡ true = subst (λ k. nat_eq n k ≡ true) (sym is) (nat_eq-same n) in
          rw (here, stand) refl
      | inr ne ↦
          let here : (e.action == n) ≡ false = ne_eqb e.action n ne in
          let stand : nat_eq n e.action ≡ false = nat_eq-other n e.action (λ k. ne (sym k)) in
          rw (here, stand) (entered-stands es n)
    ]

-- what is told of each entry is told of the entry of an action
entry-told : (told : ℕ → Option Verdict) (entries : List Entry) (n : ℕ) (v : Verdict) → All (λ e. told e.action ≡ Some e.verdict) entries → verdict_in entries n ≡ Some v → told n ≡ Some v
entry-told told [] n v all is = absurd (cc)
entry-told told (e ∷ es) n v all is =
    elim (cases_eq e.action n) [
      | inl same ↦
          let here : (e.action == n) ≡ true = eq-eqb e.action n same in
          ap told (sym same) ∙ (all 0 e (omega arith) ∙ rw here at is)
      | inr ne ↦
          let here : (e.action == n) ≡ false = ne_eqb e.action n ne in
          entry-told told es n v (λ k d lt. all (suc k) d (omega arith)) (rw here at is)
    ]

-- the entry at a place is that of its action, where no action has two
entry-at : (entries : List Entry) (k : ℕ) (d : Entry) → k < length entries → ((i j : ℕ) → i < j → j < length (actions_of entries) → slice_index (actions_of entries) i ≢ slice_index (actions_of entries) j)
    → verdict_in entries (slice_index_or entries k d).action ≡ Some (slice_index_or entries k d).verdict
entry-at [] k d lt once = absurd (omega arith)
entry-at (e ∷ es) zero d lt once = rw (eq-eqb e.action e.action refl) refl
entry-at (e ∷ es) (suc k) d lt once =
    let there : slice_index (actions_of es) k ≡ (slice_index_or es k d).action = at_place es k (omega arith) in
    let ne : e.action ≢ (slice_index_or es k d).action = λ same. once 0 (suc k) (omega arith) (omega (arith, length-map es (λ x. x.action))) (same ∙ sym there) in
    rw (ne_eqb e.action (slice_index_or es k d).action ne) (entry-at es k d (omega arith) (λ i j lt inside. once (suc i) (suc j) (omega arith) (omega arith)))
  where
    at_place : (xs : List Entry) (i : ℕ) → i < length xs → slice_index (actions_of xs) i ≡ (slice_index_or xs i d).action
    at_place [] i inside = absurd (omega arith)
    at_place (x ∷ xs) zero inside = refl
    at_place (x ∷ xs) (suc i) inside = at_place xs i (omega arith)

abbrev pub Once : List Entry → Type 0
Once entries = (i j : ℕ) → i < j → j < length (actions_of entries) → slice_index (actions_of entries) i ≢ slice_index (actions_of entries) j

inside : (told : ℕ → Option Verdict) (count : ℕ) (entries : List Entry) → ((n : ℕ) → is_some (told n) ≡ true → n < count) → All (λ e. told e.action ≡ Some e.verdict) entries
    → (i : ℕ) → i < length (actions_of entries) → slice_index (actions_of entries) i < count
inside told count [] below all i lt = absurd (omega arith)
inside told count (e ∷ es) below all zero lt = below e.action (ap is_some (all 0 e (omega arith)))
inside told count (e ∷ es) below all (suc i) lt = inside told count es below (λ k d less. all (suc k) d (omega arith)) i (omega arith)

-- an action without an entry isn't told of, where there are as many entries as are told of
none-told : (told : ℕ → Option Verdict) (count : ℕ) (entries : List Entry) → Once entries → ((n : ℕ) → is_some (told n) ≡ true → n < count)
    → All (λ e. told e.action ≡ Some e.verdict) entries → length entries ≡ how_many (λ n. is_some (told n)) count
    → (n : ℕ) → stands (actions_of entries) n ≡ false → (o : Option Verdict) → told n ≡ o → None ≡ o
none-told told count entries once below all as_many n none None is = refl
none-told told count entries once below all as_many n none (Some v) is =
    let stand = how_many-stand (actions_of entries) count once (inside told count entries below all) in
    let less : how_many (stands (actions_of entries)) count < how_many (λ k. is_some (told k)) count =
    how_many-lt (stands (actions_of entries)) (λ k. is_some (told k)) count n (λ k there. one k (verdict_in entries k) refl (entered-stands entries k ∙ there)) (below n (ap is_some is)) (ap is_some is) none in
    absurd (omega (arith, length-map entries (λ e. e.action)))
  where
    one : (k : ℕ) (o : Option Verdict) → verdict_in entries k ≡ o → is_some (verdict_in entries k) ≡ true → is_some (told k) ≡ true
    one k None is there = absurd (true≢false (sym there ∙ ap is_some is))
    one k (Some v) is there = ap is_some (entry-told told entries k v all is)

-- each has the verdict that is told of it
pub as-told : (told : ℕ → Option Verdict) (count : ℕ) (entries : List Entry) → Once entries → ((n : ℕ) → is_some (told n) ≡ true → n < count)
    → All (λ e. told e.action ≡ Some e.verdict) entries → length entries ≡ how_many (λ n. is_some (told n)) count
    → (n : ℕ) → verdict_in entries n ≡ told n
as-told told count entries once below all as_many n = one (verdict_in entries n) refl
  where
    one : (o : Option Verdict) → verdict_in entries n ≡ o → verdict_in entries n ≡ told n
    one None is = is ∙ (none-told told count entries once below all as_many n (sym (entered-stands entries n) ∙ ap is_some is) (told n) refl)
    one (Some v) is = is ∙ sym (entry-told told entries n v all is)

-- where each has the verdict that is told of it, what is told of each entry is its own
pub told-all : (told : ℕ → Option Verdict) (entries : List Entry) → Once entries → ((n : ℕ) → verdict_in entries n ≡ told n) → All (λ e. told e.action ≡ Some e.verdict) entries
told-all told entries once same k d lt = sym (same (slice_index_or entries k d).action) ∙ entry-at entries k d lt once

-- and there are as many entries as are told of
pub told-many : (told : ℕ → Option Verdict) (count : ℕ) (entries : List Entry) → Once entries → ((n : ℕ) → is_some (told n) ≡ true → n < count) → ((n : ℕ) → verdict_in entries n ≡ told n)
    → length entries ≡ how_many (λ n. is_some (told n)) count
told-many told count entries once below same =
    let stand = how_many-stand (actions_of entries) count once (inside told count entries below (told-all told entries once same)) in
    let alike = how_many-same (stands (actions_of entries)) (λ n. is_some (told n)) count (λ n lt. sym (entered-stands entries n) ∙ ap is_some (same n)) in
    omega (arith, length-map entries (λ e. e.action))
