-- Walks that go on by one member or one element.
use Rattle.std.proofs.Common.{◌≡◌, ℕ, zero, suc, ◌+◌, ◌<◌, List, [], ◌∷◌, ◌++◌, length, get_or, take, string_bytes, refl, sym, ◌∙◌, subst, arith, add-zero}
use Rattle.serde_json.proofs.Views.{Entry}
use Rattle.serde_json.specs.Data.{Data, Members, no_members, member}
use Rattle.serde_json.specs.View.{view, items_view, members_view}
use Rattle.serde_json.specs.declared.value.Value.{Value}
use Rattle.tf_config_refusal.specs.Check.{Check, AllMet, IsFirst}
use Rattle.tf_config_refusal.specs.Walk.{each, each_item, Builds}
use Rattle.tf_config_refusal.proofs.Checks.{AllMet-append, AllMet-left, AllMet-right, IsFirst-left, IsFirst-right}

module _ {D : Type 0} (IsMet : D → Type 0) where
  -- one more member whose checks are met
  pub met_more : (checks : List ℕ → Data → List (Check D)) (done : List Entry) (e : Entry)
      → AllMet IsMet (each checks (members_view done)) → AllMet IsMet (checks (string_bytes e.0) (view e.1)) → AllMet IsMet (each checks (members_view (done ++ e ∷ [])))
  met_more checks [] e met more = AllMet-append IsMet (checks (string_bytes e.0) (view e.1)) [] more tt
  met_more checks (d ∷ done) e met more =
      let own = checks (string_bytes d.0) (view d.1) in
      let others = each checks (members_view done) in
      AllMet-append IsMet own (each checks (members_view (done ++ e ∷ []))) (AllMet-left IsMet own others met)
      (met_more checks done e (AllMet-right IsMet own others met) more)

  -- one more element whose checks are met
  pub met_more_item : (checks : ℕ → Data → List (Check D)) (vs : List Value) (n i : ℕ) (d : Value) → i < length vs
      → AllMet IsMet (each_item checks n (items_view (take i vs))) → AllMet IsMet (checks (n + i) (view (get_or vs i d))) → AllMet IsMet (each_item checks n (items_view (take (suc i) vs)))
  met_more_item checks [] n i d within met more = absurd (omega arith)
  met_more_item checks (v ∷ vs) n zero d within met more =
      AllMet-append IsMet (checks n (view v)) [] (rw add-zero at more) tt
  met_more_item checks (v ∷ vs) n (suc i) d within met more =
      let own = checks n (view v) in
      let others = each_item checks (n + 1) (items_view (take i vs)) in
      let same : n + suc i ≡ (n + 1) + i = omega arith in
      AllMet-append IsMet own (each_item checks (n + 1) (items_view (take (suc i) vs))) (AllMet-left IsMet own others met)
      (met_more_item checks vs (n + 1) i d (omega arith) (AllMet-right IsMet own others met) (subst (λ m. AllMet IsMet (checks m (view (get_or vs i d)))) same more))

module _ {D K : Type 0} (IsMet : D → Type 0) (Fails : D → K → Type 0) (place : List ℕ) (way : K) where
  -- the first fault of all is that of the first member that has one
  pub fails_at : (checks : List ℕ → Data → List (Check D)) (done : List Entry) (e : Entry) (more : List Entry)
      → AllMet IsMet (each checks (members_view done)) → IsFirst IsMet Fails place way (checks (string_bytes e.0) (view e.1)) → IsFirst IsMet Fails place way (each checks (members_view (done ++ e ∷ more)))
  fails_at checks [] e more met first = IsFirst-left IsMet Fails place way (checks (string_bytes e.0) (view e.1)) (each checks (members_view more)) first
  fails_at checks (d ∷ done) e more met first =
      let own = checks (string_bytes d.0) (view d.1) in
      let others = each checks (members_view done) in
      IsFirst-right IsMet Fails place way own (each checks (members_view (done ++ e ∷ more))) (AllMet-left IsMet own others met)
      (fails_at checks done e more (AllMet-right IsMet own others met) first)

  -- and of the first element that has one
  pub fails_at_item : (checks : ℕ → Data → List (Check D)) (vs : List Value) (n i : ℕ) (d : Value) → i < length vs
      → AllMet IsMet (each_item checks n (items_view (take i vs))) → IsFirst IsMet Fails place way (checks (n + i) (view (get_or vs i d))) → IsFirst IsMet Fails place way (each_item checks n (items_view vs))
  fails_at_item checks [] n i d within met first = absurd (omega arith)
  fails_at_item checks (v ∷ vs) n zero d within met first =
      IsFirst-left IsMet Fails place way (checks n (view v)) (each_item checks (n + 1) (items_view vs)) (rw add-zero at first)
  fails_at_item checks (v ∷ vs) n (suc i) d within met first =
      let own = checks n (view v) in
      let others = each_item checks (n + 1) (items_view (take i vs)) in
      let same : n + suc i ≡ (n + 1) + i = omega arith in
      IsFirst-right IsMet Fails place way own (each_item checks (n + 1) (items_view vs)) (AllMet-left IsMet own others met)
      (fails_at_item checks vs (n + 1) i d (omega arith) (AllMet-right IsMet own others met) (subst (λ m. IsFirst IsMet Fails place way (checks m (view (get_or vs i d)))) same first))

module _ {B : Type 0} (Adds : List ℕ → Data → B → B → Type 0) where
  -- one more member adds what it says
  pub builds_more : (done : List Entry) (e : Entry) (a b c : B) → Builds Adds (members_view done) a b → Adds (string_bytes e.0) (view e.1) b c → Builds Adds (members_view (done ++ e ∷ [])) a c
  builds_more [] e a b c same adds = (c, subst (λ x. Adds (string_bytes e.0) (view e.1) x c) (sym same) adds, refl)
  builds_more (d ∷ done) e a b c builds adds = (builds.0, builds.1, builds_more done e builds.0 b c builds.2 adds)

  -- what each member keeps, all of them keep
  pub Builds-keeps : (P : B → Type 0) → ((k : List ℕ) (d : Data) (a b : B) → Adds k d a b → P a → P b) → (ms : Members) (a b : B) → Builds Adds ms a b → P a → P b
  Builds-keeps P one no_members a b same h = subst P same h
  Builds-keeps P one (member k d ms) a b builds h = Builds-keeps P one ms builds.0 b builds.2 (one k d a builds.0 builds.1 h)

  -- members lead to one result at most, if each adds one thing at most
  pub Builds-same : ((k : List ℕ) (d : Data) (a b c : B) → Adds k d a b → Adds k d a c → b ≡ c) → (ms : Members) (a b c : B) → Builds Adds ms a b → Builds Adds ms a c → b ≡ c
  Builds-same one no_members a b c h j = sym h ∙ j
  Builds-same one (member k d ms) a b c h j =
      Builds-same one ms j.0 b c (subst (λ x. Builds Adds ms x b) (one k d a h.0 j.0 h.1 j.1) h.2) j.2

  module _ {D : Type 0} (IsMet : D → Type 0) (checks : List ℕ → Data → List (Check D)) where
    -- what members lead to shows that their checks are met, if that is so of each
    pub Builds-met : ((k : List ℕ) (d : Data) (a b : B) → Adds k d a b → AllMet IsMet (checks k d)) → (ms : Members) (a b : B) → Builds Adds ms a b → AllMet IsMet (each checks ms)
    Builds-met one no_members a b h = tt
    Builds-met one (member k d ms) a b h = AllMet-append IsMet (checks k d) (each checks ms) (one k d a h.0 h.1) (Builds-met one ms h.0 b h.2)

    -- and members whose checks are met lead somewhere, if that is so of each
    pub Builds-from_met : ((k : List ℕ) (d : Data) (a : B) → AllMet IsMet (checks k d) → (b : B) × Adds k d a b) → (ms : Members) (a : B) → AllMet IsMet (each checks ms) → (b : B) × Builds Adds ms a b
    Builds-from_met one no_members a h = (a, refl)
    Builds-from_met one (member k d ms) a h =
        let first = one k d a (AllMet-left IsMet (checks k d) (each checks ms) h) in
        let others = Builds-from_met one ms first.0 (AllMet-right IsMet (checks k d) (each checks ms) h) in
        (others.0, (first.0, first.1, others.1))
