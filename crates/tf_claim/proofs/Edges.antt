-- The edges into an action, as a list of sources and as places in the graph's list.
use Rattle.std.proofs.Common.{◌≡◌, ◌≢◌, ◌<◌, ◌+◌, ◌==◌, ℕ, zero, suc, Bool, true, false, List, [], ◌∷◌, length, refl, arith, inl, inr, if◌then◌else◌}
use Rattle.std.proofs.lemmas.Bool.{cases_eq, eq-eqb, ne_eqb}
use Rattle.tf_graph.specs.Digraph.{edge_at, sources_into}
use Rattle.tf_claim.specs.Views.{times}
use Rattle.tf_claim.specs.Claims.{how_many}
use Rattle.tf_claim.proofs.Counting.{times-cons_other}

sources-cons_into : (x : ℕ × ℕ) (xs : List (ℕ × ℕ)) (n : ℕ) → x.1 ≡ n → sources_into (x ∷ xs) n ≡ x.0 ∷ sources_into xs n
sources-cons_into x xs n e = rw (eq-eqb x.1 n e) refl

sources-cons_other : (x : ℕ × ℕ) (xs : List (ℕ × ℕ)) (n : ℕ) → x.1 ≢ n → sources_into (x ∷ xs) n ≡ sources_into xs n
sources-cons_other x xs n ne = rw (ne_eqb x.1 n ne) refl

-- what stands in the list of sources is the source of an edge into the action
pub record Leads (edges : List (ℕ × ℕ)) (m n : ℕ) : Type 0 where
  pub edge : ℕ
  pub below : edge < length edges
  pub from : (edge_at edges edge).0 ≡ m
  pub into : (edge_at edges edge).1 ≡ n

later : (x : ℕ × ℕ) (xs : List (ℕ × ℕ)) (m n : ℕ) → Leads xs m n → Leads (x ∷ xs) m n
later x xs m n l =
    let less = l.below in
    record { edge = suc l.edge; below = omega arith; from = l.from; into = l.into }

pub leads : (edges : List (ℕ × ℕ)) (m n : ℕ) → 0 < times m (sources_into edges n) → Leads edges m n
leads [] m n h = absurd (omega arith)
leads (x ∷ xs) m n h =
    elim (cases_eq x.1 n) [
      | inl here ↦
          let h' : 0 < times m (x.0 ∷ sources_into xs n) = rw (sources-cons_into x xs n here) at h in
          elim (cases_eq x.0 m) [
            | inl is ↦ record { edge = 0; below = omega arith; from = is; into = here }
            | inr ne ↦
                let t = times-cons_other m x.0 (sources_into xs n) ne in
                later x xs m n (leads xs m n (omega arith))
          ]
      | inr other ↦
          let h' : 0 < times m (sources_into xs n) = rw (sources-cons_other x xs n other) at h in
          later x xs m n (leads xs m n h')
    ]

-- counting from the first number on
how_many-first : (p : ℕ → Bool) (n : ℕ) → how_many p (suc n) ≡ (if p 0 then 1 else 0) + how_many (λ i. p (suc i)) n
how_many-first p zero = refl
how_many-first p (suc n) = let r = how_many-first p n in omega arith

pub length-sources : (edges : List (ℕ × ℕ)) (n : ℕ) → length (sources_into edges n) ≡ how_many (λ e. (edge_at edges e).1 == n) (length edges)
length-sources [] n = refl
length-sources (x ∷ xs) n =
    let r = length-sources xs n in
    let f = how_many-first (λ e. (edge_at (x ∷ xs) e).1 == n) (length xs) in
    elim (cases_eq x.1 n) [
      | inl here ↦
          let t : (x.1 == n) ≡ true = eq-eqb x.1 n here in
          rw (sources-cons_into x xs n here, f, t) (omega arith)
      | inr other ↦
          let t : (x.1 == n) ≡ false = ne_eqb x.1 n other in
          rw (sources-cons_other x xs n other, f, t) (omega arith)
    ]
