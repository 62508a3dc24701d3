-- It can be told whether pairs lead from one number to another, and which resources are late.
use Rattle.std.proofs.Common.{◌≡◌, ◌⊎◌, ◌↔◌, ◌++◌, ◌<◌, inl, inr, ℕ, zero, suc, Bool, true, false, List, [], ◌∷◌, length, refl, sym, ap, subst, arith}
use Rattle.std.proofs.lemmas.Bool.{cases_eq}
use Rattle.std.proofs.lemmas.List.Elements.{Contains-append_cases, Contains-append_left, Contains-append_right}
use Rattle.std.specs.Prelude.{Contains}
use Rattle.tf_graph.proofs.Edges.{contains_cases, contains_head, contains_tail}
use Rattle.tf_graph.specs.Digraph.{Digraph}
use Rattle.tf_graph.specs.NodeSet.{has}
use Rattle.tf_graph.specs.Path.{Path, direct, joined, onward}
use Rattle.tf_plan_planner.proofs.Distinct.{in_map, to_map}
use Rattle.tf_plan_planner.proofs.Tied.{path_too}
use Rattle.tf_plan_order.specs.Late.{IsLate, Leads}
use Rattle.tf_plan_order.specs.Stored.{DependsOn, turned}

-- it holds, or it doesn't
abbrev pub IsDecided : Type 0 → Type 0
IsDecided P = P ⊎ (P → ⊥)

-- what is decided has a test
pub tested : (P : Type 0) → IsDecided P → (b : Bool) × ((b ≡ true) ↔ P)
tested P (inl holds) = (true, (λ e. holds, λ h. refl))
tested P (inr fails) = (false, (λ e. absurd (cc), λ h. absurd (fails h)))

decided_either : (P Q : Type 0) → IsDecided P → IsDecided Q → IsDecided (P ⊎ Q)
decided_either P Q (inl p) q = inl (inl p)
decided_either P Q (inr fails) (inl q) = inl (inr q)
decided_either P Q (inr fails) (inr not) = inr (λ h. elim h [ inl p ↦ fails p | inr q ↦ not q ])

decided_both : (P Q : Type 0) → IsDecided P → IsDecided Q → IsDecided (P × Q)
decided_both P Q (inl p) (inl q) = inl (p, q)
decided_both P Q (inl p) (inr not) = inr (λ h. not h.1)
decided_both P Q (inr fails) q = inr (λ h. fails h.0)

decided_true : (b : Bool) → IsDecided (b ≡ true)
decided_true true = inl refl
decided_true false = inr (λ e. absurd (cc))

decided_number : (m n : ℕ) → IsDecided (m ≡ n)
decided_number m n = cases_eq m n

-- some number below another is such a one, or none is
decided_below : (P : ℕ → Type 0) → ((m : ℕ) → IsDecided (P m)) → (n : ℕ) → IsDecided ((m : ℕ) × (m < n) × P m)
decided_below P each zero = inr (λ h. omega (arith, h.1))
decided_below P each (suc n) = elim (decided_below P each n) [
  | inl found ↦ inl (found.0, omega (arith, found.1), found.2)
  | inr none ↦ elim (each n) [
    | inl here ↦ inl (n, omega arith, here)
    | inr fails ↦ inr (λ h. elim (cases_eq h.0 n) [ inl same ↦ fails (subst P same h.2) | inr other ↦ none (h.0, omega (arith, h.1, other), h.2) ])
  ]
]

-- ---- paths along pairs

pub nothing_in : (x : ℕ × ℕ) → Contains [] x → ⊥
nothing_in x c = omega (arith, c.1)

-- the same number, or a path to it
abbrev IsAtOrLed : List (ℕ × ℕ) → ℕ → ℕ → Type 0
IsAtOrLed pairs a b = (a ≡ b) ⊎ Path (DependsOn pairs) a b

no_path : (a b : ℕ) → Path (DependsOn []) a b → ⊥
no_path _ _ (direct a b c) = nothing_in (a, b) c
no_path _ _ (onward a b c e p) = nothing_in (a, b) e

-- a path along one pair more goes without it, or to it and on from it
split : (p : ℕ × ℕ) (pairs : List (ℕ × ℕ)) (a b : ℕ) → Path (DependsOn (p ∷ pairs)) a b → Path (DependsOn pairs) a b ⊎ (IsAtOrLed pairs a p.0 × IsAtOrLed pairs p.1 b)
split p pairs _ _ (direct a b c) = elim (contains_cases (a, b) p pairs c) [
  | inl here ↦ inr (inl (sym (ap (λ (q : ℕ × ℕ). q.0) here)), inl (ap (λ (q : ℕ × ℕ). q.1) here))
  | inr rest ↦ inl (direct a b rest)
]
split p pairs _ _ (onward a c b e path) =
    let later = split p pairs c b path in
    elim (contains_cases (a, c) p pairs e) [
      | inl here ↦
          let first : a ≡ p.0 = sym (ap (λ (q : ℕ × ℕ). q.0) here) in
          let second : c ≡ p.1 = sym (ap (λ (q : ℕ × ℕ). q.1) here) in
          elim later [ inl on ↦ inr (inl first, inr (subst (λ (k : ℕ). Path (DependsOn pairs) k b) second on)) | inr both ↦ inr (inl first, both.1) ]
      | inr rest ↦ elim later [
        | inl on ↦ inl (onward a c b rest on)
        | inr both ↦
            inr
            (elim both.0 [ inl same ↦ inr (subst (λ (k : ℕ). Path (DependsOn pairs) a k) same (direct a c rest)) | inr on ↦ inr (onward a c p.0 rest on) ], both.1)
      ]
    ]

-- and back
by_pair : (p : ℕ × ℕ) (pairs : List (ℕ × ℕ)) (a b : ℕ) → IsAtOrLed pairs a p.0 → IsAtOrLed pairs p.1 b → Path (DependsOn (p ∷ pairs)) a b
by_pair p pairs a b to on =
    let more = λ (x y : ℕ) (q : Path (DependsOn pairs) x y). path_too (DependsOn pairs) (DependsOn (p ∷ pairs)) (λ u v c. contains_tail (u, v) p pairs c) x y q in
    let step : Path (DependsOn (p ∷ pairs)) p.0 p.1 = direct p.0 p.1 (contains_head (p.0, p.1) p pairs refl) in
    let ended : Path (DependsOn (p ∷ pairs)) p.0 b =
    elim on [ inl same ↦ subst (λ (k : ℕ). Path (DependsOn (p ∷ pairs)) p.0 k) same step | inr path ↦ joined p.0 p.1 b step (more p.1 b path) ] in
    elim to [ inl same ↦ subst (λ (k : ℕ). Path (DependsOn (p ∷ pairs)) k b) (sym same) ended | inr path ↦ joined a p.0 b (more a p.0 path) ended ]

pub decided_path : (pairs : List (ℕ × ℕ)) (a b : ℕ) → IsDecided (Path (DependsOn pairs) a b)
decided_path [] a b = inr (no_path a b)
decided_path (p ∷ pairs) a b =
    let at = λ (x y : ℕ). decided_either (x ≡ y) (Path (DependsOn pairs) x y) (decided_number x y) (decided_path pairs x y) in
    elim (decided_path pairs a b) [
      | inl path ↦ inl (path_too (DependsOn pairs) (DependsOn (p ∷ pairs)) (λ u v c. contains_tail (u, v) p pairs c) a b path)
      | inr none ↦ elim (decided_both (IsAtOrLed pairs a p.0) (IsAtOrLed pairs p.1 b) (at a p.0) (at p.1 b)) [
        | inl both ↦ inl (by_pair p pairs a b both.0 both.1)
        | inr fails ↦ inr (λ path. elim (split p pairs a b path) [ inl less ↦ none less | inr both ↦ fails both ])
      ]
    ]

-- ---- late resources

-- the pairs of two graphs, turned round
abbrev both_turned : Digraph → Digraph → List (ℕ × ℕ)
both_turned g h = turned g.edges ++ turned h.edges

turned_in : (pairs : List (ℕ × ℕ)) (a b : ℕ) → Contains pairs (b, a) → Contains (turned pairs) (a, b)
turned_in pairs a b c = to_map (λ (p : ℕ × ℕ). (p.1, p.0)) pairs (b, a) c

turned_back : (pairs : List (ℕ × ℕ)) (a b : ℕ) → Contains (turned pairs) (a, b) → Contains pairs (b, a)
turned_back pairs a b c =
    let found = in_map (λ (p : ℕ × ℕ). (p.1, p.0)) pairs (a, b) c in
    let same : found.0 ≡ (b, a) = ap (λ (q : ℕ × ℕ). (q.1, q.0)) found.2 in
    subst (Contains pairs) same found.1

-- a path the other way round
turned_path : (edges pairs : List (ℕ × ℕ)) → ((u v : ℕ) → Contains edges (u, v) → Contains pairs (v, u)) → (a b : ℕ) → Path (DependsOn edges) a b → Path (DependsOn pairs) b a
turned_path edges pairs f _ _ (direct a b c) = direct b a (f a b c)
turned_path edges pairs f _ _ (onward a c b e p) = joined b c a (turned_path edges pairs f c b p) (direct c a (f a c e))

module _ (g h : Digraph) where
  led_too : (a b : ℕ) → Leads g h a b → Path (DependsOn (both_turned g h)) a b
  led_too a b (inl r) = turned_path g.edges (both_turned g h) (λ u v c. Contains-append_left (turned g.edges) (turned h.edges) (v, u) (turned_in g.edges v u c)) b a r
  led_too a b (inr r) = turned_path h.edges (both_turned g h) (λ u v c. Contains-append_right (turned g.edges) (turned h.edges) (v, u) (turned_in h.edges v u c)) b a r

  all_led : (a b : ℕ) → Path (Leads g h) a b → Path (DependsOn (both_turned g h)) a b
  all_led _ _ (direct a b l) = led_too a b l
  all_led _ _ (onward a c b l p) = joined a c b (led_too a c l) (all_led c b p)

  one_led : (a b : ℕ) → Contains (both_turned g h) (a, b) → Leads g h a b
  one_led a b c = elim (Contains-append_cases (turned g.edges) (turned h.edges) (a, b) c) [
    | inl first ↦ inl (direct b a (turned_back g.edges a b first))
    | inr second ↦ inr (direct b a (turned_back h.edges a b second))
  ]

  decided_led : (a b : ℕ) → IsDecided (Path (Leads g h) a b)
  decided_led a b = elim (decided_path (both_turned g h) a b) [
    | inl path ↦ inl (path_too (DependsOn (both_turned g h)) (Leads g h) one_led a b path)
    | inr none ↦ inr (λ path. none (all_led a b path))
  ]

marked_within : (marked : List Bool) (m : ℕ) → has marked m ≡ true → m < length marked
marked_within [] m e = absurd (cc)
marked_within (b ∷ marked) zero e = omega arith
marked_within (b ∷ marked) (suc m) e = let h = marked_within marked m e in omega (arith, h)

pub decided_late : (g h : Digraph) (marked : List Bool) (n : ℕ) → IsDecided (IsLate g h marked n)
decided_late g h marked n =
    elim (decided_below (λ m. (has marked m ≡ true) × ((m ≡ n) ⊎ Path (Leads g h) m n))
    (λ m. decided_both (has marked m ≡ true) ((m ≡ n) ⊎ Path (Leads g h) m n) (decided_true (has marked m)) (decided_either (m ≡ n) (Path (Leads g h) m n) (decided_number m n) (decided_led g h m n)))
    (length marked)) [
      | inl found ↦ inl (found.0, found.2.0, found.2.1)
      | inr none ↦ inr (λ late. none (late.0, marked_within marked late.0 late.1, (late.1, late.2)))
    ]
