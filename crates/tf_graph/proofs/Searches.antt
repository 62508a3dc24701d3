-- A search for what a node reaches: one step on, and at its end.
use Rattle.std.proofs.Common.{◌≡◌, ◌||◌, ◌<◌, ◌≤◌, ◌⊎◌, ◌∷◌, ◌++◌, [], ℕ, zero, suc, List, Bool, true, false, cond, length, set, refl, sym, subst, ◌∙◌, arith, eqb, inl, inr}
use Rattle.std.specs.Prelude.{Contains}
use Rattle.std.proofs.lemmas.Bool.{cases_eq, cases_lt, or_cases, or_left, or_right, eq-eqb, eqb-true, false≢true, both_ways}
use Rattle.std.proofs.lemmas.List.{get_or-set_same, get_or-set_other, get_or_past}
use Rattle.std.proofs.lemmas.List.Elements.{Contains-append_left, Contains-append_right, Contains-push, Contains-push_cases, Contains-append_cases}
use Rattle.tf_graph.specs.Digraph.{Digraph, IsWithin, successors_of}
use Rattle.tf_graph.proofs.Edges.{start_inside, target-from_edge}
use Rattle.tf_graph.specs.Closure.{Table, IsClosure}
use Rattle.tf_graph.specs.Path.{Path, direct, onward, HasEdge, Reaches, joined}
use Rattle.tf_graph.specs.NodeSet.{has}
use Rattle.tf_graph.specs.Search.{row_of, missing, AreKnown, IsSearch}

fewer : (a b : Bool) → (a ≡ true → b ≡ true) → cond b 0 1 ≤ cond a 0 1
fewer true b f = rw (f refl) (omega arith)
fewer false true f = omega arith
fewer false false f = omega arith

-- more members, fewer missing
pub missing-le : (set more : List Bool) (n : ℕ) → ((k : ℕ) → has set k ≡ true → has more k ≡ true) → missing more n ≤ missing set n
unfolding missing
missing-le set more zero h = omega arith
missing-le set more (suc n) h =
    let rest : missing more n ≤ missing set n = missing-le set more n h in
    let here : cond (has more n) 0 1 ≤ cond (has set n) 0 1 = fewer (has set n) (has more n) (h n) in
    omega arith

-- a new member, one fewer
pub missing-lt : (set more : List Bool) (n node : ℕ) → ((k : ℕ) → has set k ≡ true → has more k ≡ true) → node < n → has set node ≡ false → has more node ≡ true → missing more n < missing set n
unfolding missing
missing-lt set more zero node h below was is = absurd (omega arith)
missing-lt set more (suc n) node h below was is = elim (cases_eq node n) [
  | inl here ↦
      let rest : missing more n ≤ missing set n = missing-le set more n h in
      let old : cond {A = ℕ} (has set n) 0 1 ≡ 1 = rw (← here, was) refl in
      let new : cond {A = ℕ} (has more n) 0 1 ≡ 0 = rw (← here, is) refl in
      omega arith
  | inr other ↦
      let rest : missing more n < missing set n = missing-lt set more n node h (omega arith) was is in
      let here : cond (has more n) 0 1 ≤ cond (has set n) 0 1 = fewer (has set n) (has more n) (h n) in
      omega arith
]

pub or_none : (a b : Bool) → (a || b) ≡ false → a ≡ false
or_none true b h = absurd (cc)
or_none false b h = refl

-- a set, and more: a node is added to it, and then another set
old_stays : (set more others : List Bool) (node : ℕ) → ((k : ℕ) → has more k ≡ ((has set k || eqb node k) || has others k)) → (k : ℕ) → has set k ≡ true → has more k ≡ true
old_stays set more others node is k h = is k ∙ or_left _ _ (or_left _ _ h)

node_comes : (set more others : List Bool) (node : ℕ) → ((k : ℕ) → has more k ≡ ((has set k || eqb node k) || has others k)) → has more node ≡ true
node_comes set more others node is = is node ∙ or_left _ _ (or_right _ _ (eq-eqb node node refl))

others_come : (set more others : List Bool) (node : ℕ) → ((k : ℕ) → has more k ≡ ((has set k || eqb node k) || has others k)) → (k : ℕ) → has others k ≡ true → has more k ≡ true
others_come set more others node is k h = is k ∙ or_right _ _ h

comes_from : (set more others : List Bool) (node : ℕ) → ((k : ℕ) → has more k ≡ ((has set k || eqb node k) || has others k)) → (k : ℕ) → has more k ≡ true → (has set k ≡ true) ⊎ ((node ≡ k) ⊎ (has others k ≡ true))
comes_from set more others node is k h = elim (or_cases _ _ (sym (is k) ∙ h)) [
  | inl first ↦ elim (or_cases _ _ first) [ inl old ↦ inl old | inr here ↦ inr (inl (eqb-true node k here)) ]
  | inr other ↦ inr (inr other)
]

-- a known node is taken over, with all that it reaches
pub settled-more : (g : Digraph) (rows : List (List Bool)) (known : List Bool) (start node : ℕ) (row more settled more_settled : List Bool) (pending : List ℕ) → AreKnown g rows known → has known node ≡ true → Reaches g start node → ((k : ℕ) → has more k ≡ ((has row k || eqb node k) || has (row_of rows node) k)) → ((k : ℕ) → has more_settled k ≡ ((has settled k || eqb node k) || has (row_of rows node) k)) → IsSearch g start row settled pending → IsSearch g start more more_settled pending × (has more node ≡ true)
settled-more g rows known start node row more settled more_settled pending are_known is_known reached row_is settled_is s =
    let others : List Bool = row_of rows node in (
      record {
        led = λ k h. elim (comes_from row more others node row_is k h) [
          | inl old ↦ s.led k old
          | inr new ↦ elim new [
            | inl here ↦ rw (← here) reached
            | inr other ↦ joined start node k reached (are_known.led node k is_known other)
          ]
        ];
        due = λ k h. elim (s.due k h) [ inl first ↦ inl first | inr old ↦ inr (old_stays row more others node row_is k old) ];
        inside = λ k h. elim (comes_from settled more_settled others node settled_is k h) [
          | inl old ↦ old_stays row more others node row_is k (s.inside k old)
          | inr new ↦ elim new [
            | inl here ↦ rw (← here) (node_comes row more others node row_is)
            | inr other ↦ others_come row more others node row_is k other
          ]
        ];
        closed = λ k t h e. elim (comes_from settled more_settled others node settled_is k h) [
          | inl old ↦ old_stays settled more_settled others node settled_is t (s.closed k t old e)
          | inr new ↦ elim new [
            | inl here ↦ others_come settled more_settled others node settled_is t (are_known.found node t is_known (direct node t (rw here e)))
            | inr other ↦ others_come settled more_settled others node settled_is t (are_known.found node t is_known (joined node k t (are_known.led node k is_known other) (direct k t e)))
          ]
        ];
        spread = λ k h. elim h [
          | inl first ↦ keep k (s.spread k (inl first))
          | inr member ↦ elim (comes_from row more others node row_is k member) [
            | inl old ↦ keep k (s.spread k (inr old))
            | inr new ↦ elim new [
              | inl here ↦ inr (inl (rw (← here) (node_comes settled more_settled others node settled_is)))
              | inr other ↦ inr (inl (others_come settled more_settled others node settled_is k other))
            ]
          ]
        ];
      },
      node_comes row more others node row_is,
    )
  where
    keep : (k : ℕ) → Contains pending k ⊎ ((has settled k ≡ true) ⊎ ((t : ℕ) → HasEdge g k t → has row t ≡ true)) → Contains pending k ⊎ ((has more_settled k ≡ true) ⊎ ((t : ℕ) → HasEdge g k t → has more t ≡ true))
    keep k h = elim h [
      | inl waits ↦ inl waits
      | inr q ↦ elim q [
        | inl old ↦ inr (inl (old_stays settled more_settled (row_of rows node) node settled_is k old))
        | inr all ↦ inr (inr (λ t e. old_stays row more (row_of rows node) node row_is t (all t e)))
      ]
    ]

contains_more : (pending rest : List ℕ) (node k : ℕ) → Contains (pending ++ rest) k → Contains ((pending ++ node ∷ []) ++ rest) k
contains_more pending rest node k h = elim (Contains-append_cases pending rest k h) [
  | inl early ↦ Contains-append_left (pending ++ node ∷ []) rest k (Contains-append_left pending (node ∷ []) k early)
  | inr late ↦ Contains-append_right (pending ++ node ∷ []) rest k late
]

-- a node that was reached for the first time becomes pending
pub pending-more : (g : Digraph) (start node : ℕ) (row more settled : List Bool) (pending rest : List ℕ) → Reaches g start node → ((k : ℕ) → has more k ≡ (has row k || eqb node k)) → IsSearch g start row settled (pending ++ rest) → IsSearch g start more settled ((pending ++ node ∷ []) ++ rest) × (has more node ≡ true)
pending-more g start node row more settled pending rest reached row_is s = (
  record {
    led = λ k h. elim (from k h) [ inl old ↦ s.led k old | inr here ↦ rw (← here) reached ];
    due = λ k h. elim (Contains-append_cases (pending ++ node ∷ []) rest k h) [
      | inl early ↦ elim (Contains-push_cases pending node k early) [
        | inl old ↦ stay_due k (s.due k (Contains-append_left pending rest k old))
        | inr here ↦ inr (rw (← here) comes)
      ]
      | inr late ↦ stay_due k (s.due k (Contains-append_right pending rest k late))
    ];
    inside = λ k h. stays k (s.inside k h);
    closed = s.closed;
    spread = λ k h. elim h [
      | inl first ↦ keep k (s.spread k (inl first))
      | inr member ↦ elim (from k member) [
        | inl old ↦ keep k (s.spread k (inr old))
        | inr here ↦ inl (rw (← here) (Contains-append_left (pending ++ node ∷ []) rest node (Contains-push pending node)))
      ]
    ];
  },
  comes,
)
  where
    stays : (k : ℕ) → has row k ≡ true → has more k ≡ true
    stays k h = row_is k ∙ or_left _ _ h

    comes : has more node ≡ true
    comes = row_is node ∙ or_right _ _ (eq-eqb node node refl)

    from : (k : ℕ) → has more k ≡ true → (has row k ≡ true) ⊎ (node ≡ k)
    from k h = elim (or_cases _ _ (sym (row_is k) ∙ h)) [ inl old ↦ inl old | inr here ↦ inr (eqb-true node k here) ]

    stay_due : (k : ℕ) → (k ≡ start) ⊎ (has row k ≡ true) → (k ≡ start) ⊎ (has more k ≡ true)
    stay_due k h = elim h [ inl first ↦ inl first | inr old ↦ inr (stays k old) ]

    keep : (k : ℕ) → Contains (pending ++ rest) k ⊎ ((has settled k ≡ true) ⊎ ((t : ℕ) → HasEdge g k t → has row t ≡ true)) → Contains ((pending ++ node ∷ []) ++ rest) k ⊎ ((has settled k ≡ true) ⊎ ((t : ℕ) → HasEdge g k t → has more t ≡ true))
    keep k h = elim h [
      | inl waits ↦ inl (contains_more pending rest node k waits)
      | inr q ↦ elim q [ inl old ↦ inr (inl old) | inr all ↦ inr (inr (λ t e. stays t (all t e))) ]
    ]

-- a node whose successors are all members, or that is settled, need not be pending
pub pending-less : (g : Digraph) (start node : ℕ) (row settled : List Bool) (pending : List ℕ) → (has settled node ≡ true) ⊎ ((t : ℕ) → HasEdge g node t → has row t ≡ true) → IsSearch g start row settled (pending ++ node ∷ []) → IsSearch g start row settled pending
pending-less g start node row settled pending done s = record {
  led = s.led;
  due = λ k h. s.due k (Contains-append_left pending (node ∷ []) k h);
  inside = s.inside;
  closed = s.closed;
  spread = λ k h. elim (s.spread k h) [
    | inl waits ↦ elim (Contains-push_cases pending node k waits) [
      | inl old ↦ inl old
      | inr here ↦ inr (rw (← here) done)
    ]
    | inr other ↦ inr other
  ];
}

-- nothing is a member yet, and the first node is pending
pub search-start : (g : Digraph) (start : ℕ) (row settled : List Bool) → ((k : ℕ) → has row k ≡ false) → ((k : ℕ) → has settled k ≡ false) → IsSearch g start row settled ([] ++ start ∷ [])
search-start g start row settled none none_settled = record {
  led = λ k h. absurd (both_ways (has row k) (none k) h);
  due = λ k h. inl (elim (Contains-push_cases [] start k h) [ inl old ↦ absurd (empty k old) | inr here ↦ sym here ]);
  inside = λ k h. absurd (both_ways (has settled k) (none_settled k) h);
  closed = λ k t h e. absurd (both_ways (has settled k) (none_settled k) h);
  spread = λ k h. elim h [
    | inl first ↦ inl (rw first (Contains-push [] start))
    | inr member ↦ absurd (both_ways (has row k) (none k) member)
  ];
}
  where
    empty : (k : ℕ) → Contains {X = ℕ} [] k → ⊥
    empty k h = omega (arith, h.1)

-- nothing is pending: all that is reached was found
pub search-found : (g : Digraph) (start : ℕ) (row settled : List Bool) → IsSearch g start row settled [] → (b : ℕ) → Reaches g start b → has row b ≡ true
search-found g start row settled s b p = go start b p (inl refl)
  where
    all_spread : (k t : ℕ) → (k ≡ start) ⊎ (has row k ≡ true) → HasEdge g k t → has row t ≡ true
    all_spread k t h e = elim (s.spread k h) [
      | inl waits ↦ absurd (omega (arith, waits.1))
      | inr q ↦ elim q [ inl settles ↦ s.inside t (s.closed k t settles e) | inr all ↦ all t e ]
    ]

    go : (a c : ℕ) → Path (HasEdge g) a c → (a ≡ start) ⊎ (has row a ≡ true) → has row c ≡ true
    go _ _ (direct a c e) h = all_spread a c h e
    go _ _ (onward a k c e q) h = go k c q (inr (all_spread a k h e))

-- what stands directly after a pending node is reached
pub reached-next : (g : Digraph) (start node next : ℕ) (row settled : List Bool) (pending : List ℕ) → IsSearch g start row settled (pending ++ node ∷ []) → HasEdge g node next → Reaches g start next
reached-next g start node next row settled pending s e = elim (s.due node (Contains-push pending node)) [
  | inl first ↦ rw (← first) (direct node next e)
  | inr member ↦ joined start node next (s.led node member) (direct node next e)
]

-- a member is below the count
pub has_inside : (members : List Bool) (k : ℕ) → has members k ≡ true → k < length members
has_inside members k h = elim (cases_lt k (length members)) [
  | inl below ↦ below
  | inr past ↦ absurd (both_ways (has members k) (get_or_past members k false past) h)
]

-- a pending node is a node
pub pending_inside : (g : Digraph) (start node : ℕ) (row settled : List Bool) (pending : List ℕ) → IsSearch g start row settled (pending ++ node ∷ []) → start < g.nodes → length row ≡ g.nodes → node < g.nodes
pending_inside g start node row settled pending s below long = elim (s.due node (Contains-push pending node)) [
  | inl first ↦ omega arith
  | inr member ↦ omega (arith, has_inside row node member)
]

-- a row that was found is known from then on
pub known-more : (g : Digraph) (rows : List (List Bool)) (known more row : List Bool) (node : ℕ) → AreKnown g rows known → node < length rows → ((k : ℕ) → has more k ≡ (has known k || eqb node k)) → ((b : ℕ) → Reaches g node b → has row b ≡ true) → ((b : ℕ) → has row b ≡ true → Reaches g node b) → AreKnown g (set rows node row) more
known-more g rows known more row node are_known below is found led = record {
  found = λ a b h p. elim (cases_eq a node) [
    | inl here ↦ rw (here, get_or-set_same rows node row [] below) (found b (rw here at p))
    | inr other ↦ rw (get_or-set_other rows node a row [] other) (are_known.found a b (was a other h) p)
  ];
  led = λ a b h m. elim (cases_eq a node) [
    | inl here ↦ rw here (led b (rw (here, get_or-set_same rows node row [] below) at m))
    | inr other ↦ are_known.led a b (was a other h) (rw (get_or-set_other rows node a row [] other) at m)
  ];
}
  where
    was : (a : ℕ) → (a ≡ node → ⊥) → has more a ≡ true → has known a ≡ true
    was a other h = elim (or_cases _ _ (sym (is a) ∙ h)) [
      | inl old ↦ old
      | inr here ↦ absurd (other (sym (eqb-true node a here)))
    ]

-- a node that no edge leaves reaches nothing, so an empty row is its own
pub known-edgeless : (g : Digraph) (rows : List (List Bool)) (known more : List Bool) (node : ℕ) → AreKnown g rows known → ((b : ℕ) → has (row_of rows node) b ≡ false) → successors_of g node ≡ [] → ((k : ℕ) → has more k ≡ (has known k || eqb node k)) → AreKnown g rows more
known-edgeless g rows known more node are_known empty none is = record {
  found = λ a b h p. elim (was a h) [
    | inl old ↦ are_known.found a b old p
    | inr here ↦ absurd (leaves_none b (rw (← here) at p))
  ];
  led = λ a b h m. elim (was a h) [
    | inl old ↦ are_known.led a b old m
    | inr here ↦ absurd (both_ways (has (row_of rows a) b) (rw here at empty b) m)
  ];
}
  where
    was : (a : ℕ) → has more a ≡ true → (has known a ≡ true) ⊎ (node ≡ a)
    was a h = elim (or_cases _ _ (sym (is a) ∙ h)) [ inl old ↦ inl old | inr here ↦ inr (eqb-true node a here) ]

    no_edge : (t : ℕ) → HasEdge g node t → ⊥
    no_edge t e = let there : Contains {X = ℕ} [] t = subst (λ ts. Contains ts t) none (target-from_edge g.edges node t e) in omega (arith, there.1)

    leaves_none : (b : ℕ) → Reaches g node b → ⊥
    leaves_none b p = go node b p refl
      where
        go : (a c : ℕ) → Path (HasEdge g) a c → a ≡ node → ⊥
        go _ _ (direct a c e) h = no_edge c (rw h at e)
        go _ _ (onward a k c e q) h = no_edge k (rw h at e)

-- what isn't known yet keeps its empty row
pub blank-more : (rows : List (List Bool)) (known more row : List Bool) (node : ℕ) → ((a b : ℕ) → has known a ≡ false → has (row_of rows a) b ≡ false) → ((k : ℕ) → has more k ≡ (has known k || eqb node k)) → (a b : ℕ) → has more a ≡ false → has (row_of (set rows node row) a) b ≡ false
blank-more rows known more row node blank is a b h = elim (cases_eq a node) [
  | inl here ↦ absurd (both_ways (has more a) h (is a ∙ or_right _ _ (eq-eqb node a (sym here))))
  | inr other ↦ rw (get_or-set_other rows node a row [] other) (blank a b (or_none (has known a) (eqb node a) (sym (is a) ∙ h)))
]

-- rows that are all known are the closure
pub closure-known : (g : Digraph) (t : Table) (known : List Bool) → IsWithin g.nodes g.edges → t.nodes ≡ g.nodes → length t.rows ≡ g.nodes → AreKnown g t.rows known → ((k : ℕ) → k < g.nodes → has known k ≡ true) → IsClosure g t
closure-known g t known within nodes long are_known all = record {
  nodes = nodes;
  found = λ a b p. are_known.found a b (all a (start_inside g a b within p)) p;
  led = λ a b h. elim (cases_lt a (length t.rows)) [
    | inl below ↦ are_known.led a b (all a (omega arith)) h
    | inr past ↦ absurd (false≢true (rw (get_or_past t.rows a [] past) at h))
  ];
}
