-- The edges out of an action, as places in the graph's list and as the list of where they lead.
use Rattle.std.proofs.Common.{◌≡◌, ◌≢◌, ◌<◌, ◌≤◌, ◌+◌, ◌==◌, ℕ, zero, suc, List, [], ◌∷◌, ◌++◌, length, get_or, map, take, refl, sym, ap, subst, ◌∙◌, arith, inl, inr}
use Rattle.std.specs.List.{filter, enumerate_from}
use Rattle.std.proofs.lemmas.Bool.{cases_eq, eq-eqb, ne_eqb}
use Rattle.std.proofs.lemmas.List.{take_all}
use Rattle.std.proofs.Math.Seq.{take-suc}
use Rattle.tf_graph.specs.Digraph.{Digraph, edge_at, targets_from, source, target, successors_of}
use Rattle.tf_claim.specs.declared.seat.View.{View}
use Rattle.tf_claim.specs.Moments.{WasHeldBack, WasLetThrough}
use Rattle.tf_claim.specs.Told.{Frees}
use Rattle.tf_claim.specs.Views.{times, went, went_all, edges_from, MayLetGo}
use Rattle.tf_claim.proofs.Counting.{times-cons_other}

-- the places of the edges out of an action, in a list whose first place is i
abbrev places : ℕ → List (ℕ × ℕ) → ℕ → List ℕ
places i edges n = map (λ p. p.0) (filter (λ p. p.1.0 == n) (enumerate_from i edges))

places-cons_out : (i : ℕ) (x : ℕ × ℕ) (xs : List (ℕ × ℕ)) (n : ℕ) → x.0 ≡ n → places i (x ∷ xs) n ≡ i ∷ places (i + 1) xs n
places-cons_out i x xs n e = rw (eq-eqb x.0 n e) refl

places-cons_other : (i : ℕ) (x : ℕ × ℕ) (xs : List (ℕ × ℕ)) (n : ℕ) → x.0 ≢ n → places i (x ∷ xs) n ≡ places (i + 1) xs n
places-cons_other i x xs n ne = rw (ne_eqb x.0 n ne) refl

targets-cons_out : (x : ℕ × ℕ) (xs : List (ℕ × ℕ)) (n : ℕ) → x.0 ≡ n → targets_from (x ∷ xs) n ≡ x.1 ∷ targets_from xs n
targets-cons_out x xs n e = rw (eq-eqb x.0 n e) refl

targets-cons_other : (x : ℕ × ℕ) (xs : List (ℕ × ℕ)) (n : ℕ) → x.0 ≢ n → targets_from (x ∷ xs) n ≡ targets_from xs n
targets-cons_other x xs n ne = rw (ne_eqb x.0 n ne) refl

length-places : (i : ℕ) (edges : List (ℕ × ℕ)) (n : ℕ) → length (places i edges n) ≡ length (targets_from edges n)
length-places i [] n = refl
length-places i (x ∷ xs) n =
    let r = length-places (i + 1) xs n in
    elim (cases_eq x.0 n) [
      | inl out ↦ rw (places-cons_out i x xs n out, targets-cons_out x xs n out, r) refl
      | inr other ↦ rw (places-cons_other i x xs n other, targets-cons_other x xs n other, r) refl
    ]

-- the k-th of them is an edge out of the action, which leads where the k-th target says
record Departs (i : ℕ) (edges : List (ℕ × ℕ)) (n k : ℕ) : Type 0 where
  edge : ℕ
  is : get_or (places i edges n) k 0 ≡ i + edge
  below : edge < length edges
  from : (edge_at edges edge).0 ≡ n
  to : (edge_at edges edge).1 ≡ get_or (targets_from edges n) k 0

departs-later : (i : ℕ) (x : ℕ × ℕ) (xs : List (ℕ × ℕ)) (n j k : ℕ) → get_or (places i (x ∷ xs) n) k 0 ≡ get_or (places (i + 1) xs n) j 0 → get_or (targets_from (x ∷ xs) n) k 0 ≡ get_or (targets_from xs n) j 0
    → Departs (i + 1) xs n j → Departs i (x ∷ xs) n k
departs-later i x xs n j k place at d =
    let is = d.is in
    let below = d.below in
    record {
      edge = suc d.edge;
      is = place ∙ omega arith;
      below = omega arith;
      from = d.from;
      to = d.to ∙ sym at;
    }

departs : (i : ℕ) (edges : List (ℕ × ℕ)) (n k : ℕ) → k < length (places i edges n) → Departs i edges n k
departs i [] n k lt = absurd (omega arith)
departs i (x ∷ xs) n k lt =
    let next : (j : ℕ) → j < length (places (i + 1) xs n) → Departs (i + 1) xs n j = λ j less. departs (i + 1) xs n j less in
    elim (cases_eq x.0 n) [
      | inl out ↦ here out next k (rw (places-cons_out i x xs n out) at lt)
      | inr other ↦
          departs-later i x xs n k k (ap (λ (l : List ℕ). get_or l k 0) (places-cons_other i x xs n other)) (ap (λ (l : List ℕ). get_or l k 0) (targets-cons_other x xs n other))
          (next k (rw (places-cons_other i x xs n other) at lt))
    ]
  where
    here : x.0 ≡ n → ((j : ℕ) → j < length (places (i + 1) xs n) → Departs (i + 1) xs n j) → (j : ℕ) → j < length (i ∷ places (i + 1) xs n) → Departs i (x ∷ xs) n j
    here out next zero less =
        record {
          edge = 0;
          is = ap (λ (l : List ℕ). get_or l 0 0) (places-cons_out i x xs n out) ∙ omega arith;
          below = omega arith;
          from = out;
          to = sym (ap (λ (l : List ℕ). get_or l 0 0) (targets-cons_out x xs n out));
        }
    here out next (suc j) less =
        departs-later i x xs n j (suc j) (ap (λ (l : List ℕ). get_or l (suc j) 0) (places-cons_out i x xs n out)) (ap (λ (l : List ℕ). get_or l (suc j) 0) (targets-cons_out x xs n out))
        (next j (omega arith))

-- they ascend
ascends : (i : ℕ) (edges : List (ℕ × ℕ)) (n j k : ℕ) → j < k → k < length (places i edges n) → get_or (places i edges n) j 0 < get_or (places i edges n) k 0
ascends i [] n j k lt inside = absurd (omega arith)
ascends i (x ∷ xs) n j k lt inside =
    let next : (a b : ℕ) → a < b → b < length (places (i + 1) xs n) → get_or (places (i + 1) xs n) a 0 < get_or (places (i + 1) xs n) b 0 = λ a b less in_list. ascends (i + 1) xs n a b less in_list in
    elim (cases_eq x.0 n) [
      | inl out ↦
          let P : List ℕ → Type 0 = λ l. k < length l → get_or l j 0 < get_or l k 0 in
          subst P (sym (places-cons_out i x xs n out)) (here next j k lt) inside
      | inr other ↦
          let P : List ℕ → Type 0 = λ l. k < length l → get_or l j 0 < get_or l k 0 in
          subst P (sym (places-cons_other i x xs n other)) (next j k lt) inside
    ]
  where
    here : ((a b : ℕ) → a < b → b < length (places (i + 1) xs n) → get_or (places (i + 1) xs n) a 0 < get_or (places (i + 1) xs n) b 0) → (a b : ℕ) → a < b → b < length (i ∷ places (i + 1) xs n) → get_or (i ∷ places (i + 1) xs n) a 0 < get_or (i ∷ places (i + 1) xs n) b 0
    here next a zero less in_list = absurd (omega arith)
    here next zero (suc b) less in_list =
        let d : Departs (i + 1) xs n b = departs (i + 1) xs n b (omega arith) in
        let is = d.is in omega arith
    here next (suc a) (suc b) less in_list = next a b (omega arith) (omega arith)

module _ (g : Digraph) (n : ℕ) where
  pub length-edges_from : length (edges_from g n) ≡ length (successors_of g n)
  length-edges_from = length-places 0 g.edges n

  pub from_below : (k : ℕ) → k < length (edges_from g n) → get_or (edges_from g n) k 0 < length g.edges
  from_below k lt =
      let d = departs 0 g.edges n k lt in
      let is = d.is in
      let below = d.below in omega arith

  at_edge : (k : ℕ) (lt : k < length (edges_from g n)) → get_or (edges_from g n) k 0 ≡ (departs 0 g.edges n k lt).edge
  at_edge k lt = let is = (departs 0 g.edges n k lt).is in omega arith

  pub from_source : (k : ℕ) → k < length (edges_from g n) → source g (get_or (edges_from g n) k 0) ≡ n
  from_source k lt =
      ap (source g) (at_edge k lt) ∙ (departs 0 g.edges n k lt).from

  pub from_target : (k : ℕ) → k < length (edges_from g n) → target g (get_or (edges_from g n) k 0) ≡ get_or (successors_of g n) k 0
  from_target k lt =
      ap (target g) (at_edge k lt) ∙ (departs 0 g.edges n k lt).to

-- what none of the first k is stands there not at all
times-take_none : (x : ℕ) (l : List ℕ) (k : ℕ) → k ≤ length l → ((j : ℕ) → j < k → get_or l j 0 ≢ x) → times x (take k l) ≡ 0
times-take_none x l zero le other = refl
times-take_none x [] (suc k) le other = refl
times-take_none x (y ∷ ys) (suc k) le other =
    let first : y ≢ x = other 0 (omega arith) in
    let r = times-take_none x ys k (omega arith) (λ j lt. other (suc j) (omega arith)) in
    let t = times-cons_other x y (take k ys) first in t ∙ r

-- several edges let go of
went_all-more : (es : List ℕ) (e : ℕ) (v : View) → went_all (es ++ e ∷ []) v ≡ went e (went_all es v)
went_all-more [] e v = refl
went_all-more (x ∷ xs) e v = went_all-more xs e (went x v)

times-went_all : (x : ℕ) (es : List ℕ) (v : View) → times x (went_all es v).let_go ≡ times x es + times x v.let_go
times-went_all x [] v = sym (omega arith)
times-went_all x (e ∷ es) v = let r = times-went_all x es (went e v) in omega arith

finished-went_all : (es : List ℕ) (v : View) → (went_all es v).finished ≡ v.finished
finished-went_all [] v = refl
finished-went_all (e ∷ es) v = finished-went_all es (went e v)

-- one edge more is let go of: it was not the last into the action behind it, or it was
pub frees_held : (g : Digraph) (es : List ℕ) (e count : ℕ) (v : View) → Frees g es v count → WasHeldBack g (target g e) (went e (went_all es v)) → Frees g (es ++ e ∷ []) v count
frees_held g [] e count v none held = inl (held, none)
frees_held g (x ∷ xs) e count v (inl h) held = inl (h.0, frees_held g xs e count (went x v) h.1 held)
frees_held g (x ∷ xs) e count v (inr h) held = inr (h.0, h.1, h.2, frees_held g xs e h.0 (went x v) h.3 held)

pub frees_through : (g : Digraph) (es : List ℕ) (e count : ℕ) (v : View) → Frees g es v count → WasLetThrough g (target g e) (went e (went_all es v)) → Frees g (es ++ e ∷ []) v (suc count)
frees_through g [] e count v none through = inr (count, refl, through, none)
frees_through g (x ∷ xs) e count v (inl h) through = inl (h.0, frees_through g xs e count (went x v) h.1 through)
frees_through g (x ∷ xs) e count v (inr h) through = inr (suc h.0, ap suc h.1, h.2, frees_through g xs e h.0 (went x v) h.3 through)

pub take_few : (k : ℕ) (xs : List ℕ) → length (take k xs) ≤ k
take_few zero xs = omega arith
take_few (suc k) [] = omega arith
take_few (suc k) (x ∷ xs) = let r = take_few k xs in omega arith

-- no more of them than there are edges
pub frees_few : (g : Digraph) (es : List ℕ) (count : ℕ) (v : View) → Frees g es v count → count ≤ length es
frees_few g [] count v none = omega arith
frees_few g (x ∷ xs) count v (inl h) = let r = frees_few g xs count (went x v) h.1 in omega arith
frees_few g (x ∷ xs) count v (inr h) = let r = frees_few g xs h.0 (went x v) h.3 in let is = h.1 in omega arith

module _ (g : Digraph) (n k : ℕ) (v : View) (lt : k < length (edges_from g n)) where
  -- after the first k, the next may be let go of
  pub may_next : ((e : ℕ) → e < length g.edges → source g e ≡ n → MayLetGo g e v) → MayLetGo g (get_or (edges_from g n) k 0) (went_all (take k (edges_from g n)) v)
  may_next may =
      let e : ℕ = get_or (edges_from g n) k 0 in
      let was : MayLetGo g e v = may e (from_below g n k lt) (from_source g n k lt) in
      let none_before = times-take_none e (edges_from g n) k (omega arith) (λ j less. (let a = ascends 0 g.edges n j k less lt in λ is. omega arith)) in
      let t = times-went_all e (take k (edges_from g n)) v in
      let held = was.2 in
      let f : times (source g e) (went_all (take k (edges_from g n)) v).finished ≡ times (source g e) v.finished = ap (times (source g e)) (finished-went_all (take k (edges_from g n)) v) in
      let done = was.1 in
      (was.0, omega arith, omega arith)

  pub went_more : went (get_or (edges_from g n) k 0) (went_all (take k (edges_from g n)) v) ≡ went_all (take (k + 1) (edges_from g n)) v
  went_more =
      sym (ap (λ (l : List ℕ). went_all l v) (more ∙ take-suc (edges_from g n) k 0 lt) ∙ went_all-more (take k (edges_from g n)) (get_or (edges_from g n) k 0) v)
    where
      more : take (k + 1) (edges_from g n) ≡ take (suc k) (edges_from g n)
      more = (let e : k + 1 ≡ suc k = omega arith in ap (λ (i : ℕ). take i (edges_from g n)) e)

  one_more : take (k + 1) (edges_from g n) ≡ take k (edges_from g n) ++ get_or (edges_from g n) k 0 ∷ []
  one_more =
      let e : k + 1 ≡ suc k = omega arith in
      ap (λ (i : ℕ). take i (edges_from g n)) e ∙ take-suc (edges_from g n) k 0 lt

  -- what was heard of up to the next edge, where the step about it left this view
  pub heard_none : (count : ℕ) (w : View) → w ≡ went (get_or (edges_from g n) k 0) (went_all (take k (edges_from g n)) v) → Frees g (take k (edges_from g n)) v count → WasHeldBack g (target g (get_or (edges_from g n) k 0)) w → Frees g (take (k + 1) (edges_from g n)) v count
  heard_none count w is so_far held =
      subst (λ (es : List ℕ). Frees g es v count) (sym one_more)
      (frees_held g (take k (edges_from g n)) (get_or (edges_from g n) k 0) count v so_far (subst (λ (z : View). WasHeldBack g (target g (get_or (edges_from g n) k 0)) z) is held))

  pub heard_one : (count : ℕ) (w : View) → w ≡ went (get_or (edges_from g n) k 0) (went_all (take k (edges_from g n)) v) → Frees g (take k (edges_from g n)) v count → WasLetThrough g (target g (get_or (edges_from g n) k 0)) w → Frees g (take (k + 1) (edges_from g n)) v (count + 1)
  heard_one count w is so_far through =
      let e : suc count ≡ count + 1 = omega arith in
      subst (λ (z : List ℕ × ℕ). Frees g z.0 v z.1) (λ i. (sym one_more i, e i))
      (frees_through g (take k (edges_from g n)) (get_or (edges_from g n) k 0) count v so_far (subst (λ (z : View). WasLetThrough g (target g (get_or (edges_from g n) k 0)) z) is through))

pub went_whole : (g : Digraph) (n k : ℕ) (v : View) → length (edges_from g n) ≤ k → went_all (take k (edges_from g n)) v ≡ went_all (edges_from g n) v
went_whole g n k v le =
    ap (λ (l : List ℕ). went_all l v) (take_all k (edges_from g n) le)

-- there are as many as the actions that they lead to
pub length-out : (g h : Digraph) (n : ℕ) (l : List ℕ) → l ≡ successors_of h n → h ≡ g → length l ≡ length (edges_from g n)
length-out g h n l is same =
    ap (λ (m : List ℕ). length m) is
    ∙ ap (λ (z : Digraph). length (successors_of z n)) same
    ∙ sym (length-edges_from g n)

pub heard_whole : (g : Digraph) (n k count : ℕ) (v : View) → length (edges_from g n) ≤ k → Frees g (take k (edges_from g n)) v count → Frees g (edges_from g n) v count
heard_whole g n k count v le =
    subst (λ (es : List ℕ). Frees g es v count) (take_all k (edges_from g n) le)
