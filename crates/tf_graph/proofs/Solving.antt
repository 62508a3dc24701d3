-- The proofs of the laws on solutions, ranks and orders, for other proofs to cite.
use Rattle.std.proofs.Common.{◌≡◌, ◌<◌, ◌≤◌, ◌+◌, ◌∷◌, ◌&&◌, ℕ, zero, suc, Bool, true, false, not, List, [], refl, sym, ap, subst, ◌∙◌, arith, cond, length, get_or, take, inl, inr, ◌⊎◌}
use Rattle.std.specs.Prelude.{Contains, slice_index}
use Rattle.std.specs.List.{list_all, AllByRecursion}
use Rattle.std.proofs.lemmas.List.Elements.{All-from_recursion, All-contains}
use Rattle.std.proofs.lemmas.List.{get_or-take, get_or_append_left, get_or_push, take-append-le, length_push, length-take, take_all, get_or_default}
use Rattle.std.proofs.lemmas.Bool.{cases_eq}
use Rattle.tf_graph.specs.Path.{Path, direct, onward, StandsBefore}
use Rattle.tf_graph.specs.Solutions.{seen_by, Solves, Ranked, StaysBelow, is_ready, SolutionIsUnique, SolutionsAreRelated, SolutionExists, AllAreDone, RankedHasNoCycle, OrderedIsRanked}
use Rattle.tf_graph.specs.Order.{IsInOrder, OrderGrows, OrderFollowsPaths}

-- where two results agree at each node, a rule sees the same
pub seen_by-same : {R : Type 0} → (results others : ℕ → R) (nodes : List ℕ) → AllByRecursion (λ a. results a ≡ others a) nodes → seen_by results nodes ≡ seen_by others nodes
seen_by-same results others [] h = refl
seen_by-same {R} results others (a ∷ nodes) h =
    let heads : results a ≡ others a = h.0 in
    let tails : seen_by results nodes ≡ seen_by others nodes = seen_by-same results others nodes h.1 in
    cc

-- what holds of each element by two facts
pub all_by_both : (P Q S : ℕ → Type 0) (xs : List ℕ) → ((x : ℕ) → P x → Q x → S x) → AllByRecursion P xs → AllByRecursion Q xs → AllByRecursion S xs
all_by_both P Q S [] f p q = tt
all_by_both P Q S (x ∷ xs) f p q = (f x p.0 q.0, all_by_both P Q S xs f p.1 q.1)

pub all_by_weaker : (P S : ℕ → Type 0) (xs : List ℕ) → ((x : ℕ) → P x → S x) → AllByRecursion P xs → AllByRecursion S xs
all_by_weaker P S [] f p = tt
all_by_weaker P S (x ∷ xs) f p = (f x p.0, all_by_weaker P S xs f p.1)

-- what holds of each element holds of one that the list contains
pub all_by_at : (P : ℕ → Type 0) (xs : List ℕ) (x : ℕ) → AllByRecursion P xs → Contains xs x → P x
all_by_at P xs x p h = All-contains P xs x (All-from_recursion P xs p) h

related_below : {R S : Type 0} → (Related : ℕ → R → S → Type 0) (count : ℕ) (before : ℕ → List ℕ) (rule : ℕ → List (ℕ × R) → R) (other_rule : ℕ → List (ℕ × S) → S) (results : ℕ → R) (others : ℕ → S)
    → (ranked : Ranked before) → StaysBelow count before → Solves count before rule results → Solves count before other_rule others
    → ((n : ℕ) → n < count → AllByRecursion (λ a. Related a (results a) (others a)) (before n) → Related n (rule n (seen_by results (before n))) (other_rule n (seen_by others (before n))))
    → (bound : ℕ) → (n : ℕ) → n < count → ranked.0 n < bound → Related n (results n) (others n)
related_below Related count before rule other_rule results others ranked stays s t step zero n h below = absurd (omega arith)
related_below Related count before rule other_rule results others ranked stays s t step (suc bound) n h below =
    let earlier = all_by_both (λ a. ranked.0 a < ranked.0 n) (λ a. a < count) (λ a. Related a (results a) (others a)) (before n)
    (λ a rises stay. related_below Related count before rule other_rule results others ranked stays s t step bound a stay (omega arith)) (ranked.1 n) (stays n h) in
    subst (λ r. Related n r (others n)) (sym (s n h)) (subst (λ r. Related n (rule n (seen_by results (before n))) r) (sym (t n h)) (step n h earlier))

pub solutions-related : {R S : Type 0} → (Related : ℕ → R → S → Type 0) → SolutionsAreRelated R S Related
solutions-related Related count before rule other_rule results others ranked stays s t step n h =
    related_below Related count before rule other_rule results others ranked stays s t step (ranked.0 n + 1) n h (omega arith)

pub solution-unique : {R : Type 0} → SolutionIsUnique R
solution-unique count before rule results others ranked stays s t =
    solutions-related (λ n r q. r ≡ q) count before rule rule results others ranked stays s t
    (λ n h same. ap (rule n) (seen_by-same results others (before n) same))

-- the result at a node, from results that go so many steps back
pub result_within : {R : Type 0} → (ℕ → List ℕ) → (ℕ → List (ℕ × R) → R) → ℕ → ℕ → R
result_within before rule zero n = rule n []
result_within before rule (suc steps) n = rule n (seen_by (result_within before rule steps) (before n))

none_before : (before : ℕ → List ℕ) (rank : ℕ → ℕ) (n : ℕ) (nodes : List ℕ) → rank n ≡ 0 → AllByRecursion (λ a. rank a < rank n) nodes → nodes ≡ []
none_before before rank n [] z h = refl
none_before before rank n (a ∷ nodes) z h = let first : rank a < rank n = h.0 in absurd (omega arith)

result_within-enough : {R : Type 0} → (before : ℕ → List ℕ) (rule : ℕ → List (ℕ × R) → R) (ranked : Ranked before) → (steps others n : ℕ) → ranked.0 n ≤ steps → ranked.0 n ≤ others → result_within before rule steps n ≡ result_within before rule others n
unfolding result_within
result_within-enough before rule ranked zero zero n h k = refl
result_within-enough {R} before rule ranked zero (suc others) n h k =
    let none : before n ≡ [] = none_before before ranked.0 n (before n) (omega arith) (ranked.1 n) in
    rw none refl
result_within-enough before rule ranked (suc steps) zero n h k =
    let none : before n ≡ [] = none_before before ranked.0 n (before n) (omega arith) (ranked.1 n) in
    rw none refl
result_within-enough before rule ranked (suc steps) (suc others) n h k =
    ap (rule n) (seen_by-same (result_within before rule steps) (result_within before rule others) (before n) (all_by_weaker _ (λ a. result_within before rule steps a ≡ result_within before rule others a) (before n) (λ a rises. result_within-enough before rule ranked steps others a (omega arith) (omega arith)) (ranked.1 n)))

result_within-solves : {R : Type 0} → (before : ℕ → List ℕ) (rule : ℕ → List (ℕ × R) → R) (ranked : Ranked before) → (n steps : ℕ) → steps ≡ ranked.0 n → result_within before rule steps n ≡ rule n (seen_by (λ a. result_within before rule (ranked.0 a) a) (before n))
unfolding result_within
result_within-solves before rule ranked n zero e =
    let none : before n ≡ [] = none_before before ranked.0 n (before n) (omega arith) (ranked.1 n) in
    rw none refl
result_within-solves before rule ranked n (suc steps) e =
    ap (rule n) (seen_by-same (result_within before rule steps) (λ a. result_within before rule (ranked.0 a) a) (before n) (all_by_weaker _ (λ a. result_within before rule steps a ≡ result_within before rule (ranked.0 a) a) (before n) (λ a rises. result_within-enough before rule ranked steps (ranked.0 a) a (omega arith) (omega arith)) (ranked.1 n)))

pub solution-exists : {R : Type 0} → SolutionExists R
solution-exists count before rule ranked =
    (λ n. result_within before rule (ranked.0 n) n, λ n h. result_within-solves before rule ranked n (ranked.0 n) refl)

list_all-passes : (p : ℕ → Bool) (xs : List ℕ) → AllByRecursion (λ a. p a ≡ true) xs → list_all p xs ≡ true
list_all-passes p [] h = refl
list_all-passes p (x ∷ xs) h =
    let first : p x ≡ true = h.0 in
    let rest : list_all p xs ≡ true = list_all-passes p xs h.1 in
    rw (first, rest) refl

not_ready : (d b : Bool) → (not d && b) ≡ false → b ≡ true → d ≡ true
not_ready true b h k = refl
not_ready false true h k = sym h
not_ready false false h k = k

done_below : (count : ℕ) (before : ℕ → List ℕ) (done : ℕ → Bool) (ranked : Ranked before) → StaysBelow count before → ((n : ℕ) → n < count → is_ready before done n ≡ false) → (bound n : ℕ) → n < count → ranked.0 n < bound → done n ≡ true
done_below count before done ranked stays none zero n h below = absurd (omega arith)
done_below count before done ranked stays none (suc bound) n h below =
    not_ready (done n) (list_all done (before n)) (none n h) (list_all-passes done (before n) (all_by_both _ _ (λ a. done a ≡ true) (before n) (λ a rises stay. done_below count before done ranked stays none bound a stay (omega arith)) (ranked.1 n) (stays n h)))

pub all_done : AllAreDone
all_done count before done ranked stays none n h = done_below count before done ranked stays none (ranked.0 n + 1) n h (omega arith)

-- a rank rises along each path
pub path_rises : (before : ℕ → List ℕ) (ranked : Ranked before) (a b : ℕ) → Path (StandsBefore before) a b → ranked.0 a < ranked.0 b
path_rises before ranked _ _ (direct a b d) = all_by_at (λ x. ranked.0 x < ranked.0 b) (before b) a (ranked.1 b) d
path_rises before ranked _ _ (onward a b c d p) =
    let first : ranked.0 a < ranked.0 b = all_by_at (λ x. ranked.0 x < ranked.0 b) (before b) a (ranked.1 b) d in
    let rest : ranked.0 b < ranked.0 c = path_rises before ranked b c p in
    omega arith

pub ranked-no_cycle : RankedHasNoCycle
ranked-no_cycle before ranked n p =
    let rises : ranked.0 n < ranked.0 n = path_rises before ranked n n p in
    absurd (omega arith)

-- how many numbers below c pass the test
pub passing_below : (ℕ → Bool) → ℕ → ℕ
passing_below p zero = 0
passing_below p (suc c) = cond (p c) 1 0 + passing_below p c

pub passing_below-most : (p : ℕ → Bool) (n : ℕ) → passing_below p n ≤ n
unfolding passing_below
passing_below-most p zero = omega arith
passing_below-most p (suc n) =
    let rest : passing_below p n ≤ n = passing_below-most p n in
    let here : cond (p n) 1 0 ≤ 1 = one (p n) in
    omega arith
  where
    one : (b : Bool) → cond b 1 0 ≤ 1
    one true = omega arith
    one false = omega arith

one_le : (b d : Bool) → (b ≡ true → d ≡ true) → cond b 1 0 ≤ cond d 1 0
one_le true d h = rw (h refl) (omega arith)
one_le false d h = omega arith

pub passing_below-le : (p q : ℕ → Bool) (c : ℕ) → ((k : ℕ) → k < c → p k ≡ true → q k ≡ true) → passing_below p c ≤ passing_below q c
unfolding passing_below
passing_below-le p q zero h = omega arith
passing_below-le p q (suc c) h =
    let rest : passing_below p c ≤ passing_below q c = passing_below-le p q c (λ k l. h k (omega arith)) in
    let here : cond (p c) 1 0 ≤ cond (q c) 1 0 = one_le (p c) (q c) (h c (omega arith)) in
    omega arith

at_or_below : (j c : ℕ) → j < suc c → (j ≡ c) ⊎ (j < c)
at_or_below j c h = elim (cases_eq j c) [ inl e ↦ inl e | inr n ↦ inr (omega arith) ]

one_lt : (b d : Bool) → b ≡ false → d ≡ true → cond b 1 0 < cond d 1 0
one_lt b d e f = rw (e, f) (omega arith)

pub passing_below-lt : (p q : ℕ → Bool) (c j : ℕ) → ((k : ℕ) → k < c → p k ≡ true → q k ≡ true) → j < c → p j ≡ false → q j ≡ true → passing_below p c < passing_below q c
unfolding passing_below
passing_below-lt p q zero j h l e f = absurd (omega arith)
passing_below-lt p q (suc c) j h l e f =
    let weaker : (k : ℕ) → k < c → p k ≡ true → q k ≡ true = λ k m. h k (omega arith) in
    elim (at_or_below j c (omega arith)) [
      | inl here ↦
          let rest : passing_below p c ≤ passing_below q c = passing_below-le p q c weaker in
          let one : cond (p c) 1 0 < cond (q c) 1 0 = one_lt (p c) (q c) (rw (← here) e) (rw (← here) f) in
          omega arith
      | inr earlier ↦
          let rest : passing_below p c < passing_below q c = passing_below-lt p q c j weaker earlier e f in
          let one : cond (p c) 1 0 ≤ cond (q c) 1 0 = one_le (p c) (q c) (h c (omega arith)) in
          omega arith
    ]

pub ranked-by_order : OrderedIsRanked
ranked-by_order count before is_below order = (
  λ n. passing_below (λ k. is_below k n) count,
  λ n. all_by_weaker _ _ (before n) (λ a here. passing_below-lt (λ k. is_below k a) (λ k. is_below k n) count a (λ k l e. order.transitive k a n l here.0 e here.1) here.0 (order.irreflexive a here.0) here.1) (order.holds n),
)

Contains-take : (k i : ℕ) (xs : List ℕ) (x : ℕ) → k ≤ i → Contains (take k xs) x → Contains (take i xs) x
Contains-take k i xs x h c =
    let short = length-take k xs in
    let long = length-take i xs in
    let inside : c.0 < length (take i xs) = omega (arith, c.1, short, long) in
    let before_k : c.0 < k = omega (arith, c.1, short) in
    let before_i : c.0 < i = omega arith in
    let read : get_or (take i xs) c.0 x ≡ x = get_or-take i xs c.0 x before_i ∙ sym (get_or-take k xs c.0 x before_k) ∙ c.2 in
    (c.0, inside, read)

follows : (before : ℕ → List ℕ) (entries : List ℕ) → IsInOrder before entries → (a b : ℕ) → Path (StandsBefore before) a b → (i : ℕ) → i < length entries → b ≡ slice_index entries i → Contains (take i entries) a
follows before entries order _ _ (direct a b d) i h e =
    all_by_at (λ x. Contains (take i entries) x) (before (slice_index entries i)) a (order.after i h) (rw (← e) d)
follows before entries order _ _ (onward a b c d p) i h e =
    let earlier : Contains (take i entries) b = follows before entries order b c p i h e in
    let k : ℕ = earlier.0 in
    let short = length-take i entries in
    let before_i : k < i = omega (arith, earlier.1, short) in
    let inside : k < length entries = omega (arith, earlier.1, short) in
    let is : b ≡ slice_index entries k = sym earlier.2 ∙ get_or-take i entries k b before_i ∙ get_or_default entries k b 0 inside in
    let direct_before : Contains (take k entries) a = all_by_at (λ x. Contains (take k entries) x) (before (slice_index entries k)) a (order.after k inside) (rw (← is) d) in
    Contains-take k i entries a (omega arith) direct_before

pub order-follows_paths : OrderFollowsPaths
order-follows_paths before entries order a i h p = follows before entries order a (slice_index entries i) p i h refl

pub order-grows : OrderGrows
order-grows before entries n order new all_entered = record {
  once = λ i j l m.
      let long = length_push entries n in
      elim (at_or_below j (length entries) (omega arith)) [
        | inl last ↦
            λ same. new (i, omega arith, get_or_default entries i n 0 (omega arith) ∙ sym (get_or_append_left entries (n ∷ []) 0 i (omega arith)) ∙ same ∙ get_or_push entries n 0 j (sym last))
        | inr earlier ↦
            λ same. order.once i j l earlier (sym (get_or_append_left entries (n ∷ []) 0 i (omega arith)) ∙ same ∙ get_or_append_left entries (n ∷ []) 0 j earlier)
      ];
  after = λ i l.
      let long = length_push entries n in
      elim (at_or_below i (length entries) (omega arith)) [
        | inl last ↦
            rw (get_or_push entries n 0 i (sym last), take-append-le i entries (n ∷ []) (omega arith), take_all i entries (omega arith)) all_entered
        | inr earlier ↦
            rw (get_or_append_left entries (n ∷ []) 0 i earlier, take-append-le i entries (n ∷ []) (omega arith)) (order.after i earlier)
      ];
}
