-- What a journal keeps by one more entry.
use Rattle.std.proofs.Common.{◌≡◌, ℕ, zero, suc, ◌+◌, ◌<◌, ◌≤◌, Bool, true, false, ◌&&◌, ◌||◌, List, [], ◌∷◌, ◌++◌, length, set, refl, sym, ap, ◌∙◌, arith, inl, inr, cond, get_or-set_other, get_or-set_same, length-set, length-append}
use Rattle.std.specs.Prelude.{nat_eq, Contains}
use Rattle.std.specs.List.{list_all, list_any, AllByRecursion}
use Rattle.std.specs.Cmp.{nat_eq_equiv}
use Rattle.std.proofs.lemmas.List.{map-append}
use Rattle.std.proofs.lemmas.List.Recursion.{is_count_by}
use Rattle.std.proofs.lemmas.Bool.{true≢false, eqb-true}
use Rattle.std.proofs.lemmas.Bool.Decides.{eqb_tells}
use Rattle.std.proofs.lemmas.List.Folds.{list_any-append}
use Rattle.std.proofs.lemmas.Map.Views.{list_any-from_Contains, Contains-from_any}
use Rattle.tf_graph.specs.Digraph.{Digraph, predecessors_of}
use Rattle.tf_graph.proofs.Solving.{order-grows}
use Rattle.tf_provider.specs.declared.journal.Entry.{Entry}
use Rattle.tf_provider.specs.Entries.{actions_of, is_entered, is_marked, mark_count, IsKept}

-- how many marks are set, by recursion
abbrev set_count : List Bool → ℕ
set_count [] = 0
set_count (m ∷ ms) = cond m (1 + set_count ms) (set_count ms)

set_count-is : (ms : List Bool) → set_count ms ≡ mark_count ms
set_count-is ms = is_count_by set_count (λ m. m) refl (λ m rest. refl) ms

set_count-set : (ms : List Bool) (i : ℕ) → i < length ms → is_marked ms i ≡ false → set_count (set ms i true) ≡ set_count ms + 1
set_count-set [] i h k = absurd (omega arith)
set_count-set (true ∷ ms) zero h k = absurd (true≢false k)
set_count-set (false ∷ ms) zero h k = omega arith
set_count-set (true ∷ ms) (suc i) h k =
    let rest : set_count (set ms i true) ≡ set_count ms + 1 = set_count-set ms i (omega arith) k in omega arith
set_count-set (false ∷ ms) (suc i) h k = set_count-set ms i (omega arith) k

set_count-below : (ms : List Bool) → set_count ms ≤ length ms
set_count-below [] = omega arith
set_count-below (true ∷ ms) = let rest : set_count ms ≤ length ms = set_count-below ms in omega arith
set_count-below (false ∷ ms) = let rest : set_count ms ≤ length ms = set_count-below ms in omega arith

pub mark_count-set : (ms : List Bool) (i : ℕ) → i < length ms → is_marked ms i ≡ false → mark_count (set ms i true) ≡ mark_count ms + 1
mark_count-set ms i h k = sym (set_count-is (set ms i true)) ∙ set_count-set ms i h k ∙ ap (λ n. n + 1) (set_count-is ms)

-- where a mark isn't set, fewer marks are set than there are
pub mark_count-below : (ms : List Bool) (i : ℕ) → i < length ms → is_marked ms i ≡ false → mark_count ms < length ms
mark_count-below ms i h k =
    let more : set_count (set ms i true) ≡ set_count ms + 1 = set_count-set ms i h k in
    let fits : set_count (set ms i true) ≤ length (set ms i true) = set_count-below (set ms i true) in
    let size : length (set ms i true) ≡ length ms = length-set ms i true in
    let same : set_count ms ≡ mark_count ms = set_count-is ms in
    omega arith

or_false : (b : Bool) → (b || false) ≡ b
or_false true = refl
or_false false = refl

or_true : (b : Bool) → (b || true) ≡ true
or_true true = refl
or_true false = refl

-- an action has an entry, after one more, where it had one or the new one is its own
is_entered-push : (entries : List Entry) (e : Entry) (n : ℕ) → is_entered (entries ++ e ∷ []) n ≡ (is_entered entries n || (nat_eq n e.action || false))
is_entered-push entries e n =
    ap (list_any (nat_eq n)) (map-append (λ x. x.action) entries (e ∷ [])) ∙ list_any-append (nat_eq n) (actions_of entries) (e.action ∷ [])

pub marked-more : (marks : List Bool) (entries : List Entry) (e : Entry) → e.action < length marks → ((n : ℕ) → is_marked marks n ≡ is_entered entries n)
    → (n : ℕ) → is_marked (set marks e.action true) n ≡ is_entered (entries ++ e ∷ []) n
marked-more marks entries e within marked n =
    elim (eqb_tells n e.action) [
      | inl same ↦
          let here : is_marked (set marks e.action true) n ≡ true = rw same.1 (get_or-set_same marks e.action true false within) in
          here ∙ sym (is_entered-push entries e n ∙ rw same.0 (or_true (is_entered entries n)))
      | inr other ↦
          let there : is_marked (set marks e.action true) n ≡ is_marked marks n = get_or-set_other marks e.action n true false other.1 in
          there ∙ marked n ∙ sym (is_entered-push entries e n ∙ rw other.0 (or_false (is_entered entries n)))
    ]

and_left : (x y : Bool) → (x && y) ≡ true → x ≡ true
and_left true y h = refl
and_left false y h = h

and_right : (x y : Bool) → (x && y) ≡ true → y ≡ true
and_right true y h = h
and_right false y h = absurd (true≢false (sym h))

-- actions that are all marked all have entries
entered_all : (marks : List Bool) (entries : List Entry) → ((n : ℕ) → is_marked marks n ≡ is_entered entries n) → (xs : List ℕ) → list_all (is_marked marks) xs ≡ true → AllByRecursion (λ a. Contains (actions_of entries) a) xs
entered_all marks entries marked [] h = tt
entered_all marks entries marked (x ∷ xs) h =
    (Contains-from_any eqb-true x (actions_of entries) (sym (marked x) ∙ and_left _ _ h), entered_all marks entries marked xs (and_right _ _ h))

not_entered : (marks : List Bool) (entries : List Entry) → ((n : ℕ) → is_marked marks n ≡ is_entered entries n) → (n : ℕ) → is_marked marks n ≡ false → Contains (actions_of entries) n → ⊥
not_entered marks entries marked n h k =
    true≢false (sym (list_any-from_Contains nat_eq_equiv n (actions_of entries) k) ∙ sym (marked n) ∙ h)

pub same_tests : (marks : List Bool) (entries : List Entry) → ((n : ℕ) → is_marked marks n ≡ is_entered entries n) → (xs : List ℕ) → list_all (is_marked marks) xs ≡ list_all (is_entered entries) xs
same_tests marks entries marked [] = refl
same_tests marks entries marked (x ∷ xs) =
    let first = marked x in let rest = same_tests marks entries marked xs in rw (first, rest) refl

-- what a journal keeps it keeps by one more entry, whose action isn't marked and comes after marked ones alone
pub kept-more : (g : Digraph) (marks : List Bool) (entries : List Entry) (capacity more : ℕ) (e : Entry) → IsKept g marks entries capacity
    → capacity ≤ more → e.action < g.nodes → list_all (is_marked marks) (predecessors_of g e.action) ≡ true → is_marked marks e.action ≡ false
    → IsKept g (set marks e.action true) (entries ++ e ∷ []) more
kept-more g marks entries capacity more e kept grows within ready new =
    let inside : e.action < length marks = omega (arith, kept.sized) in
    record {
      sized = length-set marks e.action true ∙ kept.sized;
      few = kept.few;
      room = omega (arith, kept.room, grows);
      marked = marked-more marks entries e inside kept.marked;
      counted =
          let longer : length (entries ++ e ∷ []) ≡ length entries + 1 = length-append entries (e ∷ []) in
          let one_more : mark_count (set marks e.action true) ≡ mark_count marks + 1 = mark_count-set marks e.action inside new in
          let before : length entries ≡ mark_count marks = kept.counted in
          omega arith;
      allowed =
          let order = order-grows (predecessors_of g) (actions_of entries) e.action kept.allowed (not_entered marks entries kept.marked e.action new) (entered_all marks entries kept.marked (predecessors_of g e.action) ready) in
          rw (map-append (λ x. x.action) entries (e ∷ [])) order;
    }

-- there is room for an entry of an action that isn't marked
pub room-for : (g : Digraph) (marks : List Bool) (entries : List Entry) (capacity : ℕ) (n : ℕ) → IsKept g marks entries capacity
    → n < g.nodes → is_marked marks n ≡ false → length entries < capacity
room-for g marks entries capacity n kept within new =
    let inside : n < length marks = omega (arith, kept.sized) in
    let fewer : mark_count marks < length marks = mark_count-below marks n inside new in
    let before : length entries ≡ mark_count marks = kept.counted in
    omega (arith, kept.sized, kept.room)
