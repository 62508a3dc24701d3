-- Which places are marked.
use Rattle.std.proofs.Common.{◌≡◌, ◌<◌, ℕ, zero, suc, Bool, true, false, List, [], ◌∷◌, ◌++◌, length, set, take, drop, replicate, Contains, refl, sym, ◌∙◌, inl, inr, arith}
use Rattle.std.proofs.lemmas.Bool.{cases_eq}
use Rattle.std.proofs.lemmas.List.{append-nil, get_or-set_same, get_or-set_other, length-set, take_all}
use Rattle.std.specs.Prelude.{◌↔◌, ◌⊎◌}
use Rattle.tf_graph.proofs.Edges.{contains_head, contains_tail, contains_cases}
use Rattle.tf_graph.specs.NodeSet.{has}
use Rattle.tf_config_names.proofs.Tables.{drop_all}

-- what is written back of a list as long
pub written_back : (len : ℕ) (items now : List Bool) → len ≡ length items → length now ≡ length items → take len (now ++ drop (length now) items) ≡ now
written_back len items now long same =
    rw (drop_all items (length now) (omega (arith, same)), append-nil now) (take_all len now (omega (arith, long, same)))

-- marks, and places that are still to be marked, are together the marks before and all places
pub record AreMarked (before : List Bool) (places : List ℕ) (now : List Bool) (left : List ℕ) : Type 0 where
  pub long : length now ≡ length before
  pub same : (n : ℕ) → ((has now n ≡ true) ⊎ Contains left n) ↔ ((has before n ≡ true) ⊎ Contains places n)

pub marks_start : (before : List Bool) (places : List ℕ) → AreMarked before places before places
marks_start before places = record { long = refl; same = λ n. (λ h. h, λ h. h) }

-- a place is marked, or still to be marked
mark_same : (w : List Bool) (p : ℕ) (rest : List ℕ) (n : ℕ) → p < length w → ((has (set w p true) n ≡ true) ⊎ Contains rest n) ↔ ((has w n ≡ true) ⊎ Contains (p ∷ rest) n)
mark_same w p rest n h = elim (cases_eq n p) [
  | inl here ↦ rw here (λ marked. inr (contains_head p p rest refl), λ due. inl (get_or-set_same w p true false h))
  | inr other ↦ rw (get_or-set_other w p n true false other) (
    λ c. elim c [ inl marked ↦ inl marked | inr later ↦ inr (contains_tail n p rest later) ],
    λ c. elim c [ inl marked ↦ inl marked | inr due ↦ elim (contains_cases n p rest due) [ inl here ↦ absurd (other (sym here)) | inr later ↦ inr later ] ],
  )
]

-- one place more
pub marks_more : (before : List Bool) (places : List ℕ) (now next : List Bool) (left rest : List ℕ) (p : ℕ) → p < length before → left ≡ p ∷ rest → next ≡ set now p true
    → AreMarked before places now left → AreMarked before places next rest
marks_more before places now next left rest p h front is m = rw is (record {
  long = length-set now p true ∙ m.long;
  same = λ n.
      let here = mark_same now p rest n (omega (arith, h, m.long)) in
      let so_far : ((has now n ≡ true) ⊎ Contains (p ∷ rest) n) ↔ ((has before n ≡ true) ⊎ Contains places n) = rw front at (m.same n) in
      (λ c. so_far.0 (here.0 c), λ c. here.1 (so_far.1 c));
})

-- all places are marked
pub marks_all : (before : List Bool) (places : List ℕ) (now : List Bool) (left : List ℕ) → left ≡ [] → AreMarked before places now left
    → (n : ℕ) → (has now n ≡ true) ↔ ((has before n ≡ true) ⊎ Contains places n)
marks_all before places now left none m n = (
  λ marked. (m.same n).0 (inl marked),
  λ was. elim ((m.same n).1 was) [
    | inl marked ↦ marked
    | inr due ↦ let c : Contains {X = ℕ} [] n = (rw none at due) in absurd (omega (arith, c.1))
  ],
)

-- no mark is among none
pub empty_marks : (count n : ℕ) → has (replicate count false) n ≡ false
empty_marks zero n = refl
empty_marks (suc count) zero = refl
empty_marks (suc count) (suc n) = empty_marks count n
