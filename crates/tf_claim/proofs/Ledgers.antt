-- What a book keeps when an action that was taken becomes done.
use Rattle.std.proofs.Common.{◌≡◌, ◌≢◌, ℕ, ◌<◌, Bool, true, false, List, [], ◌∷◌, length, set, refl, sym, ap, ◌∙◌, inl, inr, get_or-set_other, get_or-set_same, length-set}
use Rattle.std.specs.List.{list_all}
use Rattle.std.proofs.lemmas.Bool.{and_parts, cases_eq}
use Rattle.tf_graph.specs.Digraph.{predecessors_of}
use Rattle.tf_claim.specs.declared.book.Stage.{Stage}
use Rattle.tf_claim.specs.declared.book.Stage.TheVariants.{Free, Taken, Done}
use Rattle.tf_claim.specs.Ledger.{Ledger, IsKept, stage_in, is_free, is_taken, is_done, moved}

-- what all of some numbers pass they pass by a weaker test too
all_weaker : (p q : ℕ → Bool) (xs : List ℕ) → ((x : ℕ) → p x ≡ true → q x ≡ true) → list_all p xs ≡ true → list_all q xs ≡ true
all_weaker p q [] f h = refl
all_weaker p q (x ∷ xs) f h =
    let both = and_parts (p x) (list_all p xs) h in rw (f x both.0, all_weaker p q xs f both.1) refl

taken_not_free : (s : Stage) → is_taken s ≡ true → is_free s ≡ false
taken_not_free Free h = cc
taken_not_free Taken h = refl
taken_not_free Done h = refl

module _ (stages : List Stage) (a : ℕ) (within : a < length stages) where
  at_same : (n : ℕ) → n ≡ a → stage_in (set stages a Done) n ≡ Done
  at_same n e = rw e (get_or-set_same stages a Done Free within)

  at_other : (n : ℕ) → n ≢ a → stage_in (set stages a Done) n ≡ stage_in stages n
  at_other n ne = get_or-set_other stages a n Done Free ne

  done_stays : (n : ℕ) → is_done (stage_in stages n) ≡ true → is_done (stage_in (set stages a Done) n) ≡ true
  done_stays n h =
      elim (cases_eq n a) [
        | inl e ↦ ap is_done (at_same n e)
        | inr ne ↦ ap is_done (at_other n ne) ∙ h
      ]

  begun_before : is_taken (stage_in stages a) ≡ true → (n : ℕ) → is_free (stage_in (set stages a Done) n) ≡ false → is_free (stage_in stages n) ≡ false
  begun_before taken n h =
      elim (cases_eq n a) [
        | inl e ↦ rw e (taken_not_free _ taken)
        | inr ne ↦ sym (ap is_free (at_other n ne)) ∙ h
      ]

pub kept-done : (l : Ledger) (a : ℕ) → a < length l.stages → is_taken (stage_in l.stages a) ≡ true → IsKept l → IsKept (moved l a Done)
kept-done l a within taken kept =
    record {
      sized = length-set l.stages a Done ∙ kept.sized;
      ordered = λ n h. all_weaker _ _ (predecessors_of l.graph n) (done_stays l.stages a within) (kept.ordered n (begun_before l.stages a within taken n h));
    }
