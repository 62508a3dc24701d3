-- The shared claims in the words of their table: each step keeps what the table keeps.
use Rattle.std.proofs.Common.{◌≡◌, ◌≢◌, ◌<◌, ◌+◌, ◌-◌, ◌*◌, ◌%◌, ◌^◌, ◌==◌, ℕ, zero, suc, Bool, MatchBool, List, [], ◌∷◌, length, get_or, set, refl, sym, ap, subst, ◌∙◌, arith, inl, inr, get_or-set_other, get_or-set_same, length-set}
use Rattle.std.proofs.lemmas.Bool.{cases_eq, eq-eqb, ne_eqb}
use mathlib.Core.Option.{some, none, some-ne-none}
use lib.ListN.{get_elem?}
use prog.Atomic.{either}
use Rattle.atomic_table.specs.Table.{State, keeps, step, stepped, opening, Allows, Splits, Joins, Seen}
use Rattle.tf_graph.specs.Digraph.{Digraph, target}
use Rattle.tf_claim.specs.declared.seat.View.{View}
use Rattle.tf_claim.specs.Views.{nothing, first_view, halved, split_off, saw, saw_through, knew, took, ended, went, both, steps_of, Owes, MayLetGo, times}
use Rattle.tf_claim.specs.Claims.{Holds, Begins, IsSmall, Stands, IsKept, IsTrueOf, IsLetThrough, stage_in, count_in}
use Rattle.tf_claim.specs.Moments.{StandsWhere, IsHeldBack, WasHeldBack, WasLetThrough}
use Rattle.tf_claim.specs.Plays.{Sat, Leaves, Looks, Counts, Takes, Ends, Releases, Rests}
use Rattle.tf_claim.proofs.Keeping as keeping

-- one word is written: each other one stays
module _ (words : List ℕ) (i x : ℕ) where
  word_else : (j : ℕ) → j ≢ i → get_or (set words i x) j 0 ≡ get_or words j 0
  word_else j ne = get_or-set_other words i j x 0 ne

  word_here : i < length words → get_or (set words i x) i 0 ≡ x
  word_here lt = get_or-set_same words i x 0 lt

-- a word is written as it was
word_same : (words : List ℕ) (i j : ℕ) → get_or (set words i (get_or words i 0)) j 0 ≡ get_or words j 0
word_same [] i j = refl
word_same (x ∷ xs) zero zero = refl
word_same (x ∷ xs) zero (suc j) = refl
word_same (x ∷ xs) (suc i) zero = refl
word_same (x ∷ xs) (suc i) (suc j) = word_same xs i j

at_again : (views : List View) (k : ℕ) (v w : View) → get_elem? views k ≡ some v → get_elem? (set views k w) k ≡ some w
at_again [] k v w at = absurd (some-ne-none v (sym at))
at_again (x ∷ xs) zero v w at = refl
at_again (x ∷ xs) (suc k) v w at = at_again xs k v w at

abbrev St : Type 0
St = State (Unit {0}) View

module _ (g : Digraph) (s : St) (id : ℕ) (me : Sat) (h : Holds g s) (at : get_elem? s.views id ≡ some me.0) where
  holds_after : (i x : ℕ) (w : View) → IsKept g (stage_in (set s.words i x)) (count_in (set s.words i x)) (set s.views id w) → Holds g (stepped s i x id me.1 w keeps)
  holds_after i x w rule =
      record { sized = length-set s.words i x ∙ h.sized; rule = rule }

  leaves : (i x : ℕ) (w : View) → w.part ≡ me.0.part → Holds g (stepped s i x id me.1 w keeps) → Leaves g me w (w, me.1)
  leaves i x w part after = (
    refl,
    refl,
    record {
      stage = stage_in (set s.words i x);
      count = count_in (set s.words i x);
      views = set s.views id w;
      seat = id;
      rule = after.rule;
      at = at_again s.views id me.0 w at;
    },
    part,
  )

  -- what is so in the state that the step leaves
  leaves_so : (i x : ℕ) (w : View) → Holds g (stepped s i x id me.1 w keeps) → (IsSo : (ℕ → ℕ) → (ℕ → ℕ) → List View → Type 0)
      → IsSo (stage_in (set s.words i x)) (count_in (set s.words i x)) (set s.views id w) → StandsWhere g w IsSo
  leaves_so i x w after IsSo so =
      let words : List ℕ = set s.words i x in
      record { stage = stage_in words; count = count_in words; views = set s.views id w; seat = id; rule = after.rule; at = at_again s.views id me.0 w at; so = so }

  -- what is so in the state that the step meets
  met : (IsSo : (ℕ → ℕ) → (ℕ → ℕ) → List View → Type 0) → IsSo (stage_in s.words) (count_in s.words) s.views → StandsWhere g me.0 IsSo
  met IsSo so =
      record { stage = stage_in s.words; count = count_in s.words; views = s.views; seat = id; rule = h.rule; at = at; so = so }

  -- a load keeps the rule with a view that is true and has done no more
  loads : (i : ℕ) (w : View) → w.claimed ≡ me.0.claimed → w.finished ≡ me.0.finished → w.let_go ≡ me.0.let_go → w.part ≡ me.0.part → 0 < length me.0.part → IsTrueOf g (stage_in s.words) w → ((n : ℕ) → 0 < times n w.let_through → IsLetThrough g n s.views) → Holds g (stepped s i (get_or s.words i 0) id me.1 w keeps)
  loads i w claimed finished let_go part live says through =
      let words : List ℕ = set s.words i (get_or s.words i 0) in
      holds_after i (get_or s.words i 0) w
      (keeping.rests g (stage_in s.words) (stage_in words) (count_in s.words) (count_in words) s.views id me.0 h.rule at w (λ n. word_same s.words i (n * 8)) (λ n. word_same s.words i (n * 8 + 1)) claimed finished let_go part live says through)

module _ (g : Digraph) (slots id : ℕ) (me : Sat) (live : 0 < length me.0.part) where
  pub looks : (n : ℕ) → Allows (Holds g) slots id me (n * 8) (λ x. x) (Looks g n (step slots (n * 8) 0 0 none) me)
  looks n s h homes at fits =
      let mine = h.rule.each id me.0 at in
      elim (cases_eq (stage_in s.words n) 2) [
        | inl is ↦
            let w : View = saw n me.0 in
            let after = loads g s id me h at (n * 8) w refl refl refl refl live (keeping.saw-true g (stage_in s.words) (stage_in s.words) (count_in s.words) (count_in s.words) s.views id me.0 h.rule at n is) (h.rule.let_through id me.0 at) in
            (w, keeps, tt, after, (rw (eq-eqb (stage_in s.words n) 2 is) (leaves g s id me h at (n * 8) (stage_in s.words n) w refl after), λ again. is, rw (eq-eqb (stage_in s.words n) 2 is) (met g s id me h at (λ stage count views. stage n ≡ 2) is)))
        | inr ne ↦
            let w : View = me.0 in
            let after = loads g s id me h at (n * 8) w refl refl refl refl live mine (h.rule.let_through id me.0 at) in
            (w, keeps, tt, after, (rw (ne_eqb (stage_in s.words n) 2 ne) (leaves g s id me h at (n * 8) (stage_in s.words n) w refl after), λ again. keeping.seen_again g (stage_in s.words) (stage_in s.words) (count_in s.words) (count_in s.words) s.views id me.0 h.rule at n again, rw (ne_eqb (stage_in s.words n) 2 ne) (met g s id me h at (λ stage count views. stage n ≢ 2) ne)))
      ]

  pub counts : (n : ℕ) → n < g.nodes → Allows (Holds g) slots id me (n * 8 + 1) (λ x. x) (Counts g n (step slots (n * 8 + 1) 0 0 none) me)
  counts n below s h homes at fits =
      let mine = h.rule.each id me.0 at in
      elim (cases_eq (count_in s.words n) 0) [
        | inl is ↦
            let w : View = saw_through g n me.0 in
            let after = loads g s id me h at (n * 8 + 1) w refl refl refl refl live (keeping.saw_through-true g (stage_in s.words) (stage_in s.words) (count_in s.words) (count_in s.words) s.views id me.0 h.rule at n below is) (keeping.through_more g (stage_in s.words) (stage_in s.words) (count_in s.words) (count_in s.words) s.views id me.0 h.rule at n below is) in
            (w, keeps, tt, after, (rw (eq-eqb (count_in s.words n) 0 is) (leaves g s id me h at (n * 8 + 1) (count_in s.words n) w refl after), λ owns. is, rw (eq-eqb (count_in s.words n) 0 is) (met g s id me h at (λ stage count views. (count n ≡ 0) × IsLetThrough g n views) (is, keeping.let_through g (stage_in s.words) (stage_in s.words) (count_in s.words) (count_in s.words) s.views id me.0 h.rule at n below is))))
        | inr ne ↦
            let w : View = me.0 in
            let after = loads g s id me h at (n * 8 + 1) w refl refl refl refl live mine (h.rule.let_through id me.0 at) in
            (w, keeps, tt, after, (rw (ne_eqb (count_in s.words n) 0 ne) (leaves g s id me h at (n * 8 + 1) (count_in s.words n) w refl after), λ owns. keeping.owned-zero g (stage_in s.words) (stage_in s.words) (count_in s.words) (count_in s.words) s.views id me.0 h.rule at n below owns, rw (ne_eqb (count_in s.words n) 0 ne) (met g s id me h at (λ stage count views. (0 < count n) × IsHeldBack g n views) (omega arith, keeping.held_back g (stage_in s.words) (stage_in s.words) (count_in s.words) (count_in s.words) s.views id me.0 h.rule at n below (omega arith)))))
      ]

  pub takes : (n : ℕ) → n < g.nodes → 0 < times n me.0.let_through
      → Allows (Holds g) slots id me (n * 8) (λ x. either (x == 0) 1 x) (Takes g n (step slots (n * 8) 0 1 none) me)
  takes n below ready s h homes at fits =
      let sized = h.sized in
      let x : ℕ = stage_in s.words n in
      elim (cases_eq (stage_in s.words n) 0) [
        | inl is ↦
            let w : View = took n me.0 in
            let stage' : ℕ → ℕ = stage_in (set s.words (n * 8) 1) in
            let count' : ℕ → ℕ = count_in (set s.words (n * 8) 1) in
            let rule = keeping.takes g (stage_in s.words) stage' (count_in s.words) count' s.views id me.0 h.rule at n (λ m ne. word_else s.words (n * 8) 1 (m * 8) (λ e. ne (omega arith))) below is (word_here s.words (n * 8) 1 (omega arith)) (λ m. word_else s.words (n * 8) 1 (m * 8 + 1) (λ e. omega arith)) ready live in
            let after = holds_after g s id me h at (n * 8) 1 w rule in (
              w,
              keeps,
              tt,
              subst (λ (b : Bool). Holds g (stepped s (n * 8) (either b 1 x) id me.1 w keeps)) (sym (eq-eqb x 0 is)) after,
              (rw (eq-eqb x 0 is) (leaves g s id me h at (n * 8) 1 w refl after), λ free. keeping.free-not_finished g (stage_in s.words) (stage_in s.words) (count_in s.words) (count_in s.words) s.views id me.0 h.rule at n is, rw (eq-eqb x 0 is) (met g s id me h at (λ stage count views. stage n ≡ 0) is)),
            )
        | inr ne ↦
            let w : View = knew n me.0 in
            let after = loads g s id me h at (n * 8) w refl refl refl refl live (keeping.knew-true g (stage_in s.words) (stage_in s.words) (count_in s.words) (count_in s.words) s.views id me.0 h.rule at n (omega arith)) (h.rule.let_through id me.0 at) in (
              w,
              keeps,
              tt,
              subst (λ (b : Bool). Holds g (stepped s (n * 8) (either b 1 x) id me.1 w keeps)) (sym (ne_eqb x 0 ne)) after,
              (rw (ne_eqb x 0 ne) (leaves g s id me h at (n * 8) x w refl after), λ free. absurd (ne free), rw (ne_eqb x 0 ne) (met g s id me h at (λ stage count views. 0 < stage n) (omega arith))),
            )
      ]

  pub ends : (n : ℕ) → Owes g n me.0 → Allows (Holds g) slots id me (n * 8) (λ x. 2) (λ x. Ends g n (step slots (n * 8) 2 0 none) me 2)
  ends n owes s h homes at fits =
      let sized = h.sized in
      let below = owes.0 in
      let w : View = ended n me.0 in
      let stage' : ℕ → ℕ = stage_in (set s.words (n * 8) 2) in
      let count' : ℕ → ℕ = count_in (set s.words (n * 8) 2) in
      let rule = keeping.ends g (stage_in s.words) stage' (count_in s.words) count' s.views id me.0 h.rule at n (λ m ne. word_else s.words (n * 8) 2 (m * 8) (λ e. ne (omega arith))) owes (word_here s.words (n * 8) 2 (omega arith)) (λ m. word_else s.words (n * 8) 2 (m * 8 + 1) (λ e. omega arith)) live in
      let after = holds_after g s id me h at (n * 8) 2 w rule in
      (w, keeps, tt, after, (leaves g s id me h at (n * 8) 2 w refl after, λ e from. keeping.held g (stage_in s.words) stage' (count_in s.words) count' s.views id me.0 h.rule at n e owes from))

  pub releases : (e : ℕ) → target g e < g.nodes → MayLetGo g e me.0
      → Allows (Holds g) slots id me (target g e * 8 + 1) (λ x. (x + (2 ^ 64 - 1)) % 2 ^ 64) (Releases g e (step slots (target g e * 8 + 1) 1 0 none) me)
  releases e below may s h homes at fits =
      let sized = h.sized in
      let w : View = went e me.0 in
      let n : ℕ = target g e in
      let i : ℕ = n * 8 + 1 in
      let x : ℕ = count_in s.words n in
      let new : ℕ = (x + (2 ^ 64 - 1)) % 2 ^ 64 in
      let stage' : ℕ → ℕ = stage_in (set s.words i new) in
      let count' : ℕ → ℕ = count_in (set s.words i new) in
      let some_there : 0 < x = keeping.some_waited g (stage_in s.words) stage' (count_in s.words) count' s.views id me.0 h.rule at e may below in
      let less : new ≡ x - 1 = omega arith in
      let rule = keeping.releases g (stage_in s.words) stage' (count_in s.words) count' s.views id me.0 h.rule at e may below (λ m. word_else s.words i new (m * 8) (λ is. omega arith)) (word_here s.words i new (omega arith) ∙ less) (λ m ne. word_else s.words i new (m * 8 + 1) (λ is. ne (omega arith))) live in
      let after = holds_after g s id me h at i new w rule in
      let views' : List View = set s.views id w in
      let at' : get_elem? views' id ≡ some w = at_again s.views id me.0 w at in
      let left : count' n ≡ x - 1 = word_here s.words i new (omega arith) ∙ less in
      let told : MatchBool (x == 1) (WasLetThrough g n w) (WasHeldBack g n w) =
      elim (cases_eq x 1) [
        | inl is ↦
            let none_left : count' n ≡ 0 = omega arith in
            rw (eq-eqb x 1 is) (leaves_so g s id me h at i new w after (λ stage count views. (count n ≡ 0) × IsLetThrough g n views) (none_left, keeping.let_through g stage' stage' count' count' views' id w rule at' n below none_left))
        | inr ne ↦
            let some_left : 0 < count' n = omega arith in
            rw (ne_eqb x 1 ne) (leaves_so g s id me h at i new w after (λ stage count views. (0 < count n) × IsHeldBack g n views) (some_left, keeping.held_back g stage' stage' count' count' views' id w rule at' n below some_left))
      ] in
      (w, keeps, tt, after, (leaves g s id me h at i new w refl after, told))

  pub rests : (i : ℕ) → Allows (Holds g) slots id me i (λ x. x) (Rests g (step slots i 0 0 none) me)
  rests i s h homes at fits =
      let after = loads g s id me h at i me.0 refl refl refl refl live (h.rule.each id me.0 at) (h.rule.let_through id me.0 at) in
      (me.0, keeps, tt, after, leaves g s id me h at i (get_or s.words i 0) me.0 refl after)

pub splits : (g : Digraph) (id : ℕ) (v : View) → 0 < length v.part → Splits (Holds g) id v (halved v) (split_off v)
splits g id v live s h at =
    record { sized = h.sized; rule = keeping.splits g (stage_in s.words) (count_in s.words) s.views id v h.rule at live }

pub joins : (g : Digraph) (id : ℕ) (v : View) (other : ℕ) (w : View) → 0 < length v.part → Joins (Holds g) id v other w (both v w) nothing
joins g id v other w live s h at apart there =
    record { sized = h.sized; rule = keeping.joins g (stage_in s.words) (count_in s.words) s.views id other v w h.rule at apart there live }

pub begins : (g : Digraph) (words : List ℕ) → Begins g words → Holds g (opening words [] first_view)
begins g words b =
    record { sized = b.sized; rule = keeping.begins g (stage_in words) (count_in words) b.all_free b.counted }

-- The same steps, where what they are about is known by equations.
module _ (slots id : ℕ) (me : Sat) (live : 0 < length me.0.part) (key g : Digraph) (n m : ℕ) (same_key : key ≡ g) (same : n ≡ m) where
  pub looks_as : Allows (Holds key) slots id me (n * 8) (λ x. x) (Looks g m (step slots (n * 8) 0 0 none) me)
  looks_as =
      subst (λ (z : Digraph × ℕ). Allows (Holds key) slots id me (n * 8) (λ x. x) (Looks z.0 z.1 (step slots (n * 8) 0 0 none) me)) (λ i. (same_key i, same i)) (looks key slots id me live n)

  pub counts_as : n < key.nodes → Allows (Holds key) slots id me (n * 8 + 1) (λ x. x) (Counts g m (step slots (n * 8 + 1) 0 0 none) me)
  counts_as below =
      subst (λ (z : Digraph × ℕ). Allows (Holds key) slots id me (n * 8 + 1) (λ x. x) (Counts z.0 z.1 (step slots (n * 8 + 1) 0 0 none) me)) (λ i. (same_key i, same i)) (counts key slots id me live n below)

  pub takes_as : n < key.nodes → 0 < times n me.0.let_through → Allows (Holds key) slots id me (n * 8) (λ x. either (x == 0) 1 x) (Takes g m (step slots (n * 8) 0 1 none) me)
  takes_as below ready =
      subst (λ (z : Digraph × ℕ). Allows (Holds key) slots id me (n * 8) (λ x. either (x == 0) 1 x) (Takes z.0 z.1 (step slots (n * 8) 0 1 none) me)) (λ i. (same_key i, same i)) (takes key slots id me live n below ready)

  pub ends_as : Owes key n me.0 → Allows (Holds key) slots id me (n * 8) (λ x. 2) (λ x. Ends g m (step slots (n * 8) 2 0 none) me 2)
  ends_as owes =
      subst (λ (z : Digraph × ℕ). Allows (Holds key) slots id me (n * 8) (λ x. 2) (λ x. Ends z.0 z.1 (step slots (n * 8) 2 0 none) me 2)) (λ i. (same_key i, same i)) (ends key slots id me live n owes)

  pub releases_as : (i : ℕ) → i ≡ target key n → i < key.nodes → MayLetGo key n me.0
      → Allows (Holds key) slots id me (i * 8 + 1) (λ x. (x + (2 ^ 64 - 1)) % 2 ^ 64) (Releases g m (step slots (i * 8 + 1) 1 0 none) me)
  releases_as i is below may =
      let P : ℕ → Type 0 = λ j. Allows (Holds key) slots id me (j * 8 + 1) (λ x. (x + (2 ^ 64 - 1)) % 2 ^ 64) (Releases g m (step slots (j * 8 + 1) 1 0 none) me) in
      subst P (sym is)
      (subst (λ (z : Digraph × ℕ). Allows (Holds key) slots id me (target key n * 8 + 1) (λ x. (x + (2 ^ 64 - 1)) % 2 ^ 64) (Releases z.0 z.1 (step slots (target key n * 8 + 1) 1 0 none) me)) (λ i. (same_key i, same i))
      (releases key slots id me live n (let e = is in omega arith) may))

pub rests_as : (slots id : ℕ) (me : Sat) → 0 < length me.0.part → (key g : Digraph) (i : ℕ) → key ≡ g → Allows (Holds key) slots id me i (λ x. x) (Rests g (step slots i 0 0 none) me)
rests_as slots id me live key g i same =
    subst (λ (z : Digraph). Allows (Holds key) slots id me i (λ x. x) (Rests z (step slots i 0 0 none) me)) same (rests key slots id me live i)

-- so few steps that one more, or those of two seats, fit a word
pub steps_fit : (g key : Digraph) (v : View) → key ≡ g → IsSmall key → Stands g v → steps_of v < 2 ^ 62
steps_fit g key v same small s =
    let le = keeping.steps-le g v s in
    let nodes : key.nodes ≡ g.nodes = ap (λ (z : Digraph). z.nodes) same in
    let edges : length key.edges ≡ length g.edges = ap (λ (z : Digraph). length z.edges) same in
    let a = small.nodes in
    let b = small.edges in omega arith

-- the rule that the last state keeps, with the seat's view in it
pub stands : (g key : Digraph) (id : ℕ) (v w : View) (s : St) → key ≡ g → v ≡ w → Seen (Holds key) id v s → Stands g w
stands g key id v w s same_key same seen =
    let P : Digraph × View → Type 0 = λ z. Stands z.0 z.1 in
    subst P (λ i. (same_key i, same i)) record {
      stage = stage_in s.words;
      count = count_in s.words;
      views = s.views;
      seat = id;
      rule = seen.0.rule;
      at = seen.1;
    }
