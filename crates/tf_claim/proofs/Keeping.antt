-- What keeps the rule of the shared claims, step by step, over plain lists and functions.
use Rattle.std.proofs.Common.{◌≡◌, ◌≢◌, ◌<◌, ◌≤◌, ◌+◌, ◌-◌, ◌*◌, ◌==◌, ◌&&◌, ◌⊎◌, ℕ, zero, suc, min, Bool, true, false, List, [], ◌∷◌, ◌++◌, map, length, set, refl, sym, ap, subst, ◌∙◌, arith, inl, inr, length-append}
use Rattle.std.proofs.lemmas.Bool.{cases_eq, eq-eqb, ne_eqb, eqb-true, true≢false, false≢true}
use mathlib.Core.Option.{some, some-injective, some-ne-none}
use lib.ListN.{get_elem?}
use Rattle.atomic_table.proofs.Lists.{at_set, at_snoc}
use Rattle.tf_graph.specs.Digraph.{Digraph, source, target, predecessors_of}
use Rattle.tf_claim.specs.declared.seat.View.{View}
use Rattle.tf_claim.specs.Views.{times, nothing, first_view, halved, split_off, part_in, saw, saw_through, knew, took, ended, went, both, steps_of, Owes, MayLetGo, OwnsWayTo, IsWhole}
use Rattle.tf_claim.specs.Claims.{IsKept, IsTrueOf, Stands, total, claims_of, ends_of, releases_of, parts_in, holds_back, waiting, IsLetThrough}
use Rattle.tf_claim.specs.Moments.{IsHeldBack}
use Rattle.tf_claim.proofs.Counting.{times-cons_same, times-cons_other, times-append, total-set, total-snoc, member-le-total, total-le, total-lt, how_many-same, how_many-one_less, how_many-none, fails, passes, length-le, each-once, length-once}
use Rattle.tf_claim.proofs.Parts.{part_halved, part_append, some_halved, none_empty}
use Rattle.tf_claim.proofs.Edges.{Leads, leads, length-sources}

-- what a step of one seat owes: the stages that it makes, and the view that it leaves
pub record Moves (g : Digraph) (stage stage' : ℕ → ℕ) (views : List View) (v w : View) : Type 0 where
  pub up : (n : ℕ) → stage n ≤ stage' n
  pub stages : (n : ℕ) → stage' n ≤ 2
  pub outside : (n : ℕ) → g.nodes ≤ n → stage' n ≡ 0
  pub claimed : (n : ℕ) → times n w.claimed + min 1 (stage n) ≡ times n v.claimed + min 1 (stage' n)
  pub finished : (n : ℕ) → times n w.finished + (stage n - 1) ≡ times n v.finished + (stage' n - 1)
  pub before : (e : ℕ) → e < length g.edges → 0 < stage' (target g e) → stage' (source g e) ≡ 2
  pub says : IsTrueOf g stage' w
  pub goes : (e : ℕ) → times e v.let_go ≤ times e w.let_go
  pub released : (n : ℕ) → 0 < stage' n → IsLetThrough g n views
  pub let_through : (n : ℕ) → 0 < times n w.let_through → IsLetThrough g n views
  pub part : w.part ≡ v.part
  pub live : 0 < length v.part

-- what holds of each number that stands in a list, and of one more
one_more : (P : ℕ → Type 0) (n : ℕ) (xs : List ℕ) → P n → ((m : ℕ) → 0 < times m xs → P m) → (m : ℕ) → 0 < times m (n ∷ xs) → P m
one_more P n xs is all m h = elim (cases_eq n m) [
  | inl here ↦ subst P here is
  | inr other ↦ (let t = times-cons_other m n xs other in all m (omega arith))
]

module _ (g : Digraph) (stage stage' count count' : ℕ → ℕ) (views : List View) (k : ℕ) (v : View) (rule : IsKept g stage count views) (at : get_elem? views k ≡ some v) where
  true_later : (u : View) → ((n : ℕ) → stage n ≤ stage' n) → ((n : ℕ) → stage' n ≤ 2) → IsTrueOf g stage u → IsTrueOf g stage' u
  true_later u up top t =
      record {
        own = t.own;
        seen = λ n h. (let was : stage n ≡ 2 = t.seen n h in let a = up n in let b = top n in omega arith);
        known = λ n h. (let was : 0 < stage n = t.known n h in let a = up n in omega arith);
        let_go = t.let_go;
        edges = t.edges;
      }

  -- what was let go of stays so where the seat lets go of no fewer
  still_through : (w : View) → ((e : ℕ) → times e v.let_go ≤ times e w.let_go) → (n : ℕ) → IsLetThrough g n views → IsLetThrough g n (set views k w)
  still_through w goes n through e lt into =
      let s = total-set (releases_of e) views k v w at in
      let more = goes e in
      let before = through e lt into in omega arith

  kept : (w : View) → Moves g stage stage' views v w → ((n : ℕ) → n < g.nodes → count' n ≡ waiting g n (set views k w)) → IsKept g stage' count' (set views k w)
  kept w m counted =
      record {
        stages = m.stages;
        outside = m.outside;
        claimed = λ n. (let s = total-set (claims_of n) views k v w at in let r = rule.claimed n in let c = m.claimed n in omega arith);
        finished = λ n. (let s = total-set (ends_of n) views k v w at in let r = rule.finished n in let c = m.finished n in omega arith);
        before = m.before;
        counts = counted;
        each = λ j u there. elim (at_set views k j w u there) [
          | inl is ↦ subst (λ (y : View). IsTrueOf g stage' y) is.1 m.says
          | inr other ↦ true_later u m.up m.stages (rule.each j u other.1)
        ];
        released = λ n more. still_through w m.goes n (m.released n more);
        let_through = λ j u there n h. elim (at_set views k j w u there) [
          | inl is ↦ still_through w m.goes n (m.let_through n (subst (λ (y : View). 0 < times n y.let_through) (sym is.1) h))
          | inr other ↦ still_through w m.goes n (rule.let_through j u other.1 n h)
        ];
        parts = λ scale.
            let s = total-set (parts_in scale) views k v w at in
            let p : part_in scale w.part ≡ part_in scale v.part = ap (part_in scale) m.part in
            let r = rule.parts scale in omega arith;
        spent = λ j u there no_more. elim (at_set views k j w u there) [
          | inl is ↦ absurd (none_empty v.part m.live (sym m.part ∙ ap (λ (y : View). y.part) is.1 ∙ no_more))
          | inr other ↦ rule.spent j u other.1 no_more
        ];
      }

  -- the edges that are waited for stay the same where the seat lets go of none
  waiting-same : (w : View) → w.let_go ≡ v.let_go → (n : ℕ) → waiting g n (set views k w) ≡ waiting g n views
  waiting-same w same n =
      how_many-same (holds_back g n (set views k w)) (holds_back g n views) (length g.edges)
      (λ e lt.
      let s = total-set (releases_of e) views k v w at in
      let f : times e w.let_go ≡ times e v.let_go = ap (times e) same in
      let t : total (releases_of e) (set views k w) ≡ total (releases_of e) views = omega arith in
      rw t refl)

  kept_acts : (w : View) → Moves g stage stage' views v w → w.let_go ≡ v.let_go → ((n : ℕ) → count' n ≡ count n) → IsKept g stage' count' (set views k w)
  kept_acts w m same counts =
      kept w m (λ n lt. counts n ∙ rule.counts n lt ∙ sym (waiting-same w same n))

  -- a step that changes no word
  pub rests : (w : View) → ((n : ℕ) → stage' n ≡ stage n) → ((n : ℕ) → count' n ≡ count n) → w.claimed ≡ v.claimed → w.finished ≡ v.finished → w.let_go ≡ v.let_go → w.part ≡ v.part → 0 < length v.part → IsTrueOf g stage w → ((n : ℕ) → 0 < times n w.let_through → IsLetThrough g n views) → IsKept g stage' count' (set views k w)
  rests w stages counts claimed finished let_go part live says through =
      let up : (n : ℕ) → stage n ≤ stage' n = λ n. (let s = stages n in omega arith) in
      let top : (n : ℕ) → stage' n ≤ 2 = λ n. (let s = stages n in let r : stage n ≤ 2 = rule.stages n in omega arith) in
      kept_acts w
      record {
        up = up;
        stages = top;
        outside = λ n past. stages n ∙ rule.outside n past;
        claimed = λ n. (let s = stages n in let c : times n w.claimed ≡ times n v.claimed = ap (times n) claimed in rw (s, c) refl);
        finished = λ n. (let s = stages n in let c : times n w.finished ≡ times n v.finished = ap (times n) finished in rw (s, c) refl);
        before = λ e lt h. (let s = stages (target g e) in let r : stage (source g e) ≡ 2 = rule.before e lt (omega arith) in stages (source g e) ∙ r);
        says = true_later w up top says;
        goes = λ e. (let same : times e w.let_go ≡ times e v.let_go = ap (times e) let_go in omega arith);
        released = λ n more. (let s = stages n in rule.released n (omega arith));
        let_through = through;
        part = part;
        live = live;
      }
      let_go counts

  mine : IsTrueOf g stage v
  mine = rule.each k v at

  -- what a seat has seen or finished is done
  pub seen_again : (n : ℕ) → (0 < times n v.seen) ⊎ (0 < times n v.finished) → stage n ≡ 2
  seen_again n h =
      elim h [
        | inl seen ↦ mine.seen n seen
        | inr finished ↦
            let m = member-le-total (ends_of n) views k v at in
            let f = rule.finished n in
            let top : stage n ≤ 2 = rule.stages n in omega arith
      ]

  -- nobody finished a free action
  pub free-not_finished : (n : ℕ) → stage n ≡ 0 → times n v.finished ≡ 0
  free-not_finished n is =
      let m = member-le-total (ends_of n) views k v at in
      let f = rule.finished n in omega arith

  pub saw-true : (n : ℕ) → stage n ≡ 2 → IsTrueOf g stage (saw n v)
  saw-true n is =
      record {
        own = mine.own;
        seen = one_more (λ m. stage m ≡ 2) n v.seen is mine.seen;
        known = mine.known;
        let_go = mine.let_go;
        edges = mine.edges;
      }

  pub knew-true : (n : ℕ) → 0 < stage n → IsTrueOf g stage (knew n v)
  knew-true n is =
      record {
        own = mine.own;
        seen = mine.seen;
        known = one_more (λ m. 0 < stage m) n v.known is mine.known;
        let_go = mine.let_go;
        edges = mine.edges;
      }

  -- what each seat let go of is of a done source
  let_go-done : (e : ℕ) → 0 < total (releases_of e) views → stage (source g e) ≡ 2
  let_go-done e h =
      let le : total (releases_of e) views ≤ total (ends_of (source g e)) views =
      total-le (releases_of e) (ends_of (source g e)) views (λ j u there. (rule.each j u there).let_go e) in
      let f = rule.finished (source g e) in
      let top : stage (source g e) ≤ 2 = rule.stages (source g e) in omega arith

  -- where nothing is waited for, whatever stands before is done
  none_waited : (n e : ℕ) → n < g.nodes → count n ≡ 0 → e < length g.edges → target g e ≡ n → stage (source g e) ≡ 2
  none_waited n e below zero_left lt into =
      let none : waiting g n views ≡ 0 = sym (rule.counts n below) ∙ zero_left in
      let off : holds_back g n views e ≡ false = fails (holds_back g n views) (length g.edges) e none lt in
      let_go-done e
      (elim (cases_eq (total (releases_of e) views) 0) [
        | inl is ↦ absurd (both_hold is off)
        | inr ne ↦ omega arith
      ])
    where
      both_hold : total (releases_of e) views ≡ 0 → holds_back g n views e ≡ false → ⊥
      both_hold is off =
          let a : (total (releases_of e) views == 0) ≡ true = eq-eqb (total (releases_of e) views) 0 is in
          let b : (target g e == n) ≡ true = eq-eqb (target g e) n into in
          let c : (true && true) ≡ false = rw (a, b) at off in cc

  -- where the count isn't 0, some edge is held by all
  pub held_back : (n : ℕ) → n < g.nodes → 0 < count n → IsHeldBack g n views
  held_back n below more =
      let c = rule.counts n below in
      let found = passes (holds_back g n views) (length g.edges) (omega arith) in
      let is = both_true (total (releases_of found.0) views == 0) (target g found.0 == n) found.2 in
      record { edge = found.0; inside = found.1; into = eqb-true _ _ is.1; held = eqb-true _ _ is.0 }
    where
      both_true : (a b : Bool) → (a && b) ≡ true → (a ≡ true) × (b ≡ true)
      both_true true true is = (refl, refl)
      both_true true false is = (refl, is)
      both_true false b is = absurd (false≢true is)

  -- where it is 0, each edge was let go of
  pub let_through : (n : ℕ) → n < g.nodes → count n ≡ 0 → IsLetThrough g n views
  let_through n below zero_left e lt into =
      let none : waiting g n views ≡ 0 = sym (rule.counts n below) ∙ zero_left in
      let off : holds_back g n views e ≡ false = fails (holds_back g n views) (length g.edges) e none lt in
      elim (cases_eq (total (releases_of e) views) 0) [
        | inl is ↦
            let a : (total (releases_of e) views == 0) ≡ true = eq-eqb (total (releases_of e) views) 0 is in
            let b : (target g e == n) ≡ true = eq-eqb (target g e) n into in
            absurd (true≢false (rw (a, b) at off))
        | inr ne ↦ omega arith
      ]

  -- what the seat has found let through, and this action
  pub through_more : (n : ℕ) → n < g.nodes → count n ≡ 0 → (m : ℕ) → 0 < times m (n ∷ v.let_through) → IsLetThrough g m views
  through_more n below zero_left = one_more (λ m. IsLetThrough g m views) n v.let_through (let_through n below zero_left) (rule.let_through k v at)

  pub saw_through-true : (n : ℕ) → n < g.nodes → count n ≡ 0 → IsTrueOf g stage (saw_through g n v)
  saw_through-true n below zero_left =
      record {
        own = mine.own;
        seen = λ m h. (let t = times-append m (predecessors_of g n) v.seen in elim (cases_eq (times m (predecessors_of g n)) 0) [
          | inl zero_there ↦ mine.seen m (omega arith)
          | inr some_there ↦
              let l : Leads g.edges m n = leads g.edges m n (omega arith) in
              rw (← l.from) (none_waited n l.edge below zero_left l.below l.into)
        ]);
        known = mine.known;
        let_go = mine.let_go;
        edges = mine.edges;
      }

  -- a seat that let go of every edge into an action finds nothing waited for
  pub owned-zero : (n : ℕ) → n < g.nodes → OwnsWayTo g n v → count n ≡ 0
  owned-zero n below owns =
      rule.counts n below
      ∙ how_many-none (holds_back g n views) (length g.edges) (λ e lt. elim (cases_eq (target g e) n) [
        | inl into ↦
            let h : 0 < times e v.let_go = owns e lt into in
            let some_went = member-le-total (releases_of e) views k v at in
            rw (ne_eqb (total (releases_of e) views) 0 (λ z. omega arith)) refl
        | inr other ↦ rw (ne_eqb (target g e) n other) (and_false (total (releases_of e) views == 0))
      ])
    where
      and_false : (b : Bool) → (b && false) ≡ false
      and_false true = refl
      and_false false = refl

  -- only one action's stage changes, and it goes up
  module _ (n : ℕ) (else_same : (m : ℕ) → m ≢ n → stage' m ≡ stage m) where
    up_from : stage n ≤ stage' n → (m : ℕ) → stage m ≤ stage' m
    up_from here m = elim (cases_eq m n) [
      | inl is ↦ rw is here
      | inr ne ↦ (let s = else_same m ne in omega arith)
    ]

    top_from : stage' n ≤ 2 → (m : ℕ) → stage' m ≤ 2
    top_from here m = elim (cases_eq m n) [
      | inl is ↦ rw is here
      | inr ne ↦ (let s = else_same m ne in let r : stage m ≤ 2 = rule.stages m in omega arith)
    ]

    outside_from : n < g.nodes → (m : ℕ) → g.nodes ≤ m → stage' m ≡ 0
    outside_from below m past =
        else_same m (λ is. omega arith) ∙ rule.outside m past

    -- what is right at this action is right at each
    one_moves : (w : View) → stage n ≤ stage' n → stage' n ≤ 2 → n < g.nodes
        → times n w.claimed + min 1 (stage n) ≡ times n v.claimed + min 1 (stage' n)
        → times n w.finished + (stage n - 1) ≡ times n v.finished + (stage' n - 1)
        → ((m : ℕ) → m ≢ n → times m w.claimed ≡ times m v.claimed)
        → ((m : ℕ) → m ≢ n → times m w.finished ≡ times m v.finished)
        → ((e : ℕ) → e < length g.edges → target g e ≡ n → stage (source g e) ≡ 2)
        → IsTrueOf g stage' w → w.let_go ≡ v.let_go → w.let_through ≡ v.let_through → IsLetThrough g n views → w.part ≡ v.part → 0 < length v.part → Moves g stage stage' views v w
    one_moves w up_here top_here below claimed finished claimed_else finished_else before says let_go same_through through part live =
        let up = up_from up_here in
        let top = top_from top_here in
        record {
          up = up;
          stages = top;
          outside = outside_from below;
          claimed = λ m. elim (cases_eq m n) [
            | inl here ↦ (let P : ℕ → Type 0 = λ j. times j w.claimed + min 1 (stage j) ≡ times j v.claimed + min 1 (stage' j) in subst P (sym here) claimed)
            | inr other ↦ rw (else_same m other, claimed_else m other) refl
          ];
          finished = λ m. elim (cases_eq m n) [
            | inl here ↦ (let P : ℕ → Type 0 = λ j. times j w.finished + (stage j - 1) ≡ times j v.finished + (stage' j - 1) in subst P (sym here) finished)
            | inr other ↦ rw (else_same m other, finished_else m other) refl
          ];
          before = λ e lt h. (let a = up (source g e) in let b = top (source g e) in elim (cases_eq (target g e) n) [
            | inl into ↦ (let d : stage (source g e) ≡ 2 = before e lt into in omega arith)
            | inr other ↦ (let s = else_same (target g e) other in let d : stage (source g e) ≡ 2 = rule.before e lt (omega arith) in omega arith)
          ]);
          says = says;
          goes = λ e. (let same : times e w.let_go ≡ times e v.let_go = ap (times e) let_go in omega arith);
          released = λ m more. elim (cases_eq m n) [
            | inl here ↦ subst (λ j. IsLetThrough g j views) (sym here) through
            | inr other ↦ (let s = else_same m other in rule.released m (omega arith))
          ];
          let_through = λ m h. rule.let_through k v at m (subst (λ (l : List ℕ). 0 < times m l) same_through h);
          part = part;
          live = live;
        }

    pub takes : n < g.nodes → stage n ≡ 0 → stage' n ≡ 1 → ((m : ℕ) → count' m ≡ count m)
        → 0 < times n v.let_through → 0 < length v.part
        → IsKept g stage' count' (set views k (took n v))
    takes below was is counts ready live =
        let later = true_later v (up_from (omega arith)) (top_from (omega arith)) mine in
        let same = times-cons_same n v.claimed in
        kept_acts (took n v)
        (one_moves (took n v) (omega arith) (omega arith) below (omega arith) (rw (was, is) refl) (λ m other. times-cons_other m n v.claimed (λ h. other (sym h))) (λ m other. refl) (λ e lt into. let_go-done e (rule.let_through k v at n ready e lt into))
        record {
          own = λ m. (let o = mine.own m in let t = times-cons_le m n v.claimed in omega arith);
          seen = later.seen;
          known = later.known;
          let_go = later.let_go;
          edges = later.edges;
        }
        refl refl (rule.let_through k v at n ready) refl live)
        refl counts
      where
        times-cons_le : (m x : ℕ) (xs : List ℕ) → times m xs ≤ times m (x ∷ xs)
        times-cons_le m x xs = omega arith

    -- an action that the seat claimed and hasn't finished is taken
    pub is_taken : Owes g n v → stage n ≡ 1
    is_taken owes =
        let c = rule.claimed n in
        let f = rule.finished n in
        let less : total (ends_of n) views < total (claims_of n) views =
        total-lt (ends_of n) (claims_of n) views k v (λ j u there. (rule.each j u there).own n) at (let a = owes.1 in let b = owes.2 in omega arith) in
        let top : stage n ≤ 2 = rule.stages n in omega arith

    pub ends : Owes g n v → stage' n ≡ 2 → ((m : ℕ) → count' m ≡ count m) → 0 < length v.part → IsKept g stage' count' (set views k (ended n v))
    ends owes is counts live =
        let below = owes.0 in
        let was : stage n ≡ 1 = is_taken owes in
        let later = true_later v (up_from (omega arith)) (top_from (omega arith)) mine in
        let same = times-cons_same n v.finished in
        kept_acts (ended n v)
        (one_moves (ended n v) (omega arith) (omega arith) below (rw (was, is) refl) (omega arith) (λ m other. refl) (λ m other. times-cons_other m n v.finished (λ h. other (sym h))) (λ e lt into. rule.before e lt (rw into (omega arith)))
        record {
          own = λ m. elim (cases_eq n m) [
            | inl here ↦
                let P : ℕ → Type 0 = λ j. times j (n ∷ v.finished) ≤ times j v.claimed in
                (let t = times-cons_same n v.finished in let a = owes.1 in let b = owes.2 in subst P here (omega arith))
            | inr other ↦ (let t = times-cons_other m n v.finished other in rw t (mine.own m))
          ];
          seen = one_more (λ m. stage' m ≡ 2) n v.seen is later.seen;
          known = later.known;
          let_go = λ e. (let o = mine.let_go e in omega arith);
          edges = later.edges;
        }
        refl refl (rule.released n (omega arith)) refl live)
        refl counts

  -- an edge out of an action that the seat hasn't finished is still held
  pub held : (n e : ℕ) → Owes g n v → source g e ≡ n → times e v.let_go ≡ 0
  held n e owes from =
      let o = mine.let_go e in
      let b = owes.2 in
      let s : times (source g e) v.finished ≡ times n v.finished = ap (λ m. times m v.finished) from in omega arith

  -- an edge that the seat may let go of is held by all
  held_by_all : (e : ℕ) → MayLetGo g e v → total (releases_of e) views ≡ 0
  held_by_all e may =
      let less : total (releases_of e) views < total (ends_of (source g e)) views =
      total-lt (releases_of e) (ends_of (source g e)) views k v (λ j u there. (rule.each j u there).let_go e) at (let a = may.1 in let b = may.2 in omega arith) in
      let f = rule.finished (source g e) in
      let top : stage (source g e) ≤ 2 = rule.stages (source g e) in omega arith

  module _ (e : ℕ) (may : MayLetGo g e v) where
    goes_once : total (releases_of e) (set views k (went e v)) ≡ 1
    goes_once =
        let s = total-set (releases_of e) views k v (went e v) at in
        let t = times-cons_same e v.let_go in
        let z = held_by_all e may in omega arith

    goes_else : (i : ℕ) → i ≢ e → total (releases_of i) (set views k (went e v)) ≡ total (releases_of i) views
    goes_else i other =
        let s = total-set (releases_of i) views k v (went e v) at in
        let t = times-cons_other i e v.let_go (λ h. other (sym h)) in omega arith

    off : (n : ℕ) → holds_back g n (set views k (went e v)) e ≡ false
    off n = rw (ne_eqb (total (releases_of e) (set views k (went e v))) 0 (λ z. (let o = goes_once in omega arith))) refl

    else_held : (n i : ℕ) → i ≢ e → holds_back g n views i ≡ holds_back g n (set views k (went e v)) i
    else_held n i other = rw (goes_else i other) refl

    waiting-here : waiting g (target g e) views ≡ suc (waiting g (target g e) (set views k (went e v)))
    waiting-here =
        how_many-one_less (holds_back g (target g e) views) (holds_back g (target g e) (set views k (went e v))) (length g.edges) e may.0
        (rw (eq-eqb (total (releases_of e) views) 0 (held_by_all e may), eq-eqb (target g e) (target g e) refl) refl) (off (target g e)) (else_held (target g e))

    waiting-else : (n : ℕ) → n ≢ target g e → waiting g n views ≡ waiting g n (set views k (went e v))
    waiting-else n ne =
        how_many-same (holds_back g n views) (holds_back g n (set views k (went e v))) (length g.edges)
        (λ i lt. elim (cases_eq i e) [
          | inl is ↦ rw is (into_other ∙ sym (off n))
          | inr other ↦ else_held n i other
        ])
      where
        and_false : (b : Bool) → (b && false) ≡ false
        and_false true = refl
        and_false false = refl

        into_other : holds_back g n views e ≡ false
        into_other = rw (ne_eqb (target g e) n (λ h. ne (sym h))) (and_false (total (releases_of e) views == 0))

    -- something is waited for where an edge may be let go of
    pub some_waited : target g e < g.nodes → 0 < count (target g e)
    some_waited below =
        let c = rule.counts (target g e) below in
        let h = waiting-here in omega arith

    pub releases : target g e < g.nodes → ((n : ℕ) → stage' n ≡ stage n) → count' (target g e) ≡ count (target g e) - 1 → ((n : ℕ) → n ≢ target g e → count' n ≡ count n) → 0 < length v.part → IsKept g stage' count' (set views k (went e v))
    releases below stages here else_same live =
        let up : (n : ℕ) → stage n ≤ stage' n = λ n. (let s = stages n in omega arith) in
        let top : (n : ℕ) → stage' n ≤ 2 = λ n. (let s = stages n in let r : stage n ≤ 2 = rule.stages n in omega arith) in
        let later = true_later v up top mine in
        kept (went e v)
        record {
          up = up;
          stages = top;
          outside = λ n past. stages n ∙ rule.outside n past;
          claimed = λ n. (let s = stages n in rw s refl);
          finished = λ n. (let s = stages n in rw s refl);
          before = λ i lt h. (let s = stages (target g i) in let r : stage (source g i) ≡ 2 = rule.before i lt (omega arith) in stages (source g i) ∙ r);
          says = record {
            own = later.own;
            seen = later.seen;
            known = later.known;
            let_go = λ i. elim (cases_eq e i) [
              | inl is ↦
                  let P : ℕ → Type 0 = λ j. times j (e ∷ v.let_go) ≤ times (source g j) v.finished in
                  (let t = times-cons_same e v.let_go in let a = may.1 in let b = may.2 in subst P is (omega arith))
              | inr other ↦ (let t = times-cons_other i e v.let_go other in rw t (later.let_go i))
            ];
            edges = λ i past. (let b = may.0 in let t = times-cons_other i e v.let_go (λ h. omega arith) in rw t (later.edges i past));
          };
          goes = λ i. omega arith;
          released = λ n more. (let s = stages n in rule.released n (omega arith));
          let_through = rule.let_through k v at;
          part = refl;
          live = live;
        }
        (λ n lt. elim (cases_eq n (target g e)) [
          | inl is ↦ (let c = rule.counts (target g e) below in let w = waiting-here in rw (is, here) (omega arith))
          | inr ne ↦ else_same n ne ∙ rule.counts n lt ∙ waiting-else n ne
        ])

-- the seats change, and what they have of claims, ends and let-go edges stays the same over all
pub reseated : (g : Digraph) (stage count : ℕ → ℕ) (views views' : List View) → IsKept g stage count views
    → ((n : ℕ) → total (claims_of n) views' ≡ total (claims_of n) views)
    → ((n : ℕ) → total (ends_of n) views' ≡ total (ends_of n) views)
    → ((e : ℕ) → total (releases_of e) views' ≡ total (releases_of e) views)
    → ((k : ℕ) (v : View) → get_elem? views' k ≡ some v → IsTrueOf g stage v)
    → ((k : ℕ) (v : View) → get_elem? views' k ≡ some v → (n : ℕ) → 0 < times n v.let_through → IsLetThrough g n views)
    → ((scale : ℕ) → total (parts_in scale) views' ≤ total (parts_in scale) views)
    → ((k : ℕ) (v : View) → get_elem? views' k ≡ some v → v.part ≡ [] → v ≡ nothing)
    → IsKept g stage count views'
reseated g stage count views views' rule claims ends goes each through parts spent =
    record {
      stages = rule.stages;
      outside = rule.outside;
      claimed = λ n. claims n ∙ rule.claimed n;
      finished = λ n. ends n ∙ rule.finished n;
      before = rule.before;
      counts = λ n lt.
          rule.counts n lt
          ∙ how_many-same (holds_back g n views) (holds_back g n views') (length g.edges) (λ e less. (let t = goes e in rw t refl));
      each = each;
      released = λ n more e lt into. (let t = goes e in let b = rule.released n more e lt into in omega arith);
      let_through = λ k v there n h e lt into. (let t = goes e in let b = through k v there n h e lt into in omega arith);
      parts = λ scale. (let p = parts scale in let r = rule.parts scale in omega arith);
      spent = spent;
    }

-- a seat that has seen and done nothing says nothing
pub nothing-true : (g : Digraph) (stage : ℕ → ℕ) → IsTrueOf g stage nothing
nothing-true g stage =
    record {
      own = λ n. omega arith;
      seen = λ n h. absurd (omega arith);
      known = λ n h. absurd (omega arith);
      let_go = λ e. omega arith;
      edges = λ e past. refl;
    }

-- what two seats say, one says for both
both-true : (g : Digraph) (stage : ℕ → ℕ) (v w : View) → IsTrueOf g stage v → IsTrueOf g stage w → IsTrueOf g stage (both v w)
both-true g stage v w a b =
    record {
      own = λ n. (let p = a.own n in let q = b.own n in let s = times-append n v.finished w.finished in let t = times-append n v.claimed w.claimed in omega arith);
      seen = λ n h. (let t = times-append n v.seen w.seen in elim (cases_eq (times n v.seen) 0) [
        | inl zero_there ↦ b.seen n (omega arith)
        | inr some_there ↦ a.seen n (omega arith)
      ]);
      known = λ n h. (let t = times-append n v.known w.known in elim (cases_eq (times n v.known) 0) [
        | inl zero_there ↦ b.known n (omega arith)
        | inr some_there ↦ a.known n (omega arith)
      ]);
      let_go = λ e. (let p = a.let_go e in let q = b.let_go e in let s = times-append e v.let_go w.let_go in let t = times-append (source g e) v.finished w.finished in omega arith);
      edges = λ e past. (let p = a.edges e past in let q = b.edges e past in let s = times-append e v.let_go w.let_go in omega arith);
    }

-- what a view says, each with the same lists says
same-true : (g : Digraph) (stage : ℕ → ℕ) (v : View) (part : List ℕ) → IsTrueOf g stage v → IsTrueOf g stage (record v { part = part })
same-true g stage v part t =
    record { own = t.own; seen = t.seen; known = t.known; let_go = t.let_go; edges = t.edges }

-- a new seat begins with half of the old one's part, and nothing else
pub splits : (g : Digraph) (stage count : ℕ → ℕ) (views : List View) (k : ℕ) (v : View) → IsKept g stage count views → get_elem? views k ≡ some v → 0 < length v.part → IsKept g stage count (set views k (halved v) ++ split_off v ∷ [])
splits g stage count views k v rule at live =
    reseated g stage count views (set views k (halved v) ++ split_off v ∷ []) rule
    (λ n. over (claims_of n) refl refl)
    (λ n. over (ends_of n) refl refl)
    (λ e. over (releases_of e) refl refl)
    (λ j u there. elim (at_snoc (set views k (halved v)) (split_off v) u j there) [
      | inl was ↦ elim (at_set views k j (halved v) u was) [
        | inl is ↦ subst (λ (y : View). IsTrueOf g stage y) is.1 (same-true g stage v (map suc v.part) (rule.each k v at))
        | inr other ↦ rule.each j u other.1
      ]
      | inr is ↦ subst (λ (y : View). IsTrueOf g stage y) is (same-true g stage nothing (map suc v.part) (nothing-true g stage))
    ])
    (λ j u there n h. elim (at_snoc (set views k (halved v)) (split_off v) u j there) [
      | inl was ↦ elim (at_set views k j (halved v) u was) [
        | inl is ↦ rule.let_through k v at n (subst (λ (y : View). 0 < times n y.let_through) (sym is.1) h)
        | inr other ↦ rule.let_through j u other.1 n h
      ]
      | inr is ↦ (let none : 0 < times n [] = subst (λ (y : View). 0 < times n y.let_through) (sym is) h in absurd (omega arith))
    ])
    (λ scale.
    let s = total-snoc (parts_in scale) (set views k (halved v)) (split_off v) in
    let t = total-set (parts_in scale) views k v (halved v) at in
    let h = part_halved scale v.part in omega arith)
    (λ j u there no_more. elim (at_snoc (set views k (halved v)) (split_off v) u j there) [
      | inl was ↦ elim (at_set views k j (halved v) u was) [
        | inl is ↦ absurd (none_empty (map suc v.part) (some_halved v.part live) (ap (λ (y : View). y.part) is.1 ∙ no_more))
        | inr other ↦ rule.spent j u other.1 no_more
      ]
      | inr is ↦ absurd (none_empty (map suc v.part) (some_halved v.part live) (ap (λ (y : View). y.part) is ∙ no_more))
    ])
  where
    over : (f : View → ℕ) → f (halved v) ≡ f v → f (split_off v) ≡ 0 → total f (set views k (halved v) ++ split_off v ∷ []) ≡ total f views
    over f same no_more =
        let s = total-snoc f (set views k (halved v)) (split_off v) in
        let t = total-set f views k v (halved v) at in omega arith

-- a seat takes over what another has, which is left with nothing
pub joins : (g : Digraph) (stage count : ℕ → ℕ) (views : List View) (k other : ℕ) (v w : View) → IsKept g stage count views → get_elem? views k ≡ some v → other ≢ k → get_elem? (set views k (both v w)) other ≡ some w → 0 < length v.part
    → IsKept g stage count (set (set views k (both v w)) other nothing)
joins g stage count views k other v w rule at apart there live =
    reseated g stage count views (set (set views k (both v w)) other nothing) rule
    (λ n. over (claims_of n) (times-append n v.claimed w.claimed) refl)
    (λ n. over (ends_of n) (times-append n v.finished w.finished) refl)
    (λ e. over (releases_of e) (times-append e v.let_go w.let_go) refl)
    (λ j u in_last. elim (at_set (set views k (both v w)) other j nothing u in_last) [
      | inl is ↦ subst (λ (y : View). IsTrueOf g stage y) is.1 (nothing-true g stage)
      | inr else_there ↦ each_then j u else_there.1
    ])
    (λ j u in_last n h. elim (at_set (set views k (both v w)) other j nothing u in_last) [
      | inl is ↦ (let none : 0 < times n [] = subst (λ (y : View). 0 < times n y.let_through) (sym is.1) h in absurd (omega arith))
      | inr else_there ↦ elim (at_set views k j (both v w) u else_there.1) [
        | inl is ↦ through_both n (subst (λ (y : View). 0 < times n y.let_through) (sym is.1) h)
        | inr other_still ↦ rule.let_through j u other_still.1 n h
      ]
    ])
    (λ scale. (let s = over (parts_in scale) (part_append scale v.part w.part) refl in omega arith))
    (λ j u in_last no_more. elim (at_set (set views k (both v w)) other j nothing u in_last) [
      | inl is ↦ sym is.1
      | inr else_there ↦ spent_then j u else_there.1 no_more
    ])
  where
    over : (f : View → ℕ) → f (both v w) ≡ f v + f w → f nothing ≡ 0 → total f (set (set views k (both v w)) other nothing) ≡ total f views
    over f sum no_more =
        let a = total-set f views k v (both v w) at in
        let b = total-set f (set views k (both v w)) other w nothing there in omega arith

    was : get_elem? views other ≡ some w
    was = elim (at_set views k other (both v w) w there) [
      | inl is ↦ absurd (apart is.0)
      | inr is ↦ is.1
    ]

    through_both : (n : ℕ) → 0 < times n (v.let_through ++ w.let_through) → IsLetThrough g n views
    through_both n h =
        let t = times-append n v.let_through w.let_through in
        elim (cases_eq (times n v.let_through) 0) [
          | inl zero_there ↦ rule.let_through other w was n (omega arith)
          | inr some_there ↦ rule.let_through k v at n (omega arith)
        ]

    each_then : (j : ℕ) (u : View) → get_elem? (set views k (both v w)) j ≡ some u → IsTrueOf g stage u
    each_then j u in_first = elim (at_set views k j (both v w) u in_first) [
      | inl is ↦ subst (λ (y : View). IsTrueOf g stage y) is.1 (both-true g stage v w (rule.each k v at) (rule.each other w was))
      | inr is ↦ rule.each j u is.1
    ]

    spent_then : (j : ℕ) (u : View) → get_elem? (set views k (both v w)) j ≡ some u → u.part ≡ [] → u ≡ nothing
    spent_then j u in_first no_more = elim (at_set views k j (both v w) u in_first) [
      | inl is ↦
          let l = length-append v.part w.part in
          absurd (none_empty (v.part ++ w.part) (omega arith) (ap (λ (y : View). y.part) is.1 ∙ no_more))
      | inr is ↦ rule.spent j u is.1 no_more
    ]

-- before anyone has claimed anything
pub begins : (g : Digraph) (stage count : ℕ → ℕ) → ((n : ℕ) → stage n ≡ 0) → ((n : ℕ) → n < g.nodes → count n ≡ length (predecessors_of g n)) → IsKept g stage count (first_view ∷ [])
begins g stage count free counted =
    record {
      stages = λ n. (let f = free n in omega arith);
      outside = λ n past. free n;
      claimed = λ n. (let f = free n in rw f refl);
      finished = λ n. (let f = free n in rw f refl);
      before = λ e lt h. (let f = free (target g e) in absurd (omega arith));
      counts = λ n lt. counted n lt ∙ length-sources g.edges n;
      each = only;
      released = λ n more. (let f = free n in absurd (omega arith));
      let_through = none_through;
      parts = λ scale. omega arith;
      spent = none_spent;
    }
  where
    only : (k : ℕ) (v : View) → get_elem? (first_view ∷ []) k ≡ some v → IsTrueOf g stage v
    only zero v is = subst (λ (y : View). IsTrueOf g stage y) (some-injective first_view v is) (same-true g stage nothing (0 ∷ []) (nothing-true g stage))
    only (suc k) v is = absurd (some-ne-none v (sym is))

    none_through : (k : ℕ) (v : View) → get_elem? (first_view ∷ []) k ≡ some v → (n : ℕ) → 0 < times n v.let_through → IsLetThrough g n (first_view ∷ [])
    none_through zero v is n h =
        let none : 0 < times n [] = subst (λ (y : View). 0 < times n y.let_through) (sym (some-injective first_view v is)) h in absurd (omega arith)
    none_through (suc k) v is n h = absurd (some-ne-none v (sym is))

    none_spent : (k : ℕ) (v : View) → get_elem? (first_view ∷ []) k ≡ some v → v.part ≡ [] → v ≡ nothing
    none_spent zero v is no_more = absurd (none_empty (0 ∷ []) (omega arith) (ap (λ (y : View). y.part) (some-injective first_view v is) ∙ no_more))
    none_spent (suc k) v is no_more = absurd (some-ne-none v (sym is))

-- how long a seat's lists are
module _ (g : Digraph) (v : View) (s : Stands g v) where
  claims_once : (n : ℕ) → times n v.claimed ≤ 1
  claims_once n =
      let m = member-le-total (claims_of n) s.views s.seat v s.at in
      let c = s.rule.claimed n in omega arith

  claims_inside : (n : ℕ) → g.nodes ≤ n → times n v.claimed ≡ 0
  claims_inside n past =
      let m = member-le-total (claims_of n) s.views s.seat v s.at in
      let c = s.rule.claimed n in
      let o : s.stage n ≡ 0 = s.rule.outside n past in omega arith

  mine_true : IsTrueOf g s.stage v
  mine_true = s.rule.each s.seat v s.at

  ends_once : (n : ℕ) → times n v.finished ≤ 1
  ends_once n =
      let o = mine_true.own n in
      let c = claims_once n in omega arith

  ends_inside : (n : ℕ) → g.nodes ≤ n → times n v.finished ≡ 0
  ends_inside n past =
      let o = mine_true.own n in
      let c = claims_inside n past in omega arith

  goes_at_most_once : (e : ℕ) → times e v.let_go ≤ 1
  goes_at_most_once e =
      let o = mine_true.let_go e in
      let c = ends_once (source g e) in omega arith

  claims-le : length v.claimed ≤ g.nodes
  claims-le = length-le v.claimed g.nodes claims_inside claims_once

  ends-le : length v.finished ≤ g.nodes
  ends-le = length-le v.finished g.nodes ends_inside ends_once

  goes-le : length v.let_go ≤ length g.edges
  goes-le =
      length-le v.let_go (length g.edges) mine_true.edges goes_at_most_once

  pub steps-le : steps_of v ≤ length g.edges + 2 * g.nodes
  steps-le =
      let a = claims-le in
      let b = ends-le in
      let c = goes-le in omega arith

  -- as many steps as edges and twice the actions are each of them once
  pub whole : steps_of v ≡ length g.edges + 2 * g.nodes → IsWhole g v
  whole is =
      let a = claims-le in
      let b = ends-le in
      let c = goes-le in
      record {
        claimed = each-once v.claimed g.nodes claims_inside claims_once (omega arith);
        finished = each-once v.finished g.nodes ends_inside ends_once (omega arith);
        let_go = each-once v.let_go (length g.edges) mine_true.edges goes_at_most_once (omega arith);
      }

  pub whole-steps : IsWhole g v → steps_of v ≡ length g.edges + 2 * g.nodes
  whole-steps w =
      let a = length-once v.claimed g.nodes claims_inside w.claimed in
      let b = length-once v.finished g.nodes ends_inside w.finished in
      let c = length-once v.let_go (length g.edges) mine_true.edges w.let_go in omega arith

pub steps-both : (v w : View) → steps_of (both v w) ≡ steps_of v + steps_of w
steps-both v w =
    omega (arith, length-append v.claimed w.claimed, length-append v.finished w.finished, length-append v.let_go w.let_go)
