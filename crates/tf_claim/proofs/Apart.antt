-- What the rule says of several seats at once.
use Rattle.std.proofs.Common.{◌≡◌, ◌≢◌, ◌<◌, ◌≤◌, ℕ, List, [], ◌∷◌, length, set, refl, sym, ap, subst, ◌∙◌, arith, inl, inr}
use Rattle.std.proofs.lemmas.Bool.{cases_eq}
use Rattle.std.proofs.lemmas.List.{get_or_default}
use mathlib.Core.Option.{some}
use lib.ListN.{get_elem?}
use Rattle.atomic_table.proofs.Lists.{at_set}
use Rattle.tf_graph.specs.Digraph.{Digraph, source, predecessors_of}
use Rattle.tf_graph.specs.Path.{HasEdge, Reaches, direct, onward}
use Rattle.tf_claim.specs.declared.seat.View.{View}
use Rattle.tf_claim.specs.Views.{times, nothing, first_view, both, IsSole}
use Rattle.tf_claim.specs.Claims.{IsKept, IsTrueOf, total, claims_of, ends_of, releases_of, parts_in}
use Rattle.tf_claim.specs.Moments.{StandsWhere, IsFresh}
use Rattle.tf_claim.specs.Seats.{ClaimsAreApart, EndsAreApart, ReleasesAreApart, SeatsActOnce, SeenIsDone, BeforeClaimedIsDone, TakenIsClaimed, HeldBackIsFree, JoinedAreApart, IsAllOf, SoleIsAll, SoleKnows, PartsAddUp}
use Rattle.tf_claim.proofs.Counting.{times-append, total-set, total-none, member-le-total, two-le-total, total-le, some-has}
use Rattle.tf_claim.proofs.Parts.{whole_finer, no_part, part_same, part_append}
use Rattle.tf_claim.proofs.Keeping as keeping

-- an edge was let go of once at most, over all seats
goes_once : (g : Digraph) (stage count : ℕ → ℕ) (views : List View) → IsKept g stage count views → (e : ℕ) → total (releases_of e) views ≤ 1
goes_once g stage count views rule e =
    let le : total (releases_of e) views ≤ total (ends_of (source g e)) views =
    total-le (releases_of e) (ends_of (source g e)) views (λ j u there. (rule.each j u there).let_go e) in
    let f = rule.finished (source g e) in
    let top : stage (source g e) ≤ 2 = rule.stages (source g e) in omega arith

pub claims_apart : ClaimsAreApart
claims_apart g stage count views v w two n h =
    let t = two-le-total (claims_of n) views two.first two.second v w two.apart two.first_at two.second_at in
    let c = two.rule.claimed n in omega arith

pub ends_apart : EndsAreApart
ends_apart g stage count views v w two n h =
    let mine = (two.rule.each two.first v two.first_at).own n in
    let theirs = (two.rule.each two.second w two.second_at).own n in
    let none = claims_apart g stage count views v w two n (omega arith) in
    (none, omega arith)

pub releases_apart : ReleasesAreApart
releases_apart g stage count views v w two e h =
    let t = two-le-total (releases_of e) views two.first two.second v w two.apart two.first_at two.second_at in
    let c = goes_once g stage count views two.rule e in omega arith

pub act_once : SeatsActOnce
act_once g v s =
    let mine : IsTrueOf g s.stage v = s.rule.each s.seat v s.at in
    record {
      claimed = λ n. (let m = member-le-total (claims_of n) s.views s.seat v s.at in let c = s.rule.claimed n in omega arith);
      finished = mine.own;
      let_go = mine.let_go;
    }

-- what has an edge to an action that isn't free is done
edge_done : (g : Digraph) (stage count : ℕ → ℕ) (views : List View) → IsKept g stage count views → (a b : ℕ) → HasEdge g a b → 0 < stage b → stage a ≡ 2
edge_done g stage count views rule a b (k, below, is) =
    let P : ℕ × ℕ → Type 0 = λ x. 0 < stage x.1 → stage x.0 ≡ 2 in
    subst P (get_or_default g.edges k (0, 0) (a, b) below ∙ is) (rule.before k below)

-- and so is what reaches it
pub reaching_done : (g : Digraph) (stage count : ℕ → ℕ) (views : List View) → IsKept g stage count views → (a b : ℕ) → Reaches g a b → 0 < stage b → stage a ≡ 2
reaching_done g stage count views rule _ _ (direct a b e) more =
    edge_done g stage count views rule a b e more
reaching_done g stage count views rule _ _ (onward a b c e p) more =
    let next = reaching_done g stage count views rule b c p more in
    edge_done g stage count views rule a b e (omega arith)

pub seen_done : SeenIsDone
seen_done g stage count views k v rule at n h =
    let is : stage n ≡ 2 = keeping.seen_again g stage stage count count views k v rule at n h in
    (is, λ m reach. reaching_done g stage count views rule m n reach (omega arith))

pub claimed_before : BeforeClaimedIsDone
claimed_before g stage count views k v rule at n h =
    let mine : IsTrueOf g stage v = rule.each k v at in
    let more : 0 < stage n =
    elim h [
      | inl claimed ↦ (let m = member-le-total (claims_of n) views k v at in let c = rule.claimed n in omega arith)
      | inr known ↦ mine.known n known
    ] in
    (more, λ m reach. reaching_done g stage count views rule m n reach more)

pub taken_claimed : TakenIsClaimed
taken_claimed g stage count views rule n more =
    let c = rule.claimed n in
    let found = some-has (claims_of n) views (omega arith) in
    let m = member-le-total (claims_of n) views found.0 found.1 found.2 in
    let some_claim = found.3 in
    record { seat = found.0; view = found.1; at = found.2; once = omega arith }

pub held_free : HeldBackIsFree
held_free g stage count views rule n back =
    elim (cases_eq (stage n) 0) [
      | inl is ↦ is
      | inr ne ↦
          let gone = rule.released n (omega arith) back.edge back.inside back.into in
          let none = back.held in absurd (omega arith)
    ]

pub joined_apart : JoinedAreApart
joined_apart g v w s =
    let mine : IsTrueOf g s.stage (both v w) = s.rule.each s.seat (both v w) s.at in
    let once = act_once g (both v w) s in
    let claimed : (n : ℕ) → 0 < times n v.claimed → times n w.claimed ≡ 0 = λ n h. (let t = times-append n v.claimed w.claimed in let o = once.claimed n in omega arith) in
    let finished : (n : ℕ) → 0 < times n v.finished → times n w.finished ≡ 0 = λ n h. (let t = times-append n v.finished w.finished in let f = once.finished n in let o = once.claimed n in omega arith) in
    record {
      claimed = claimed;
      finished = finished;
      let_go = λ e h. (let t = times-append e v.let_go w.let_go in let l = once.let_go e in let f = once.finished (source g e) in let o = once.claimed (source g e) in omega arith);
    }

-- a seat whose part is the whole, in a state that keeps the rule
module _ (g : Digraph) (stage count : ℕ → ℕ) (views : List View) (k : ℕ) (v : View) (rule : IsKept g stage count views) (at : get_elem? views k ≡ some v) (sole : IsSole v) where
  others_empty : (other : ℕ) (w : View) → other ≢ k → get_elem? views other ≡ some w → w ≡ nothing
  others_empty other w ne there =
      rule.spent other w there
      (no_part sole.0 w.part
      (λ finer le.
      let two = two-le-total (parts_in finer) views k other v w (λ e. ne (sym e)) at there in
      let all = rule.parts finer in
      let mine = whole_finer sole.0 finer v.part le (let is = sole.1 in omega arith) in omega arith))

  -- so what all have done is its own
  all_mine : (f : View → ℕ) → f nothing ≡ 0 → total f views ≡ f v
  all_mine f no_more =
      let s = total-set f views k v nothing at in
      let none = total-none f (set views k nothing)
      (λ j u there. elim (at_set views k j nothing u there) [
        | inl is ↦ sym (ap f is.1) ∙ no_more
        | inr other ↦ ap f (others_empty j u other.0 other.1) ∙ no_more
      ]) in omega arith

  sole_all : IsAllOf stage views k v
  sole_all =
      record {
        others = others_empty;
        free = λ n. (let c = rule.claimed n in let m = all_mine (claims_of n) refl in (λ is. omega arith, λ none. omega arith));
        done = λ n. (let f = rule.finished n in let m = all_mine (ends_of n) refl in let top : stage n ≤ 2 = rule.stages n in (λ is. omega arith, λ some_end. omega arith));
        let_go = λ e. all_mine (releases_of e) refl;
      }

pub sole_is_all : SoleIsAll
sole_is_all g stage count views k v rule at sole = sole_all g stage count views k v rule at sole

module _ (g : Digraph) (v : View) (sole : IsSole v) (IsSo : (ℕ → ℕ) → (ℕ → ℕ) → List View → Type 0) (was : StandsWhere g v IsSo) where
  then_all : IsAllOf was.stage was.views was.seat v
  then_all = sole_all g was.stage was.count was.views was.seat v was.rule was.at sole

pub sole_knows : SoleKnows
sole_knows g v sole =
    record {
      done = λ n was. (let all = (then_all g v sole _ was).done n in all.0 was.so);
      not_done = λ n was. (let all = (then_all g v sole _ was).done n in elim (cases_eq (times n v.finished) 0) [
        | inl is ↦ is
        | inr ne ↦ absurd (was.so (all.1 (omega arith)))
      ]);
      free = λ n was. (let all = (then_all g v sole _ was).free n in all.0 was.so);
      not_free = λ n was. (let all = (then_all g v sole _ was).free n in elim (cases_eq (times n v.claimed) 0) [
        | inl is ↦ (let zero_there = all.1 is in let more = was.so in absurd (omega arith))
        | inr ne ↦ omega arith
      ]);
      let_through = λ n was e lt into. (let all = (then_all g v sole _ was).let_go e in let more = was.so.1 e lt into in omega arith);
      held_back = λ n was owns.
          let back = was.so.1 in
          let all = (then_all g v sole _ was).let_go back.edge in
          let mine = owns back.edge back.inside back.into in
          let none = back.held in absurd (omega arith);
    }

-- the first seat's view
pub fresh : (g : Digraph) (v : View) → v ≡ first_view → IsFresh g v
fresh g v is =
    let sole : IsSole v = rw is (0, omega arith) in
    let count : ℕ → ℕ = λ n. length (predecessors_of g n) in
    record {
      stands = record {
        stage = λ n. 0;
        count = count;
        views = v ∷ [];
        seat = 0;
        rule = rw is (keeping.begins g (λ n. 0) count (λ n. refl) (λ n lt. refl));
        at = refl;
      };
      free = λ stage count views seat rule at n. (let all = (sole_all g stage count views seat v rule at sole).free n in all.1 (rw is refl));
      alone = λ stage count views seat rule at other w ne there. (sole_all g stage count views seat v rule at sole).others other w ne there;
    }

pub parts_add : PartsAddUp
parts_add v w scale =
    record { left = part_same scale v.part; right = part_same scale v.part; joined = part_append scale v.part w.part }
