-- A search for what is late: one step on, and at its end; and that ties made of it are sound.
use Rattle.std.proofs.Common.{◌≡◌, ◌∙◌, ◌<◌, ◌↔◌, ℕ, Bool, true, false, List, [], ◌∷◌, ◌++◌, length, set, refl, arith, inl, inr}
use Rattle.std.specs.Prelude.{Contains}
use Rattle.std.proofs.lemmas.Bool.{cases_eq, false_from_ne_true}
use Rattle.std.proofs.lemmas.List.{get_or-set_same, get_or-set_other, length-set}
use Rattle.std.proofs.lemmas.List.Elements.{Contains-append_left, Contains-push, Contains-push_cases}
use Rattle.tf_graph.proofs.Searches.{missing-lt}
use Rattle.tf_graph.specs.Digraph.{Digraph}
use Rattle.tf_graph.specs.NodeSet.{has}
use Rattle.tf_graph.specs.Path.{Path, direct, onward, joined, HasEdge, Reaches}
use Rattle.tf_plan_order.specs.Late.{Leads, IsLate, AreLate}
use Rattle.tf_plan_order.specs.Laws.{AcyclicIsStrict, OrderInputIsSound, NoStateLeadsBack}
use Rattle.tf_plan_order.specs.OrderInput.{order_input_of}
use Rattle.tf_plan_order.proofs.Chains.{no_chain-back}
use Rattle.tf_plan_order.proofs.SpreadState.{IsLooked, IsSpread}
use Rattle.tf_plan_order.specs.Spread.{IsFurther, unfound}

-- one more is found
set-kept : (late : List Bool) (r n : ℕ) → r < length late → has late n ≡ true → has (set late r true) n ≡ true
set-kept late r n h is = elim (cases_eq n r) [
  | inl here ↦ rw here (get_or-set_same late r true false h)
  | inr other ↦ get_or-set_other late r n true false other ∙ is
]

pub unfound-set : (late : List Bool) (r : ℕ) → r < length late → has late r ≡ false → unfound (set late r true) < unfound late
unfound-set late r h was =
    rw (length-set late r true)
    (missing-lt late (set late r true) (length late) r (λ n is. set-kept late r n h is) h was (get_or-set_same late r true false h))

pub further-none : (late : List Bool) (pending : List ℕ) (Reached : ℕ → Type 0) → IsFurther late late pending pending Reached
further-none late pending Reached = record {
  same_length = refl;
  kept = λ n h. h;
  led = λ n h. inl h;
  waits = λ n h. h;
  fresh = λ n h. inl h;
  known = λ n h. inl h;
}

pub further-then : (late mid more : List Bool) (pending due last : List ℕ) (Reached Next : ℕ → Type 0) → IsFurther late mid pending due Reached → IsFurther mid more due last Next → ((n : ℕ) → Next n → Reached n) → IsFurther late more pending last Reached
further-then late mid more pending due last Reached Next a b also = record {
  same_length = b.same_length ∙ a.same_length;
  kept = λ n h. b.kept n (a.kept n h);
  led = λ n h. elim (b.led n h) [ inl old ↦ a.led n old | inr new ↦ inr (also n new) ];
  waits = λ n h. b.waits n (a.waits n h);
  fresh = λ n h. elim (b.fresh n h) [
    | inl old ↦ elim (a.fresh n old) [ inl older ↦ inl older | inr wait ↦ inr (b.waits n wait) ]
    | inr wait ↦ inr wait
  ];
  known = λ n h. elim (b.known n h) [
    | inl wait ↦ elim (a.known n wait) [ inl first ↦ inl first | inr is ↦ inr (b.kept n is) ]
    | inr is ↦ inr is
  ];
}

module _ (needs needed : Digraph) (marked : List Bool) where
  -- what a late resource leads to is late
  late-onward : (a b : ℕ) → IsLate needs needed marked a → Leads needs needed a b → IsLate needs needed marked b
  late-onward a b (m, is, inl same) h = (m, is, inr (direct m b (rw same h)))
  late-onward a b (m, is, inr p) h = (m, is, inr (joined m a b p (direct a b h)))

  pub spread-start : (late : List Bool) (pending : List ℕ) → late ≡ marked → ((n : ℕ) → Contains pending n ↔ (has marked n ≡ true)) → IsSpread needs needed marked late pending
  spread-start late pending e places = rw e (record {
    led = λ n h. (n, h, inl refl);
    held = λ n h. h;
    due = λ n h. (places n).0 h;
    spread = λ n h. inl ((places n).1 h);
  })

  pub spread-next : (late mid more : List Bool) (r : ℕ) (rest due last : List ℕ) → IsSpread needs needed marked late (rest ++ r ∷ [])
      → IsFurther late mid rest due (λ n. HasEdge needs n r) → ((n : ℕ) → HasEdge needs n r → has mid n ≡ true)
      → IsFurther mid more due last (λ n. HasEdge needed n r) → ((n : ℕ) → HasEdge needed n r → has more n ≡ true)
      → IsSpread needs needed marked more last
  spread-next late mid more r rest due last s a found_needs b found_needed =
      let is_late : IsLate needs needed marked r = s.led r (s.due r (Contains-push rest r)) in
      let looked : IsLooked needs needed more r = record { needs_late = λ n e. b.kept n (found_needs n e); needed_late = found_needed } in
      record {
        led = λ n h. elim (b.led n h) [
          | inl there ↦ elim (a.led n there) [
            | inl old ↦ s.led n old
            | inr e ↦ late-onward r n is_late (inl (direct n r e))
          ]
          | inr e ↦ late-onward r n is_late (inr (direct n r e))
        ];
        held = λ n h. b.kept n (a.kept n (s.held n h));
        due = λ n h. elim (b.known n h) [
          | inl wait ↦ elim (a.known n wait) [
            | inl first ↦ b.kept n (a.kept n (s.due n (Contains-append_left rest (r ∷ []) n first)))
            | inr is ↦ b.kept n is
          ]
          | inr is ↦ is
        ];
        spread = λ n h. elim (b.fresh n h) [
          | inl there ↦ elim (a.fresh n there) [
            | inl old ↦ elim (s.spread n old) [
              | inl wait ↦ elim (Contains-push_cases rest r n wait) [
                | inl first ↦ inl (b.waits n (a.waits n first))
                | inr here ↦ inr (rw (← here) looked)
              ]
              | inr all ↦ inr (record { needs_late = λ m e. b.kept m (a.kept m (all.needs_late m e)); needed_late = λ m e. b.kept m (a.kept m (all.needed_late m e)) })
            ]
            | inr wait ↦ inl (b.waits n wait)
          ]
          | inr wait ↦ inl wait
        ];
      }

  back : (late : List Bool) (g : Digraph) → ((a b : ℕ) → HasEdge g a b → has late b ≡ true → has late a ≡ true) → (a b : ℕ) → Reaches g a b → has late b ≡ true → has late a ≡ true
  back late g step _ _ (direct a b e) h = step a b e h
  back late g step _ _ (onward a b c e p) h = step a b e (back late g step b c p h)

  led-on : (late : List Bool) → ((a b : ℕ) → Leads needs needed a b → has late a ≡ true → has late b ≡ true) → (a b : ℕ) → Path (Leads needs needed) a b → has late a ≡ true → has late b ≡ true
  led-on late step _ _ (direct a b e) h = step a b e h
  led-on late step _ _ (onward a b c e p) h = led-on late step b c p (step a b e h)

  pub spread-done : (late : List Bool) → IsSpread needs needed marked late [] → AreLate needs needed marked late
  spread-done late s n = (
    s.led n,
    λ is. elim is.2 [
      | inl same ↦ rw (← same) (s.held is.0 is.1)
      | inr p ↦ led-on late step is.0 n p (s.held is.0 is.1)
    ],
  )
    where
      looked : (m : ℕ) → has late m ≡ true → IsLooked needs needed late m
      looked m h = elim (s.spread m h) [ inl none ↦ absurd (omega (arith, none.1)) | inr all ↦ all ]

      step : (a b : ℕ) → Leads needs needed a b → has late a ≡ true → has late b ≡ true
      step a b (inl p) h = back late needs (λ m k e is. (looked k is).needs_late m e) b a p h
      step a b (inr p) h = back late needed (λ m k e is. (looked k is).needed_late m e) b a p h

pub acyclic-strict : AcyclicIsStrict
acyclic-strict g table acyclic closure = record {
  irreflexive = λ a. false_from_ne_true _ (λ h. acyclic a (closure.led a a h));
  transitive = λ a b c h k. closure.found c a (joined c b a (closure.led c b k) (closure.led b a h));
}

pub ties-sound : OrderInputIsSound
ties-sound needs needed marked t strict closure late = record {
  strict = strict;
  onward = λ a b c h k. closure.found c a (joined c b a (closure.led c b k) (closure.led b a h));
  spreads = λ a b h k. (late b).1 (late-onward needs needed marked a b ((late a).0 h) (inr (closure.led b a k)));
}

pub no_state-back : NoStateLeadsBack
no_state-back needs needed marked t strict closure late x p = no_chain-back (order_input_of t) (ties-sound needs needed marked t strict closure late) x p
