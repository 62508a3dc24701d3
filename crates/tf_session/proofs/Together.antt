-- The programs' providers as they answer from a log.
use Rattle.std.proofs.Common.{◌≡◌, ◌∙◌, ◌≤◌, ◌+◌, ℕ, List, [], ◌∷◌, Option, Some, None, length, map, refl, sym, ap, arith}
use Rattle.std.specs.Prelude.{MatchOption, unwrap_or}
use Rattle.std.proofs.lemmas.List.{length-map}
use Rattle.tf_provider_local.specs.Answers.{file_meaning}
use Rattle.tf_provider_log.specs.LogEntry.{LogEntryView}
use Rattle.tf_provider_log.specs.Replayed.{all_replayed, own_entries, replayed}
use Rattle.tf_provider_protocol.specs.Meaning.{Meaning}
use Rattle.tf_provider_sim.specs.Table.{sim_meaning}
use Rattle.tf_session.specs.Outside.{outside_meanings, outside_replayed}

-- three lists, taken one by one
pub three_lists : {V : Type 0} (f : V → List LogEntryView) (xs ys zs ws : List V) (a b c : Option V) (d e g : V) (i j k l : ℕ) (p q r : List LogEntryView) → map f xs ≡ p ∷ q ∷ r ∷ [] → 3 ≤ i
    → MatchOption a ((i ≡ 0) × (j ≡ 0)) (λ x. (xs ≡ x ∷ ys) × (j + 1 ≡ i))
    → MatchOption b ((j ≡ 0) × (k ≡ 0)) (λ y. (ys ≡ y ∷ zs) × (k + 1 ≡ j))
    → MatchOption c ((k ≡ 0) × (l ≡ 0)) (λ z. (zs ≡ z ∷ ws) × (l + 1 ≡ k))
    → f (unwrap_or a d) ∷ f (unwrap_or b e) ∷ f (unwrap_or c g) ∷ [] ≡ p ∷ q ∷ r ∷ []
three_lists f xs ys zs ws (Some x) (Some y) (Some z) d e g i j k l p q r same h (s, t) (u, v) (w, o) =
    let all : map f xs ≡ f x ∷ f y ∷ f z ∷ map f ws = rw (s, u, w) refl in
    let ends : f x ∷ f y ∷ f z ∷ map f ws ≡ p ∷ q ∷ r ∷ [] = sym all ∙ same in (cc)
three_lists f xs ys zs ws (Some x) (Some y) None d e g i j k l p q r same h (s, t) (u, v) (w, o) = absurd (omega (arith, h, t, v, w))
three_lists f xs ys zs ws (Some x) None c d e g i j k l p q r same h (s, t) (u, v) w = absurd (omega (arith, h, t, u))
three_lists f xs ys zs ws None b c d e g i j k l p q r same h (s, t) u w = absurd (omega (arith, h, s))

-- each of three providers has a list of entries
pub three_long : {V : Type 0} (f : V → List LogEntryView) (xs : List V) (p q r : List LogEntryView) → map f xs ≡ p ∷ q ∷ r ∷ [] → 3 ≤ length xs
three_long f xs p q r same = let as_many = ap length same in omega (arith, length-map xs f, as_many)

-- the providers of an apply with providers outside the program, each answering from its own entries
pub outside_together : (remote : Meaning) (p q r es fs : List LogEntryView) → p ∷ q ∷ r ∷ [] ≡ own_entries (outside_meanings remote) es → es ≡ fs
    → replayed p remote ∷ replayed q sim_meaning ∷ replayed r file_meaning ∷ [] ≡ outside_replayed remote fs
outside_together remote p q r es fs own same = ap (λ lists. all_replayed lists (outside_meanings remote)) (own ∙ ap (own_entries (outside_meanings remote)) same)
