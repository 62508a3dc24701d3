-- A text that grew.
use Rattle.std.proofs.Common.{◌≡◌, ◌++◌, ◌∙◌, ℕ, List, Ok, Err, Result, ap}
use Rattle.std.specs.Prelude.{OnOk, if◌then◌else◌}
use Rattle.std.specs.Result.{is_ok}
use Rattle.std.proofs.lemmas.List.{append_assoc}

pub pushed_twice : (old before new first second : List ℕ) → before ≡ old ++ first → new ≡ before ++ second → new ≡ old ++ (first ++ second)
pushed_twice old before new first second then_first then_second = then_second ∙ ap (λ xs. xs ++ second) then_first ∙ append_assoc old first second

pub pushed_thrice : (old a b new first second third : List ℕ) → a ≡ old ++ first → b ≡ a ++ second → new ≡ b ++ third → new ≡ old ++ (first ++ (second ++ third))
pushed_thrice old a b new first second third then_first then_second then_third =
    then_third ∙ ap (λ xs. xs ++ third) (pushed_twice old a b first second then_first then_second) ∙ append_assoc old (first ++ second) third ∙ ap (λ xs. old ++ xs) (append_assoc first second third)

-- what is pushed where there is memory
pub when_pushed : {X E : Type 0} (r : Result X E) (old new more : List ℕ) → new ≡ (if is_ok r then old ++ more else old) → OnOk r (new ≡ old ++ more)
when_pushed (Ok x) old new more e = e
when_pushed (Err x) old new more e = tt
