-- A text that grew.
use Rattle.std.proofs.Common.{◌≡◌, ◌++◌, ◌∙◌, ℕ, List, ap}
use Rattle.std.proofs.lemmas.List.{append_assoc}

pub pushed_twice : (old before new first second : List ℕ) → before ≡ old ++ first → new ≡ before ++ second → new ≡ old ++ (first ++ second)
pushed_twice old before new first second then_first then_second = then_second ∙ ap (λ xs. xs ++ second) then_first ∙ append_assoc old first second
