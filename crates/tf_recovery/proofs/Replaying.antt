-- What holds of the programs' three providers, and of their meanings.
use Rattle.std.proofs.Common.{◌≡◌, ◌∙◌, List, [], ◌∷◌, map, refl, sym, ap, subst}
use Rattle.tf_provider_protocol.specs.Meaning.{Meaning}

-- three providers mean what each of them means
pub three_meanings : {B : Type 0} (f : B → Meaning) (bs : List B) (first second third : Meaning) (ms : List Meaning) (b c d : B) → first ∷ second ∷ third ∷ [] ≡ ms
    → bs ≡ b ∷ c ∷ d ∷ [] → f b ≡ first → f c ≡ second → f d ≡ third → map f bs ≡ ms
three_meanings f bs first second third ms b c d same items is_first is_second is_third = ap (λ xs. map f xs) items ∙ (rw (is_first, is_second, is_third) refl ∙ same)

-- what holds of the meanings of three providers holds of these meanings, if they are the same
pub by_three : {B : Type 0} (f : B → Meaning) (bs : List B) (P : List Meaning → Type 0) (first second third : Meaning) (ms : List Meaning) (b c d : B) → P (map f bs) → first ∷ second ∷ third ∷ [] ≡ ms
    → bs ≡ b ∷ c ∷ d ∷ [] → f b ≡ first → f c ≡ second → f d ≡ third → P ms
by_three f bs P first second third ms b c d holds same items is_first is_second is_third =
    subst P (three_meanings f bs first second third ms b c d same items is_first is_second is_third) holds
