-- Texts that JSON writes as they are.
use Rattle.std.proofs.Common.{◌≡◌, ℕ, List, [], ◌∷◌, ◌++◌, true, refl, ap, ap₂, ◌∙◌, arith}
use Rattle.std.specs.List.{list_all}
use Rattle.json.specs.Print.{escape, escape_byte, escape_letter}
use Rattle.tf_plan_text.specs.Plain.{is_plain}

plain_byte : (b : ℕ) → is_plain b ≡ true → escape_byte b ≡ b ∷ []
unfolding escape_byte
plain_byte b e = grind arith

pub escapes_nothing : (s : List ℕ) → list_all is_plain s ≡ true → escape s ≡ s
escapes_nothing [] e = refl
escapes_nothing (b ∷ s) e =
    let first : is_plain b ≡ true = grind arith in
    let others : list_all is_plain s ≡ true = grind arith in
    ap₂ (λ xs ys. xs ++ ys) (plain_byte b first) (escapes_nothing s others)
