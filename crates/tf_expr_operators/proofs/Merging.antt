-- What stands in maps that were merged.
use Rattle.std.proofs.Common.{◌≡◌, ℕ, List, Bool, true, false, cond, Some, None, refl, ap, ◌∙◌}
use Rattle.std.specs.Str.{bytes_eq}
use Rattle.std.proofs.lemmas.Slice.Eq.{bytes_eq-Decides}
use Rattle.tf_value_data.specs.Tree.{Tree, Entries, no_entries, entry, get, put}
use Rattle.tf_value_data.proofs.Keys.{get-put, get-put_other}
use Rattle.tf_expr_operators.specs.Functions.{laid_over}
use Rattle.tf_expr_operators.specs.Laws.{AreDistinct, later_or_earlier}

found_there : (b : Bool) (k l : List ℕ) (t : Tree) (base es : Entries) → bytes_eq k l ≡ b → get l es ≡ None → get k (laid_over (put l t base) es) ≡ later_or_earlier (get k es) (get k (put l t base))
    → get k (laid_over (put l t base) es) ≡ later_or_earlier (cond b (Some t) (get k es)) (get k base)
found_there true k l t base es is none later =
    let same : k ≡ l = (bytes_eq-Decides k l).0 is in
    let nothing : get k es ≡ None = ap (λ x. get x es) same ∙ none in
    let put_in : get k (put l t base) ≡ Some t = ap (λ x. get x (put l t base)) same ∙ get-put l t base in
    later ∙ ap (λ o. later_or_earlier o (get k (put l t base))) nothing ∙ put_in
found_there false k l t base es is none later =
    let apart : k ≡ l → ⊥ = λ e. let same = (bytes_eq-Decides k l).1 e in absurd (cc) in
    later ∙ ap (later_or_earlier (get k es)) (get-put_other l k t base apart)

pub get-laid_over : (k : List ℕ) (base es : Entries) → AreDistinct es → get k (laid_over base es) ≡ later_or_earlier (get k es) (get k base)
get-laid_over k base no_entries h = refl
get-laid_over k base (entry l t es) h = found_there _ k l t base es refl h.0 (get-laid_over k (put l t base) es h.1)
