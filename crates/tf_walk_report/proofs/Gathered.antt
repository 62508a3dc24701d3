-- What one action more adds to a report.
use Rattle.std.proofs.Common.{◌≡◌, ◌≤◌, suc, length, List, [], ◌∷◌, ◌++◌, map, Option, Some, None, option_map, refl, sym, ap, ◌∙◌, append_assoc, arith}
use Rattle.std.proofs.lemmas.List.{length-append}
use Rattle.tf_walk_report.specs.ActionReport.{listed}
use Rattle.tf_walk_report.specs.Diagnostics.{DiagnosticView, diagnostic_of}
use Rattle.tf_state_next.specs.Events.{ApplyView, DestroyView}
use Rattle.tf_walk_report.specs.Change.{ChangeView, an_apply, a_destroy, applies_in, destroys_in}
use Rattle.tf_walk_report.specs.declared.diagnostic.Diagnostic.{Diagnostic}

told_listed : (t : Option Diagnostic) (rest : List DiagnosticView) → map diagnostic_of (listed t) ++ rest ≡ listed (option_map diagnostic_of t) ++ rest
told_listed None rest = refl
told_listed (Some t) rest = refl

pub told-more : (ts : List Diagnostic) (t : Option Diagnostic) (told rest : List DiagnosticView) → listed (option_map diagnostic_of t) ≡ told → map diagnostic_of (ts ++ listed t) ++ rest ≡ map diagnostic_of ts ++ (told ++ rest)
told-more [] t told rest e = told_listed t rest ∙ ap (λ xs. xs ++ rest) e
told-more (x ∷ ts) t told rest e = ap (λ ys. diagnostic_of x ∷ ys) (told-more ts t told rest e)

-- what is left is paired
pub paired-more : {A B : Type 0} (xs xs' : List A) (ys ys' : List B) (x : A) (y : B) → xs ≡ x ∷ xs' → ys ≡ y ∷ ys' → length xs ≡ length ys → length xs' ≡ length ys'
paired-more xs xs' ys ys' x y e f h =
    let k : suc (length xs') ≡ suc (length ys') = sym (ap length e) ∙ (h ∙ ap length f) in omega (arith, k)

-- and one less
pub one-less : {A : Type 0} (xs xs' : List A) (x : A) → xs ≡ x ∷ xs' → length xs ≡ suc (length xs')
one-less xs xs' x e = ap length e

-- at most one is added
pub one-more : {A : Type 0} (xs ys : List A) (o : Option A) → ys ≡ xs ++ listed o → length ys ≤ suc (length xs)
one-more xs ys None e = let k = ap length e ∙ length-append xs [] in omega (arith, k)
one-more xs ys (Some a) e = let k = ap length e ∙ length-append xs (a ∷ []) in omega (arith, k)

split_applies : (c : ChangeView) (rest : List ChangeView) → applies_in (c ∷ []) ++ applies_in rest ≡ applies_in (c ∷ rest)
split_applies (an_apply a) rest = refl
split_applies (a_destroy d) rest = refl

split_destroys : (c : ChangeView) (rest : List ChangeView) → destroys_in (c ∷ []) ++ destroys_in rest ≡ destroys_in (c ∷ rest)
split_destroys (an_apply a) rest = refl
split_destroys (a_destroy d) rest = refl

-- what came of one action more, where it is a create or an update
pub applies-more : (old : List ApplyView) (c : ChangeView) (rest : List ChangeView) → (old ++ applies_in (c ∷ [])) ++ applies_in rest ≡ old ++ applies_in (c ∷ rest)
applies-more old c rest = append_assoc old (applies_in (c ∷ [])) (applies_in rest) ∙ ap (λ xs. old ++ xs) (split_applies c rest)

-- and where it is a destroy
pub destroys-more : (old : List DestroyView) (c : ChangeView) (rest : List ChangeView) → (old ++ destroys_in (c ∷ [])) ++ destroys_in rest ≡ old ++ destroys_in (c ∷ rest)
destroys-more old c rest = append_assoc old (destroys_in (c ∷ [])) (destroys_in rest) ∙ ap (λ xs. old ++ xs) (split_destroys c rest)
