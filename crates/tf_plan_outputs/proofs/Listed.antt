-- One change after another.
use Rattle.std.proofs.Common.{◌≡◌, ℕ, List, [], ◌∷◌, ◌++◌, String, Global, map, string_bytes, sym, ap, subst, ◌∙◌, append_assoc}
use Rattle.std.proofs.lemmas.List.{map-append}
use Rattle.std.specs.List.{AllByRecursion}
use Rattle.tf_plan_data.specs.Plan.{PlanView}
use Rattle.tf_plan_outputs.specs.Changes.{IsOutputChange, OutputChangeView}
use Rattle.tf_plan_outputs.specs.Views.{change_view}
use Rattle.tf_plan_outputs.specs.declared.change.OutputChange.{OutputChange}
use Rattle.tf_value_data.specs.Tree.{texts_view}

-- the names of changes
abbrev pub names_of : List OutputChange → List (List ℕ)
names_of made = map (λ c. c.name) (map change_view made)

names_pushed : (made : List OutputChange) (c : OutputChange) → names_of (made ++ c ∷ []) ≡ names_of made ++ string_bytes c.name ∷ []
names_pushed made c = ap (map (λ c. c.name)) (map-append change_view made (c ∷ [])) ∙ map-append (λ c. c.name) (map change_view made) (change_view c ∷ [])

-- one change more, and one name less that is left
pub names_more : (old new : List OutputChange) (c : OutputChange) (left rest : List (String Global)) (name : String Global) → new ≡ old ++ c ∷ [] → left ≡ name ∷ rest → string_bytes c.name ≡ string_bytes name
    → names_of new ++ texts_view rest ≡ names_of old ++ texts_view left
names_more old new c left rest name pushed is named =
    ap (λ made. names_of made ++ texts_view rest) pushed
    ∙ ap (λ ks. ks ++ texts_view rest) (names_pushed old c)
    ∙ append_assoc (names_of old) (string_bytes c.name ∷ []) (texts_view rest)
    ∙ ap (λ k. names_of old ++ k ∷ texts_view rest) named
    ∙ ap (λ ks. names_of old ++ texts_view ks) (sym is)

all_pushed : {A : Type 0} (P : A → Type 0) (xs : List A) (x : A) → AllByRecursion P xs → P x → AllByRecursion P (xs ++ x ∷ [])
all_pushed P [] x all here = (here, tt)
all_pushed P (y ∷ ys) x all here = (all.0, all_pushed P ys x all.1 here)

pub each_more : (plan : PlanView) (old new : List OutputChange) (c : OutputChange) → new ≡ old ++ c ∷ [] → IsOutputChange plan (change_view c) → AllByRecursion (IsOutputChange plan) (map change_view old)
    → AllByRecursion (IsOutputChange plan) (map change_view new)
each_more plan old new c pushed here all =
    subst (λ (cs : List OutputChangeView). AllByRecursion (IsOutputChange plan) cs) (sym (ap (map change_view) pushed ∙ map-append change_view old (c ∷ [])))
    (all_pushed (IsOutputChange plan) (map change_view old) (change_view c) all here)
