use Rattle.std.proofs.Common.{◌≡◌, Bool, true, false, List, [], ◌∷◌, filter, map, refl, ap, ◌∙◌, rules}
use Rattle.std.proofs.lemmas.Fn.{filter_same}
use Rattle.tf_state_next.specs.StateAfter.{has_records}
use Rattle.tf_state_data.specs.Resource.{resource_of}
use Rattle.tf_state_next.proofs.whole.present.Goals as goal

-- those that pass a test are seen as those that pass it as they are seen
seen_filter : {A B : Type 0} (f : A → B) (p : B → Bool) (xs : List A) → map f (filter (λ x. p (f x)) xs) ≡ filter p (map f xs)
seen_filter f p [] = refl
seen_filter f p (x ∷ xs) = at (p (f x)) refl (seen_filter f p xs)
  where
    at : (b : Bool) → p (f x) ≡ b → map f (filter (λ x. p (f x)) xs) ≡ filter p (map f xs) → map f (filter (λ x. p (f x)) (x ∷ xs)) ≡ filter p (map f (x ∷ xs))
    at true e rest = rw e (ap (λ ys. f x ∷ ys) rest)
    at false e rest = rw e rest

pub returns : goal.returns
returns c =
    ap (map resource_of) (filter_same _ (λ r. has_records (resource_of r)) _ (λ x b f called. (search rules, search rules)) _ _ c.retain.ensures.filtered)
    ∙ seen_filter resource_of has_records c.args.resources.items
