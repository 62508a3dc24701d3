-- What wanted names stand for in an apply. There a resource stands for its answered objects whatever is before it, and
-- so everything stands for something.
use Rattle.std.proofs.Common.{◌≡◌, ◌<◌, ℕ, zero, suc, Bool, true, false, List, [], ◌∷◌, length, get_or, Contains, Option, None, Some, option_map, is_some, refl, sym, ap, ◌∙◌, arith}
use Rattle.std.proofs.lemmas.List.{get_or_default}
use Rattle.std.specs.Prelude.{slice_index}
use Rattle.std.specs.List.{AllByRecursion}
use Rattle.tf_config_address.specs.ObjectId.{InstanceKeyView}
use Rattle.tf_config_data.specs.Names.{NameView, Meant, a_local, a_block, meant_at, refers_at, directly_before}
use Rattle.tf_graph.proofs.Edges.{all_by_contained}
use Rattle.tf_graph.proofs.Solving.{all_by_at}
use Rattle.tf_graph.specs.Solutions.{Ranked, seen_by}
use Rattle.tf_value_data.specs.Tree.{Tree, Entries}
use Rattle.tf_expr_eval.proofs.Locality.{expressions_local}
use Rattle.tf_expr_eval.specs.Environment.{Environment}
use Rattle.tf_expr_eval.specs.Locality.{AgreeOn}
use Rattle.tf_expand_keys.proofs.Locals.{all_seen, applying_local}
use Rattle.tf_expand_keys.proofs.Places.{along, names_stay}
use Rattle.tf_expand_keys.proofs.Seen.{agree_on}
use Rattle.tf_expand_keys.specs.InstanceKeys.{InstanceKeysView, one, many, named, instance_keys, objects_at, collected}
use Rattle.tf_expand_keys.specs.Stages.{applying}
use Rattle.tf_expand_keys.specs.Resolved.{ResolvedView, AreResolvedNames, all_stand, environment, environment_at, stands_at, where_all}
use Rattle.tf_walk_names.specs.Wanted.{is_local}

objects_there : (object : InstanceKeyView → Tree) (ks : List InstanceKeyView) → is_some (objects_at (λ key. Some (object key)) ks) ≡ true
objects_there object [] = refl
objects_there object (k ∷ ks) = mapped (objects_at (λ key. Some (object key)) ks) (λ ts. object k ∷ ts) (objects_there object ks)
  where
    mapped : (o : Option (List Tree)) (f : List Tree → List Tree) → is_some o ≡ true → is_some (option_map f o) ≡ true
    mapped (Some ts) f h = refl
    mapped None f h = absurd (cc)

some_mapped : {A B : Type 0} → (o : Option A) (f : A → B) → is_some o ≡ true → is_some (option_map f o) ≡ true
some_mapped (Some a) f h = refl
some_mapped None f h = absurd (cc)

laid_there : (shape : InstanceKeysView) (object : InstanceKeyView → Tree) → is_some (collected shape (λ key. Some (object key))) ≡ true
laid_there one object = refl
laid_there (many n) object = some_mapped (objects_at (λ key. Some (object key)) (instance_keys (many n))) _ (objects_there object (instance_keys (many n)))
laid_there (named names) object = some_mapped (objects_at (λ key. Some (object key)) (instance_keys (named names))) _ (objects_there object (instance_keys (named names)))

pub meant_there : (names : List NameView) (n : ℕ) → n < length names → is_some (meant_at names n) ≡ true
meant_there [] n h = absurd (omega arith)
meant_there (name ∷ names) zero h = refl
meant_there (name ∷ names) (suc n) h = meant_there names n (omega arith)

module _ (shapes : ℕ → InstanceKeysView) (objects : ℕ → InstanceKeyView → Tree) where
  -- a name of the list stands for something by itself
  pub stands_there : (n : ℕ) (m : Option Meant) (env : Environment) → is_some m ≡ true → is_some (stands_at (applying shapes objects) n m env) ≡ true
  stands_there n None env h = absurd (cc)
  stands_there n (Some (a_local e)) env h = refl
  stands_there n (Some (a_block b)) env h = some_mapped (collected (shapes n) (λ key. Some (objects n key))) _ (laid_there (shapes n) (objects n))

  all_there : (resolved_names : ℕ → ResolvedView) (ns : List ℕ) → AllByRecursion (λ a. is_some (resolved_names a) ≡ true) ns → all_stand (seen_by resolved_names ns) ≡ true
  all_there resolved_names [] h = refl
  all_there resolved_names (n ∷ ns) h =
      let first : is_some (resolved_names n) ≡ true = h.0 in
      let rest : all_stand (seen_by resolved_names ns) ≡ true = all_there resolved_names ns h.1 in
      rw (first, rest) refl

  unless_none : (b : Bool) (s t : ResolvedView) → b ≡ true → s ≡ where_all b t → s ≡ t
  unless_none true s t h is = is
  unless_none false s t h is = absurd (cc)

  module _ (variables : Entries) (names : List NameView) (ranked : Ranked (directly_before names)) (resolved_names : ℕ → ResolvedView) (solves : AreResolvedNames (applying shapes objects) variables names resolved_names) where
    -- each name stands for something
    something_stands : (n : ℕ) → n < length names → is_some (resolved_names n) ≡ true
    something_stands n h =
        along (length names) (directly_before names) (λ a. is_some (resolved_names a) ≡ true) ranked (names_stay names)
        (λ k below before.
        let all : all_stand (seen_by resolved_names (directly_before names k)) ≡ true = all_there resolved_names (directly_before names k) before in
        let alone : resolved_names k ≡ stands_at (applying shapes objects) k (meant_at names k) (environment_at variables names resolved_names k) =
        unless_none (all_stand (seen_by resolved_names (directly_before names k))) (resolved_names k) (stands_at (applying shapes objects) k (meant_at names k) (environment_at variables names resolved_names k)) all (solves k below) in
        rw alone (stands_there k (meant_at names k) (environment_at variables names resolved_names k) (meant_there names k below)))
        n h

    -- so it stands for what it does by itself
    stands_alone : (n : ℕ) → n < length names → resolved_names n ≡ stands_at (applying shapes objects) n (meant_at names n) (environment variables names resolved_names)
    stands_alone n h =
        let all : all_stand (seen_by resolved_names (directly_before names n)) ≡ true =
        all_there resolved_names (directly_before names n) (all_by_contained (λ a. is_some (resolved_names a) ≡ true) (directly_before names n) (λ a c. something_stands a (all_by_at (λ b. b < length names) (directly_before names n) a (names_stay names n h) c))) in
        unless_none (all_stand (seen_by resolved_names (directly_before names n))) (resolved_names n) (stands_at (applying shapes objects) n (meant_at names n) (environment variables names resolved_names)) all
        (all_seen expressions_local (applying shapes objects) variables names resolved_names (applying_local shapes objects) solves n h)

  answered_same : (n : ℕ) (m : Option Meant) (e f : Environment) → (is_local m ≡ true → AgreeOn e f (refers_at m)) → stands_at (applying shapes objects) n m e ≡ stands_at (applying shapes objects) n m f
  answered_same n None e f h = refl
  answered_same n (Some (a_local t)) e f h = ap Some (expressions_local e f t (h refl))
  answered_same n (Some (a_block b)) e f h = refl

  -- where what is kept of all that a local names is right, so is what the local stands for, and a resource's always is
  pub next_is : (variables : Entries) (names : List NameView) → Ranked (directly_before names) → (kept resolved_names : ℕ → ResolvedView) → AreResolvedNames (applying shapes objects) variables names resolved_names → (p : ℕ) → p < length names
      → (is_local (meant_at names p) ≡ true → AllByRecursion (λ a. kept a ≡ resolved_names a) (directly_before names p))
      → stands_at (applying shapes objects) p (meant_at names p) (environment variables names kept) ≡ resolved_names p
  next_is variables names ranked kept resolved_names solves p h same =
      answered_same p (meant_at names p) (environment variables names kept) (environment variables names resolved_names)
      (λ is. agree_on variables names kept resolved_names (refers_at (meant_at names p)) (same is))
      ∙ sym (stands_alone variables names ranked resolved_names solves p h)

-- a place of the order, which the code reads under another name
pub place_of_order : (order items : List ℕ) (i : ℕ) → items ≡ order → i < length items → (i < length order) × (get_or items i 0 ≡ slice_index order i) × Contains order (get_or items i 0)
place_of_order order items i same h =
    let below : i < length order = (rw same at h) in
    let is : get_or items i 0 ≡ slice_index order i = ap (λ xs. get_or xs i 0) same in
    (below, is, (i, below, get_or_default order i (get_or items i 0) 0 below ∙ sym is))
