-- What names stand for in an apply is known where the objects of instances are.
use Rattle.std.proofs.Common.{◌≡◌, ◌∙◌, ◌<◌, ◌==◌, ℕ, Bool, true, false, cond, List, [], ◌∷◌, length, codes, Option, Some, None, Ok, refl, sym, ap, subst}
use Rattle.std.specs.Cmp.Lexicographic.{slice_cmp}
use Rattle.std.specs.List.{AllByRecursion}
use Rattle.std.specs.Option.{option_map_or}
use Rattle.std.specs.Ordering.{match_ordering, nat_cmp}
use Rattle.std.specs.Str.{bytes_eq}
use Rattle.std.specs.declared.cmp.Ordering.{Ordering}
use Rattle.std.specs.declared.cmp.Ordering.TheVariants.{Less, Equal, Greater}
use Rattle.tf_config_address.specs.ObjectId as keys
use Rattle.tf_config_address.specs.ObjectId.{InstanceKeyView}
use Rattle.tf_config_data.specs.Config.{BlockView}
use Rattle.tf_config_data.specs.Names.{NameView, Meant, a_local, a_block, meant_at, directly_before, place_of}
use Rattle.tf_plan_decision.proofs.Equal.{known_at}
use Rattle.tf_expand_keys.proofs.Places.{IsPlaceBelow, along, names_stay, place_below}
use Rattle.tf_expand_keys.proofs.Refining.{limited_is, mapped}
use Rattle.tf_expand_keys.specs.InstanceKeys.{InstanceKeysView, one, many, named, instance_keys, collected, list_of, map_under, objects_at, put_each}
use Rattle.tf_expand_keys.specs.Stages.{applying}
use Rattle.tf_expand_keys.specs.Resolved.{ResolvedView, AreResolvedNames, all_stand, answer_at, environment, or_missing, result_in, stands_at, together, where_all}
use Rattle.tf_graph.specs.Solutions.{Ranked, seen_by}
use Rattle.tf_plan_order.specs.Members.{is_among}
use Rattle.tf_expr_operators.specs.Answer.{Answer, limited, present_value}
use Rattle.tf_value_data.proofs.Conjunction.{and-both, and-first, and-second}
use Rattle.tf_value_data.specs.Known.{known, known_entries, known_items}
use Rattle.tf_value_data.specs.Tree.{Tree, Entries, no_entries, entry, get, items_of, put}
use Rattle.tf_laws.proofs.Members.{all_among}
use Rattle.tf_laws.specs.Known.{ExpressionsStayKnown, IsKnown}

-- ---- objects that stand together

put_by : (o : Ordering) (k l : List ℕ) (t u : Tree) (es more : Entries) → known t ≡ true → known u ≡ true → known_entries es ≡ true → known_entries more ≡ true
    → known_entries (match_ordering o (entry k t (entry l u es)) (entry l t es) (entry l u more)) ≡ true
put_by Less k l t u es more h g e m = and-both (known t) _ h (and-both (known u) (known_entries es) g e)
put_by Equal k l t u es more h g e m = and-both (known t) (known_entries es) h e
put_by Greater k l t u es more h g e m = and-both (known u) (known_entries more) g m

put_known : (k : List ℕ) (t : Tree) (es : Entries) → known t ≡ true → known_entries es ≡ true → known_entries (put k t es) ≡ true
put_known k t no_entries h e = and-both (known t) true h refl
put_known k t (entry l u es) h e =
    put_by (slice_cmp nat_cmp k l) k l t u es (put k t es) h (and-first (known u) (known_entries es) e) (and-second (known u) (known_entries es) e) (put_known k t es h (and-second (known u) (known_entries es) e))

put_each_known : (names : List (List ℕ)) (ts : List Tree) (es : Entries) → known_items (items_of ts) ≡ true → known_entries es ≡ true → known_entries (put_each names ts es) ≡ true
put_each_known [] ts es h e = e
put_each_known (name ∷ names) [] es h e = e
put_each_known (name ∷ names) (t ∷ ts) es h e =
    put_each_known names ts (put name t es) (and-second (known t) (known_items (items_of ts)) h) (put_known name t es (and-first (known t) (known_items (items_of ts)) h) e)

items_known : (f : InstanceKeyView → Tree) (ks : List InstanceKeyView) (ts : List Tree) → AllByRecursion (λ k. known (f k) ≡ true) ks → objects_at (λ k. Some (f k)) ks ≡ Some ts → known_items (items_of ts) ≡ true
items_known f [] ts h e = let is : [] ≡ ts = (cc) in subst (λ (xs : List Tree). known_items (items_of xs) ≡ true) is refl
items_known f (k ∷ ks) ts h e =
    let rest = mapped (objects_at (λ k. Some (f k)) ks) (λ us. f k ∷ us) ts e in
    subst (λ (xs : List Tree). known_items (items_of xs) ≡ true) rest.2 (and-both (known (f k)) (known_items (items_of rest.0)) h.0 (items_known f ks rest.0 h.1 rest.1))

laid_known : (shape : InstanceKeysView) (f : InstanceKeyView → Tree) (t : Tree) → AllByRecursion (λ k. known (f k) ≡ true) (instance_keys shape) → collected shape (λ k. Some (f k)) ≡ Some t → known t ≡ true
laid_known one f t h e = let is : f keys.single ≡ t = (cc) in subst (λ (x : Tree). known x ≡ true) is h.0
laid_known (many n) f t h e =
    let ts = mapped (objects_at (λ k. Some (f k)) (instance_keys (many n))) list_of t e in
    subst (λ (x : Tree). known x ≡ true) ts.2 (items_known f (instance_keys (many n)) ts.0 h ts.1)
laid_known (named names) f t h e =
    let ts = mapped (objects_at (λ k. Some (f k)) (instance_keys (named names))) (map_under names) t e in
    subst (λ (x : Tree). known x ≡ true) ts.2 (put_each_known names ts.0 no_entries (items_known f (instance_keys (named names)) ts.0 h ts.1) refl)

together_known : (shape : InstanceKeysView) (f : InstanceKeyView → Tree) (v : Tree) → ((key : InstanceKeyView) → is_among (instance_keys shape) key ≡ true → known (f key) ≡ true) → together (Some shape) (λ k. Some (f k)) ≡ Some (Ok v) → known v ≡ true
together_known shape f v h e =
    let t = mapped (collected shape (λ k. Some (f k))) limited (Ok v) e in
    subst (λ (x : Tree). known x ≡ true) (limited_is t.0 v t.2) (laid_known shape f t.0 (all_among (λ k. known (f k) ≡ true) (instance_keys shape) h) t.1)

-- ---- environments

-- a name stands for a known value, where it does for a value
abbrev pub IsKnownAt : (ℕ → ResolvedView) → ℕ → Type 0
IsKnownAt resolved_names n = (v : Tree) → resolved_names n ≡ Some (Ok v) → known v ≡ true

either_seen : (b : Bool) (x rest : ResolvedView) (v : Tree) → (x ≡ Some (Ok v) → known v ≡ true) → (rest ≡ Some (Ok v) → known v ≡ true) → cond b x rest ≡ Some (Ok v) → known v ≡ true
either_seen true x rest v h g e = h e
either_seen false x rest v h g e = g e

seen_known : (resolved_names : ℕ → ResolvedView) (nodes : List ℕ) → AllByRecursion (IsKnownAt resolved_names) nodes → (m : ℕ) → IsKnownAt (result_in (seen_by resolved_names nodes)) m
seen_known resolved_names [] all m v e = absurd (cc)
seen_known resolved_names (a ∷ nodes) all m v e = either_seen (a == m) (resolved_names a) (result_in (seen_by resolved_names nodes) m) v (λ f. all.0 v f) (λ f. seen_known resolved_names nodes all.1 m v f) e

present_known : (o : Option Tree) (v : Tree) → option_map_or known o true ≡ true → present_value o ≡ Ok v → known v ≡ true
present_known None v k e = absurd (cc)
present_known (Some t) v k e = let same : t ≡ v = (cc) in subst (λ (x : Tree). known x ≡ true) same k

missing_known : (o : ResolvedView) (v : Tree) → (o ≡ Some (Ok v) → known v ≡ true) → or_missing o ≡ Ok v → known v ≡ true
missing_known None v h e = absurd (cc)
missing_known (Some a) v h e = h (ap Some e)

answer_known : (resolved_names : ℕ → ResolvedView) (count : ℕ) (place : Option ℕ) (v : Tree) → ((n : ℕ) → n < count → IsKnownAt resolved_names n) → IsPlaceBelow count place → answer_at resolved_names place ≡ Ok v → known v ≡ true
answer_known resolved_names count None v h below e = absurd (cc)
answer_known resolved_names count (Some n) v h below e = missing_known (resolved_names n) v (h n below v) e

either_answer : (b : Bool) (x y : Answer) (v : Tree) → (x ≡ Ok v → known v ≡ true) → (y ≡ Ok v → known v ≡ true) → cond b x y ≡ Ok v → known v ≡ true
either_answer true x y v h g e = h e
either_answer false x y v h g e = g e

-- so is what references stand for
pub environment_known : (variables : Entries) (names : List NameView) (resolved_names : ℕ → ResolvedView) → known_entries variables ≡ true → ((n : ℕ) → n < length names → IsKnownAt resolved_names n) → IsKnown (environment variables names resolved_names)
environment_known variables names resolved_names vars all first name v e =
    either_answer (bytes_eq first (codes "var")) (present_value (get name variables)) (answer_at resolved_names (place_of names (first, name))) v
    (present_known (get name variables) v (known_at variables name vars))
    (answer_known resolved_names (length names) (place_of names (first, name)) v all (place_below names (first, name))) e

where_is : (b : Bool) (x : ResolvedView) (v : Tree) → where_all b x ≡ Some (Ok v) → x ≡ Some (Ok v)
where_is true x v e = e
where_is false x v e = absurd (cc)

module _ (law : ExpressionsStayKnown) (variables : Entries) (names : List NameView) (shapes : ℕ → InstanceKeysView) (objects : ℕ → InstanceKeyView → Tree) (vars : known_entries variables ≡ true)
    (objects_known : (n : ℕ) (block : BlockView) (key : InstanceKeyView) → meant_at names n ≡ Some (a_block block) → is_among (instance_keys (shapes n)) key ≡ true → known (objects n key) ≡ true)
    (ranked : Ranked (directly_before names)) (resolved_names : ℕ → ResolvedView) (solves : AreResolvedNames (applying shapes objects) variables names resolved_names) where
  meant_known : (n : ℕ) (m : Option Meant) (v : Tree) → meant_at names n ≡ m → AllByRecursion (IsKnownAt resolved_names) (directly_before names n)
      → stands_at (applying shapes objects) n m (environment variables names (result_in (seen_by resolved_names (directly_before names n)))) ≡ Some (Ok v) → known v ≡ true
  meant_known n None v meant before e = absurd (cc)
  meant_known n (Some (a_local x)) v meant before e =
      law (environment variables names (result_in (seen_by resolved_names (directly_before names n)))) x v
      (environment_known variables names (result_in (seen_by resolved_names (directly_before names n))) vars (λ m h. seen_known resolved_names (directly_before names n) before m)) (cc)
  meant_known n (Some (a_block block)) v meant before e = together_known (shapes n) (objects n) v (λ key among. objects_known n block key meant among) e

  -- each name stands for a known value
  pub standings_known : (n : ℕ) → n < length names → IsKnownAt resolved_names n
  standings_known n h =
      along (length names) (directly_before names) (IsKnownAt resolved_names) ranked (names_stay names)
      (λ k below before v e. meant_known k (meant_at names k) v refl before
      (where_is (all_stand (seen_by resolved_names (directly_before names k))) (stands_at (applying shapes objects) k (meant_at names k) (environment variables names (result_in (seen_by resolved_names (directly_before names k))))) v (sym (solves k below) ∙ e)))
      n h

  -- and so what references stand for is known
  pub applied_known : IsKnown (environment variables names resolved_names)
  applied_known = environment_known variables names resolved_names vars standings_known
