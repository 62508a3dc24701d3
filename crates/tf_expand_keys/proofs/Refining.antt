-- Objects that refine, collected, refine.
use Rattle.std.proofs.Common.{◌≡◌, ℕ, Bool, true, false, if◌then◌else◌, ◌&&◌, nat_le, List, [], ◌∷◌, Option, Some, None, Ok, Err, option_map, refl}
use Rattle.std.specs.Option.{option_and_then}
use Rattle.std.specs.Cmp.Lexicographic.{slice_cmp}
use Rattle.std.specs.Ordering.{nat_cmp, match_ordering}
use Rattle.std.specs.Str.{bytes_eq}
use Rattle.std.specs.declared.cmp.Ordering.{Ordering}
use Rattle.std.specs.declared.cmp.Ordering.TheVariants.{Less, Equal, Greater}
use Rattle.tf_config_address.specs.ObjectId.{InstanceKeyView}
use Rattle.tf_value_data.specs.Measure.{weight, depth, max_weight, max_depth}
use Rattle.tf_value_data.specs.Tree.{Tree, items_of, Entries, no_entries, entry, keys_of, get, put}
use Rattle.tf_value_data.specs.Refinement.{Refines, RefinesItems, RefinesEntries}
use Rattle.tf_expr_operators.specs.Answer.{Answer, limited}
use Rattle.tf_expr_syntax.specs.declared.fault.EvalFault.TheVariants.{TooLarge}
use Rattle.tf_expand_keys.specs.StandingLaws.{Grows}
use Rattle.tf_expand_keys.specs.InstanceKeys.{InstanceKeysView, one, many, named, instance_keys, objects_at, put_each, list_of, map_under, collected}
use Rattle.tf_expand_keys.specs.Resolved.{together}

-- where there is an option's value and what follows has one
pub followed : {A B : Type 0} → (o : Option A) (f : A → Option B) (b : B) → option_and_then f o ≡ Some b → (a : A) × (o ≡ Some a) × (f a ≡ Some b)
followed None f b h = absurd (cc)
followed (Some a) f b h = (a, refl, h)

pub mapped : {A B : Type 0} → (o : Option A) (f : A → B) (b : B) → option_map f o ≡ Some b → (a : A) × (o ≡ Some a) × (f a ≡ b)
mapped None f b h = absurd (cc)
mapped (Some a) f b h = (a, refl, (cc))

-- the object of each key refines to another, where there are both
abbrev pub ObjectsRefine : (InstanceKeyView → Option Tree) → (InstanceKeyView → Option Tree) → Type 0
ObjectsRefine f g = (key : InstanceKeyView) (t u : Tree) → f key ≡ Some t → g key ≡ Some u → Refines t u

-- what two answers hold, where both hold something, refines
abbrev pub AnswersRefine : Answer → Answer → Type 0
AnswersRefine a b = (v w : Tree) → a ≡ Ok v → b ≡ Ok w → Refines v w

-- what is related by either branch of a test
pub either : {A : Type 0} (R : A → A → Type 0) (here : Bool) (x y u v : A) → R x u → R y v → R (if here then x else y) (if here then u else v)
either R true x y u v h k = h
either R false x y u v h k = k

both_some : {A : Type 0} (R : A → A → Type 0) (a b : A) → R a b → (c d : A) → Some a ≡ Some c → Some b ≡ Some d → R c d
both_some R a b h c d p q = let e : a ≡ c = (cc) in let f : b ≡ d = (cc) in rw (← e, ← f) h

-- what is made of related values is related
mapped_both : {A B : Type 0} (R : A → A → Type 0) (S : B → B → Type 0) (f g : A → B) → ((a b : A) → R a b → S (f a) (g b)) → (x y : Option A)
    → ((a b : A) → x ≡ Some a → y ≡ Some b → R a b)
    → (c d : B) → option_map f x ≡ Some c → option_map g y ≡ Some d → S c d
mapped_both R S f g made (Some a) (Some b) h c d p q = both_some S (f a) (g b) (made a b (h a b refl refl)) c d p q
mapped_both R S f g made _ _ h c d p q = absurd (cc)

-- lists of trees of which each refines
abbrev ListsRefine : List Tree → List Tree → Type 0
ListsRefine ts us = RefinesItems (items_of ts) (items_of us)

objects_refine : (f g : InstanceKeyView → Option Tree) (ks : List InstanceKeyView) (ts us : List Tree) → ObjectsRefine f g
    → objects_at f ks ≡ Some ts → objects_at g ks ≡ Some us → ListsRefine ts us
objects_refine f g [] ts us h p q = both_some ListsRefine [] [] tt ts us p q
objects_refine f g (k ∷ ks) ts us h p q =
    let a = followed (f k) (λ t. option_map (λ others. t ∷ others) (objects_at f ks)) ts p in
    let b = followed (g k) (λ t. option_map (λ others. t ∷ others) (objects_at g ks)) us q in
    mapped_both ListsRefine ListsRefine (λ others. a.0 ∷ others) (λ others. b.0 ∷ others) (λ xs ys rest. (h k a.0 b.0 a.1 b.1, rest))
    (objects_at f ks) (objects_at g ks) (λ xs ys. objects_refine f g ks xs ys h) ts us a.2 b.2

put_by : (k l : List ℕ) (t u x y : Tree) (es fs more others : Entries) (o : Ordering) → Refines t u → Refines x y → RefinesEntries es fs → RefinesEntries more others
    → RefinesEntries (match_ordering o (entry k t (entry l x es)) (entry l t es) (entry l x more)) (match_ordering o (entry k u (entry l y fs)) (entry l u fs) (entry l y others))
put_by k l t u x y es fs more others Less h r rest put = (refl, h, (refl, r, rest))
put_by k l t u x y es fs more others Equal h r rest put = (refl, h, rest)
put_by k l t u x y es fs more others Greater h r rest put = (refl, r, put)

pub put_refines : (k : List ℕ) (t u : Tree) (es fs : Entries) → Refines t u → RefinesEntries es fs → RefinesEntries (put k t es) (put k u fs)
put_refines k t u no_entries no_entries h r = (refl, h, tt)
put_refines k t u (entry l x es) (entry m y fs) h r =
    rw (← r.0) (put_by k l t u x y es fs (put k t es) (put k u fs) (slice_cmp nat_cmp k l) h r.1 r.2 (put_refines k t u es fs h r.2))
put_refines k t u _ _ h r = absurd r

put_each_refines : (names : List (List ℕ)) (ts us : List Tree) (es fs : Entries) → ListsRefine ts us → RefinesEntries es fs
    → RefinesEntries (put_each names ts es) (put_each names us fs)
put_each_refines [] ts us es fs h r = r
put_each_refines (name ∷ names) [] [] es fs h r = r
put_each_refines (name ∷ names) (t ∷ ts) (u ∷ us) es fs h r = put_each_refines names ts us (put name t es) (put name u fs) h.1 (put_refines name t u es fs h.0 r)
put_each_refines (name ∷ names) _ _ es fs h r = absurd h

-- what stands together of objects that refine refines
pub laid_refines : (shape : InstanceKeysView) (f g : InstanceKeyView → Option Tree) (t u : Tree) → ObjectsRefine f g → collected shape f ≡ Some t → collected shape g ≡ Some u → Refines t u
laid_refines one f g t u h p q = h _ t u p q
laid_refines (many n) f g t u h p q =
    mapped_both ListsRefine Refines list_of list_of (λ ts us r. r) (objects_at f (instance_keys (many n))) (objects_at g (instance_keys (many n)))
    (λ ts us. objects_refine f g (instance_keys (many n)) ts us h) t u p q
laid_refines (named names) f g t u h p q =
    mapped_both ListsRefine Refines (map_under names) (map_under names) (λ ts us r. put_each_refines names ts us no_entries no_entries r tt)
    (objects_at f (instance_keys (named names))) (objects_at g (instance_keys (named names)))
    (λ ts us. objects_refine f g (instance_keys (named names)) ts us h) t u p q

within_is : (enough : Bool) (t v : Tree) → ◌≡◌ {A = Answer} (if enough then Ok t else Err TooLarge) (Ok v) → t ≡ v
within_is true t v h = cc
within_is false t v h = absurd (cc)

-- a value within the limits is the one that was measured
pub limited_is : (t v : Tree) → limited t ≡ Ok v → t ≡ v
limited_is t v h = within_is (nat_le (weight t) max_weight && nat_le (depth t) max_depth) t v h

-- resources of one shape whose objects refine grow
pub together_grows : (shape : InstanceKeysView) (f g : InstanceKeyView → Option Tree) → ObjectsRefine f g → Grows (together (Some shape) f) (together (Some shape) g)
together_grows shape f g h v w p q =
    mapped_both Refines AnswersRefine limited limited (λ t u r a b x y. rw (← limited_is t a x, ← limited_is u b y) r)
    (collected shape f) (collected shape g) (λ t u. laid_refines shape f g t u h) (Ok v) (Ok w) p q v w refl refl

-- a map has the keys of each map that it refines to
pub same_keys : (es fs : Entries) → RefinesEntries es fs → keys_of es ≡ keys_of fs
same_keys no_entries no_entries h = refl
same_keys (entry k t es) (entry l u fs) h = rw (h.0, same_keys es fs h.2) refl
same_keys _ _ h = absurd h

-- what stands at a key refines
pub get_refines : (k : List ℕ) (es fs : Entries) (v w : Tree) → RefinesEntries es fs → get k es ≡ Some v → get k fs ≡ Some w → Refines v w
get_refines k no_entries fs v w h p q = absurd (cc)
get_refines k (entry l t es) no_entries v w h p q = absurd h
get_refines k (entry l t es) (entry m u fs) v w h p q =
    either (λ x y. (a b : Tree) → x ≡ Some a → y ≡ Some b → Refines a b) (bytes_eq k l) (Some t) (get k es) (Some u) (get k fs)
    (both_some Refines t u h.1) (λ x y. get_refines k es fs x y h.2) v w p (rw h.0 q)
