-- Where more is known of what is joined, and of the arguments of functions, no more than more is known of results.
use Rattle.std.proofs.Common.{◌≡◌, ◌&&◌, ◌||◌, ◌+◌, ℕ, pos, List, length, Bool, true, false, cond, Option, Some, None, Ok, option_map, Ordering, Less, Equal, Greater, nat_cmp, refl, sym, ap, ◌∙◌, subst, inl, inr}
use Rattle.std.specs.Cmp.Lexicographic.{slice_cmp}
use Rattle.std.specs.Fmt.{◌++?◌}
use Rattle.std.specs.Ordering.{match_ordering}
use Rattle.tf_value_data.specs.Tree.{Tree, null, boolean, whole, text, list, map, set, unknown, Items, no_items, item, Entries, no_entries, entry, put}
use Rattle.tf_value_data.specs.Known.{known, known_items}
use Rattle.tf_value_data.specs.Refinement.{Refines, RefinesItems, RefinesEntries}
use Rattle.tf_value_data.proofs.Conjunction.{and-both}
use Rattle.tf_value_data.proofs.Order.{Refines-refl}
use Rattle.tf_expr_syntax.specs.declared.function.Function.{Function}
use Rattle.tf_expr_syntax.specs.declared.function.Function.TheVariants.{Length, Keys, Values, Merge, Concat, Join, ToSet}
use Rattle.tf_expr_operators.specs.Answer.{Answer, any_unknown, is_unknown, items_behind, whole_value}
use Rattle.tf_expr_operators.specs.Joining.{text_of, joined_text, text_value, joined_value}
use Rattle.tf_expr_operators.specs.Functions.{items_count, entries_count, key_items, value_items, length_value, keys_value, values_value, laid_over, merged_onto, entries_value, merge_value, concatenated, items_value, concat_value, join_value, toset_value, call_value}
use Rattle.tf_expr_operators.proofs.Growth.{IsSettled, answered, ok_value, unknown_grows, values_grow, settled_grows, both_settled_grow, items_settled_grow, list_value-grows, map_value-grows}

-- texts

text_known : (t : Tree) (s : List ℕ) → text_of t ≡ Some s → known t ≡ true
text_known (boolean b) s e = refl
text_known (whole z) s e = refl
text_known (text r) s e = refl
text_known _ s e = absurd (cc)

both_known : (o p : Option (List ℕ)) (b c : Bool) (s : List ℕ) → ((r : List ℕ) → o ≡ Some r → b ≡ true) → ((r : List ℕ) → p ≡ Some r → c ≡ true) → (o ++? p) ≡ Some s → (b && c) ≡ true
both_known (Some q) (Some r) b c s h i e = and-both b c (h q refl) (i r refl)
both_known None p b c s h i e = absurd (cc)
both_known (Some q) None b c s h i e = absurd (cc)

texts_known : (ts : Items) (s : List ℕ) → joined_text ts ≡ Some s → known_items ts ≡ true
texts_known no_items s e = refl
texts_known (item t ts) s e = both_known (text_of t) (joined_text ts) (known t) (known_items ts) s (text_known t) (texts_known ts) e

joined_settled : (b : Bool) (o : Option (List ℕ)) (ts : Items) (v : Tree) → o ≡ joined_text ts → cond b (answered unknown) (text_value o) ≡ Ok v → IsSettled v (known_items ts)
joined_settled true o ts v is e = inl (ok_value unknown v e)
joined_settled false None ts v is e = absurd (cc)
joined_settled false (Some s) ts v is e = inr (texts_known ts s (sym is))

pub joined_value-grows : (ts us : Items) (v w : Tree) → RefinesItems ts us → joined_value ts ≡ Ok v → joined_value us ≡ Ok w → Refines v w
joined_value-grows ts us v w h p q = items_settled_grow joined_value ts us v w (joined_settled (any_unknown ts) (joined_text ts) ts v refl p) h p q

-- what stands in lists and maps

items_count-same : (ts us : Items) → RefinesItems ts us → items_count ts ≡ items_count us
items_count-same no_items no_items h = refl
items_count-same (item t ts) (item u us) h = ap (λ n. 1 + n) (items_count-same ts us h.1)
items_count-same _ _ h = absurd (assumption)

entries_count-same : (es fs : Entries) → RefinesEntries es fs → entries_count es ≡ entries_count fs
entries_count-same no_entries no_entries h = refl
entries_count-same (entry k t es) (entry l u fs) h = ap (λ n. 1 + n) (entries_count-same es fs h.2)
entries_count-same _ _ h = absurd (assumption)

key_items-grow : (es fs : Entries) → RefinesEntries es fs → RefinesItems (key_items es) (key_items fs)
key_items-grow no_entries no_entries h = tt
key_items-grow (entry k t es) (entry l u fs) h = (h.0, key_items-grow es fs h.2)
key_items-grow _ _ h = absurd (assumption)

value_items-grow : (es fs : Entries) → RefinesEntries es fs → RefinesItems (value_items es) (value_items fs)
value_items-grow no_entries no_entries h = tt
value_items-grow (entry k t es) (entry l u fs) h = (h.1, value_items-grow es fs h.2)
value_items-grow _ _ h = absurd (assumption)

whole_value-is : (m n : ℕ) (v w : Tree) → m ≡ n → whole_value (pos m) ≡ Ok v → whole_value (pos n) ≡ Ok w → Refines v w
whole_value-is m n v w e p q = values_grow v v v w (Refines-refl v) refl (ok_value v w (sym p ∙ ap (λ k. whole_value (pos k)) e ∙ q))

length_value-grows : (t u v w : Tree) → Refines t u → length_value t ≡ Ok v → length_value u ≡ Ok w → Refines v w
length_value-grows unknown u v w h p q = unknown_grows v w (ok_value unknown v p)
length_value-grows (list ts) (list us) v w h p q = whole_value-is _ _ v w (items_count-same ts us h) p q
length_value-grows (map es) (map fs) v w h p q = whole_value-is _ _ v w (entries_count-same es fs h) p q
length_value-grows (set ss) (set ts) v w h p q = whole_value-is _ _ v w (ap length h) p q
length_value-grows (list ts) _ v w h p q = absurd h
length_value-grows (map es) _ v w h p q = absurd h
length_value-grows (set ss) _ v w h p q = absurd h
length_value-grows _ u v w h p q = absurd (cc)

keys_value-grows : (t u v w : Tree) → Refines t u → keys_value t ≡ Ok v → keys_value u ≡ Ok w → Refines v w
keys_value-grows unknown u v w h p q = unknown_grows v w (ok_value unknown v p)
keys_value-grows (map es) (map fs) v w h p q = values_grow (list (key_items es)) (list (key_items fs)) v w (key_items-grow es fs h) (ok_value _ v p) (ok_value _ w q)
keys_value-grows (map es) _ v w h p q = absurd h
keys_value-grows _ u v w h p q = absurd (cc)

values_value-grows : (t u v w : Tree) → Refines t u → values_value t ≡ Ok v → values_value u ≡ Ok w → Refines v w
values_value-grows unknown u v w h p q = unknown_grows v w (ok_value unknown v p)
values_value-grows (map es) (map fs) v w h p q = values_grow (list (value_items es)) (list (value_items fs)) v w (value_items-grow es fs h) (ok_value _ v p) (ok_value _ w q)
values_value-grows (map es) _ v w h p q = absurd h
values_value-grows _ u v w h p q = absurd (cc)

-- several arguments, none of them unknown

is_unknown-stays : (t u : Tree) → Refines t u → is_unknown t ≡ false → is_unknown u ≡ false
is_unknown-stays unknown u h e = absurd (cc)
is_unknown-stays null null h e = refl
is_unknown-stays (boolean b) (boolean c) h e = refl
is_unknown-stays (whole y) (whole z) h e = refl
is_unknown-stays (text s) (text t) h e = refl
is_unknown-stays (list ts) (list us) h e = refl
is_unknown-stays (map es) (map fs) h e = refl
is_unknown-stays (set ss) (set ts) h e = refl
is_unknown-stays _ _ h e = absurd (assumption)

or-first : (b c : Bool) → (b || c) ≡ false → b ≡ false
or-first true c e = absurd (cc)
or-first false c e = refl

or-second : (b c : Bool) → (b || c) ≡ false → c ≡ false
or-second true c e = absurd (cc)
or-second false c e = e

or-neither : (b c : Bool) → b ≡ false → c ≡ false → (b || c) ≡ false
or-neither b c e f = rw (e, f)

any_unknown-stays : (ts us : Items) → RefinesItems ts us → any_unknown ts ≡ false → any_unknown us ≡ false
any_unknown-stays no_items no_items h e = refl
any_unknown-stays (item t ts) (item u us) h e =
    or-neither _ _ (is_unknown-stays t u h.0 (or-first _ _ e)) (any_unknown-stays ts us h.1 (or-second _ _ e))
any_unknown-stays _ _ h e = absurd (assumption)

-- where no argument is unknown, so is none of those that they refine to
tested_grows : (b c : Bool) (g i : Answer) (v w : Tree) → (b ≡ false → c ≡ false) → (g ≡ Ok v → i ≡ Ok w → Refines v w) → cond b (answered unknown) g ≡ Ok v → cond c (answered unknown) i ≡ Ok w → Refines v w
tested_grows true c g i v w stays h p q = unknown_grows v w (ok_value unknown v p)
tested_grows false true g i v w stays h p q = let e = stays refl in absurd (cc)
tested_grows false false g i v w stays h p q = h p q

-- maps in one

put_at : (o : Ordering) (k l : List ℕ) (t u a b : Tree) (es fs es' fs' : Entries) → Refines t u → Refines a b → RefinesEntries es fs → RefinesEntries es' fs'
    → RefinesEntries (match_ordering o (entry k t (entry l a es)) (entry l t es) (entry l a es')) (match_ordering o (entry k u (entry l b fs)) (entry l u fs) (entry l b fs'))
put_at Less k l t u a b es fs es' fs' h i j j' = (refl, h, (refl, i, j))
put_at Equal k l t u a b es fs es' fs' h i j j' = (refl, h, j)
put_at Greater k l t u a b es fs es' fs' h i j j' = (refl, i, j')

put-grows : (k : List ℕ) (t u : Tree) (es fs : Entries) → Refines t u → RefinesEntries es fs → RefinesEntries (put k t es) (put k u fs)
put-grows k t u no_entries no_entries h i = (refl, h, tt)
put-grows k t u (entry l a es) (entry m b fs) h i =
    subst (λ x. RefinesEntries (put k t (entry l a es)) (put k u (entry x b fs))) i.0
    (put_at (slice_cmp nat_cmp k l) k l t u a b es fs (put k t es) (put k u fs) h i.1 i.2 (put-grows k t u es fs h i.2))
put-grows k t u no_entries (entry m b fs) h i = absurd i
put-grows k t u (entry l a es) no_entries h i = absurd i

laid_over-grows : (base other es fs : Entries) → RefinesEntries base other → RefinesEntries es fs → RefinesEntries (laid_over base es) (laid_over other fs)
laid_over-grows base other no_entries no_entries h i = h
laid_over-grows base other (entry k t es) (entry l u fs) h i =
    subst (λ x. RefinesEntries (laid_over base (entry k t es)) (laid_over other (entry x u fs))) i.0 (laid_over-grows (put k t base) (put k u other) es fs (put-grows k t u base other i.1 h) i.2)
laid_over-grows base other no_entries (entry l u fs) h i = absurd i
laid_over-grows base other (entry k t es) no_entries h i = absurd i

some_entries : (es fs : Entries) → Some es ≡ Some fs → es ≡ fs
some_entries es fs e = cc

merged_onto-grows : (base other : Entries) (ts us : Items) (es fs : Entries) → RefinesEntries base other → RefinesItems ts us → merged_onto base ts ≡ Some es → merged_onto other us ≡ Some fs → RefinesEntries es fs
merged_onto-grows base other no_items no_items es fs h i p q = subst (λ x. RefinesEntries x fs) (some_entries base es p) (subst (λ x. RefinesEntries base x) (some_entries other fs q) h)
merged_onto-grows base other (item (map cs) ts) (item (map ds) us) es fs h i p q = merged_onto-grows (laid_over base cs) (laid_over other ds) ts us es fs (laid_over-grows base other cs ds h i.0) i.1 p q
merged_onto-grows base other (item (map cs) ts) (item _ us) es fs h i p q = absurd i.0
merged_onto-grows base other (item t ts) no_items es fs h i p q = absurd i
merged_onto-grows base other (item _ ts) us es fs h i p q = absurd (cc)
merged_onto-grows base other no_items (item u us) es fs h i p q = absurd i

-- what is answered where there is something, and only there, grows where that does
there_grows : {A : Type 0} (R : A → A → Type 0) (answer : Option A → Answer) → ((v : Tree) → answer None ≡ Ok v → ⊥) → ((a b : A) (v w : Tree) → R a b → answer (Some a) ≡ Ok v → answer (Some b) ≡ Ok w → Refines v w)
    → (o p : Option A) (v w : Tree) → ((a b : A) → o ≡ Some a → p ≡ Some b → R a b) → answer o ≡ Ok v → answer p ≡ Ok w → Refines v w
there_grows R answer none some (Some a) (Some b) v w h e f = some a b v w (h a b refl refl) e f
there_grows R answer none some None p v w h e f = absurd (none v e)
there_grows R answer none some (Some a) None v w h e f = absurd (none w f)

merge_value-grows : (ts us : Items) (v w : Tree) → RefinesItems ts us → merge_value ts ≡ Ok v → merge_value us ≡ Ok w → Refines v w
merge_value-grows ts us v w h p q =
    tested_grows (any_unknown ts) (any_unknown us) _ _ v w (any_unknown-stays ts us h)
    (there_grows RefinesEntries entries_value (λ x none. cc) map_value-grows _ _ v w (λ es fs e f. merged_onto-grows no_entries no_entries ts us es fs tt h e f)) p q

-- lists in one

items_behind-grow : (ts us vs ws : Items) → RefinesItems ts us → RefinesItems vs ws → RefinesItems (items_behind ts vs) (items_behind us ws)
items_behind-grow no_items no_items vs ws h i = i
items_behind-grow (item t ts) (item u us) vs ws h i = (h.0, items_behind-grow ts us vs ws h.1 i)
items_behind-grow no_items (item u us) vs ws h i = absurd h
items_behind-grow (item t ts) no_items vs ws h i = absurd h

some_items : (ts us : Items) → Some ts ≡ Some us → ts ≡ us
some_items ts us e = cc

behind_grows : (ts us : Items) (o p : Option Items) (vs ws : Items) → RefinesItems ts us → ((xs ys : Items) → o ≡ Some xs → p ≡ Some ys → RefinesItems xs ys)
    → option_map (items_behind ts) o ≡ Some vs → option_map (items_behind us) p ≡ Some ws → RefinesItems vs ws
behind_grows ts us (Some xs) (Some ys) vs ws h i e f =
    subst (λ x. RefinesItems x ws) (some_items _ vs e) (subst (λ x. RefinesItems (items_behind ts xs) x) (some_items _ ws f) (items_behind-grow ts us xs ys h (i xs ys refl refl)))
behind_grows ts us None p vs ws h i e f = absurd (cc)
behind_grows ts us (Some xs) None vs ws h i e f = absurd (cc)

concatenated-grows : (ts us vs ws : Items) → RefinesItems ts us → concatenated ts ≡ Some vs → concatenated us ≡ Some ws → RefinesItems vs ws
concatenated-grows no_items no_items vs ws h p q = subst (λ x. RefinesItems x ws) (some_items no_items vs p) (subst (λ x. RefinesItems no_items x) (some_items no_items ws q) tt)
concatenated-grows (item (list xs) ts) (item (list ys) us) vs ws h p q = behind_grows xs ys (concatenated ts) (concatenated us) vs ws h.0 (λ cs ds e f. concatenated-grows ts us cs ds h.1 e f) p q
concatenated-grows (item (list xs) ts) (item _ us) vs ws h p q = absurd h.0
concatenated-grows (item t ts) no_items vs ws h p q = absurd h
concatenated-grows (item _ ts) us vs ws h p q = absurd (cc)
concatenated-grows no_items (item u us) vs ws h p q = absurd h

concat_value-grows : (ts us : Items) (v w : Tree) → RefinesItems ts us → concat_value ts ≡ Ok v → concat_value us ≡ Ok w → Refines v w
concat_value-grows ts us v w h p q =
    tested_grows (any_unknown ts) (any_unknown us) _ _ v w (any_unknown-stays ts us h)
    (there_grows RefinesItems items_value (λ x none. cc) list_value-grows _ _ v w (λ vs ws e f. concatenated-grows ts us vs ws h e f)) p q

-- texts, with a separator

join_settled : (b : Bool) (a : Answer) (v : Tree) → cond b a (answered unknown) ≡ Ok v → IsSettled v b
join_settled true a v e = inr refl
join_settled false a v e = inl (ok_value unknown v e)

join_value-grows : (a b c d v w : Tree) → Refines a b → Refines c d → join_value a c ≡ Ok v → join_value b d ≡ Ok w → Refines v w
join_value-grows a b c d v w h i p q = both_settled_grow join_value a b c d v w (join_settled _ _ v p) h i p q

toset_value-grows : (t u v w : Tree) → Refines t u → toset_value t ≡ Ok v → toset_value u ≡ Ok w → Refines v w
toset_value-grows t u v w h p q = settled_grows toset_value t u v w (join_settled _ _ v p) h p q

-- all functions
pub call_value-grows : (f : Function) (ts us : Items) (v w : Tree) → RefinesItems ts us → call_value f ts ≡ Ok v → call_value f us ≡ Ok w → Refines v w
call_value-grows Length (item t no_items) (item u no_items) v w h p q = length_value-grows t u v w h.0 p q
call_value-grows Keys (item t no_items) (item u no_items) v w h p q = keys_value-grows t u v w h.0 p q
call_value-grows Values (item t no_items) (item u no_items) v w h p q = values_value-grows t u v w h.0 p q
call_value-grows Merge (item t ts) (item u us) v w h p q = merge_value-grows (item t ts) (item u us) v w h p q
call_value-grows Concat (item t ts) (item u us) v w h p q = concat_value-grows (item t ts) (item u us) v w h p q
call_value-grows Join (item s (item t no_items)) (item r (item u no_items)) v w h p q = join_value-grows s r t u v w h.0 h.1.0 p q
call_value-grows ToSet (item t no_items) (item u no_items) v w h p q = toset_value-grows t u v w h.0 p q
call_value-grows _ _ _ v w h p q = absurd (cc)
