-- What operations answer to known operands is known.
use Rattle.std.proofs.Common.{◌≡◌, ◌&&◌, ◌||◌, ℕ, zero, suc, ℤ, pos, negsuc, List, [], length, Bool, true, false, cond, Option, Some, None, Ok, Err, option_map, Ordering, Less, Equal, Greater, nat_cmp, refl, subst}
use Rattle.std.specs.Prelude.{is_some, not, neg_ℤ, ◌+ℤ◌, ◌-ℤ◌, ◌*ℤ◌}
use Rattle.std.specs.Cmp.Lexicographic.{slice_cmp}
use Rattle.std.specs.Ordering.{match_ordering}
use Rattle.std.specs.Str.{bytes_eq}
use Rattle.tf_expr_syntax.specs.declared.operator.Operator.{Operator}
use Rattle.tf_expr_syntax.specs.declared.operator.Operator.TheVariants.{Or, And, Equal as same_as, NotEqual, Greater as above, GreaterOrEqual, Less as below, LessOrEqual, Add, Subtract, Multiply}
use Rattle.tf_expr_syntax.specs.declared.tree.Prefix.{Prefix}
use Rattle.tf_expr_syntax.specs.declared.tree.Prefix.TheVariants.{Not, Negate}
use Rattle.tf_value_data.specs.Tree.{Tree, boolean, whole, text, list, map, set, unknown, Items, no_items, item, Entries, no_entries, entry, get, put}
use Rattle.tf_value_data.specs.Known.{known, known_items, known_entries}
use Rattle.tf_value_data.proofs.Conjunction.{and-first, and-second, and-both}
use Rattle.tf_expr_syntax.specs.declared.function.Function.{Function}
use Rattle.tf_expr_syntax.specs.declared.function.Function.TheVariants.{Length, Keys, Values, Merge, Concat, Join, ToSet}
use Rattle.tf_expr_syntax.specs.declared.fault.EvalFault.TheVariants.{Overflow, WrongKind}
use Rattle.tf_expr_operators.specs.Answer.{Answer, any_unknown, is_unknown, items_behind, whole_value, list_value, map_value}
use Rattle.tf_expr_operators.specs.Operators.{unary_value, truths_value, wholes_value, scalars_value, binary_value}
use Rattle.tf_expr_operators.specs.Parts.{item_at, item_at_whole, attribute_value, index_value}
use Rattle.tf_expr_operators.specs.Joining.{text_of, joined_text, text_value, joined_value}
use Rattle.tf_expr_operators.specs.Functions.{items_count, entries_count, key_items, value_items, length_value, keys_value, values_value, entries_value, laid_over, merged_onto, items_value, concatenated, each_after, spaced, spaced_value, join_value, texts_with, texts_value, set_value, toset_value, call_value}
use Rattle.tf_expr_operators.proofs.Growth.{answered, ok_value, present, some_value}
use Rattle.tf_expr_operators.proofs.Limits.{limited-value}

known_answer : (t v : Tree) → known t ≡ true → answered t ≡ Ok v → known v ≡ true
known_answer t v k e = subst (λ x. known x ≡ true) (ok_value t v e) k

known_limited : (t v : Tree) → known t ≡ true → t ≡ v → known v ≡ true
known_limited t v k e = subst (λ x. known x ≡ true) e k

tested_whole : (b : Bool) (z : ℤ) (v : Tree) → cond b (answered (whole z)) (Err Overflow) ≡ Ok v → known v ≡ true
tested_whole true z v e = known_answer (whole z) v refl e
tested_whole false z v e = absurd (cc)

whole_known : (z : ℤ) (v : Tree) → whole_value z ≡ Ok v → known v ≡ true
whole_known (pos n) v e = tested_whole _ (pos n) v e
whole_known (negsuc n) v e = tested_whole _ (negsuc n) v e

-- operators

pub unary_value-known : (op : Prefix) (t v : Tree) → known t ≡ true → unary_value op t ≡ Ok v → known v ≡ true
unary_value-known Not unknown v k e = absurd (cc)
unary_value-known Not (boolean b) v k e = known_answer (boolean (not b)) v refl e
unary_value-known Not _ v k e = absurd (cc)
unary_value-known Negate unknown v k e = absurd (cc)
unary_value-known Negate (whole z) v k e = whole_known (neg_ℤ z) v e
unary_value-known Negate _ v k e = absurd (cc)

truths_known : (op : Operator) (b c : Bool) (v : Tree) → truths_value op b c ≡ Ok v → known v ≡ true
truths_known Or b c v e = known_answer _ v refl e
truths_known And b c v e = known_answer _ v refl e
truths_known _ b c v e = absurd (cc)

wholes_known : (op : Operator) (y z : ℤ) (v : Tree) → wholes_value op y z ≡ Ok v → known v ≡ true
wholes_known above y z v e = known_answer _ v refl e
wholes_known GreaterOrEqual y z v e = known_answer _ v refl e
wholes_known below y z v e = known_answer _ v refl e
wholes_known LessOrEqual y z v e = known_answer _ v refl e
wholes_known Add y z v e = whole_known (y +ℤ z) v e
wholes_known Subtract y z v e = whole_known (y -ℤ z) v e
wholes_known Multiply y z v e = whole_known (y *ℤ z) v e
wholes_known _ y z v e = absurd (cc)

scalars_known : (op : Operator) (t u v : Tree) → known t ≡ true → known u ≡ true → scalars_value op t u ≡ Ok v → known v ≡ true
scalars_known op unknown u v k l e = absurd (cc)
scalars_known op t unknown v k l e = absurd (cc)
scalars_known op (boolean b) (boolean c) v k l e = truths_known op b c v e
scalars_known op (whole y) (whole z) v k l e = wholes_known op y z v e
scalars_known op _ _ v k l e = absurd (cc)

tested_truth : (b c : Bool) (v : Tree) → b ≡ true → cond b (answered (boolean c)) (answered unknown) ≡ Ok v → known v ≡ true
tested_truth true c v k e = known_answer (boolean c) v refl e
tested_truth false c v k e = absurd (cc)

pub binary_value-known : (op : Operator) (t u v : Tree) → known t ≡ true → known u ≡ true → binary_value op t u ≡ Ok v → known v ≡ true
binary_value-known same_as t u v k l e = tested_truth _ _ v (and-both _ _ k l) e
binary_value-known NotEqual t u v k l e = tested_truth _ _ v (and-both _ _ k l) e
binary_value-known op t u v k l e = scalars_known op t u v k l e

-- parts of lists and maps

either_known : (b : Bool) (t v : Tree) (o : Option Tree) → known t ≡ true → (o ≡ Some v → known v ≡ true) → cond b (Some t) o ≡ Some v → known v ≡ true
either_known true t v o k later e = known_limited t v k (some_value t v e)
either_known false t v o k later e = later e

get-known : (k : List ℕ) (es : Entries) (v : Tree) → known_entries es ≡ true → get k es ≡ Some v → known v ≡ true
get-known k no_entries v h e = absurd (cc)
get-known k (entry l t es) v h e = either_known (bytes_eq k l) t v (get k es) (and-first _ _ h) (get-known k es v (and-second _ _ h)) e

item_at-known : (n : ℕ) (ts : Items) (v : Tree) → known_items ts ≡ true → item_at n ts ≡ Some v → known v ≡ true
item_at-known n no_items v h e = absurd (cc)
item_at-known zero (item t ts) v h e = known_limited t v (and-first _ _ h) (some_value t v e)
item_at-known (suc n) (item t ts) v h e = item_at-known n ts v (and-second _ _ h) e

item_at_whole-known : (z : ℤ) (ts : Items) (v : Tree) → known_items ts ≡ true → item_at_whole z ts ≡ Some v → known v ≡ true
item_at_whole-known (pos n) ts v h e = item_at-known n ts v h e
item_at_whole-known (negsuc n) ts v h e = absurd (cc)

pub attribute_value-known : (t : Tree) (name : List ℕ) (v : Tree) → known t ≡ true → attribute_value t name ≡ Ok v → known v ≡ true
attribute_value-known unknown name v k e = absurd (cc)
attribute_value-known (map es) name v k e = get-known name es v k (present _ v e)
attribute_value-known _ name v k e = absurd (cc)

pub index_value-known : (t u v : Tree) → known t ≡ true → known u ≡ true → index_value t u ≡ Ok v → known v ≡ true
index_value-known unknown u v k l e = absurd (cc)
index_value-known t unknown v k l e = absurd (cc)
index_value-known (map es) (text s) v k l e = get-known s es v k (present _ v e)
index_value-known (list ts) (whole z) v k l e = item_at_whole-known z ts v k (present _ v e)
index_value-known _ _ v k l e = absurd (cc)

-- lists, maps and texts

pub list_value-known : (ts : Items) (v : Tree) → known_items ts ≡ true → list_value ts ≡ Ok v → known v ≡ true
list_value-known ts v k e = known_limited (list ts) v k (limited-value (list ts) v e)

pub map_value-known : (es : Entries) (v : Tree) → known_entries es ≡ true → map_value es ≡ Ok v → known v ≡ true
map_value-known es v k e = known_limited (map es) v k (limited-value (map es) v e)

text_known : (o : Option (List ℕ)) (v : Tree) → text_value o ≡ Ok v → known v ≡ true
text_known None v e = absurd (cc)
text_known (Some s) v e = known_limited (text s) v refl (limited-value (text s) v e)

is_unknown-known : (t : Tree) → known t ≡ true → is_unknown t ≡ false
is_unknown-known unknown k = absurd (cc)
is_unknown-known _ k = refl

neither : (b c : Bool) → b ≡ false → c ≡ false → (b || c) ≡ false
neither b c e f = rw (e, f)

any_unknown-known : (ts : Items) → known_items ts ≡ true → any_unknown ts ≡ false
any_unknown-known no_items k = refl
any_unknown-known (item t ts) k = neither _ _ (is_unknown-known t (and-first _ _ k)) (any_unknown-known ts (and-second _ _ k))

none_unknown : (b : Bool) (a : Answer) (v : Tree) → b ≡ false → (a ≡ Ok v → known v ≡ true) → cond b (answered unknown) a ≡ Ok v → known v ≡ true
none_unknown true a v k h e = absurd (cc)
none_unknown false a v k h e = h e

pub joined_value-known : (ts : Items) (v : Tree) → known_items ts ≡ true → joined_value ts ≡ Ok v → known v ≡ true
joined_value-known ts v k e = none_unknown (any_unknown ts) (text_value (joined_text ts)) v (any_unknown-known ts k) (text_known (joined_text ts) v) e

-- functions

length_known : (t v : Tree) → known t ≡ true → length_value t ≡ Ok v → known v ≡ true
length_known unknown v k e = absurd (cc)
length_known (list ts) v k e = whole_known (pos (items_count ts)) v e
length_known (map es) v k e = whole_known (pos (entries_count es)) v e
length_known (set ss) v k e = whole_known (pos (length ss)) v e
length_known _ v k e = absurd (cc)

key_items-known : (es : Entries) → known_items (key_items es) ≡ true
key_items-known no_entries = refl
key_items-known (entry k t es) = key_items-known es

value_items-known : (es : Entries) → known_entries es ≡ true → known_items (value_items es) ≡ true
value_items-known no_entries h = refl
value_items-known (entry k t es) h = and-both _ _ (and-first _ _ h) (value_items-known es (and-second _ _ h))

keys_known : (t v : Tree) → known t ≡ true → keys_value t ≡ Ok v → known v ≡ true
keys_known unknown v k e = absurd (cc)
keys_known (map es) v k e = known_answer (list (key_items es)) v (key_items-known es) e
keys_known _ v k e = absurd (cc)

values_known : (t v : Tree) → known t ≡ true → values_value t ≡ Ok v → known v ≡ true
values_known unknown v k e = absurd (cc)
values_known (map es) v k e = known_answer (list (value_items es)) v (value_items-known es k) e
values_known _ v k e = absurd (cc)

put_at : (o : Ordering) (k l : List ℕ) (t u : Tree) (es fs : Entries) → known t ≡ true → known u ≡ true → known_entries es ≡ true → known_entries fs ≡ true
    → known_entries (match_ordering o (entry k t (entry l u es)) (entry l t es) (entry l u fs)) ≡ true
put_at Less k l t u es fs h i j m = and-both _ _ h (and-both _ _ i j)
put_at Equal k l t u es fs h i j m = and-both _ _ h j
put_at Greater k l t u es fs h i j m = and-both _ _ i m

put-known : (k : List ℕ) (t : Tree) (es : Entries) → known t ≡ true → known_entries es ≡ true → known_entries (put k t es) ≡ true
put-known k t no_entries h i = and-both _ _ h refl
put-known k t (entry l u es) h i =
    put_at (slice_cmp nat_cmp k l) k l t u es (put k t es) h (and-first _ _ i) (and-second _ _ i) (put-known k t es h (and-second _ _ i))

laid_over-known : (base es : Entries) → known_entries base ≡ true → known_entries es ≡ true → known_entries (laid_over base es) ≡ true
laid_over-known base no_entries h i = h
laid_over-known base (entry k t es) h i = laid_over-known (put k t base) es (put-known k t base (and-first _ _ i) h) (and-second _ _ i)

merged_known : (base : Entries) (ts : Items) (v : Tree) → known_entries base ≡ true → known_items ts ≡ true → entries_value (merged_onto base ts) ≡ Ok v → known v ≡ true
merged_known base no_items v h i e = map_value-known base v h e
merged_known base (item (map es) ts) v h i e = merged_known (laid_over base es) ts v (laid_over-known base es h (and-first _ _ i)) (and-second _ _ i) e
merged_known base (item _ ts) v h i e = absurd (cc)

items_behind-known : (ts us : Items) → known_items ts ≡ true → known_items us ≡ true → known_items (items_behind ts us) ≡ true
items_behind-known no_items us h i = i
items_behind-known (item t ts) us h i = and-both _ _ (and-first _ _ h) (items_behind-known ts us (and-second _ _ h) i)

some_items : (ts us : Items) → Some ts ≡ Some us → ts ≡ us
some_items ts us e = cc

behind_known : (ts : Items) (o : Option Items) (vs : Items) → known_items ts ≡ true → ((us : Items) → o ≡ Some us → known_items us ≡ true) → option_map (items_behind ts) o ≡ Some vs → known_items vs ≡ true
behind_known ts None vs h i e = absurd (cc)
behind_known ts (Some us) vs h i e = subst (λ x. known_items x ≡ true) (some_items _ vs e) (items_behind-known ts us h (i us refl))

concatenated-known : (ts vs : Items) → known_items ts ≡ true → concatenated ts ≡ Some vs → known_items vs ≡ true
concatenated-known no_items vs h e = subst (λ x. known_items x ≡ true) (some_items no_items vs e) refl
concatenated-known (item (list us) ts) vs h e = behind_known us (concatenated ts) vs (and-first _ _ h) (λ xs f. concatenated-known ts xs (and-second _ _ h) f) e
concatenated-known (item _ ts) vs h e = absurd (cc)

items_known : (o : Option Items) (v : Tree) → ((ts : Items) → o ≡ Some ts → known_items ts ≡ true) → items_value o ≡ Ok v → known v ≡ true
items_known None v h e = absurd (cc)
items_known (Some ts) v h e = list_value-known ts v (h ts refl) e

each_after-known : (s : Tree) (ts : Items) → known s ≡ true → known_items ts ≡ true → known_items (each_after s ts) ≡ true
each_after-known s no_items h i = refl
each_after-known s (item t ts) h i = and-both _ _ h (and-both _ _ (and-first _ _ i) (each_after-known s ts h (and-second _ _ i)))

spaced-known : (s : Tree) (ts : Items) → known s ≡ true → known_items ts ≡ true → known_items (spaced s ts) ≡ true
spaced-known s no_items h i = refl
spaced-known s (item t ts) h i = and-both _ _ (and-first _ _ i) (each_after-known s ts h (and-second _ _ i))

if_printed : (b : Bool) (a : Answer) (v : Tree) → (a ≡ Ok v → known v ≡ true) → cond b a (Err WrongKind) ≡ Ok v → known v ≡ true
if_printed true a v h e = h e
if_printed false a v h e = absurd (cc)

spaced_value-known : (s t v : Tree) → known s ≡ true → known t ≡ true → spaced_value s t ≡ Ok v → known v ≡ true
spaced_value-known s (list ts) v h i e =
    if_printed (is_some (text_of s)) (joined_value (spaced s ts)) v (joined_value-known (spaced s ts) v (spaced-known s ts h i)) e
spaced_value-known s _ v h i e = absurd (cc)

if_known : (b : Bool) (a : Answer) (v : Tree) → b ≡ true → (a ≡ Ok v → known v ≡ true) → cond b a (answered unknown) ≡ Ok v → known v ≡ true
if_known true a v k h e = h e
if_known false a v k h e = absurd (cc)

join_known : (s t v : Tree) → known s ≡ true → known t ≡ true → join_value s t ≡ Ok v → known v ≡ true
join_known s t v h i e = if_known (known s && known t) (spaced_value s t) v (and-both _ _ h i) (spaced_value-known s t v h i) e

texts_known : (o : Option (List (List ℕ))) (v : Tree) → texts_value o ≡ Ok v → known v ≡ true
texts_known None v e = absurd (cc)
texts_known (Some ss) v e = known_answer (set ss) v refl e

set_value-known : (t v : Tree) → set_value t ≡ Ok v → known v ≡ true
set_value-known (list ts) v e = texts_known (texts_with [] ts) v e
set_value-known (set ss) v e = known_answer (set ss) v refl e
set_value-known _ v e = absurd (cc)

toset_known : (t v : Tree) → known t ≡ true → toset_value t ≡ Ok v → known v ≡ true
toset_known t v h e = if_known (known t) (set_value t) v h (set_value-known t v) e

pub call_value-known : (f : Function) (ts : Items) (v : Tree) → known_items ts ≡ true → call_value f ts ≡ Ok v → known v ≡ true
call_value-known Length (item t no_items) v h e = length_known t v (and-first _ _ h) e
call_value-known Keys (item t no_items) v h e = keys_known t v (and-first _ _ h) e
call_value-known Values (item t no_items) v h e = values_known t v (and-first _ _ h) e
call_value-known Merge (item t ts) v h e =
    none_unknown (any_unknown (item t ts)) (entries_value (merged_onto no_entries (item t ts))) v (any_unknown-known (item t ts) h) (merged_known no_entries (item t ts) v refl h) e
call_value-known Concat (item t ts) v h e =
    none_unknown (any_unknown (item t ts)) (items_value (concatenated (item t ts))) v (any_unknown-known (item t ts) h) (items_known (concatenated (item t ts)) v (λ xs f. concatenated-known (item t ts) xs h f)) e
call_value-known Join (item s (item t no_items)) v h e = join_known s t v (and-first _ _ h) (and-first _ _ (and-second (known s) _ h)) e
call_value-known ToSet (item t no_items) v h e = toset_known t v (and-first _ _ h) e
call_value-known _ _ v h e = absurd (cc)
