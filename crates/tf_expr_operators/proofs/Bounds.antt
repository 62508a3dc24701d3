-- What operations answer is within the limits.
use Rattle.std.proofs.Common.{◌≡◌, ◌≤◌, ℕ, zero, suc, ℤ, pos, negsuc, List, [], ◌∷◌, length, ◌+◌, Ordering, Less, Equal as same, Greater as above, nat_cmp, max, Bool, true, false, cond, Option, Some, None, Ok, Err, refl, ap, subst, arith}
use Rattle.std.specs.Prelude.{is_some, not, neg_ℤ, ◌+ℤ◌, ◌-ℤ◌, ◌*ℤ◌}
use Rattle.std.specs.BTreeSet.{insert_key}
use Rattle.std.specs.Cmp.Lexicographic.{slice_cmp}
use Rattle.std.specs.Ordering.{match_ordering}
use Rattle.std.specs.Str.{bytes_eq}
use Rattle.tf_expr_syntax.specs.declared.operator.Operator.{Operator}
use Rattle.tf_expr_syntax.specs.declared.operator.Operator.TheVariants.{Or, And, Equal, NotEqual, Greater, GreaterOrEqual, Less, LessOrEqual, Add, Subtract, Multiply}
use Rattle.tf_expr_syntax.specs.declared.tree.Prefix.{Prefix}
use Rattle.tf_expr_syntax.specs.declared.tree.Prefix.TheVariants.{Not, Negate}
use Rattle.tf_value_data.specs.Tree.{Tree, null, boolean, whole, text, list, map, set, unknown, Items, no_items, item, Entries, no_entries, entry, get}
use Rattle.tf_value_data.specs.Measure.{weight, weight_of_texts, weight_of_items, weight_of_entries, depth, depth_of_items, depth_of_entries, IsWithinLimits}
use Rattle.tf_expr_syntax.specs.declared.function.Function.{Function}
use Rattle.tf_expr_syntax.specs.declared.function.Function.TheVariants.{Length, Keys, Values, Merge, Concat, Join, ToSet}
use Rattle.tf_expr_syntax.specs.declared.fault.EvalFault.TheVariants.{Overflow, WrongKind}
use Rattle.tf_expr_operators.specs.Answer.{Answer, any_unknown, whole_value, list_value, map_value}
use Rattle.tf_expr_operators.specs.Operators.{unary_value, truths_value, wholes_value, scalars_value, binary_value}
use Rattle.tf_expr_operators.specs.Parts.{item_at, item_at_whole, attribute_value, index_value}
use Rattle.tf_expr_operators.specs.Joining.{text_of, joined_text, text_value, joined_value}
use Rattle.tf_expr_operators.specs.Functions.{items_count, entries_count, key_items, value_items, length_value, keys_value, values_value, entries_value, merged_onto, items_value, concatenated, spaced, spaced_value, join_value, texts_with, texts_value, set_value, toset_value, call_value}
use Rattle.tf_expr_operators.specs.Laws.{AreWithinLimits}
use Rattle.tf_expr_operators.proofs.Growth.{answered, ok_value, present, some_value}
use Rattle.tf_expr_operators.proofs.Limits.{limited-holds}

-- a scalar is within the limits
scalar_within : (t v : Tree) → weight t ≡ 1 → depth t ≡ 0 → t ≡ v → IsWithinLimits v
scalar_within t v w d e = subst IsWithinLimits e (omega (arith, w), omega (arith, d))

unknown_within : (v : Tree) → answered unknown ≡ Ok v → IsWithinLimits v
unknown_within v e = scalar_within unknown v refl refl (ok_value unknown v e)

truth_within : (b : Bool) (v : Tree) → answered (boolean b) ≡ Ok v → IsWithinLimits v
truth_within b v e = scalar_within (boolean b) v refl refl (ok_value (boolean b) v e)

tested_whole : (b : Bool) (z : ℤ) (v : Tree) → cond b (answered (whole z)) (Err Overflow) ≡ Ok v → IsWithinLimits v
tested_whole true z v e = scalar_within (whole z) v refl refl (ok_value (whole z) v e)
tested_whole false z v e = absurd (cc)

whole_within : (z : ℤ) (v : Tree) → whole_value z ≡ Ok v → IsWithinLimits v
whole_within (pos n) v e = tested_whole _ (pos n) v e
whole_within (negsuc n) v e = tested_whole _ (negsuc n) v e

-- operators

pub unary_value-within : (op : Prefix) (t v : Tree) → unary_value op t ≡ Ok v → IsWithinLimits v
unary_value-within Not unknown v e = unknown_within v e
unary_value-within Not (boolean b) v e = truth_within (not b) v e
unary_value-within Not _ v e = absurd (cc)
unary_value-within Negate unknown v e = unknown_within v e
unary_value-within Negate (whole z) v e = whole_within (neg_ℤ z) v e
unary_value-within Negate _ v e = absurd (cc)

truths_within : (op : Operator) (b c : Bool) (v : Tree) → truths_value op b c ≡ Ok v → IsWithinLimits v
truths_within Or b c v e = truth_within _ v e
truths_within And b c v e = truth_within _ v e
truths_within _ b c v e = absurd (cc)

wholes_within : (op : Operator) (y z : ℤ) (v : Tree) → wholes_value op y z ≡ Ok v → IsWithinLimits v
wholes_within Greater y z v e = truth_within _ v e
wholes_within GreaterOrEqual y z v e = truth_within _ v e
wholes_within Less y z v e = truth_within _ v e
wholes_within LessOrEqual y z v e = truth_within _ v e
wholes_within Add y z v e = whole_within (y +ℤ z) v e
wholes_within Subtract y z v e = whole_within (y -ℤ z) v e
wholes_within Multiply y z v e = whole_within (y *ℤ z) v e
wholes_within _ y z v e = absurd (cc)

scalars_within : (op : Operator) (t u v : Tree) → scalars_value op t u ≡ Ok v → IsWithinLimits v
scalars_within op unknown u v e = unknown_within v e
scalars_within op t unknown v e = unknown_within v e
scalars_within op (boolean b) (boolean c) v e = truths_within op b c v e
scalars_within op (whole y) (whole z) v e = wholes_within op y z v e
scalars_within op _ _ v e = absurd (cc)

tested_truth : (b c : Bool) (v : Tree) → cond b (answered (boolean c)) (answered unknown) ≡ Ok v → IsWithinLimits v
tested_truth true c v e = truth_within c v e
tested_truth false c v e = unknown_within v e

pub binary_value-within : (op : Operator) (t u v : Tree) → binary_value op t u ≡ Ok v → IsWithinLimits v
binary_value-within Equal t u v e = tested_truth _ _ v e
binary_value-within NotEqual t u v e = tested_truth _ _ v e
binary_value-within op t u v e = scalars_within op t u v e

-- parts of lists and maps

-- A part of what is so heavy and deep is no heavier and no deeper.
abbrev pub IsPartOf : Tree → ℕ → ℕ → Type 0
IsPartOf v w d = (weight v ≤ w) × (depth v ≤ d)

first_part : (t v : Tree) (w d : ℕ) → t ≡ v → weight t ≤ w → depth t ≤ d → IsPartOf v w d
first_part t v w d e h i = subst (λ x. IsPartOf x w d) e (h, i)

either_part : (b : Bool) (t v : Tree) (o : Option Tree) (w d : ℕ) → weight t ≤ w → depth t ≤ d → (o ≡ Some v → IsPartOf v w d) → cond b (Some t) o ≡ Some v → IsPartOf v w d
either_part true t v o w d h i later e = first_part t v w d (some_value t v e) h i
either_part false t v o w d h i later e = later e

larger_part : (v : Tree) (w d x y : ℕ) → w ≤ x → d ≤ y → IsPartOf v w d → IsPartOf v x y
larger_part v w d x y h i p = let a = p.0 in let b = p.1 in (omega arith, omega arith)

get-part : (k : List ℕ) (es : Entries) (v : Tree) → get k es ≡ Some v → IsPartOf v (weight_of_entries es) (depth_of_entries es)
get-part k no_entries v e = absurd (cc)
get-part k (entry l t es) v e =
    either_part (bytes_eq k l) t v (get k es) _ _ (omega arith) (omega arith) (λ f. larger_part v _ _ _ _ (omega arith) (omega arith) (get-part k es v f)) e

item_at-part : (n : ℕ) (ts : Items) (v : Tree) → item_at n ts ≡ Some v → IsPartOf v (weight_of_items ts) (depth_of_items ts)
item_at-part n no_items v e = absurd (cc)
item_at-part zero (item t ts) v e = first_part t v _ _ (some_value t v e) (omega arith) (omega arith)
item_at-part (suc n) (item t ts) v e = larger_part v _ _ _ _ (omega arith) (omega arith) (item_at-part n ts v e)

map_part : (es : Entries) (v : Tree) → IsWithinLimits (map es) → IsPartOf v (weight_of_entries es) (depth_of_entries es) → IsWithinLimits v
map_part es v h p = let a = h.0 in let b = h.1 in let c = p.0 in let d = p.1 in (omega arith, omega arith)

list_part : (ts : Items) (v : Tree) → IsWithinLimits (list ts) → IsPartOf v (weight_of_items ts) (depth_of_items ts) → IsWithinLimits v
list_part ts v h p = let a = h.0 in let b = h.1 in let c = p.0 in let d = p.1 in (omega arith, omega arith)

pub attribute_value-within : (t : Tree) (name : List ℕ) (v : Tree) → IsWithinLimits t → attribute_value t name ≡ Ok v → IsWithinLimits v
attribute_value-within unknown name v h e = unknown_within v e
attribute_value-within (map es) name v h e = map_part es v h (get-part name es v (present _ v e))
attribute_value-within _ name v h e = absurd (cc)

item_at_whole-within : (ts : Items) (z : ℤ) (v : Tree) → IsWithinLimits (list ts) → item_at_whole z ts ≡ Some v → IsWithinLimits v
item_at_whole-within ts (pos n) v h e = list_part ts v h (item_at-part n ts v e)
item_at_whole-within ts (negsuc n) v h e = absurd (cc)

pub index_value-within : (t u v : Tree) → IsWithinLimits t → index_value t u ≡ Ok v → IsWithinLimits v
index_value-within unknown u v h e = unknown_within v e
index_value-within t unknown v h e = unknown_within v e
index_value-within (map es) (text k) v h e = map_part es v h (get-part k es v (present _ v e))
index_value-within (list ts) (whole z) v h e = item_at_whole-within ts z v h (present _ v e)
index_value-within _ _ v h e = absurd (cc)

-- lists, maps and texts

pub list_value-within : (ts : Items) (v : Tree) → list_value ts ≡ Ok v → IsWithinLimits v
list_value-within ts v e = limited-holds (list ts) v e

pub map_value-within : (es : Entries) (v : Tree) → map_value es ≡ Ok v → IsWithinLimits v
map_value-within es v e = limited-holds (map es) v e

text_within : (o : Option (List ℕ)) (v : Tree) → text_value o ≡ Ok v → IsWithinLimits v
text_within None v e = absurd (cc)
text_within (Some s) v e = limited-holds (text s) v e

unless_unknown : (b : Bool) (a : Answer) (v : Tree) → (a ≡ Ok v → IsWithinLimits v) → cond b (answered unknown) a ≡ Ok v → IsWithinLimits v
unless_unknown true a v h e = unknown_within v e
unless_unknown false a v h e = h e

pub joined_value-within : (ts : Items) (v : Tree) → joined_value ts ≡ Ok v → IsWithinLimits v
joined_value-within ts v e = unless_unknown (any_unknown ts) _ v (text_within (joined_text ts) v) e

-- functions

weight_is_some : (t : Tree) → 1 ≤ weight t
weight_is_some null = omega arith
weight_is_some (boolean b) = omega arith
weight_is_some (whole z) = omega arith
weight_is_some (text s) = omega arith
weight_is_some (list ts) = omega arith
weight_is_some (map es) = omega arith
weight_is_some (set ss) = omega arith
weight_is_some unknown = omega arith

keys_weigh : (es : Entries) → weight_of_items (key_items es) ≤ weight_of_entries es
keys_weigh no_entries = omega arith
keys_weigh (entry k t es) = let a = weight_is_some t in let b = keys_weigh es in omega arith

keys_are_flat : (es : Entries) → depth_of_items (key_items es) ≡ 0
keys_are_flat no_entries = refl
keys_are_flat (entry k t es) = let b = keys_are_flat es in omega arith

values_weigh : (es : Entries) → weight_of_items (value_items es) ≤ weight_of_entries es
values_weigh no_entries = omega arith
values_weigh (entry k t es) = let b = values_weigh es in omega arith

values_nest : (es : Entries) → depth_of_items (value_items es) ≡ depth_of_entries es
values_nest no_entries = refl
values_nest (entry k t es) = ap (max (depth t)) (values_nest es)

keys_within : (es : Entries) → IsWithinLimits (map es) → IsWithinLimits (list (key_items es))
keys_within es h = let a = h.0 in let b = h.1 in let c = keys_weigh es in let d = keys_are_flat es in (omega arith, omega arith)

values_within : (es : Entries) → IsWithinLimits (map es) → IsWithinLimits (list (value_items es))
values_within es h = let a = h.0 in let b = h.1 in let c = values_weigh es in let d = values_nest es in (omega arith, omega arith)

length_within : (t v : Tree) → length_value t ≡ Ok v → IsWithinLimits v
length_within unknown v e = unknown_within v e
length_within (list ts) v e = whole_within (pos (items_count ts)) v e
length_within (map es) v e = whole_within (pos (entries_count es)) v e
length_within (set ss) v e = whole_within (pos (length ss)) v e
length_within _ v e = absurd (cc)

keys_value-within : (t v : Tree) → IsWithinLimits t → keys_value t ≡ Ok v → IsWithinLimits v
keys_value-within unknown v h e = unknown_within v e
keys_value-within (map es) v h e = subst IsWithinLimits (ok_value _ v e) (keys_within es h)
keys_value-within _ v h e = absurd (cc)

values_value-within : (t v : Tree) → IsWithinLimits t → values_value t ≡ Ok v → IsWithinLimits v
values_value-within unknown v h e = unknown_within v e
values_value-within (map es) v h e = subst IsWithinLimits (ok_value _ v e) (values_within es h)
values_value-within _ v h e = absurd (cc)

entries_within : (o : Option Entries) (v : Tree) → entries_value o ≡ Ok v → IsWithinLimits v
entries_within None v e = absurd (cc)
entries_within (Some es) v e = limited-holds (map es) v e

items_within : (o : Option Items) (v : Tree) → items_value o ≡ Ok v → IsWithinLimits v
items_within None v e = absurd (cc)
items_within (Some ts) v e = limited-holds (list ts) v e

if_text : (b : Bool) (a c : Answer) (v : Tree) → (a ≡ Ok v → IsWithinLimits v) → (c ≡ Ok v → IsWithinLimits v) → cond b a c ≡ Ok v → IsWithinLimits v
if_text true a c v h i e = h e
if_text false a c v h i e = i e

if_printed : (b : Bool) (a : Answer) (v : Tree) → (a ≡ Ok v → IsWithinLimits v) → cond b a (Err WrongKind) ≡ Ok v → IsWithinLimits v
if_printed true a v h e = h e
if_printed false a v h e = absurd (cc)

spaced_within : (s t v : Tree) → spaced_value s t ≡ Ok v → IsWithinLimits v
spaced_within s (list ts) v e = if_printed (is_some (text_of s)) (joined_value (spaced s ts)) v (joined_value-within (spaced s ts) v) e
spaced_within s _ v e = absurd (cc)

join_within : (s t v : Tree) → join_value s t ≡ Ok v → IsWithinLimits v
join_within s t v e = if_text _ _ _ v (spaced_within s t v) (unknown_within v) e

insert_at : (o : Ordering) (s t : List ℕ) (ss more : List (List ℕ)) → weight_of_texts more ≤ (1 + length s) + weight_of_texts ss
    → weight_of_texts (match_ordering o (s ∷ t ∷ ss) (t ∷ ss) (t ∷ more)) ≤ (1 + length s) + ((1 + length t) + weight_of_texts ss)
insert_at Less s t ss more h = omega arith
insert_at same s t ss more h = omega arith
insert_at above s t ss more h = omega (arith, h)

insert_weighs : (ss : List (List ℕ)) (s : List ℕ) → weight_of_texts (insert_key (slice_cmp nat_cmp) ss s) ≤ (1 + length s) + weight_of_texts ss
insert_weighs [] s = omega arith
insert_weighs (t ∷ ss) s = insert_at (slice_cmp nat_cmp s t) s t ss (insert_key (slice_cmp nat_cmp) ss s) (insert_weighs ss s)

-- a set of texts weighs no more than their list
texts_weigh : (ts : Items) (ss us : List (List ℕ)) → texts_with ss ts ≡ Some us → weight_of_texts us ≤ weight_of_texts ss + weight_of_items ts
texts_weigh no_items ss us e = let same_texts : ss ≡ us = cc in subst (λ x. weight_of_texts x ≤ weight_of_texts ss + 0) same_texts (omega arith)
texts_weigh (item (text s) ts) ss us e =
    let a = texts_weigh ts (insert_key (slice_cmp nat_cmp) ss s) us e in let b = insert_weighs ss s in omega (arith, a, b)
texts_weigh (item _ ts) ss us e = absurd (cc)

texts_value-within : (ts : Items) (o : Option (List (List ℕ))) (v : Tree) → IsWithinLimits (list ts) → ((us : List (List ℕ)) → o ≡ Some us → weight_of_texts us ≤ 0 + weight_of_items ts) → texts_value o ≡ Ok v → IsWithinLimits v
texts_value-within ts None v h few e = absurd (cc)
texts_value-within ts (Some ss) v h few e = let a = h.0 in let b = few ss refl in subst IsWithinLimits (ok_value (set ss) v e) (omega (arith, a, b), omega arith)

set_value-within : (t v : Tree) → IsWithinLimits t → set_value t ≡ Ok v → IsWithinLimits v
set_value-within (list ts) v h e = texts_value-within ts (texts_with [] ts) v h (texts_weigh ts []) e
set_value-within (set ss) v h e = subst IsWithinLimits (ok_value _ v e) h
set_value-within _ v h e = absurd (cc)

toset_within : (t v : Tree) → IsWithinLimits t → toset_value t ≡ Ok v → IsWithinLimits v
toset_within t v h e = if_text _ _ _ v (set_value-within t v h) (unknown_within v) e

pub call_value-within : (f : Function) (ts : Items) (v : Tree) → AreWithinLimits ts → call_value f ts ≡ Ok v → IsWithinLimits v
call_value-within Length (item t no_items) v h e = length_within t v e
call_value-within Keys (item t no_items) v h e = keys_value-within t v h.0 e
call_value-within Values (item t no_items) v h e = values_value-within t v h.0 e
call_value-within Merge (item t ts) v h e = unless_unknown (any_unknown (item t ts)) _ v (entries_within (merged_onto no_entries (item t ts)) v) e
call_value-within Concat (item t ts) v h e = unless_unknown (any_unknown (item t ts)) _ v (items_within (concatenated (item t ts)) v) e
call_value-within Join (item s (item t no_items)) v h e = join_within s t v e
call_value-within ToSet (item t no_items) v h e = toset_within t v h.0 e
call_value-within _ _ v h e = absurd (cc)
