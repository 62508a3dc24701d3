-- Where more is known of operands, no more than more is known of results.
use Rattle.std.proofs.Common.{◌≡◌, ◌⊎◌, ◌&&◌, ℕ, zero, suc, ℤ, pos, negsuc, List, Bool, true, false, cond, Option, Some, None, Ok, refl, sym, ap, ◌∙◌, subst, inl, inr}
use Rattle.std.specs.Str.{bytes_eq}
use Rattle.tf_expr_syntax.specs.declared.operator.Operator.{Operator}
use Rattle.tf_expr_syntax.specs.declared.operator.Operator.TheVariants.{Equal, NotEqual}
use Rattle.tf_expr_syntax.specs.declared.tree.Prefix.{Prefix}
use Rattle.tf_expr_syntax.specs.declared.tree.Prefix.TheVariants.{Not, Negate}
use Rattle.tf_value_data.specs.Tree.{Tree, boolean, whole, text, list, map, unknown, Items, no_items, item, Entries, no_entries, entry, get}
use Rattle.tf_value_data.specs.Known.{known, known_items}
use Rattle.tf_value_data.specs.Refinement.{Refines, RefinesItems, RefinesEntries}
use Rattle.tf_value_data.proofs.Conjunction.{and-first, and-second}
use Rattle.tf_value_data.proofs.Order.{Refines-refl, Refines-known, RefinesItems-known}
use Rattle.tf_expr_operators.specs.Answer.{Answer, present_value, list_value, map_value}
use Rattle.tf_expr_operators.specs.Operators.{not_value, negate_value, unary_value, scalars_value, equal_value, unequal_value, binary_value}
use Rattle.tf_expr_operators.specs.Parts.{item_at, item_at_whole, attribute_value, index_value}
use Rattle.tf_expr_operators.proofs.Limits.{limited-value}

-- an answer that is a value
abbrev pub answered : Tree → Answer
answered t = Ok t

pub ok_value : (t v : Tree) → answered t ≡ answered v → t ≡ v
ok_value t v e = cc

-- an unknown answer refines to any
pub unknown_grows : (v w : Tree) → unknown ≡ v → Refines v w
unknown_grows v w e = subst (λ x. Refines x w) e tt

-- answers whose values refine
pub values_grow : (t u v w : Tree) → Refines t u → t ≡ v → u ≡ w → Refines v w
values_grow t u v w h e f = subst (λ x. Refines x w) e (subst (λ y. Refines t y) f h)

-- What an answer rests on: it is unknown, or all that it is made of is known.
abbrev pub IsSettled : Tree → Bool → Type 0
IsSettled v b = (unknown ≡ v) ⊎ (b ≡ true)

-- an answer that rests on one known value stays
pub settled_grows : (g : Tree → Answer) (t u v w : Tree) → IsSettled v (known t) → Refines t u → g t ≡ Ok v → g u ≡ Ok w → Refines v w
settled_grows g t u v w (inl e) h p q = unknown_grows v w e
settled_grows g t u v w (inr k) h p q =
    let is = Refines-known t u k h in
    values_grow v v v w (Refines-refl v) refl (ok_value v w (sym p ∙ ap g is ∙ q))

-- an answer that rests on two known values stays
pub both_settled_grow : (g : Tree → Tree → Answer) (a b c d v w : Tree) → IsSettled v (known a && known c) → Refines a b → Refines c d → g a c ≡ Ok v → g b d ≡ Ok w → Refines v w
both_settled_grow g a b c d v w (inl e) h i p q = unknown_grows v w e
both_settled_grow g a b c d v w (inr k) h i p q =
    let first = Refines-known a b (and-first _ _ k) h in
    let second = Refines-known c d (and-second _ _ k) i in
    values_grow v v v w (Refines-refl v) refl (ok_value v w (sym p ∙ ap (λ x. g x c) first ∙ ap (g b) second ∙ q))

-- an answer that rests on known values stays
pub items_settled_grow : (g : Items → Answer) (ts us : Items) (v w : Tree) → IsSettled v (known_items ts) → RefinesItems ts us → g ts ≡ Ok v → g us ≡ Ok w → Refines v w
items_settled_grow g ts us v w (inl e) h p q = unknown_grows v w e
items_settled_grow g ts us v w (inr k) h p q =
    let is = RefinesItems-known ts us k h in
    values_grow v v v w (Refines-refl v) refl (ok_value v w (sym p ∙ ap g is ∙ q))

-- operators before their operand

not_settled : (t v : Tree) → not_value t ≡ Ok v → IsSettled v (known t)
not_settled unknown v e = inl (ok_value unknown v e)
not_settled (boolean b) v e = inr refl
not_settled _ v e = absurd (cc)

negate_settled : (t v : Tree) → negate_value t ≡ Ok v → IsSettled v (known t)
negate_settled unknown v e = inl (ok_value unknown v e)
negate_settled (whole z) v e = inr refl
negate_settled _ v e = absurd (cc)

pub unary_value-grows : (op : Prefix) (t u v w : Tree) → Refines t u → unary_value op t ≡ Ok v → unary_value op u ≡ Ok w → Refines v w
unary_value-grows Not t u v w h p q = settled_grows not_value t u v w (not_settled t v p) h p q
unary_value-grows Negate t u v w h p q = settled_grows negate_value t u v w (negate_settled t v p) h p q

-- operators between two operands

scalars_settled : (op : Operator) (t u v : Tree) → scalars_value op t u ≡ Ok v → IsSettled v (known t && known u)
scalars_settled op unknown u v e = inl (ok_value unknown v e)
scalars_settled op t unknown v e = inl (ok_value unknown v e)
scalars_settled op (boolean b) (boolean c) v e = inr refl
scalars_settled op (whole y) (whole z) v e = inr refl
scalars_settled op _ _ v e = absurd (cc)

tested_settled : (b : Bool) (t v : Tree) → cond b (answered t) (answered unknown) ≡ Ok v → IsSettled v b
tested_settled true t v e = inr refl
tested_settled false t v e = inl (ok_value unknown v e)

scalars_grow : (op : Operator) (a b c d v w : Tree) → Refines a b → Refines c d → scalars_value op a c ≡ Ok v → scalars_value op b d ≡ Ok w → Refines v w
scalars_grow op a b c d v w h i p q = both_settled_grow (scalars_value op) a b c d v w (scalars_settled op a c v p) h i p q

pub binary_value-grows : (op : Operator) (a b c d v w : Tree) → Refines a b → Refines c d → binary_value op a c ≡ Ok v → binary_value op b d ≡ Ok w → Refines v w
binary_value-grows Equal a b c d v w h i p q = both_settled_grow equal_value a b c d v w (tested_settled _ _ v p) h i p q
binary_value-grows NotEqual a b c d v w h i p q = both_settled_grow unequal_value a b c d v w (tested_settled _ _ v p) h i p q
binary_value-grows op a b c d v w h i p q = scalars_grow op a b c d v w h i p q

-- attributes and indices

pub present : (o : Option Tree) (v : Tree) → present_value o ≡ Ok v → o ≡ Some v
present None v e = absurd (cc)
present (Some t) v e = cc

pub some_value : (t v : Tree) → Some t ≡ Some v → t ≡ v
some_value t v e = cc

either_grows : (b : Bool) (t u v w : Tree) (r s : Option Tree) → Refines t u → (r ≡ Some v → s ≡ Some w → Refines v w) → cond b (Some t) r ≡ Some v → cond b (Some u) s ≡ Some w → Refines v w
either_grows true t u v w r s h later p q = values_grow t u v w h (some_value t v p) (some_value u w q)
either_grows false t u v w r s h later p q = later p q

pub get-grows : (k : List ℕ) (es fs : Entries) (v w : Tree) → RefinesEntries es fs → get k es ≡ Some v → get k fs ≡ Some w → Refines v w
get-grows k no_entries fs v w h p q = absurd (cc)
get-grows k (entry l t es) no_entries v w h p q = absurd h
get-grows k (entry l t es) (entry m u fs) v w h p q =
    either_grows (bytes_eq k l) t u v w (get k es) (get k fs) h.1 (get-grows k es fs v w h.2) p (ap (λ x. cond (bytes_eq k x) (Some u) (get k fs)) h.0 ∙ q)

pub item_at-grows : (n : ℕ) (ts us : Items) (v w : Tree) → RefinesItems ts us → item_at n ts ≡ Some v → item_at n us ≡ Some w → Refines v w
item_at-grows n no_items us v w h p q = absurd (cc)
item_at-grows n (item t ts) no_items v w h p q = absurd h
item_at-grows zero (item t ts) (item u us) v w h p q = values_grow t u v w h.0 (some_value t v p) (some_value u w q)
item_at-grows (suc n) (item t ts) (item u us) v w h p q = item_at-grows n ts us v w h.1 p q

item_at_whole-grows : (z : ℤ) (ts us : Items) (v w : Tree) → RefinesItems ts us → item_at_whole z ts ≡ Some v → item_at_whole z us ≡ Some w → Refines v w
item_at_whole-grows (pos n) ts us v w h p q = item_at-grows n ts us v w h p q
item_at_whole-grows (negsuc n) ts us v w h p q = absurd (cc)

pub attribute_value-grows : (t u : Tree) (name : List ℕ) (v w : Tree) → Refines t u → attribute_value t name ≡ Ok v → attribute_value u name ≡ Ok w → Refines v w
attribute_value-grows unknown u name v w h p q = unknown_grows v w (ok_value unknown v p)
attribute_value-grows (map es) (map fs) name v w h p q = get-grows name es fs v w h (present _ v p) (present _ w q)
attribute_value-grows (map es) _ name v w h p q = absurd h
attribute_value-grows _ u name v w h p q = absurd (cc)

at_text-grows : (es : Entries) (k : List ℕ) (b d v w : Tree) → Refines (map es) b → Refines (text k) d → index_value (map es) (text k) ≡ Ok v → index_value b d ≡ Ok w → Refines v w
at_text-grows es k (map fs) (text l) v w h i p q = get-grows k es fs v w h (present _ v p) (ap (λ x. get x fs) i ∙ present _ w q)
at_text-grows es k (map fs) _ v w h i p q = absurd i
at_text-grows es k _ d v w h i p q = absurd h

at_whole-grows : (ts : Items) (z : ℤ) (b d v w : Tree) → Refines (list ts) b → Refines (whole z) d → index_value (list ts) (whole z) ≡ Ok v → index_value b d ≡ Ok w → Refines v w
at_whole-grows ts z (list us) (whole y) v w h i p q = item_at_whole-grows z ts us v w h (present _ v p) (ap (λ x. item_at_whole x us) i ∙ present _ w q)
at_whole-grows ts z (list us) _ v w h i p q = absurd i
at_whole-grows ts z _ d v w h i p q = absurd h

pub index_value-grows : (a b c d v w : Tree) → Refines a b → Refines c d → index_value a c ≡ Ok v → index_value b d ≡ Ok w → Refines v w
index_value-grows unknown b c d v w h i p q = unknown_grows v w (ok_value unknown v p)
index_value-grows a b unknown d v w h i p q = unknown_grows v w (ok_value unknown v p)
index_value-grows (map es) b (text k) d v w h i p q = at_text-grows es k b d v w h i p q
index_value-grows (list ts) b (whole z) d v w h i p q = at_whole-grows ts z b d v w h i p q
index_value-grows _ b _ d v w h i p q = absurd (cc)

-- lists, maps and texts

pub list_value-grows : (ts us : Items) (v w : Tree) → RefinesItems ts us → list_value ts ≡ Ok v → list_value us ≡ Ok w → Refines v w
list_value-grows ts us v w h p q = values_grow (list ts) (list us) v w h (limited-value (list ts) v p) (limited-value (list us) w q)

pub map_value-grows : (es fs : Entries) (v w : Tree) → RefinesEntries es fs → map_value es ≡ Ok v → map_value fs ≡ Ok w → Refines v w
map_value-grows es fs v w h p q = values_grow (map es) (map fs) v w h (limited-value (map es) v p) (limited-value (map fs) w q)
