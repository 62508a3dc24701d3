-- What a JSON tree is read as, by the clauses of the crate of values.
use Rattle.std.proofs.Common.{◌≡◌, ◌<◌, Bool, true, false, ◌&&◌, Some, None, cond, refl, subst, leb-true, ⊎_elim}
use Rattle.std.proofs.lemmas.Bool.{and_parts, le-leb, lt-leb}
use Rattle.serde_json.specs.Data.{Data}
use Rattle.tf_value_json.specs.Json.{value_from, tree_from, IsUnread}
use Rattle.tf_value_data.specs.Known.{known}
use Rattle.tf_value_data.specs.Measure.{weight, depth, max_weight, max_depth, IsWithinLimits, IsTooLarge}
use Rattle.tf_value_data.specs.Tree.{Tree}
use Rattle.tf_value_json.specs.declared.fault.JsonFault.{JsonFault}
use Rattle.tf_value_json.specs.declared.fault.JsonFault.TheVariants.{UnknownInside, NotWhole, TooLarge, OutOfMemory}
use Rattle.tf_state.specs.Reading.{is_within, value_in}

pub is_within-true : (t : Tree) → IsWithinLimits t → is_within t ≡ true
is_within-true t w = rw (le-leb (weight t) max_weight w.0, le-leb (depth t) max_depth w.1) refl

pub within-limits : (t : Tree) → is_within t ≡ true → IsWithinLimits t
within-limits t e = let parts = and_parts _ _ e in (leb-true (weight t) max_weight parts.0, leb-true (depth t) max_depth parts.1)

and_false : (b : Bool) → (b && false) ≡ false
and_false true = refl
and_false false = refl

is_within-false : (t : Tree) → IsTooLarge t → is_within t ≡ false
is_within-false t large =
    ⊎_elim (λ (h : max_weight < weight t). rw (lt-leb (weight t) max_weight h) refl) (λ (h : max_depth < depth t). rw (lt-leb (depth t) max_depth h) (and_false _)) large

read_at : (b : Bool) (u t : Tree) → cond b (Some u) None ≡ Some t → is_within t ≡ true → cond (b && is_within u) (Some u) None ≡ Some t
read_at true u t e w = let same : u ≡ t = cc in rw (same, w) refl
read_at false u t e w = absurd (cc)

known_at : (b : Bool) (u t : Tree) → known u ≡ b → cond b (Some u) None ≡ Some t → known t ≡ true
known_at true u t k e = let same : u ≡ t = cc in subst (λ v. known v ≡ true) same k
known_at false u t k e = absurd (cc)

large_at : (b : Bool) (u t : Tree) → cond b (Some u) None ≡ Some t → is_within t ≡ false → cond (b && is_within u) (Some u) None ≡ None
large_at true u t e w = let same : u ≡ t = cc in rw (same, w) refl
large_at false u t e w = absurd (cc)

whole_at : (b : Bool) (u : Tree) → cond b (Some u) None ≡ None → cond (b && is_within u) (Some u) None ≡ None
whole_at true u e = absurd (cc)
whole_at false u e = refl

-- a value that was read, and is within the limits
pub value_read : (d : Data) (t : Tree) → value_from d ≡ Some t → IsWithinLimits t → value_in d ≡ Some t
value_read d t e w = read_at (known (tree_from d)) (tree_from d) t e (is_within-true t w)

-- is known
pub value_known : (d : Data) (t : Tree) → value_from d ≡ Some t → known t ≡ true
value_known d t e = known_at (known (tree_from d)) (tree_from d) t refl e

-- a tree that isn't read as a value is refused
pub value_refused : (d : Data) (e : JsonFault) → IsUnread d e → (e ≡ OutOfMemory → ⊥) → value_in d ≡ None
value_refused d NotWhole h other = whole_at (known (tree_from d)) (tree_from d) h
value_refused d TooLarge h other = large_at (known (tree_from d)) (tree_from d) h.0 h.1 (is_within-false h.0 h.2)
value_refused d UnknownInside h other = absurd h
value_refused d OutOfMemory h other = absurd (other refl)
