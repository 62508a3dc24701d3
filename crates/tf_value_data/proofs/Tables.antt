-- A table with a value put in is a table.
use Rattle.std.proofs.Common.{◌≡◌, ℕ, List, Ordering, Less, Equal, Greater, nat_cmp, refl, ap, ◌∙◌}
use Rattle.std.proofs.lemmas.Cmp.{nat_list_cmp_total}
use Rattle.std.specs.Cmp.Lexicographic.{slice_cmp}
use Rattle.std.specs.List.{AllByRecursion}
use Rattle.std.specs.List.Sorted.{IsStrictlySortedBy}
use Rattle.std.specs.Ordering.{match_ordering, ordering_reverse}
use Rattle.tf_value_data.specs.Stored.{MayBeStored, EachMayBeStored, IsTable}
use Rattle.tf_value_data.specs.Tree.{Tree, Entries, no_entries, entry, keys_of, put}

abbrev AreAfter : List ℕ → Entries → Type 0
AreAfter k es = AllByRecursion (λ l. slice_cmp nat_cmp k l ≡ Less) (keys_of es)

after_later : (k l : List ℕ) (es : Entries) → slice_cmp nat_cmp k l ≡ Less → AreAfter l es → AreAfter k es
after_later k l no_entries below h = tt
after_later k l (entry m u es) below h = (nat_list_cmp_total.trans k l m below h.0, after_later k l es below h.1)

after_at : (o : Ordering) (l k m : List ℕ) (t u : Tree) (es : Entries) → slice_cmp nat_cmp l k ≡ Less → AreAfter l (entry m u es) → AreAfter l (put k t es)
    → AreAfter l (match_ordering o (entry k t (entry m u es)) (entry m t es) (entry m u (put k t es)))
after_at Less l k m t u es below h more = (below, h)
after_at Equal l k m t u es below h more = h
after_at Greater l k m t u es below h more = (h.0, more)

after-put : (l k : List ℕ) (t : Tree) (es : Entries) → slice_cmp nat_cmp l k ≡ Less → AreAfter l es → AreAfter l (put k t es)
after-put l k t no_entries below h = (below, h)
after-put l k t (entry m u es) below h = after_at (slice_cmp nat_cmp k m) l k m t u es below h (after-put l k t es below h.1)

sorted_at : (o : Ordering) (k m : List ℕ) (t u : Tree) (es : Entries) → slice_cmp nat_cmp k m ≡ o → IsStrictlySortedBy (slice_cmp nat_cmp) (keys_of (entry m u es)) → IsStrictlySortedBy (slice_cmp nat_cmp) (keys_of (put k t es))
    → IsStrictlySortedBy (slice_cmp nat_cmp) (keys_of (match_ordering o (entry k t (entry m u es)) (entry m t es) (entry m u (put k t es))))
unfolding IsStrictlySortedBy
sorted_at Less k m t u es is h more = ((is, after_later k m es is h.0), h)
sorted_at Equal k m t u es is h more = h
sorted_at Greater k m t u es is h more =
    let below : slice_cmp nat_cmp m k ≡ Less = nat_list_cmp_total.antisymm m k ∙ ap ordering_reverse is in
    (after-put m k t es below h.0, more)

pub sorted-put : (k : List ℕ) (t : Tree) (es : Entries) → IsStrictlySortedBy (slice_cmp nat_cmp) (keys_of es) → IsStrictlySortedBy (slice_cmp nat_cmp) (keys_of (put k t es))
unfolding IsStrictlySortedBy
sorted-put k t no_entries h = (tt, tt)
sorted-put k t (entry m u es) h = sorted_at (slice_cmp nat_cmp k m) k m t u es refl h (sorted-put k t es h.1)

-- what holds of entries in each order holds of those that an order picks
pub at_order : (P : Entries → Type 0) (o : Ordering) (a b c : Entries) → P a → P b → P c → P (match_ordering o a b c)
at_order P Less a b c p q r = p
at_order P Equal a b c p q r = q
at_order P Greater a b c p q r = r

stored-put : (k : List ℕ) (t : Tree) (es : Entries) → MayBeStored t → EachMayBeStored es → EachMayBeStored (put k t es)
stored-put k t no_entries p h = (p, tt)
stored-put k t (entry l u es) p h =
    at_order EachMayBeStored (slice_cmp nat_cmp k l) (entry k t (entry l u es)) (entry l t es) (entry l u (put k t es)) (p, h) (p, h.1) (h.0, stored-put k t es p h.1)

pub table-put : (k : List ℕ) (t : Tree) (es : Entries) → MayBeStored t → IsTable es → IsTable (put k t es)
table-put k t es p h = (sorted-put k t es h.0, stored-put k t es p h.1)

pub no_table : IsTable no_entries
unfolding IsStrictlySortedBy
no_table = (tt, tt)
