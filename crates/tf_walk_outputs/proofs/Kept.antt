-- The entries of outputs that are still declared, one after another.
use Rattle.std.proofs.Common.{◌≡◌, ℕ, Bool, true, false, if◌then◌else◌, List, [], ◌∷◌, ◌++◌, Option, Some, Less, Greater, String, is_some, nat_cmp, ◌||◌, string_bytes, string_cmp, refl, sym, ap, subst, ◌∙◌, append_assoc, append-nil, cond}
use Rattle.std.proofs.lemmas.Cmp.{nat_list_cmp_total}
use Rattle.std.proofs.lemmas.Map.Text.{is_eq-slice_cmp}
use Rattle.std.specs.BTreeMap.{is_at}
use Rattle.std.specs.Cmp.Lexicographic.{slice_cmp}
use Rattle.std.specs.List.{AllByRecursion}
use Rattle.std.specs.List.Sorted.{IsStrictlySortedBy}
use Rattle.std.specs.Map.{lookup}
use Rattle.std.specs.Map.{keys_of}
use Rattle.std.specs.Ordering.{ordering_reverse}
use Rattle.std.specs.Str.{bytes_eq}
use Rattle.std.specs.declared.alloc.Global.{Global}
use Rattle.tf_walk_outputs.specs.Outputs.{is_declared, kept_entries}
use Rattle.tf_state_data.specs.State.{outputs_of}
use Rattle.tf_state_data.specs.declared.object.Object.{Object}
use Rattle.tf_expr_syntax.specs.ExprTree as expr
use Rattle.tf_expr_syntax.specs.ExprTree.{entries_view}
use Rattle.tf_expr_syntax.specs.declared.expr.Expr.{Expr}
use Rattle.tf_value_data.proofs.Views.{below_middle}
use Rattle.tf_value_data.specs.Stored.{EachMayBeStored, IsTable, MayBeStored}
use Rattle.tf_value_data.specs.Tree.{Tree, Entries, no_entries, entry, put, tree_of, keys_of as tree_keys}

abbrev pub Output : Type 0
Output = String Global × Object

-- an output is declared exactly where the map of expressions has its name
found_at : (b : Bool) (e : Expr) (rest : Option Expr) (others : Bool) → is_some rest ≡ others → is_some (cond b (Some e) rest) ≡ (b || others)
found_at true e rest others h = refl
found_at false e rest others h = h

pub declared_found : (es : List (String Global × Expr)) (name : List ℕ) → is_some (lookup (is_at (λ k. slice_cmp nat_cmp name (string_bytes k))) es) ≡ is_declared (entries_view es) name
declared_found [] name = refl
declared_found (e ∷ es) name =
    rw (is_eq-slice_cmp name (string_bytes e.0)) (found_at (bytes_eq name (string_bytes e.0)) e.1 _ (is_declared (entries_view es) name) (declared_found es name))

-- the same, of a name as the code reads it
pub key_found : (es : List (String Global × Expr)) (key name : List ℕ) (found : Bool) → found ≡ is_some (lookup (is_at (λ k. slice_cmp nat_cmp key (string_bytes k))) es) → key ≡ name
    → found ≡ is_declared (entries_view es) name
key_found es key name found is same = is ∙ declared_found es key ∙ ap (is_declared (entries_view es)) same

-- one entry more behind a first one, which is kept or not, as the one more is
more_at : (b d : Bool) (f k : List ℕ) (u t : Tree) (rest now : Entries) → slice_cmp nat_cmp k f ≡ Greater → now ≡ (if d then put k t rest else rest)
    → (if b then entry f u now else now) ≡ (if d then put k t (if b then entry f u rest else rest) else (if b then entry f u rest else rest))
more_at true true f k u t rest now above h = rw (above, h) refl
more_at true false f k u t rest now above h = rw h refl
more_at false true f k u t rest now above h = h
more_at false false f k u t rest now above h = h

-- what is kept of some entries and of one more, which comes after them
pub kept_more : (es : expr.Entries) (done : List Output) (e : Output) (more : List Output) → IsStrictlySortedBy string_cmp (keys_of (done ++ e ∷ more))
    → kept_entries es (outputs_of (done ++ e ∷ [])) ≡ (if is_declared es (string_bytes e.0) then put (string_bytes e.0) (tree_of e.1.value) (kept_entries es (outputs_of done)) else kept_entries es (outputs_of done))
unfolding IsStrictlySortedBy
kept_more es [] e more h = refl
kept_more es (first ∷ done) e more h =
    let above : slice_cmp nat_cmp (string_bytes e.0) (string_bytes first.0) ≡ Greater =
    nat_list_cmp_total.antisymm (string_bytes e.0) (string_bytes first.0) ∙ ap ordering_reverse (below_middle first.0 done e more h.0) in
    more_at (is_declared es (string_bytes first.0)) (is_declared es (string_bytes e.0)) (string_bytes first.0) (string_bytes e.0) (tree_of first.1.value) (tree_of e.1.value)
    (kept_entries es (outputs_of done)) (kept_entries es (outputs_of (done ++ e ∷ []))) above (kept_more es done e more h.1)

-- those before some entries are gone through
abbrev pub KeptBefore : expr.Entries → List Output → List Output → Entries → Type 0
KeptBefore es all left kept = (done : List Output) × (all ≡ done ++ left) × (kept ≡ kept_entries es (outputs_of done))

pub kept_next : (es : expr.Entries) (all rest left : List Output) (e : Output) (kept now : Entries) → IsStrictlySortedBy string_cmp (keys_of all) → rest ≡ e ∷ left
    → now ≡ (if is_declared es (string_bytes e.0) then put (string_bytes e.0) (tree_of e.1.value) kept else kept)
    → KeptBefore es all rest kept → KeptBefore es all left now
kept_next es all rest left e kept now sorted step is before =
    let whole : all ≡ before.0 ++ e ∷ left = before.1 ∙ ap (λ xs. before.0 ++ xs) step in
    let last = kept_more es before.0 e left (subst (λ xs. IsStrictlySortedBy string_cmp (keys_of xs)) whole sorted) in
    (before.0 ++ e ∷ [], whole ∙ sym (append_assoc before.0 (e ∷ []) left), is ∙ ap (λ (x : Entries). if is_declared es (string_bytes e.0) then put (string_bytes e.0) (tree_of e.1.value) x else x) before.2 ∙ sym last)

pub kept_all : (es : expr.Entries) (all rest : List Output) (kept : Entries) → rest ≡ [] → KeptBefore es all rest kept → kept ≡ kept_entries es (outputs_of all)
kept_all es all rest kept none before =
    let whole : all ≡ before.0 = before.1 ∙ ap (λ xs. before.0 ++ xs) none ∙ append-nil before.0 in
    before.2 ∙ ap (λ xs. kept_entries es (outputs_of xs)) (sym whole)

-- what is kept of a table is one
later_at : (b : Bool) (l k : List ℕ) (t : Tree) (kept : Entries) → slice_cmp nat_cmp l k ≡ Less → AllByRecursion (λ m. slice_cmp nat_cmp l m ≡ Less) (tree_keys kept)
    → AllByRecursion (λ m. slice_cmp nat_cmp l m ≡ Less) (tree_keys (if b then entry k t kept else kept))
later_at true l k t kept h rest = (h, rest)
later_at false l k t kept h rest = rest

kept_later : (es : expr.Entries) (l : List ℕ) (found : Entries) → AllByRecursion (λ m. slice_cmp nat_cmp l m ≡ Less) (tree_keys found) → AllByRecursion (λ m. slice_cmp nat_cmp l m ≡ Less) (tree_keys (kept_entries es found))
kept_later es l no_entries h = tt
kept_later es l (entry k t found) h = later_at (is_declared es k) l k t (kept_entries es found) h.0 (kept_later es l found h.1)

sorted_at : (b : Bool) (k : List ℕ) (t : Tree) (kept : Entries) → AllByRecursion (λ m. slice_cmp nat_cmp k m ≡ Less) (tree_keys kept) → IsStrictlySortedBy (slice_cmp nat_cmp) (tree_keys kept)
    → IsStrictlySortedBy (slice_cmp nat_cmp) (tree_keys (if b then entry k t kept else kept))
unfolding IsStrictlySortedBy
sorted_at true k t kept later rest = (later, rest)
sorted_at false k t kept later rest = rest

kept_sorted : (es : expr.Entries) (found : Entries) → IsStrictlySortedBy (slice_cmp nat_cmp) (tree_keys found) → IsStrictlySortedBy (slice_cmp nat_cmp) (tree_keys (kept_entries es found))
unfolding IsStrictlySortedBy
kept_sorted es no_entries h = h
kept_sorted es (entry k t found) h = sorted_at (is_declared es k) k t (kept_entries es found) (kept_later es k found h.0) (kept_sorted es found h.1)

stored_at : (b : Bool) (k : List ℕ) (t : Tree) (kept : Entries) → MayBeStored t → EachMayBeStored kept → EachMayBeStored (if b then entry k t kept else kept)
stored_at true k t kept h rest = (h, rest)
stored_at false k t kept h rest = rest

kept_stored : (es : expr.Entries) (found : Entries) → EachMayBeStored found → EachMayBeStored (kept_entries es found)
kept_stored es no_entries h = h
kept_stored es (entry k t found) h = stored_at (is_declared es k) k t (kept_entries es found) h.0 (kept_stored es found h.1)

pub kept_table : (es : expr.Entries) (found : Entries) → IsTable found → IsTable (kept_entries es found)
kept_table es found h = (kept_sorted es found h.0, kept_stored es found h.1)
