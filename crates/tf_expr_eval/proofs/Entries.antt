-- Entries of expressions, valued one after another.
use Rattle.std.proofs.Common.{◌≡◌, refl, ℕ, List, [], ◌∷◌, ◌++◌, Result, Ok, Err, Greater, nat_cmp, String, Global, string_bytes, string_cmp, sym, ap, ◌∙◌, subst, append_assoc}
use Rattle.std.specs.BTreeMap.{insert_entry}
use Rattle.std.specs.Cmp.Lexicographic.{slice_cmp}
use Rattle.std.specs.List.Sorted.{IsStrictlySortedBy}
use Rattle.std.specs.Map.{keys_of}
use Rattle.tf_value_data.specs.Tree as values
use Rattle.tf_value_data.specs.declared.value.Value.{Value}
use Rattle.tf_value_data.proofs.Views.{entries_view-insert_entry}
use Rattle.tf_expr_operators.specs.Answer.{Gives}
use Rattle.tf_expr_syntax.specs.declared.fault.EvalFault.{EvalFault}
use Rattle.tf_expr_syntax.specs.declared.fault.EvalFault.TheVariants.{Overflow, WrongKind, Missing, Arity, TooLarge, OutOfMemory}
use Rattle.tf_expr_eval.specs.Answering.{Fails}
use Rattle.tf_expr_eval.specs.Environment.{Environment}
use Rattle.tf_expr_eval.specs.Meaning.{and_then}
use Rattle.tf_expr_eval.proofs.Alone.{split_two}
use Rattle.tf_expr_eval.specs.ExprMeaning.{meaning, below}
use Rattle.tf_expr_syntax.specs.ExprTree.{tree_of, entries_view}
use Rattle.tf_expr_syntax.proofs.ExprViews.{Entry, is_above}

-- what an entry and those behind it give
one-more : (k : List ℕ) (v : values.Tree) (vs : values.Entries) (first : Result values.Tree EvalFault) (others : Result values.Entries EvalFault) → first ≡ Ok v → others ≡ Ok vs
    → and_then first (λ w. and_then others (λ ws. Ok (values.entry k w ws))) ≡ Ok (values.entry k v vs)
one-more k v vs first others e f = rw (e, f) refl

put-above : (k : List ℕ) (v : values.Tree) (l : List ℕ) (u : values.Tree) (es : values.Entries) → slice_cmp nat_cmp k l ≡ Greater → values.put k v (values.entry l u es) ≡ values.entry l u (values.put k v es)
put-above k v l u es h = rw h refl

-- an entry whose name is above those before it
below-more : (env : Environment) (done : List Entry) (e : Entry) (more : List Entry) (vs : values.Entries) (v : values.Tree) → IsStrictlySortedBy string_cmp (keys_of (done ++ e ∷ more))
    → below env (entries_view done) ≡ Ok vs → meaning env (tree_of e.1) ≡ Ok v → below env (entries_view (done ++ e ∷ [])) ≡ Ok (values.put (string_bytes e.0) v vs)
unfolding IsStrictlySortedBy
below-more env [] e more vs v sorted h m =
    let none : values.no_entries ≡ vs = (cc) in
    one-more (string_bytes e.0) v values.no_entries (meaning env (tree_of e.1)) (Ok values.no_entries) m refl ∙ ap (λ ws. Ok (values.put (string_bytes e.0) v ws)) none
below-more env (x ∷ done) e more vs v sorted h m =
    let both = split_two (meaning env (tree_of x.1)) (below env (entries_view done)) (λ w ws. values.entry (string_bytes x.0) w ws) vs h in
    let same : values.entry (string_bytes x.0) both.0 both.1 ≡ vs = both.4 in
    let others = below-more env done e more both.1 v sorted.1 both.3 m in
    one-more (string_bytes x.0) both.0 (values.put (string_bytes e.0) v both.1) (meaning env (tree_of x.1)) (below env (entries_view (done ++ e ∷ []))) both.2 others
    ∙ ap Ok (sym (put-above (string_bytes e.0) v (string_bytes x.0) both.0 both.1 (is_above x done e more sorted))) ∙ ap (λ ws. Ok (values.put (string_bytes e.0) v ws)) same

-- entries of which those before some are valued
abbrev pub ValuedBefore : Environment → List Entry → List Entry → values.Entries → Type 0
ValuedBefore env es left so_far = (done : List Entry) × (es ≡ done ++ left) × (below env (entries_view done) ≡ Ok so_far)

-- one entry more of a map that is gone through, whose value is put into another
pub valued_more : (env : Environment) (es rest left : List Entry) (e : Entry) (so_far now : List (String Global × Value)) (k : String Global) (v : Value)
    → IsStrictlySortedBy string_cmp (keys_of es) → rest ≡ e ∷ left → now ≡ insert_entry string_cmp so_far k v → string_bytes k ≡ string_bytes e.0 → meaning env (tree_of e.1) ≡ Ok (values.tree_of v)
    → ValuedBefore env es rest (values.entries_view so_far) → ValuedBefore env es left (values.entries_view now)
valued_more env es rest left e so_far now k v sorted step is named valued before =
    let all : es ≡ before.0 ++ e ∷ left = before.1 ∙ ap (λ xs. before.0 ++ xs) step in
    let put_in : values.entries_view now ≡ values.put (string_bytes k) (values.tree_of v) (values.entries_view so_far) = ap values.entries_view is ∙ entries_view-insert_entry so_far k v in
    let last = below-more env before.0 e left (values.entries_view so_far) (values.tree_of v) (subst (λ xs. IsStrictlySortedBy string_cmp (keys_of xs)) all sorted) before.2 valued in
    (before.0 ++ e ∷ [], all ∙ sym (append_assoc before.0 (e ∷ []) left), rw (put_in, named) last)

-- the first fault of entries
below-fault : (env : Environment) (done : List Entry) (e : Entry) (more : List Entry) (vs : values.Entries) (fault : EvalFault) → below env (entries_view done) ≡ Ok vs
    → meaning env (tree_of e.1) ≡ Err fault → below env (entries_view (done ++ e ∷ more)) ≡ Err fault
below-fault env [] e more vs fault h m = rw m refl
below-fault env (x ∷ done) e more vs fault h m =
    let both = split_two (meaning env (tree_of x.1)) (below env (entries_view done)) (λ w ws. values.entry (string_bytes x.0) w ws) vs h in
    rw (both.2, below-fault env done e more both.1 fault both.3 m) refl

-- the first fault of entries is what is told, or there was no memory
below-fails : (env : Environment) (done : List Entry) (e : Entry) (more : List Entry) (vs : values.Entries) (fault : EvalFault) → below env (entries_view done) ≡ Ok vs
    → Gives (meaning env (tree_of e.1)) (Err fault) → Fails (below env (entries_view (done ++ e ∷ more))) fault
below-fails env done e more vs Overflow h m = below-fault env done e more vs Overflow h m
below-fails env done e more vs WrongKind h m = below-fault env done e more vs WrongKind h m
below-fails env done e more vs Missing h m = below-fault env done e more vs Missing h m
below-fails env done e more vs Arity h m = below-fault env done e more vs Arity h m
below-fails env done e more vs TooLarge h m = below-fault env done e more vs TooLarge h m
below-fails env done e more vs OutOfMemory h m = tt

pub valued_fails : (env : Environment) (es rest left : List Entry) (e : Entry) (so_far : values.Entries) (fault : EvalFault) → rest ≡ e ∷ left
    → Gives (meaning env (tree_of e.1)) (Err fault) → ValuedBefore env es rest so_far → Fails (below env (entries_view es)) fault
valued_fails env es rest left e so_far fault step failed before =
    let all : es ≡ before.0 ++ e ∷ left = before.1 ∙ ap (λ xs. before.0 ++ xs) step in rw all (below-fails env before.0 e left so_far fault before.2 failed)
