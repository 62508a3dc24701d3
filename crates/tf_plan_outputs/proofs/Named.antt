-- The names of outputs.
use Rattle.std.proofs.Common.{◌≡◌, ℕ, nat_cmp, cond, Bool, true, false, if◌then◌else◌, List, [], ◌∷◌, Option, Some, None, option_map, String, Global, string_bytes, string_cmp, refl, ap, ◌∙◌}
use Rattle.std.proofs.lemmas.Map.Text.{is_eq-slice_cmp}
use Rattle.std.specs.Borrow.{Bor}
use Rattle.std.specs.BTreeMap.{is_at}
use Rattle.std.specs.BTreeSet.{insert_key}
use Rattle.std.specs.Cmp.Lexicographic.{slice_cmp}
use Rattle.std.specs.Map.{keys_of as map_keys, lookup}
use Rattle.std.specs.Option.{option_copied}
use Rattle.std.specs.Ordering.{is_eq}
use Rattle.std.specs.Str.{bytes_eq}
use Rattle.tf_expr_operators.proofs.Rows.{texts_view-insert_key}
use Rattle.tf_expr_syntax.specs.ExprTree as expr
use Rattle.tf_expr_syntax.specs.declared.expr.Expr.{Expr}
use Rattle.tf_plan_outputs.specs.Changes.{declared_names, names_with}
use Rattle.tf_state_data.specs.State.{outputs_of}
use Rattle.tf_state_data.specs.declared.object.Object.{Object}
use Rattle.tf_value_data.specs.Tree.{Tree, get, keys_of, texts_view, tree_of}

-- one name more in the set, and one less that is left
pub named_more : (old new rest : List (String Global)) (key copy : String Global) → new ≡ insert_key string_cmp old copy → string_bytes copy ≡ string_bytes key
    → names_with (texts_view new) (texts_view rest) ≡ names_with (texts_view old) (texts_view (key ∷ rest))
named_more old new rest key copy put_in same =
    ap (λ ss. names_with (texts_view ss) (texts_view rest)) put_in
    ∙ ap (λ ks. names_with ks (texts_view rest)) (texts_view-insert_key old copy)
    ∙ ap (λ k. names_with (insert_key (slice_cmp nat_cmp) (texts_view old) k) (texts_view rest)) same

-- the keys of declared outputs
pub declared_keys : (es : List (String Global × Expr)) → texts_view (map_keys es) ≡ declared_names (expr.entries_view es)
declared_keys [] = refl
declared_keys (e ∷ es) = ap (λ ks. string_bytes e.0 ∷ ks) (declared_keys es)

-- the keys of the outputs of a state
pub saved_keys : (es : List (String Global × Object)) → texts_view (map_keys es) ≡ keys_of (outputs_of es)
saved_keys [] = refl
saved_keys (e ∷ es) = ap (λ ks. string_bytes e.0 ∷ ks) (saved_keys es)

-- ---- the value of an output of a state

-- the value of an entry, if its key is the one that is looked for
saved_at : (here test : Bool) (o : Object) (x : Option Object) (y : Option Tree) → here ≡ test → option_map (λ (p : Object). tree_of p.value) x ≡ y
    → option_map (λ (p : Object). tree_of p.value) (cond here (Some o) x) ≡ (if test then Some (tree_of o.value) else y)
saved_at true true o x y same others = refl
saved_at true false o x y same others = absurd (cc)
saved_at false true o x y same others = absurd (cc)
saved_at false false o x y same others = others

saved_lookup : (key : List ℕ) (es : List (String Global × Object)) → option_map (λ (p : Object). tree_of p.value) (lookup (is_at (λ k. slice_cmp nat_cmp key (string_bytes k))) es) ≡ get key (outputs_of es)
saved_lookup key [] = refl
saved_lookup key (e ∷ es) =
    saved_at (is_eq (slice_cmp nat_cmp key (string_bytes e.0))) (bytes_eq key (string_bytes e.0)) e.1 (lookup (is_at (λ k. slice_cmp nat_cmp key (string_bytes k))) es) (get key (outputs_of es))
    (is_eq-slice_cmp key (string_bytes e.0)) (saved_lookup key es)

borrowed : (r : Option (Bor Object)) → option_map (λ (p : Bor Object). tree_of p.now.value) r ≡ option_map (λ (p : Object). tree_of p.value) (option_copied r)
borrowed None = refl
borrowed (Some o) = refl

-- what is found in the map of a state's outputs
pub saved_got : (key : List ℕ) (es : List (String Global × Object)) (r : Option (Bor Object)) → option_copied r ≡ lookup (is_at (λ k. slice_cmp nat_cmp key (string_bytes k))) es
    → option_map (λ (p : Bor Object). tree_of p.now.value) r ≡ get key (outputs_of es)
saved_got key es r got = borrowed r ∙ ap (option_map (λ (p : Object). tree_of p.value)) got ∙ saved_lookup key es
