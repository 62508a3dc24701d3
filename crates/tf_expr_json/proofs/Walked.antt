-- Reading element after element, and member after member.
use Rattle.std.proofs.Common.{◌≡◌, ℕ, zero, suc, ◌+◌, ◌<◌, List, [], ◌∷◌, ◌++◌, length, get_or, take, string_bytes, string_cmp, refl, ap, subst, arith, add-one}
use Rattle.std.specs.Fmt.{decimal}
use Rattle.std.specs.List.Sorted.{IsStrictlySortedBy}
use Rattle.std.specs.Map.{keys_of}
use Rattle.serde_json.proofs.Views.{Entry}
use Rattle.serde_json.specs.Data.{Data, Items, no_items, item, Members, no_members, member}
use Rattle.serde_json.specs.View.{view, items_view, members_view}
use Rattle.serde_json.specs.declared.value.Value.{Value}
use Rattle.tf_config_refusal.specs.Check.{demanded}
use Rattle.tf_config_refusal.specs.Walk.{each, each_item}
use Rattle.tf_expr_json.proofs.Faultless.{items_met, members_met}
use Rattle.tf_expr_json.proofs.Refusals.{Refuses-at, Refuses-at_item}
use Rattle.tf_expr_syntax.proofs.ExprViews.{is_above}
use Rattle.tf_expr_json.specs.Demand.{Checks, AreMet, Refuses, a_plain_name}
use Rattle.tf_expr_json.specs.Fault.{Told}
use Rattle.tf_expr_json.specs.Opening.{IsPlain}
use Rattle.tf_expr_json.specs.Reading.{expr_checks, item_checks, member_checks, IsExpr, AreExprs, HoldExprs}
use Rattle.tf_expr_syntax.specs.ExprTree.{Tree, tree_of, trees_view, Entries, no_entries, entry, put}
use Rattle.tf_expr_syntax.specs.declared.expr.Expr.{Expr}

-- what is demanded of an element, and of a member
abbrev pub one_item : List (List ℕ) → ℕ → Data → Checks
one_item place position value = expr_checks (decimal position ∷ place) value

abbrev pub one_member : List (List ℕ) → List ℕ → Data → Checks
one_member place name value = demanded (name ∷ place) (a_plain_name name) ++ expr_checks (name ∷ place) value

pub item_checks-each : (place : List (List ℕ)) (position : ℕ) (items : Items) → item_checks place position items ≡ each_item (one_item place) position items
item_checks-each place position no_items = refl
item_checks-each place position (item value items) = ap (λ checks. one_item place position value ++ checks) (item_checks-each place (position + 1) items)

pub member_checks-each : (place : List (List ℕ)) (members : Members) → member_checks place members ≡ each (one_member place) members
member_checks-each place no_members = refl
member_checks-each place (member name value members) = ap (λ checks. one_member place name value ++ checks) (member_checks-each place members)

-- one more element
exprs_more : (vs : List Value) (es : List Expr) (i : ℕ) (v : Value) (e : Expr) → i < length vs → v ≡ get_or vs i v → AreExprs (items_view (take i vs)) (trees_view es) → IsExpr (view v) (tree_of e)
    → AreExprs (items_view (take (suc i) vs)) (trees_view (es ++ e ∷ []))
exprs_more [] es i v e within is h more = absurd (omega arith)
exprs_more (w ∷ vs) [] zero v e within is h more = (subst (λ x. IsExpr (view x) (tree_of e)) is more, tt)
exprs_more (w ∷ vs) (f ∷ es) zero v e within is h more = absurd h
exprs_more (w ∷ vs) [] (suc i) v e within is h more = absurd h
exprs_more (w ∷ vs) (f ∷ es) (suc i) v e within is h more = (h.0, exprs_more vs es i v e (omega arith) is h.1 more)

module _ (vs : List Value) (es : List Expr) (i : ℕ) (v : Value) (within : i < length vs) (is : v ≡ get_or vs i v) (read : AreExprs (items_view (take i vs)) (trees_view es)) where
  pub items_more : (e : Expr) → IsExpr (view v) (tree_of e) → AreExprs (items_view (take (i + 1) vs)) (trees_view (es ++ e ∷ []))
  items_more e more = rw add-one (exprs_more vs es i v e within is read more)

  -- the first element that has a fault
  pub items_refused : (place : List (List ℕ)) (t : Told) → Refuses (expr_checks (decimal i ∷ place) (view v)) t → Refuses (item_checks place 0 (items_view vs)) t
  items_refused place t first =
      let here : 0 + i ≡ i = omega arith in
      let at_place : one_item place i (view v) ≡ one_item place (0 + i) (view (get_or vs i v)) = rw (here, ← is) in
      let walked = subst AreMet (item_checks-each place 0 (items_view (take i vs))) (items_met place 0 (items_view (take i vs)) (trees_view es) read) in
      rw item_checks-each (Refuses-at_item (one_item place) vs 0 i v t within walked (subst (λ checks. Refuses checks t) at_place first))

-- one more member, whose name is above those before it
pub members_more : (done : List Entry) (e : Entry) (left : List Entry) (es : Entries) (t : Tree) → IsStrictlySortedBy string_cmp (keys_of (done ++ e ∷ left))
    → HoldExprs (members_view done) es → IsPlain (string_bytes e.0) → IsExpr (view e.1) t → HoldExprs (members_view (done ++ e ∷ [])) (put (string_bytes e.0) t es)
unfolding IsStrictlySortedBy
members_more [] e left no_entries t sorted h plain more = (refl, plain, more, tt)
members_more [] e left (entry l u es) t sorted h plain more = absurd h
members_more (first ∷ done) e left no_entries t sorted h plain more = absurd h
members_more (first ∷ done) e left (entry l u es) t sorted h plain more =
    rw (← h.0, is_above first done e left sorted) (refl, h.1, h.2, members_more done e left es t sorted.1 h.3 plain more)

-- the first member that has a fault, where the walk has come to it
pub members_refused : (place : List (List ℕ)) (members done left : List Entry) (e : Entry) (more : List Entry) (es : Entries) (t : Told) → members ≡ done ++ left → left ≡ e ∷ more
    → HoldExprs (members_view done) es → Refuses (one_member place (string_bytes e.0) (view e.1)) t → Refuses (member_checks place (members_view members)) t
members_refused place members done left e more es t all next read first =
    rw (all, next, member_checks-each)
    (Refuses-at (one_member place) done e more t (subst AreMet (member_checks-each place (members_view done)) (members_met place (members_view done) es read)) first)
