-- What is told of checks, one after another.
use Rattle.std.proofs.Common.{ℕ, ◌+◌, ◌<◌, List, ◌∷◌, ◌++◌, length, get_or, take, string_bytes, refl}
use Rattle.serde_json.proofs.Views.{Entry}
use Rattle.serde_json.specs.Data.{Data}
use Rattle.serde_json.specs.View.{view, items_view, members_view}
use Rattle.serde_json.specs.declared.value.Value.{Value}
use Rattle.tf_expr_json.proofs.Within.{IsFirst-demanded_as}
use Rattle.tf_expr_json.specs.Demand as expr
use Rattle.tf_expr_json.specs.Fault as faults
use Rattle.tf_expr_json.specs.Within.{demanded_as}
use Rattle.tf_config_refusal.proofs.Checks.{IsFirst-left, IsFirst-right}
use Rattle.tf_config_refusal.proofs.Walks.{fails_at, fails_at_item}
use Rattle.tf_config_refusal.specs.Walk.{each, each_item}
use Rattle.tf_config_json.specs.Demand.{Checks, AreMet, IsMet, Fails, Refuses, of_expression}
use Rattle.tf_expr_json.specs.Refusing.{refused_expression, way_of}
use Rattle.tf_config_refusal.specs.Refusal.{RefusalView, no_memory, workers, fault}

pub Refuses-left : (xs ys : Checks) (t : RefusalView) → Refuses xs t → Refuses (xs ++ ys) t
Refuses-left xs ys no_memory h = tt
Refuses-left xs ys workers h = absurd h
Refuses-left xs ys (fault code place detail) h = IsFirst-left IsMet Fails place (code, detail) xs ys h

pub Refuses-right : (xs ys : Checks) (t : RefusalView) → AreMet xs → Refuses ys t → Refuses (xs ++ ys) t
Refuses-right xs ys no_memory met h = tt
Refuses-right xs ys workers met h = absurd h
Refuses-right xs ys (fault code place detail) met h = IsFirst-right IsMet Fails place (code, detail) xs ys met h

-- what is told of the first member that has a fault is told of all
pub Refuses-at : (checks : List ℕ → Data → Checks) (done : List Entry) (e : Entry) (more : List Entry) (t : RefusalView)
    → AreMet (each checks (members_view done)) → Refuses (checks (string_bytes e.0) (view e.1)) t → Refuses (each checks (members_view (done ++ e ∷ more))) t
Refuses-at checks done e more no_memory met h = tt
Refuses-at checks done e more workers met h = absurd h
Refuses-at checks done e more (fault code place detail) met h = fails_at IsMet Fails place (code, detail) checks done e more met h

-- and so of the first element
pub Refuses-at_item : (checks : ℕ → Data → Checks) (vs : List Value) (n i : ℕ) (d : Value) (t : RefusalView) → i < length vs
    → AreMet (each_item checks n (items_view (take i vs))) → Refuses (checks (n + i) (view (get_or vs i d))) t → Refuses (each_item checks n (items_view vs)) t
Refuses-at_item checks vs n i d no_memory within met h = tt
Refuses-at_item checks vs n i d workers within met h = absurd h
Refuses-at_item checks vs n i d (fault code place detail) within met h = fails_at_item IsMet Fails place (code, detail) checks vs n i d within met h

-- what is told of an expression is told of it as a part of a configuration
pub Refuses-expression : (checks : expr.Checks) (t : faults.Told) → expr.Refuses checks t → Refuses (demanded_as of_expression checks) (refused_expression t)
Refuses-expression checks faults.no_memory h = tt
Refuses-expression checks (faults.wrong place cause) h =
    IsFirst-demanded_as IsMet of_expression Fails (way_of cause) place cause (λ demand met. met) (λ demand fails. (cause, fails, refl)) checks h
