-- What is told of checks, one after another.
use Rattle.std.proofs.Common.{ℕ, ◌+◌, ◌<◌, List, ◌∷◌, ◌++◌, length, get_or, take, string_bytes}
use Rattle.serde_json.proofs.Views.{Entry}
use Rattle.serde_json.specs.Data.{Data}
use Rattle.serde_json.specs.View.{view, items_view, members_view}
use Rattle.serde_json.specs.declared.value.Value.{Value}
use Rattle.tf_config_refusal.proofs.Checks.{IsFirst-left, IsFirst-right}
use Rattle.tf_config_refusal.proofs.Walks.{fails_at, fails_at_item}
use Rattle.tf_config_refusal.specs.Walk.{each, each_item}
use Rattle.tf_expr_json.specs.Demand.{Checks, AreMet, IsMet, Fails, Refuses}
use Rattle.tf_expr_json.specs.Fault.{Told, no_memory, wrong}

pub Refuses-left : (xs ys : Checks) (t : Told) → Refuses xs t → Refuses (xs ++ ys) t
Refuses-left xs ys no_memory h = tt
Refuses-left xs ys (wrong place cause) h = IsFirst-left IsMet Fails place cause xs ys h

pub Refuses-right : (xs ys : Checks) (t : Told) → AreMet xs → Refuses ys t → Refuses (xs ++ ys) t
Refuses-right xs ys no_memory met h = tt
Refuses-right xs ys (wrong place cause) met h = IsFirst-right IsMet Fails place cause xs ys met h

-- what is told of the first member that has a fault is told of all
pub Refuses-at : (checks : List ℕ → Data → Checks) (done : List Entry) (e : Entry) (more : List Entry) (t : Told)
    → AreMet (each checks (members_view done)) → Refuses (checks (string_bytes e.0) (view e.1)) t → Refuses (each checks (members_view (done ++ e ∷ more))) t
Refuses-at checks done e more no_memory met h = tt
Refuses-at checks done e more (wrong place cause) met h = fails_at IsMet Fails place cause checks done e more met h

-- and so of the first element
pub Refuses-at_item : (checks : ℕ → Data → Checks) (vs : List Value) (n i : ℕ) (d : Value) (t : Told) → i < length vs
    → AreMet (each_item checks n (items_view (take i vs))) → Refuses (checks (n + i) (view (get_or vs i d))) t → Refuses (each_item checks n (items_view vs)) t
Refuses-at_item checks vs n i d no_memory within met h = tt
Refuses-at_item checks vs n i d (wrong place cause) within met h = fails_at_item IsMet Fails place cause checks vs n i d within met h
