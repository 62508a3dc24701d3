-- Settled names, one after another.
use Rattle.std.proofs.Common.{◌≡◌, ◌<◌, ◌≤◌, ◌+◌, ℕ, Bool, false, List, [], length, set, take, sym, ap, subst, ◌∙◌, arith, inl, inr}
use Rattle.std.proofs.lemmas.Bool.{cases_eq}
use Rattle.std.proofs.lemmas.List.{get_or-set_same, get_or-set_other, length-set, take_all}
use Rattle.std.specs.Prelude.{Contains, slice_index}
use Rattle.std.specs.List.{AllByRecursion}
use Rattle.tf_config_data.specs.Names.{NameView, directly_before}
use Rattle.tf_expand_keys.proofs.Keeping.{earlier}
use Rattle.tf_expand_keys.proofs.Places.{names_stay}
use Rattle.tf_graph.specs.NodeSet.{has}
use Rattle.tf_graph.specs.Order.{IsInOrder}
use Rattle.tf_graph.specs.Solutions.{Ranked, seen_by}
use Rattle.tf_graph.proofs.Solving.{seen_by-same, all_by_weaker, solution-unique, solution-exists}
use Rattle.tf_walk_outputs.specs.OutputLaws.{SettledAreOne, SettledExist}
use Rattle.tf_walk_outputs.specs.Settled.{AreSettled, AreSettledAmong, settled_rule}

pub settled_one : SettledAreOne
settled_one names good settled others ranked s t = solution-unique (length names) (directly_before names) (settled_rule names good) settled others ranked (names_stay names) s t

pub settled_exist : SettledExist
settled_exist names good ranked = solution-exists (length names) (directly_before names) (settled_rule names good) ranked

-- what is marked once the names before a place of the order are done
pub record AreMarked (names : List NameView) (good : ℕ → Bool) (order : List ℕ) (i : ℕ) (settled : List Bool) : Type 0 where
  pub long : length settled ≡ length names
  pub right : AreSettledAmong names good (take i order) (has settled)

pub marked_start : (names : List NameView) (good : ℕ → Bool) (order : List ℕ) (settled : List Bool) → length settled ≡ length names → AreMarked names good order 0 settled
marked_start names good order settled long = record {
  long = long;
  right = λ solution solves n held. let inside : held.0 < length {A = ℕ} [] = held.1 in absurd (omega arith);
}

-- where the names directly before one are right, so is what the rule says of it
rule_is : (names : List NameView) (good marked solution : ℕ → Bool) (p : ℕ) → AreSettled names good solution → p < length names
    → AllByRecursion (λ a. marked a ≡ solution a) (directly_before names p) → settled_rule names good p (seen_by marked (directly_before names p)) ≡ solution p
rule_is names good marked solution p solves inside same =
    ap (settled_rule names good p) (seen_by-same marked solution (directly_before names p) same) ∙ sym (solves p inside)

-- one name more
pub marked_more : (names : List NameView) (good : ℕ → Bool) (order : List ℕ) (i p : ℕ) (settled : List Bool) (is_settled : Bool)
    → IsInOrder (directly_before names) order → i < length order → p ≡ slice_index order i → p < length names
    → is_settled ≡ settled_rule names good p (seen_by (has settled) (directly_before names p))
    → AreMarked names good order i settled → AreMarked names good order (i + 1) (set settled p is_settled)
marked_more names good order i p settled is_settled ordered h is inside ruled inv = record {
  long = length-set settled p is_settled ∙ inv.long;
  right = λ solution solves n held. elim (cases_eq n p) [
    | inl here ↦
        let before : AllByRecursion (λ a. has settled a ≡ solution a) (directly_before names p) =
        all_by_weaker (λ a. Contains (take i order) a) (λ a. has settled a ≡ solution a) (directly_before names p) (λ a c. inv.right solution solves a c) (rw is (ordered.after i h)) in
        ap (has (set settled p is_settled)) here ∙ get_or-set_same settled p is_settled false (omega (arith, inv.long)) ∙ ruled
        ∙ rule_is names good (has settled) solution p solves inside before ∙ ap solution (sym here)
    | inr other ↦
        get_or-set_other settled p n is_settled false other ∙ inv.right solution solves n (earlier order i p n h is other held)
  ];
}

-- all names are done
pub marked_all : (names : List NameView) (good : ℕ → Bool) (order : List ℕ) (i : ℕ) (settled : List Bool) → length order ≤ i
    → AreMarked names good order i settled → AreSettledAmong names good order (has settled)
marked_all names good order i settled h inv solution solves n held = inv.right solution solves n (subst (λ xs. Contains xs n) (sym (take_all i order h)) held)

-- what is right by each solution, for all names, is a solution
pub among_all : (names : List NameView) (good : ℕ → Bool) (order : List ℕ) (settled : ℕ → Bool) → Ranked (directly_before names) → ((n : ℕ) → n < length names → Contains order n)
    → AreSettledAmong names good order settled → AreSettled names good settled
among_all names good order settled ranked whole right n inside =
    let there = settled_exist names good ranked in
    let same : (a : ℕ) → a < length names → settled a ≡ there.0 a = λ a below. right there.0 there.1 a (whole a below) in
    same n inside
    ∙ sym (rule_is names good settled there.0 n there.1 inside (all_by_weaker (λ a. a < length names) (λ a. settled a ≡ there.0 a) (directly_before names n) same (names_stay names n inside)))
