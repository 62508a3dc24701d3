-- A name stands among the names.
use Rattle.std.proofs.Common.{◌≡◌, ◌<◌, ◌++◌, ℕ, zero, suc, List, [], ◌∷◌, Some, map, length, sym, ap, ◌∙◌, arith}
use Rattle.std.specs.Prelude.{slice_get}
use Rattle.tf_config_data.specs.Names.{NameView}
use Rattle.tf_plan_order.specs.ResourceIndex.{ResourceRefView, a_name, an_orphan, numbered, orphans}
use Rattle.tf_state_data.specs.Resource.{ResourceView}

no_name : (rs : List ResourceView) (n : ℕ) (x : NameView) → slice_get (map an_orphan rs) n ≡ Some (a_name x) → ⊥
no_name [] n x e = absurd (cc)
no_name (r ∷ rs) zero x e = absurd (cc)
no_name (r ∷ rs) (suc n) x e = no_name rs n x e

among : (names : List NameView) (rs : List ResourceView) (n : ℕ) (x : NameView) → slice_get (map a_name names ++ map an_orphan rs) n ≡ Some (a_name x) → n < length names
among [] rs n x e = absurd (no_name rs n x e)
among (y ∷ ys) rs zero x e = omega arith
among (y ∷ ys) rs (suc n) x e = let h = among ys rs n x e in omega arith

pub named_within : (all : List ResourceRefView) (names : List NameView) (resources : List ResourceView) (n : ℕ) (x : NameView) → all ≡ numbered names resources → slice_get all n ≡ Some (a_name x) → n < length names
named_within all names resources n x is e = among names (orphans names resources) n x (ap (λ xs. slice_get xs n) (sym is) ∙ e)
