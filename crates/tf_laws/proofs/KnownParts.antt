-- What is known at a name stands at it in each value that this one refines to.
use Rattle.std.proofs.Common.{◌≡◌, ℕ, Bool, true, false, if◌then◌else◌, List, Option, Some, sym, ap}
use Rattle.std.specs.Str.{bytes_eq}
use Rattle.tf_value_data.specs.Known.{known}
use Rattle.tf_value_data.specs.Laws.{KnownStays}
use Rattle.tf_value_data.specs.Refinement.{Refines, RefinesEntries}
use Rattle.tf_value_data.specs.Tree.{Tree, Entries, no_entries, entry, map, get, part_at}

pick_known : KnownStays → (here : Bool) (t u : Tree) (rest others : Option Tree) (v : Tree) → Refines t u → (rest ≡ Some v → others ≡ Some v) → known v ≡ true
    → (if here then Some t else rest) ≡ Some v → (if here then Some u else others) ≡ Some v
pick_known stays true t u rest others v h more is p =
    let e : t ≡ v = (cc) in
    let f : v ≡ u = stays v u is (rw (sym e) h) in
    ap (λ x. Some x) (sym f)
pick_known stays false t u rest others v h more is p = more p

-- what is known at a key of a map stands at it in each map that this one refines to
get_known : KnownStays → (name : List ℕ) (es fs : Entries) (v : Tree) → RefinesEntries es fs → known v ≡ true → get name es ≡ Some v → get name fs ≡ Some v
get_known stays name no_entries fs v h is p = absurd (cc)
get_known stays name (entry k t es) no_entries v h is p = absurd h
get_known stays name (entry k t es) (entry l u fs) v h is p =
    let same : k ≡ l = h.0 in
    rw (sym same) (pick_known stays (bytes_eq name k) t u (get name es) (get name fs) v h.1 (get_known stays name es fs v h.2 is) is p)

pub part_known : KnownStays → (name : List ℕ) (t u v : Tree) → Refines t u → known v ≡ true → part_at name t ≡ Some v → part_at name u ≡ Some v
part_known stays name (map es) (map fs) v h is p = get_known stays name es fs v h is p
part_known stays name (map es) _ v h is p = absurd (assumption)
part_known stays name _ u v h is p = absurd (cc)
