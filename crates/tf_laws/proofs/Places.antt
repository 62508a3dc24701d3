-- What stands at the places of a configuration's names.
use Rattle.std.proofs.Common.{◌≡◌, ◌∙◌, ◌<◌, ℕ, zero, suc, Bool, true, false, not, List, [], ◌∷◌, Option, Some, None, is_some, option_map, length, map, refl, sym, ap, subst, arith, inl, inr}
use Rattle.std.proofs.lemmas.List.Elements.{Contains-append_cases}
use Rattle.std.proofs.lemmas.List.Sorted.{Contains-permutation}
use Rattle.std.specs.List.{AllByRecursion, range_with_len}
use Rattle.std.specs.Prelude.{Contains, option_and_then, slice_get}
use Rattle.tf_plan_order.specs.AddressOrder.{AreInAddressOrder, is_resource, resource_places}
use Rattle.tf_config_data.specs.Config.{BlockView}
use Rattle.tf_config_data.specs.Names.{NameView, Meant, a_block, meant_at}
use Rattle.tf_plan_decision.proofs.Standing.{named_within}
use Rattle.tf_plan_planner.proofs.Distinct.{at-contained, in_filter, in_map}
use Rattle.tf_plan_order.proofs.Standing.{numbers-in_order}
use Rattle.tf_plan_order.specs.ResourceIndex.{ResourceRefView, a_name, an_orphan, address_of, has_block, numbered, orphans}
use Rattle.tf_state_data.specs.Resource.{ResourceView}
use Rattle.tf_laws.proofs.Lists.{all_contained, got_within, in_range, to_filter}

-- the name that stands for something
pub name_of : (names : List NameView) (n : ℕ) (m : Meant) → meant_at names n ≡ Some m → (name : NameView) × (slice_get names n ≡ Some name) × (name.meant ≡ m)
name_of [] n m e = absurd (cc)
name_of (x ∷ names) zero m e = (x, refl, (cc))
name_of (x ∷ names) (suc n) m e = name_of names n m e

meant_of : (names : List NameView) (n : ℕ) (name : NameView) → slice_get names n ≡ Some name → meant_at names n ≡ Some name.meant
meant_of [] n name e = absurd (cc)
meant_of (x ∷ names) zero name e = let same : x ≡ name = (cc) in ap (λ (y : NameView). Some y.meant) same
meant_of (x ∷ names) (suc n) name e = meant_of names n name e

pub meant_within : (names : List NameView) (n : ℕ) (m : Meant) → meant_at names n ≡ Some m → n < length names
meant_within names n m e = let name = name_of names n m e in got_within names n name.0 name.1

pub meant_there : (names : List NameView) (n : ℕ) → n < length names → (m : Meant) × (meant_at names n ≡ Some m)
meant_there [] n h = absurd (omega (arith, h))
meant_there (x ∷ names) zero h = (x.meant, refl)
meant_there (x ∷ names) (suc n) h = meant_there names n (omega (arith, h))

one_name : (o : Option NameView) (name : NameView) → option_map a_name o ≡ Some (a_name name) → o ≡ Some name
one_name None name e = absurd (cc)
one_name (Some x) name e = let same : x ≡ name = (cc) in ap Some same

module _ (names : List NameView) (resources : List ResourceView) where
  -- a name keeps its place among all that is numbered
  pub name_at : (n : ℕ) (m : Meant) → meant_at names n ≡ Some m → (name : NameView) × (slice_get (numbered names resources) n ≡ Some (a_name name)) × (name.meant ≡ m)
  name_at n m e =
      let name = name_of names n m e in
      (name.0, (numbers-in_order names resources).first_names n (got_within names n name.0 name.1) ∙ ap (option_map a_name) name.1, name.2)

  -- and a name that stands there stands among the names
  pub at_name : (n : ℕ) (name : NameView) → slice_get (numbered names resources) n ≡ Some (a_name name) → meant_at names n ≡ Some name.meant
  at_name n name e =
      let inside = named_within (numbered names resources) names resources n name refl e in
      meant_of names n name (one_name (slice_get names n) name (sym ((numbers-in_order names resources).first_names n inside) ∙ e))

  -- a block's place is looked at
  pub block_looked_at : (places : List ℕ) (n : ℕ) (block : BlockView) → AreInAddressOrder (numbered names resources) places → meant_at names n ≡ Some (a_block block) → Contains places n
  block_looked_at places n block order e =
      let name = name_at n (a_block block) e in
      let all = numbered names resources in
      let resource : is_resource all n ≡ true = ap (λ (o : Option ResourceRefView). is_some (option_and_then address_of o)) name.1 ∙ ap (λ (m : Meant). is_some (address_of (a_name (record { name = name.0.name; meant = m })))) name.2 in
      Contains-permutation (resource_places all) places n order.each
      (to_filter (is_resource all) (range_with_len 0 (length all)) n (in_range 0 (length all) n (omega arith) (omega (arith, got_within all n (a_name name.0) name.1))) resource)

  -- and so is an orphan's
  pub orphan_looked_at : (places : List ℕ) (n : ℕ) (r : ResourceView) → AreInAddressOrder (numbered names resources) places → slice_get (numbered names resources) n ≡ Some (an_orphan r) → Contains places n
  orphan_looked_at places n r order e =
      let all = numbered names resources in
      let resource : is_resource all n ≡ true = ap (λ (o : Option ResourceRefView). is_some (option_and_then address_of o)) e in
      Contains-permutation (resource_places all) places n order.each
      (to_filter (is_resource all) (range_with_len 0 (length all)) n (in_range 0 (length all) n (omega arith) (omega (arith, got_within all n (an_orphan r) e))) resource)

  -- an orphan has no block
  pub orphan_of : (n : ℕ) (r : ResourceView) → slice_get (numbered names resources) n ≡ Some (an_orphan r) → Contains resources r × (has_block names r.addr ≡ false)
  orphan_of n r e = elim (Contains-append_cases (map a_name names) (map an_orphan (orphans names resources)) (an_orphan r) (at-contained (numbered names resources) n (an_orphan r) e)) [
    | inl front ↦ let name = in_map a_name names (an_orphan r) front in absurd (cc (name.2))
    | inr back ↦
        let other = in_map an_orphan (orphans names resources) (an_orphan r) back in
        let kept = in_filter (λ x. not (has_block names x.addr)) resources other.0 other.1 in
        let same : other.0 ≡ r = orphan_same other.0 r other.2 in
        (subst (Contains resources) same kept.0, none (has_block names r.addr) (subst (λ (x : ResourceView). not (has_block names x.addr) ≡ true) same kept.1))
  ]
    where
      orphan_same : (x y : ResourceView) → an_orphan x ≡ an_orphan y → x ≡ y
      orphan_same x y h = cc

      none : (b : Bool) → not b ≡ true → b ≡ false
      none false h = refl
      none true h = absurd (cc)

  -- where each resource has a block, there are no orphans
  pub no_orphan : AllByRecursion (λ r. has_block names r.addr ≡ true) resources → (n : ℕ) (r : ResourceView) → slice_get (numbered names resources) n ≡ Some (an_orphan r) → ⊥
  no_orphan blocks n r e =
      let is = orphan_of n r e in
      let has : has_block names r.addr ≡ true = all_contained (λ (x : ResourceView). has_block names x.addr ≡ true) resources r blocks is.0 in
      let not_has : has_block names r.addr ≡ false = is.1 in
      absurd (cc)
