-- The places of resources in address order are one list.
use Rattle.std.proofs.Common.{◌≡◌, ◌∙◌, ℕ, true, false, List, length, Option, Some, None, is_some, Ordering, Less, Equal, Greater, refl, sym, ap}
use Rattle.std.proofs.lemmas.List.Sorted.{Contains-permutation, IsPermutation-sym, ranks_by, sorted_far}
use Rattle.std.proofs.lemmas.Map.Text.{is_eq-slice_cmp}
use Rattle.std.proofs.lemmas.Slice.Eq.{bytes_eq-Decides}
use Rattle.std.specs.Cmp.Lexicographic.{options_total, slice_cmp}
use Rattle.std.specs.List.{AllByRecursion, range_with_len}
use Rattle.std.specs.Option.{option_cmp}
use Rattle.std.specs.Ordering.{is_eq, is_lt, nat_cmp, ordering_reverse, ordering_then}
use Rattle.std.specs.Prelude.{option_and_then, slice_get}
use Rattle.tf_config_address.proofs.Totals.{addr_total}
use Rattle.tf_config_address.specs.ResourceAddr.{ResourceAddrView, addr_cmp}
use Rattle.tf_plan_order.specs.AddressOrder.{AreInAddressOrder, address_at, is_below, is_resource, resource_places}
use Rattle.tf_graph.proofs.Edges.{all_by_contained}
use Rattle.tf_plan_planner.proofs.Distinct.{in_filter}
use Rattle.tf_plan_planner.proofs.Ranges.{places-distinct}
use Rattle.tf_plan_order.specs.ResourceLaws.{AreApart}
use Rattle.tf_plan_order.specs.ResourceIndex.{ResourceRefView, address_of}
use Rattle.tf_laws.proofs.Rising.{IsRising, one_list, rising}

-- a resource stands at the place
abbrev HasAddress : List ResourceRefView → ℕ → Type 0
HasAddress all n = (addr : ResourceAddrView) × (address_at all n ≡ Some addr)

address_there : (o : Option ResourceAddrView) → is_some o ≡ true → (addr : ResourceAddrView) × (o ≡ Some addr)
address_there None h = absurd (cc)
address_there (Some addr) h = (addr, refl)

at_address : (o : Option ResourceRefView) (addr : ResourceAddrView) → option_and_then address_of o ≡ Some addr → (x : ResourceRefView) × (o ≡ Some x) × (address_of x ≡ Some addr)
at_address None addr e = absurd (cc)
at_address (Some x) addr e = (x, refl, e)

then_equal : (o p : Ordering) → ordering_then o p ≡ Equal → (o ≡ Equal) × (p ≡ Equal)
then_equal Equal p e = (refl, e)
then_equal Less p e = absurd (cc)
then_equal Greater p e = absurd (cc)

text_one : (s t : List ℕ) → slice_cmp nat_cmp s t ≡ Equal → s ≡ t
text_one s t e = (bytes_eq-Decides s t).0 (sym (is_eq-slice_cmp s t) ∙ ap is_eq e)

-- addresses at one place of their order are the same
addr_one : (a b : ResourceAddrView) → addr_cmp a b ≡ Equal → a ≡ b
addr_one a b e =
    let both = then_equal (slice_cmp nat_cmp a.type_name b.type_name) (slice_cmp nat_cmp a.name b.name) e in
    λ i. record { type_name = text_one a.type_name b.type_name both.0 i; name = text_one a.name b.name both.1 i }

-- addresses that are neither before the other are the same
untied : (a b : ResourceAddrView) (o : Ordering) → addr_cmp a b ≡ o → is_lt (addr_cmp a b) ≡ false → is_lt (addr_cmp b a) ≡ false → a ≡ b
untied a b Equal e f g = addr_one a b e
untied a b Less e f g = let no : true ≡ false = sym (ap is_lt e) ∙ f in absurd (cc)
untied a b Greater e f g = let no : true ≡ false = sym (ap is_lt (addr_total.antisymm b a ∙ ap ordering_reverse e)) ∙ g in absurd (cc)

module _ (all : List ResourceRefView) (apart : AreApart all) where
  tells : (i j : ℕ) → HasAddress all i → HasAddress all j → is_below all i j ≡ false → is_below all j i ≡ false → i ≡ j
  tells i j own other f g =
      let x = at_address (slice_get all i) own.0 own.1 in
      let y = at_address (slice_get all j) other.0 other.1 in
      let first : is_lt (addr_cmp own.0 other.0) ≡ false = sym (ap (λ (o : Option ResourceAddrView). is_lt (option_cmp addr_cmp o (address_at all j))) own.1 ∙ ap (λ (o : Option ResourceAddrView). is_lt (option_cmp addr_cmp (Some own.0) o)) other.1) ∙ f in
      let second : is_lt (addr_cmp other.0 own.0) ≡ false = sym (ap (λ (o : Option ResourceAddrView). is_lt (option_cmp addr_cmp o (address_at all i))) other.1 ∙ ap (λ (o : Option ResourceAddrView). is_lt (option_cmp addr_cmp (Some other.0) o)) own.1) ∙ g in
      let same : own.0 ≡ other.0 = untied own.0 other.0 (addr_cmp own.0 other.0) refl first second in
      apart i j x.0 y.0 other.0 x.1 y.1 (x.2 ∙ ap Some same) y.2

  each_addressed : (places : List ℕ) → AreInAddressOrder all places → AllByRecursion (HasAddress all) places
  each_addressed places order =
      all_by_contained (HasAddress all) places
      (λ n c. address_there (address_at all n) (in_filter (is_resource all) (range_with_len 0 (length all)) n (Contains-permutation places (resource_places all) n (IsPermutation-sym (resource_places all) places order.each) c)).1)

  places_rise : (places : List ℕ) → AreInAddressOrder all places → IsRising (is_below all) places
  places_rise places order =
      rising (is_below all) (HasAddress all) tells places (sorted_far (is_below all) (ranks_by (options_total addr_total) (address_at all)) places order.sorted)
      (places-distinct (is_resource all) (length all) places order.each) (each_addressed places order)

  -- two lists of places in address order are one
  pub one_order : (places others : List ℕ) → AreInAddressOrder all places → AreInAddressOrder all others → places ≡ others
  one_order places others order also =
      one_list (is_below all) (λ i j h. (ranks_by (options_total addr_total) (address_at all)).one_way i j h) places others (places_rise places order) (places_rise others also)
      (λ n c. Contains-permutation (resource_places all) others n also.each (Contains-permutation places (resource_places all) n (IsPermutation-sym (resource_places all) places order.each) c))
      (λ n c. Contains-permutation (resource_places all) places n order.each (Contains-permutation others (resource_places all) n (IsPermutation-sym (resource_places all) others also.each) c))
