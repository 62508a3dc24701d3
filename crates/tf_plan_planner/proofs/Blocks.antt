-- No two blocks of a configuration are at one address, and so no two resources of configuration and state together are.
use Rattle.std.proofs.Common.{◌≡◌, ◌∙◌, ◌++◌, Bool, true, false, cond, ℕ, zero, suc, List, [], ◌∷◌, Option, Some, None, option_map, map, Less, refl, sym, ap, subst}
use Rattle.std.proofs.lemmas.Bool.{cond-true}
use Rattle.std.proofs.lemmas.Option.{same_Some}
use Rattle.std.specs.List.{AllByRecursion, cons_option, filter_map}
use Rattle.std.specs.List.Sorted.{IsStrictlySortedBy}
use Rattle.std.specs.Prelude.{Contains, slice_get}
use Rattle.tf_config_address.proofs.Orders.{addrs_ordered}
use Rattle.tf_config_address.proofs.Totals.{addr_total}
use Rattle.tf_config_address.specs.ResourceAddr.{ResourceAddrView, addr_cmp, addr_of}
use Rattle.tf_config_address.specs.Same.{addr_Decides}
use Rattle.tf_config_address.specs.contracts.addr.ResourceAddrOrd.TheImpl as addrs
use Rattle.tf_config_address.specs.declared.addr.ResourceAddr.{ResourceAddr}
use Rattle.tf_config_data.specs.Config.{BlockView, ConfigView, blocks_of}
use Rattle.tf_config_data.specs.declared.config.Block.{Block}
use Rattle.tf_config_data.specs.Names.{block_name, local_names, names_of}
use Rattle.tf_graph.proofs.Edges.{contains_head, contains_tail}
use Rattle.tf_plan_planner.proofs.Distinct.{AreDistinct, distinct-sorted}
use Rattle.tf_plan_order.proofs.Standing.{places-true}
use Rattle.tf_plan_order.specs.ResourceLaws.{AreApart}
use Rattle.tf_plan_order.specs.ResourceIndex.{ResourceRefView, a_name, address_of, is_address, is_at, place_in}
use Rattle.tf_expr_syntax.specs.ExprTree as expr

-- ---- addresses that are distinct are at one place each

abbrev addresses : List ResourceRefView → List ResourceAddrView
addresses all = filter_map address_of all

address-there : (all : List ResourceRefView) (i : ℕ) (x : ResourceRefView) (addr : ResourceAddrView) → slice_get all i ≡ Some x → address_of x ≡ Some addr → Contains (addresses all) addr
address-there [] i x addr e a = absurd (cc)
address-there (z ∷ all) zero x addr e a =
    let here : address_of z ≡ Some addr = ap address_of (same_Some z x e) ∙ a in
    subst (λ o. Contains (cons_option o (addresses all)) addr) (sym here) (contains_head addr addr (addresses all) refl)
address-there (z ∷ all) (suc i) x addr e a = by_option (address_of z) (address-there all i x addr e a)
  where
    by_option : (o : Option ResourceAddrView) → Contains (addresses all) addr → Contains (cons_option o (addresses all)) addr
    by_option None c = c
    by_option (Some other) c = contains_tail addr other (addresses all) c

apart-from : (all : List ResourceRefView) → AreDistinct (addresses all) → AreApart all
apart-from [] d i j x y addr ei ej ai aj = absurd (cc)
apart-from (z ∷ all) d i j x y addr ei ej ai aj = by_option (address_of z) refl d i j ei ej (λ rest k l ek el. apart-from all rest k l x y addr ek el ai aj)
  where
    by_option : (o : Option ResourceAddrView) → address_of z ≡ o → AreDistinct (cons_option o (addresses all)) → (k l : ℕ) → slice_get (z ∷ all) k ≡ Some x → slice_get (z ∷ all) l ≡ Some y
        → (AreDistinct (addresses all) → (k l : ℕ) → slice_get all k ≡ Some x → slice_get all l ≡ Some y → k ≡ l) → k ≡ l
    by_option o is distinct zero zero ek el again = refl
    by_option None is distinct zero (suc l) ek el again = let none : address_of x ≡ None = ap address_of (sym (same_Some z x ek)) ∙ is in absurd (cc)
    by_option None is distinct (suc k) zero ek el again = let none : address_of y ≡ None = ap address_of (sym (same_Some z y el)) ∙ is in absurd (cc)
    by_option None is distinct (suc k) (suc l) ek el again = ap suc (again distinct k l ek el)
    by_option (Some other) is distinct zero (suc l) ek el again =
        let same : other ≡ addr = same_Some other addr (sym is ∙ ap address_of (same_Some z x ek) ∙ ai) in
        absurd (distinct.0 (subst (Contains (addresses all)) (sym same) (address-there all l y addr el aj)))
    by_option (Some other) is distinct (suc k) zero ek el again =
        let same : other ≡ addr = same_Some other addr (sym is ∙ ap address_of (same_Some z y el) ∙ aj) in
        absurd (distinct.0 (subst (Contains (addresses all)) (sym same) (address-there all k x addr ek ai)))
    by_option (Some other) is distinct (suc k) (suc l) ek el again = ap suc (again distinct.1 k l ek el)

-- ---- the addresses of a configuration's names are those of its blocks

of-blocks : (blocks : List BlockView) → addresses (map a_name (map block_name blocks)) ≡ map (λ b. b.addr) blocks
of-blocks [] = refl
of-blocks (b ∷ blocks) = ap (λ addrs. b.addr ∷ addrs) (of-blocks blocks)

of-locals : (es : expr.Entries) (blocks : List BlockView) → addresses (map a_name (local_names es ++ map block_name blocks)) ≡ map (λ b. b.addr) blocks
of-locals expr.no_entries blocks = of-blocks blocks
of-locals (expr.entry name e es) blocks = of-locals es blocks

-- where the addresses of blocks stand in order, no two names are at one address
pub names-apart : (config : ConfigView) → IsStrictlySortedBy addr_cmp (map (λ b. b.addr) config.blocks) → AreApart (map a_name (names_of config))
names-apart config sorted =
    apart-from (map a_name (names_of config))
    (subst AreDistinct (sym (of-locals config.locals config.blocks)) (distinct-sorted addr_cmp addr_total (map (λ (b : BlockView). b.addr) config.blocks) sorted))

-- ---- the place of what stands at a place

found : (all : List ResourceRefView) (n : ℕ) (x : ResourceRefView) (addr : ResourceAddrView) → slice_get all n ≡ Some x → address_of x ≡ Some addr → (k : ℕ) × (place_in all addr ≡ Some k)
found [] n x addr e a = absurd (cc)
found (z ∷ all) zero x addr e a =
    let here : is_at addr z ≡ true = ap (is_address addr) (ap address_of (same_Some z x e) ∙ a) ∙ (addr_Decides addr addr).1 refl in
    (zero, cond-true (is_at addr z) (Some zero) (option_map suc (place_in all addr)) here)
found (z ∷ all) (suc n) x addr e a = by_test (is_at addr z) (found all n x addr e a)
  where
    by_test : (b : Bool) → (k : ℕ) × (place_in all addr ≡ Some k) → (k : ℕ) × (cond b (Some zero) (option_map suc (place_in all addr)) ≡ Some k)
    by_test true later = (zero, refl)
    by_test false later = (suc later.0, ap (option_map suc) later.1)

-- where no two are at one address, what stands at a place is found there
pub placed-at : (all : List ResourceRefView) (n : ℕ) (x : ResourceRefView) (addr : ResourceAddrView) → AreApart all → slice_get all n ≡ Some x → address_of x ≡ Some addr → place_in all addr ≡ Some n
placed-at all n x addr apart e a =
    let k = found all n x addr e a in
    let y = places-true all addr k.0 k.1 in
    k.1 ∙ ap Some (apart k.0 n y.0 x addr y.1 e y.2 a)

-- ---- the blocks of a configuration stand in a map

addrs-below : (addr : ResourceAddr) (entries : List (ResourceAddr × Block)) → AllByRecursion (λ (y : ResourceAddr). (addrs.cmp-value).it addr y ≡ Less) (map (λ e. e.0) entries)
    → AllByRecursion (λ (y : ResourceAddrView). addr_cmp (addr_of addr) y ≡ Less) (map (λ b. b.addr) (blocks_of entries))
addrs-below addr [] all = tt
addrs-below addr (e ∷ entries) all = (addrs_ordered addr e.0 ∙ all.0, addrs-below addr entries all.1)

pub blocks-sorted : (entries : List (ResourceAddr × Block)) → IsStrictlySortedBy (addrs.cmp-value).it (map (λ e. e.0) entries) → IsStrictlySortedBy addr_cmp (map (λ b. b.addr) (blocks_of entries))
unfolding IsStrictlySortedBy
blocks-sorted [] sorted = tt
blocks-sorted (e ∷ entries) sorted = (addrs-below e.0 entries sorted.0, blocks-sorted entries sorted.1)
