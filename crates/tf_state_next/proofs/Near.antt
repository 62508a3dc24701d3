-- Where an address stands among resources in order, seen at one of them.
use Rattle.std.proofs.Common.{◌≡◌, ◌≤◌, ◌-◌, ℕ, List, Some, Ok, Err, length, map, slice_get, get_or, true, refl, ap, ◌∙◌, arith}
use Rattle.std.specs.Borrow.{Bor}
use Rattle.std.specs.Slice.{IsItemAt}
use Rattle.std.specs.Ordering.{is_eq, is_lt, ordering_index}
use Rattle.std.specs.declared.cmp.Ordering.{Ordering}
use Rattle.std.specs.declared.cmp.Ordering.TheVariants.{Less, Equal, Greater}
use Rattle.std.proofs.lemmas.Option.{get_or_from_slice_get, slice_get_read, slice_get_within}
use Rattle.tf_config_address.specs.ResourceAddr.{ResourceAddrView, addr_cmp, addr_of}
use Rattle.tf_state_data.proofs.Edits.{by_address, search_answers}
use Rattle.tf_state_data.specs.Addresses.{AreByAddress}
use Rattle.tf_state_data.specs.Order.{IsAt, IsGapFor}
use Rattle.tf_state_data.specs.Resource.{resource_of}
use Rattle.tf_state_data.specs.declared.resource.Resource.{Resource}

equal : (o : Ordering) → is_eq o ≡ true → o ≡ Equal
equal Less e = cc
equal Equal e = refl
equal Greater e = cc

less : (o : Ordering) → is_lt o ≡ true → o ≡ Less
less Less e = refl
less Equal e = cc
less Greater e = cc

least : (o : Ordering) → ordering_index o ≤ 0 → o ≡ Less
least Less le = refl
least Equal le = absurd (omega (arith, le))
least Greater le = absurd (omega (arith, le))

-- what is lent of a place stands there
pub lent : (xs : List Resource) (i : ℕ) (r : Bor Resource) → IsItemAt xs i (Some r) → slice_get xs i ≡ Some r.now
lent xs i r found = slice_get_read xs (length xs) i r.now refl found.3.0 found.1

-- the resource at a place has the address
pub at_place : (k : ResourceAddrView) (xs : List Resource) (i : ℕ) (x : Resource) → AreByAddress (map resource_of xs) → slice_get xs i ≡ Some x
    → is_eq (addr_cmp (addr_of x.addr) k) ≡ true → IsAt (λ r. r.addr) addr_cmp k (map resource_of xs) i
at_place k xs i x ordered is same =
    (search_answers by_address k xs (Ok i) ordered (slice_get_within xs i x is)
    (λ d. ap (λ (y : Resource). addr_cmp (addr_of y.addr) k) (get_or_from_slice_get xs i x d is) ∙ equal (addr_cmp (addr_of x.addr) k) same)).0

-- the last resource stands before the address, and so do all
pub behind_all : (k : ResourceAddrView) (xs : List Resource) (x : Resource) → AreByAddress (map resource_of xs) → slice_get xs (length xs - 1) ≡ Some x
    → is_lt (addr_cmp (addr_of x.addr) k) ≡ true → IsGapFor (λ r. r.addr) addr_cmp k (map resource_of xs) (length xs)
behind_all k xs x ordered is last =
    let below = slice_get_within xs (length xs - 1) x is in
    (search_answers by_address k xs (Err (length xs)) ordered (omega arith)
    (λ rise. (
      λ j d low high.
          let top : addr_cmp (addr_of (get_or xs (length xs - 1) d).addr) k ≡ Less =
          ap (λ (y : Resource). addr_cmp (addr_of y.addr) k) (get_or_from_slice_get xs (length xs - 1) x d is) ∙ less (addr_cmp (addr_of x.addr) k) last in
          let under = rise j (length xs - 1) d (omega (arith, high)) below in
          least (addr_cmp (addr_of (get_or xs j d).addr) k) (omega (arith, under, ap ordering_index top)),
      λ j d low high. absurd (omega (arith, low, high)),
    ))).1
