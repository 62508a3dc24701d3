-- The type and the name of a resource, and its address.
use Rattle.std.specs.Prelude.{ℕ, Bool, List, ◌∷◌, ◌++◌, string_bytes}
use Rattle.std.specs.Cmp.Lexicographic.{slice_cmp}
use Rattle.std.specs.Ordering.{nat_cmp, ordering_then, is_lt}
use Rattle.std.specs.declared.cmp.Ordering.{Ordering}
use Rattle.tf_config_address.specs.declared.addr.ResourceAddr.{ResourceAddr}

-- a resource's type and name, as texts
pub record ResourceAddrView : Type 0 where
  pub type_name : List ℕ
  pub name : List ℕ

abbrev pub addr_of : ResourceAddr → ResourceAddrView
addr_of l = record { type_name = string_bytes l.type_name; name = string_bytes l.name }

-- the address of a resource: its type, a dot, its name
abbrev pub addr_text : ResourceAddrView → List ℕ
addr_text l = l.type_name ++ 46 ∷ l.name

-- addresses are ordered by type and then by name, byte by byte
abbrev pub addr_cmp : ResourceAddrView → ResourceAddrView → Ordering
addr_cmp a b = ordering_then (slice_cmp nat_cmp a.type_name b.type_name) (slice_cmp nat_cmp a.name b.name)

-- one address comes before another
abbrev pub addr_below : ResourceAddrView → ResourceAddrView → Bool
addr_below a b = is_lt (addr_cmp a b)
