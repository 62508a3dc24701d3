-- What a value may turn out to be, once more is known.
use Rattle.std.specs.Prelude.{◌≡◌, ⊤, Bool, true}
use Rattle.tf_value_data.specs.Tree.{Tree, null, boolean, whole, text, list, map, set, unknown, Items, no_items, item, Entries, no_entries, entry, compared}

-- One value refines to another if it is unknown, or if both have the same shape (as many items, the same keys), their
-- parts refine one by one, and scalars and sets are equal.
abbrev mutual
  pub Refines : Tree → Tree → Type 0
  Refines null null = ⊤
  Refines (boolean b) (boolean c) = b ≡ c
  Refines (whole y) (whole z) = y ≡ z
  Refines (text s) (text t) = s ≡ t
  Refines (list ts) (list us) = RefinesItems ts us
  Refines (map ts) (map us) = RefinesEntries ts us
  Refines (set ss) (set ts) = ss ≡ ts
  Refines unknown u = ⊤
  Refines _ _ = ⊥

  pub RefinesItems : Items → Items → Type 0
  RefinesItems no_items no_items = ⊤
  RefinesItems (item t ts) (item u us) = Refines t u × RefinesItems ts us
  RefinesItems _ _ = ⊥

  pub RefinesEntries : Entries → Entries → Type 0
  RefinesEntries no_entries no_entries = ⊤
  RefinesEntries (entry k t ts) (entry l u us) = (k ≡ l) × Refines t u × RefinesEntries ts us
  RefinesEntries _ _ = ⊥

-- `Refines` as a test.
abbrev pub refined : Tree → Tree → Bool
refined t u = compared true t u
