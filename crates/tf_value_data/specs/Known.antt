-- Values without an unknown part.
use Rattle.std.specs.Prelude.{Bool, true, false}
use Rattle.tf_value_data.specs.Parts.{has_only, items_have_only, entries_have_only}
use Rattle.tf_value_data.specs.Tree.{Tree, Items, Entries}

-- A value is known if no part of it is unknown. A set has no unknown part.
abbrev pub known : Tree → Bool
known t = has_only false true t

abbrev pub known_items : Items → Bool
known_items ts = items_have_only false true ts

abbrev pub known_entries : Entries → Bool
known_entries es = entries_have_only false true es
