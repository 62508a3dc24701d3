-- Members that are there only if they have a value, and members of the same form.
use Rattle.std.specs.Prelude.{ℕ, List, Option, Some, None}
use Rattle.serde_json.specs.Data.{Data, Members, no_members, member}
use Rattle.tf_value_data.specs.Tree.{Tree, Entries, no_entries, entry}

-- the members with one more before them, if there is a value for it
abbrev pub some_member : List ℕ → Option Data → Members → Members
some_member key None ms = ms
some_member key (Some d) ms = member key d ms

-- a member for each entry, of one form
abbrev pub members_by : (Tree → Data) → Entries → Members
members_by form no_entries = no_members
members_by form (entry k t es) = member k (form t) (members_by form es)
