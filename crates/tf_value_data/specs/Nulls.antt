-- Values with null for what is unknown.
use Rattle.std.specs.Prelude.{true, false}
use Rattle.tf_value_data.specs.Parts.{rewritten, entries_rewritten}
use Rattle.tf_value_data.specs.Tree.{Tree, Entries}

-- A value with null in place of each part that is unknown.
abbrev pub with_nulls : Tree → Tree
with_nulls t = rewritten true false t

abbrev pub entries_with_nulls : Entries → Entries
entries_with_nulls es = entries_rewritten true false es
