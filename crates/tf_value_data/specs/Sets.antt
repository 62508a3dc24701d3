-- Values without sets.
use Rattle.std.specs.Prelude.{Bool, true, false}
use Rattle.tf_value_data.specs.Parts.{has_only, rewritten}
use Rattle.tf_value_data.specs.Tree.{Tree}

-- A value has no set if neither it nor a part of it is one.
abbrev pub has_no_set : Tree → Bool
has_no_set t = has_only true false t

-- A value with the list of its texts, in byte order, in place of each set.
abbrev pub with_lists : Tree → Tree
with_lists t = rewritten false true t
