-- Which objects may be planned.
use Rattle.std.specs.Prelude.{Bool, true, false, ◌&&◌}
use Rattle.tf_value_data.specs.Stored.{may_be_planned}
use Rattle.tf_value_data.specs.Tree.{Tree, map, Entries, no_entries, entry}

-- each value of a map's entries may be planned: it is within the limits, and there is no set in it
abbrev pub each_may_be_planned : Entries → Bool
each_may_be_planned no_entries = true
each_may_be_planned (entry k t es) = may_be_planned t && each_may_be_planned es

-- an object has attributes that may be planned
abbrev pub has_planned_attributes : Tree → Bool
has_planned_attributes (map es) = each_may_be_planned es
has_planned_attributes _ = false
