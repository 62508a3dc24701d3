-- the entries that are left all count so far
use Rattle.std.proofs.Common.{◌≡◌, ◌+◌, length}
use Rattle.serde_json.specs.Events.{members_len}
use Rattle.tf_plan_json.specs.Parts.{known_members}
use Rattle.tf_value_data.specs.Tree.{entries_view}
use Rattle.tf_plan_json.proofs.known.known_count.Given as goal

abbrev pub invariant-loop-value : goal.invariant-loop-value
invariant-loop-value l = l.count + members_len (known_members (entries_view l.value-iterator)) ≡ members_len (known_members (entries_view l.entries.entries)) + length l.value-iterator
