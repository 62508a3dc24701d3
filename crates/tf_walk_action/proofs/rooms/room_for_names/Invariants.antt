-- the names so far have room wherever this many bytes have
use Rattle.std.proofs.Common.{◌≡◌, ◌≤◌, ◌+◌, ℕ, true, length}
use Rattle.std.specs.List.{list_all}
use Rattle.std.specs.Prelude.{nat_le}
use Rattle.tf_value_data.specs.Tree.{keys_of, entries_view}
use Rattle.tf_walk_action.proofs.rooms.room_for_names.Given as goal

abbrev pub invariant-loop-name : goal.invariant-loop-name
invariant-loop-name l =
    record {
      least : 15 ≤ l.room;
      names : (capacity : ℕ) → l.room ≤ capacity → list_all (λ k. nat_le (12 + length k) capacity) (keys_of (entries_view l.name-iterator)) ≡ true
          → list_all (λ k. nat_le (12 + length k) capacity) (keys_of (entries_view l.attributes.entries)) ≡ true;
    }
