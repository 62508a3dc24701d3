-- the excuses so far, with those of the outputs that are left
use Rattle.std.proofs.Common.{◌≡◌, ◌≤◌, ◌+◌, ◌++◌, length, drop}
use Rattle.std.specs.Prelude.{vec_capacity}
use Rattle.tf_walk_report.specs.OutputsTold.{output_excuses}
use Rattle.tf_walk_report.proofs.outputs.tell_output_excuses.Given as goal

abbrev pub invariant-loop-place : goal.invariant-loop-place
invariant-loop-place l =
    record {
      told : l.excused.items ++ output_excuses l.place (drop l.place l.ends) ≡ l.fn.excused.items ++ output_excuses 0 l.ends;
      few : length l.excused.items ≤ length l.fn.excused.items + l.place;
      room : length l.fn.excused.items + length l.ends ≤ vec_capacity l.excused;
    }
