-- what is told so far, with what is told of the outputs that are left
use Rattle.std.proofs.Common.{◌≡◌, ◌≤◌, ◌+◌, ◌++◌, length, map}
use Rattle.std.specs.Prelude.{vec_capacity}
use Rattle.std.specs.Vec.Iter.{into_iter_items}
use Rattle.tf_walk_report.specs.Diagnostics.{diagnostic_of}
use Rattle.tf_walk_report.specs.OutputsBuffers.{places_in, told_of_texts}
use Rattle.tf_walk_report.proofs.outputs.tell_outputs.Given as goal

abbrev pub invariant-loop-text : goal.invariant-loop-text
invariant-loop-text l =
    let texts = into_iter_items l.text-iterator in
    let ends = into_iter_items l.left in
    record {
      told : map diagnostic_of l.diagnostics.items ++ told_of_texts (places_in texts) ends
          ≡ map diagnostic_of l.fn.diagnostics.items ++ told_of_texts (places_in l.fn.texts.items) l.fn.ends.items;
      paired : length texts ≡ length ends;
      room : length l.diagnostics.items + length ends ≤ vec_capacity l.diagnostics;
    }
