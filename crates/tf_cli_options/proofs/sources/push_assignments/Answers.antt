-- The next assignment is moved to the end of the sources.
use Rattle.std.proofs.Common.{◌++◌, ◌∙◌, map, string_bytes, sym, ap}
use Rattle.std.specs.Vec.Iter.{into_iter_items}
use Rattle.tf_cli_options.specs.Reads.{assignments_in, files_in}
use Rattle.tf_cli_options.proofs.Woven.{assignment_moved, files_in-Assignment}
use Rattle.tf_cli_options.proofs.sources.push_assignments.Goals as goal

pub loop-number-preserved : goal.loop-number-preserved
loop-number-preserved c =
    let sources = c.loop-number.sources.items in
    let rest = into_iter_items c.next.new.self in (
      ap files_in c.in_ok-push.ensures.items ∙ files_in-Assignment sources c.in-Some.assignment ∙ c.loop-number.invariant.0,
      ap (λ s. assignments_in s ++ map (λ t. string_bytes t) rest) c.in_ok-push.ensures.items
          ∙ assignment_moved sources c.in-Some.assignment rest
          ∙ ap (λ r. assignments_in sources ++ map (λ t. string_bytes t) r) (sym c.in-Some.ensures.items)
          ∙ c.loop-number.invariant.1,
    )
