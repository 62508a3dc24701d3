use Rattle.std.proofs.Common.{◌≡◌, ◌++◌, ◌∷◌, ◌∙◌, sym, ap, ap₂, map, string_bytes, arith}
use Rattle.std.specs.Vec.Iter.{into_iter_items}
use Rattle.tf_walk_report.specs.Diagnostics.{diagnostic_of}
use Rattle.tf_walk_report.specs.OutputsBuffers.{places_in, told_of_texts}
use Rattle.tf_walk_report.specs.OutputsTold.{diagnostics_of_output}
use Rattle.tf_walk_report.proofs.Gathered.{told-more, paired-more, one-less, one-more}
use Rattle.tf_walk_report.proofs.outputs.tell_outputs.Goals as goal

pub loop-text-preserved : goal.loop-text-preserved
loop-text-preserved c =
    let old = c.loop-text in
    let texts = into_iter_items c.next.new.self in
    let ends = into_iter_items c.next-in-loop-text.new.self in
    let steps = rw c.in-Some.is at c.next.ensures.steps in
    let texts_are : into_iter_items old.text-iterator ≡ c.in-Some.text ∷ texts = steps.0 in
    let ends_are : into_iter_items old.left ≡ c.in-Some-next.end ∷ ends = c.in-Some-next.ensures.items in
    let told = c.tell_output.result in
    let place = string_bytes c.in-Some.text.place in
    let fewer = one-less (into_iter_items old.left) ends c.in-Some-next.end ends_are in
    let more = one-more old.diagnostics.items c.add.new.items.items told c.add.ensures.items in
    record {
      told =
          ap (λ xs. map diagnostic_of xs ++ told_of_texts (places_in texts) ends) c.add.ensures.items
          ∙ told-more old.diagnostics.items told (diagnostics_of_output place c.in-Some-next.end) (told_of_texts (places_in texts) ends) c.tell_output.ensures
          ∙ sym (ap₂ (λ xs ys. map diagnostic_of old.diagnostics.items ++ told_of_texts (places_in xs) ys) texts_are ends_are) ∙ old.invariant.told;
      paired = paired-more (into_iter_items old.text-iterator) texts (into_iter_items old.left) ends c.in-Some.text c.in-Some-next.end texts_are ends_are old.invariant.paired;
      room = omega (arith, fewer, more, old.invariant.room, c.add.ensures.capacity);
    }
