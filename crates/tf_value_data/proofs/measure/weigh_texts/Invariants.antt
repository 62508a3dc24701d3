use Rattle.std.proofs.Common.{◌≡◌, ◌+◌, ◌-◌, ◌<◌, ◌^◌, min}
use Rattle.tf_value_data.specs.Measure.{weight_of_texts}
use Rattle.tf_value_data.specs.Tree.{texts_view}
use Rattle.tf_value_data.proofs.measure.weigh_texts.Given as goal

abbrev pub invariant-loop-text : goal.invariant-loop-text
invariant-loop-text l = record {
  fits : l.total < 2 ^ 64;
  left : min (l.total + weight_of_texts (texts_view l.text-iterator)) (2 ^ 64 - 1) ≡ min (weight_of_texts (texts_view l.texts.keys)) (2 ^ 64 - 1);
}
