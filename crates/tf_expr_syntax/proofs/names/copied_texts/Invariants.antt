use Rattle.std.proofs.Common.{◌≡◌, map, string_bytes, take}
use Rattle.tf_expr_syntax.proofs.names.copied_texts.Given as goal

abbrev pub invariant-loop-text : goal.invariant-loop-text
invariant-loop-text l = map string_bytes l.copies.items ≡ map (λ t. string_bytes t.now) (take l.text-index l.texts)
