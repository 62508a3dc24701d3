-- the copies of the texts passed
use Rattle.std.proofs.Common.{◌≡◌, map, take, string_bytes}
use Rattle.tf_cli_options.proofs.texts.copies.Given as goal

abbrev pub invariant-loop-text : goal.invariant-loop-text
invariant-loop-text l =
    map (λ t. string_bytes t) l.copies.items ≡ map (λ t. t.now) (take l.text-index l.texts)
