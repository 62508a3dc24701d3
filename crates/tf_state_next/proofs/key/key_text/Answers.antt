use Rattle.std.proofs.Common.{◌≡◌, ◌-◌, ◌^◌, false, [], List, ℕ, IfOk, string_bytes, rules, subst}
use Rattle.std.specs.Fmt.{digits, padded_integral, format_spec}
use Rattle.tf_state_next.proofs.Hex.{key_written}
use Rattle.tf_state_next.proofs.key.key_text.Goals as goal

pub returns : goal.returns
returns c =
    let text : IfOk c.format.result (λ s. string_bytes s ≡ padded_integral (format_spec 32 0 4 8 (2 ^ 64 - 1)) false [] (digits 16 false c.args.serial)) = search rules in
    subst (λ (bs : List ℕ). IfOk c.format.result (λ s. string_bytes s ≡ bs)) (key_written c.args.serial c.ranges.serial.fits) text
