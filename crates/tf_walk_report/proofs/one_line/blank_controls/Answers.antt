use Rattle.std.proofs.Common.{◌≡◌, ◌<◌, ℕ, suc, ◌++◌, List, length, get_or, take, drop, ap, ap₂, ◌∙◌, arith, add-one}
use Rattle.std.specs.Prelude.{slice_set}
use Rattle.tf_walk_report.specs.Diagnostics.{blanked, in_one_line}
use Rattle.tf_walk_report.proofs.Lines.{next_byte, one_blanked}
use Rattle.tf_walk_report.proofs.one_line.blank_controls.Goals as goal

pub loop-byte-preserved : goal.loop-byte-preserved
loop-byte-preserved c =
    let old = c.args.bytes.now in
    let i = c.loop-byte.byte-index in
    let within : i < length old = omega arith in
    let so_far : c.loop-byte.bytes ≡ in_one_line (take i old) ++ drop i old = c.loop-byte.invariant in
    let value : c.blanked.result ≡ blanked (get_or old i 0) = c.blanked.ensures ∙ ap blanked (ap (λ (bs : List ℕ). get_or bs i 0) so_far ∙ next_byte old i within) in
    let more : slice_set c.loop-byte.bytes i c.blanked.result ≡ in_one_line (take (suc i) old) ++ drop (suc i) old =
    ap₂ (λ (bs : List ℕ) (v : ℕ). slice_set bs i v) so_far value ∙ one_blanked old i within in
    rw add-one more
