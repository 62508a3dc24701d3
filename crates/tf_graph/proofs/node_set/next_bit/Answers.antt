use Rattle.std.proofs.Common.{◌≡◌, ◌+◌, ◌*◌, ◌/◌, ◌%◌, ◌^◌, Some, get_or, refl, subst, arith}
use Rattle.std.specs.Int.{w64, trailing_zeros}
use Rattle.tf_graph.proofs.Firsts.{lowest-inside, first-in_word, none-in_word, first-later}
use Rattle.tf_graph.specs.NodeSet.{bit_of, IsFirstFrom}
use Rattle.tf_graph.proofs.node_set.next_bit.Goals as goal

pub overflow_add-result : goal.overflow_add-result
overflow_add-result c =
    let words = c.args.words.now in
    let at = c.args.from / 64 in
    let s = c.args.from % 64 in
    omega (arith, c.requires, c.if-at-words.false, lowest-inside s (get_or words at 0) (omega (arith, c.type_inv.words at)) (omega (arith, c.if-rest-ne0.true)))

pub returns-then-rest-ne0 : goal.returns-then-rest-ne0
returns-then-rest-ne0 c =
    let words = c.args.words.now in
    let from = c.args.from in
    let word = get_or words (from / 64) 0 in
    let start : from / 64 * 64 + from % 64 ≡ from = omega arith in
    subst (λ x. IsFirstFrom (bit_of words) x (Some (x + trailing_zeros w64 (word / 2 ^ (from % 64))))) start
    (first-in_word words (from / 64) (from % 64) word (omega (arith, c.type_inv.words (from / 64))) refl (omega (arith, c.if-rest-ne0.true)))

pub loop-next-init : goal.loop-next-init
loop-next-init c =
    let from = c.args.from in
    λ j low high. none-in_word c.args.words.now (from / 64) (from % 64) (get_or c.args.words.now (from / 64) 0) refl c.if-rest-ne0.false j (omega (arith, low)) high

pub returns-then-word-ne0 : goal.returns-then-word-ne0
returns-then-word-ne0 c =
    let l = c.loop-next in
    first-later c.args.words.now c.args.from l.next (get_or c.args.words.now l.next 0) (omega (arith, c.type_inv.words l.next)) refl (omega (arith, c.if-word-ne0.true)) (omega (arith, l.auto.next)) l.invariant
