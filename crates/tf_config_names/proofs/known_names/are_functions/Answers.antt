use Rattle.std.proofs.Common.{string_bytes, sym, ◌∙◌, arith}
use Rattle.tf_config_names.proofs.Tables.{drop_next}
use Rattle.tf_config_names.proofs.Tests.{rests_more, rests_fail, rests_none}
use Rattle.tf_config_names.specs.KnownNames.{is_function}
use Rattle.tf_config_names.proofs.known_names.are_functions.Goals as goal

pub loop-name-preserved : goal.loop-name-preserved
loop-name-preserved c =
    let all = c.args.names.now in
    let i = c.loop-name.name-index in
    rests_more is_function (λ name. string_bytes name.now) all i c.name-item.result (drop_next all i c.name-item.result c.loop-name-test.true c.name-item.is)
    (rw (← c.as_str.ensures.value) (sym c.is_function.ensures ∙ c.if-not-is_function.false)) c.loop-name.invariant

pub returns-then-not-is_function : goal.returns-then-not-is_function
returns-then-not-is_function c =
    let all = c.args.names.now in
    let i = c.loop-name.name-index in
    rests_fail is_function (λ name. string_bytes name.now) all i c.name-item.result (drop_next all i c.name-item.result c.loop-name-test.true c.name-item.is)
    (rw (← c.as_str.ensures.value) (sym c.is_function.ensures ∙ c.if-not-is_function.true)) c.loop-name.invariant

pub returns : goal.returns
returns c = rests_none is_function (λ name. string_bytes name.now) c.args.names.now c.loop-name.name-index (omega arith) c.loop-name.invariant
