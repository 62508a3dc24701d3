use Rattle.std.proofs.Common.{◌∙◌, ◌++◌, sym, ap, string_bytes}
use Rattle.tf_expr_syntax.specs.ExprTree.{entries_view}
use Rattle.tf_walk_report.specs.OutputsBuffers.{places_in, places_of}
use Rattle.tf_walk_report.specs.OutputsTold.{output_place}
use Rattle.tf_walk_report.proofs.Told.{places-more, places-none}
use Rattle.tf_walk_report.proofs.outputs.texts_for.Goals as goal

pub loop-name-preserved : goal.loop-name-preserved
loop-name-preserved c =
    let texts = c.loop-name.texts.items in
    let rest = places_of (entries_view c.next.new.self) in
    ap (λ ts. places_in ts ++ rest) c.in_ok-push.ensures.items
    ∙ places-more texts c.in_ok-texts_of.field-0 (output_place (string_bytes c.in-Some.name.now)) rest c.in_ok-texts_of.ensures
    ∙ ap (λ es. places_in texts ++ places_of (entries_view es)) (sym c.in-Some.ensures.steps) ∙ c.loop-name.invariant

pub returns : goal.returns
returns c =
    let texts = c.loop-name.texts.items in
    sym (places-none texts) ∙ ap (λ es. places_in texts ++ places_of (entries_view es)) (sym c.in-None.ensures.steps.0) ∙ c.loop-name.invariant
