use Rattle.std.proofs.lemmas.Result.{IfOk-weaker}
use Rattle.tf_plan_text.proofs.Kept.{leads_alike, none_follows, ranked, reduced}
use Rattle.tf_plan_text.proofs.reducing.reduction.Goals as goal

pub returns-clause-exact : goal.returns-clause-exact
returns-clause-exact c = IfOk-weaker c.direct_edges.result _ _
    (λ kept h. reduced c.args.graph.now c.in_ok-closure.closure c.edges.ensures.within c.in_ok-closure.ensures
    c.in_ok-rows.rows.items c.as_slice.result.now c.as_slice.ensures.value c.in_ok-rows.ensures.rows
    c.in_ok-beyond.beyond.items c.as_slice-2.result.now c.as_slice-2.ensures.value c.in_ok-beyond.ensures.count c.in_ok-beyond.ensures.beyond
    kept.items c.edges.result.now c.edges.ensures.edges h)
    c.direct_edges.ensures

pub returns-clause-alike : goal.returns-clause-alike
returns-clause-alike c =
    let rank = ranked c.args.graph.now c.in_ok-closure.closure c.edges.ensures.within c.in_ok-closure.ensures c.requires in
    IfOk-weaker c.direct_edges.result _ _ (λ kept r. leads_alike c.args.graph.now kept.items r rank.0 rank.1) (returns-clause-exact c)

pub returns-clause-free : goal.returns-clause-free
returns-clause-free c = IfOk-weaker c.direct_edges.result _ _ (λ kept r. none_follows c.args.graph.now kept.items r) (returns-clause-exact c)
