use Rattle.std.proofs.Common.{◌≡◌, ◌<◌, ℕ, Bool, false, List, length, sym, ap, subst, ◌∙◌, arith}
use Rattle.std.proofs.lemmas.List.{length-replicate}
use Rattle.std.specs.List.{AllByRecursion}
use Rattle.tf_config_data.specs.Names.{places}
use Rattle.tf_expand_keys.proofs.Places.{all_places}
use Rattle.tf_graph.specs.NodeSet.{has}
use Rattle.tf_config_names.specs.Table.{names_in}
use Rattle.tf_expand_keys.proofs.Marking.{empty_marks, written_back}
use Rattle.tf_plan_planner.proofs.Wanting.{only_new}
use Rattle.tf_expr_syntax.specs.ExprNames.{named_below}
use Rattle.tf_expr_syntax.specs.ExprTree.{entries_view}
use Rattle.tf_plan_planner.proofs.wanted.named_by_outputs.Goals as goal

pub mark-requires : goal.mark-requires
mark-requires c =
    let names = names_in c.args.names.now in
    let pairs = named_below (entries_view c.args.outputs.now.entries) in
    let listed : c.as_slice.result.now ≡ places names pairs = c.as_slice.ensures.value ∙ c.in_ok-places.ensures in
    let none = c.in_ok-named.named in
    let count : length c.as_mut_slice.result.now ≡ length names = ap (λ xs. length xs) (c.as_mut_slice.ensures.value ∙ c.in_ok-named.ensures) ∙ length-replicate c.len.result false ∙ c.len.ensures in
    record { within = subst (λ (ns : List ℕ). AllByRecursion (λ n. n < length c.as_mut_slice.result.now) ns) (sym listed) (all_places (λ n. n < length c.as_mut_slice.result.now) names pairs (λ n h. omega (arith, h, count))) }

pub returns : goal.returns
returns c =
    let names = names_in c.args.names.now in
    let pairs = named_below (entries_view c.args.outputs.now.entries) in
    let none = c.in_ok-named.named in
    let marked : List Bool = c.mark.new.marked in
    let same : c.as_mut_slice.result.now ≡ none.items = c.as_mut_slice.ensures.value in
    let long : length marked ≡ length none.items = c.mark.ensures.length ∙ ap (λ xs. length xs) same in
    let listed : c.as_slice.result.now ≡ places names pairs = c.as_slice.ensures.value ∙ c.in_ok-places.ensures in
    rw (written_back none.len none.items marked (omega (arith, none.ok.0)) long)
    (only_new none.items marked (places names pairs) (λ n. ap (λ xs. has xs n) c.in_ok-named.ensures ∙ empty_marks c.len.result n)
    (rw (same, listed) at c.mark.ensures.marked))
