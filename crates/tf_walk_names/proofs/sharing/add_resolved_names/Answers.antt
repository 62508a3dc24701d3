use Rattle.std.proofs.Common.{◌≡◌, ◌<◌, ℕ, Bool, true, List, length, sym, subst, ◌∙◌, arith}
use Rattle.std.specs.Prelude.{◌↔◌}
use Rattle.tf_expand_keys.specs.Module.{IsModule}
use Rattle.tf_expand_keys.specs.Views.{shapes_of, resolved_names_of}
use Rattle.tf_graph.proofs.Solving.{all_by_weaker}
use Rattle.tf_graph.specs.NodeSet.{has}
use Rattle.tf_config_names.specs.Needs.{order_in}
use Rattle.tf_config_names.specs.Table.{names_in}
use Rattle.tf_value_data.specs.Tree.{entries_view}
use Rattle.tf_walk_names.proofs.Shared.{each_stands, others_there, same_answered}
use Rattle.tf_walk_names.proofs.Wanting.{wanted_closed}
use Rattle.tf_walk_names.specs.Wanted.{IsWanted}
use Rattle.tf_walk_names.proofs.sharing.add_resolved_names.Goals as goal

pub returns-then-all_stand-clause-there : goal.returns-then-all_stand-clause-there
returns-then-all_stand-clause-there g c =
    each_stands (resolved_names_of c.args.kept.now.items) c.args.others.now (rw c.as_slice.ensures.value at (sym c.all_stand.ensures ∙ c.if-all_stand.true))

pub add_wanted-requires-clause-closed : goal.add_wanted-requires-clause-closed
add_wanted-requires-clause-closed g c =
    let names = names_in c.args.declared.now.names.now in
    let each : (n : ℕ) → (has c.as_slice-2.result.now n ≡ true) ↔ IsWanted names c.args.others.now n =
    subst (λ (xs : List Bool). (n : ℕ) → (has xs n ≡ true) ↔ IsWanted names c.args.others.now n) (sym c.as_slice-2.ensures.value) c.in_ok-wanted.ensures.wanted in
    wanted_closed names c.args.others.now c.as_slice-2.result.now each

pub add_wanted-requires-clause-answered : goal.add_wanted-requires-clause-answered
add_wanted-requires-clause-answered g c =
    same_answered (entries_view c.args.declared.now.variables.now.entries) (names_in c.args.declared.now.names.now) (shapes_of c.args.shapes.now) (g.R.Results.objects c.args.results.now)
    (resolved_names_of c.args.kept.now.items) (resolved_names_of c.fill-2.new.kept.items) c.in_ok-fill-2.ensures.same c.requires.answered

pub returns-in_err-fill-2-clause-answered : goal.returns-in_err-fill-2-clause-answered
returns-in_err-fill-2-clause-answered g c =
    same_answered (entries_view c.args.declared.now.variables.now.entries) (names_in c.args.declared.now.names.now) (shapes_of c.args.shapes.now) (g.R.Results.objects c.args.results.now)
    (resolved_names_of c.args.kept.now.items) (resolved_names_of c.fill-2.new.kept.items) c.in_err-fill-2.ensures.same c.requires.answered

pub returns-clause-there : goal.returns-clause-there
returns-clause-there g c =
    let fits = subst IsModule c.declared.view_is c.declared.invariant in
    let names = names_in c.args.declared.now.names.now in
    let each : (n : ℕ) → (has c.as_slice-2.result.now n ≡ true) ↔ IsWanted names c.args.others.now n =
    subst (λ (xs : List Bool). (n : ℕ) → (has xs n ≡ true) ↔ IsWanted names c.args.others.now n) (sym c.as_slice-2.ensures.value) c.in_ok-wanted.ensures.wanted in
    others_there names (order_in c.args.declared.now.dependence.now) c.args.others.now c.as_slice-2.result.now (resolved_names_of c.add_wanted.new.kept.items) c.add_wanted.result
    (fits.dependence.whole fits.acyclic) c.requires.within (λ n wants. (each n).1 wants) c.add_wanted.ensures.there

pub add_resources-requires-clause-room : goal.add_resources-requires-clause-room
add_resources-requires-clause-room g c =
    all_by_weaker (λ n. n < c.past_last.result) (λ n. n < length c.fill.new.kept.items) c.args.others.now (λ n below. let room = c.in_ok-fill.ensures.room in omega (arith, below, room)) c.past_last.ensures

pub add_resources-requires-clause-answered : goal.add_resources-requires-clause-answered
add_resources-requires-clause-answered g c =
    same_answered (entries_view c.args.declared.now.variables.now.entries) (names_in c.args.declared.now.names.now) (shapes_of c.args.shapes.now) (g.R.Results.objects c.args.results.now)
    (resolved_names_of c.args.kept.now.items) (resolved_names_of c.fill.new.kept.items) c.in_ok-fill.ensures.same c.requires.answered

pub returns-in_err-fill-clause-answered : goal.returns-in_err-fill-clause-answered
returns-in_err-fill-clause-answered g c =
    same_answered (entries_view c.args.declared.now.variables.now.entries) (names_in c.args.declared.now.names.now) (shapes_of c.args.shapes.now) (g.R.Results.objects c.args.results.now)
    (resolved_names_of c.args.kept.now.items) (resolved_names_of c.fill.new.kept.items) c.in_err-fill.ensures.same c.requires.answered
