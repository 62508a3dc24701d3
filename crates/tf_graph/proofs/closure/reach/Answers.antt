use Rattle.std.proofs.Common.{◌≡◌, ◌≤◌, ◌<◌, ◌||◌, [], List, get_or, Bool, true, false, ap, ◌∙◌, sym, arith, refl}
use Rattle.std.proofs.lemmas.List.{get_or_read}
use Rattle.std.proofs.lemmas.Bool.{or_left, or_right, eq-eqb}
use Rattle.tf_graph.specs.NodeSet.{has}
use Rattle.tf_graph.specs.Search.{row_of, missing}
use Rattle.tf_graph.proofs.Searches.{settled-more, pending-more, missing-le, missing-lt}
use Rattle.tf_graph.proofs.closure.reach.Goals as goal

pub returns-then-contains-2-clause-search : goal.returns-then-contains-2-clause-search
returns-then-contains-2-clause-search c =
    let a = c.args in
    let rows = a.told.now.rows.now in
    let read : List Bool = c.index-told-node.result in
    let others : List Bool = get_or rows a.node read in
    let row_is : others ≡ row_of rows a.node =
    sym (get_or_read rows a.node read (omega arith) c.index-told-node.is read) ∙ get_or_read rows a.node read (omega arith) c.index-told-node.is [] in
    let is_known : has a.told.now.known.now a.node ≡ true = sym c.contains-2.ensures ∙ c.if-contains-2.true in
    λ start rest reached s.
    settled-more a.told.now.graph.now a.told.now.rows.now a.told.now.known.now start a.node a.search.now.row c.add_all.new.self a.search.now.settled c.add_all-then-contains-2.new.self _ c.requires.told.rows_known is_known reached
    (λ k. rw (← row_is) (c.add_all.ensures.members k ∙ ap (λ b. b || has others k) (c.insert.ensures.members k)))
    (λ k. rw (← row_is) (c.add_all-then-contains-2.ensures.members k ∙ ap (λ b. b || has others k) (c.insert-then-contains-2.ensures.members k)))
    s

pub returns-then-contains-2-clause-smaller : goal.returns-then-contains-2-clause-smaller
returns-then-contains-2-clause-smaller c =
    let a = c.args in
    let fewer : missing c.add_all.new.self a.told.now.graph.now.nodes ≤ missing a.search.now.row a.told.now.graph.now.nodes =
    missing-le a.search.now.row c.add_all.new.self a.told.now.graph.now.nodes (λ k h. c.add_all.ensures.members k ∙ or_left _ _ (c.insert.ensures.members k ∙ or_left _ _ h)) in
    omega arith

pub returns-in_ok-push-clause-search : goal.returns-in_ok-push-clause-search
returns-in_ok-push-clause-search c =
    let a = c.args in
    λ start rest reached s.
    rw c.in_ok-push.ensures.items (pending-more a.told.now.graph.now start a.node a.search.now.row c.insert-then-not-contains.new.self a.search.now.settled a.search.now.pending.items rest reached c.insert-then-not-contains.ensures.members s)

pub returns-in_ok-push-clause-smaller : goal.returns-in_ok-push-clause-smaller
returns-in_ok-push-clause-smaller c =
    let a = c.args in
    let was : has a.search.now.row a.node ≡ false = sym c.contains-3.ensures ∙ c.if-not-contains.true in
    let members = c.insert-then-not-contains.ensures.members in
    let fewer : missing c.insert-then-not-contains.new.self a.told.now.graph.now.nodes < missing a.search.now.row a.told.now.graph.now.nodes =
    missing-lt a.search.now.row c.insert-then-not-contains.new.self a.told.now.graph.now.nodes a.node (λ k h. members k ∙ or_left _ _ h) c.requires.node was (members a.node ∙ or_right _ _ (eq-eqb a.node a.node refl)) in
    omega (arith, c.in_ok-push.ensures.len)
