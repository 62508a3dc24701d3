use Rattle.std.proofs.Common.{rules, tests, ◌≡◌, ◌∙◌, ℕ, Bool, sym}
use Rattle.std.proofs.lemmas.Iterator.{YieldsList-from_slice}
use Rattle.std.proofs.lemmas.Iterator.Search.{all_from_yields_List}
use Rattle.std.proofs.lemmas.List.Folds.{list_all-map}
use Rattle.std.specs.List.{list_all}
use Rattle.tf_graph.specs.NodeSet.{has}
use Rattle.tf_walk_outputs.proofs.settled.all_settled.Goals as goal

pub returns : goal.returns
returns c =
    let all : c.all.result ≡ list_all (λ n. has c.args.settled.now n) c.args.places.now =
    all_from_yields_List (λ n. has c.args.settled.now n) _ _ _ c.all.ensures.ran (YieldsList-from_slice c.args.places.now cc) (λ x b q k. search (rules, tests)) in
    all ∙ sym (list_all-map (λ (s : ℕ × Bool). s.1) (λ n. (n, has c.args.settled.now n)) c.args.places.now)
