use Rattle.std.proofs.Common.{◌≡◌, ℕ, List, sym, ap, ◌∙◌, arith, get_or}
use Rattle.tf_graph.specs.Digraph.{target, successors_of}
use Rattle.tf_claim.specs.Claims.{Shared}
use Rattle.tf_claim.proofs.Departures.{length-out, from_target}
use Rattle.tf_claim.proofs.claims.Claims.let_go_out_as.Goals as goal

pub bounds-successors-place : goal.bounds-successors-place
bounds-successors-place g c =
    let many = length-out c.args.self.now.graph c.self.inside.graph c.args.action c.successors.result.now c.successors.ensures.nodes (ap (λ (z : Shared). z.graph) c.self.view_is) in
    let inside = c.requires.place in omega arith

pub offset_bounds-successors-place : goal.offset_bounds-successors-place
offset_bounds-successors-place g c =
    let many = length-out c.args.self.now.graph c.self.inside.graph c.args.action c.successors.result.now c.successors.ensures.nodes (ap (λ (z : Shared). z.graph) c.self.view_is) in
    let inside = c.requires.place in
    let fits = c.successors.type_inv in omega arith

pub release-requires-clause-about : goal.release-requires-clause-about
release-requires-clause-about g c =
    let is : c.successors.result.now ≡ successors_of c.args.self.now.graph c.args.action =
    c.successors.ensures.nodes ∙ ap (λ (z : Shared). successors_of z.graph c.args.action) c.self.view_is in (
      c.requires.about.0,
      ap (target c.args.self.now.graph) c.requires.about.1
          ∙ from_target c.args.self.now.graph c.args.action c.args.place c.requires.place
          ∙ ap (λ (l : List ℕ). get_or l c.args.place 0) (sym is),
    )
