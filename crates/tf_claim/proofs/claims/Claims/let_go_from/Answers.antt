use Rattle.std.proofs.Common.{◌≡◌, ◌<◌, length, sym, ap, subst, ◌∙◌, arith, get_or, take}
use Rattle.tf_claim.specs.declared.seat.View.{View}
use Rattle.tf_claim.specs.Views.{edges_from, went, went_all, MayLetGo}
use Rattle.tf_claim.specs.Claims.{Shared}
use Rattle.tf_claim.proofs.Departures.{length-out, may_next, went_more, went_whole, frees_few, take_few, heard_one, heard_none, heard_whole}
use Rattle.tf_claim.proofs.claims.Claims.let_go_from.Goals.{then-let_go_out_as, else-let_go_out_as}
use Rattle.tf_claim.proofs.claims.Claims.let_go_from.Goals as goal

pub let_go_out_as-requires-clause-place : goal.let_go_out_as-requires-clause-place
let_go_out_as-requires-clause-place g c =
    let many = length-out c.args.self.now.graph c.self.inside.graph c.args.action c.successors-next.result.now c.successors-next.ensures.nodes (ap (λ (z : Shared). z.graph) c.self.view_is) in
    let inside = c.loop-place-test.true in omega arith

pub let_go_out_as-requires-clause-may : goal.let_go_out_as-requires-clause-may
let_go_out_as-requires-clause-may g c =
    let P : View → Type 0 = λ v. MayLetGo c.args.self.now.graph (get_or (edges_from c.args.self.now.graph c.args.action) c.loop-place.place 0) v in
    subst P (sym c.loop-place.invariant.went)
    (may_next c.args.self.now.graph c.args.action c.loop-place.place c.args.seat.now.view (let_go_out_as-requires-clause-place g c) c.requires.may)

pub hear-requires-clause-few : goal.hear-requires-clause-few
hear-requires-clause-few g c =
    let few = frees_few c.args.self.now.graph (take c.loop-place.place (edges_from c.args.self.now.graph c.args.action)) (g.L.Listener.heard c.loop-place.listener) c.args.seat.now.view c.loop-place.invariant.heard in
    let passed = take_few c.loop-place.place (edges_from c.args.self.now.graph c.args.action) in
    let inside = c.loop-place-test.true in
    let fits = c.successors-next.type_inv in omega arith

pub loop-place-preserved : goal.loop-place-preserved
loop-place-preserved g c =
    let gr = c.args.self.now.graph in
    let n = c.args.action in
    let k = c.loop-place.place in
    let many = length-out gr c.self.inside.graph n c.successors-next.result.now c.successors-next.ensures.nodes (ap (λ (z : Shared). z.graph) c.self.view_is) in
    let inside : k < length (edges_from gr n) = (let lt = c.loop-place-test.true in omega arith) in
    let is : c.let_go_out_as.new.seat.view ≡ went (get_or (edges_from gr n) k 0) (went_all (take k (edges_from gr n)) c.args.seat.now.view) =
    c.let_go_out_as.ensures.went_is ∙ ap (went (get_or (edges_from gr n) k 0)) c.loop-place.invariant.went in
    record {
      table = c.let_go_out_as.ensures.table ∙ c.loop-place.invariant.table;
      went = is ∙ went_more gr n k c.args.seat.now.view inside;
      heard = elim c.if-let_go_out_as.branch [
        | then-let_go_out_as w ↦
            let through = rw w.if-let_go_out_as.true at c.let_go_out_as.ensures.moment in
            rw (w.listener-is, w.hear.ensures) (heard_one gr n k c.args.seat.now.view inside (g.L.Listener.heard c.loop-place.listener) c.let_go_out_as.new.seat.view is c.loop-place.invariant.heard through)
        | else-let_go_out_as w ↦
            let held = rw w.if-let_go_out_as.false at c.let_go_out_as.ensures.moment in
            rw w.listener-is (heard_none gr n k c.args.seat.now.view inside (g.L.Listener.heard c.loop-place.listener) c.let_go_out_as.new.seat.view is c.loop-place.invariant.heard held)
      ];
    }

pub returns-clause-went : goal.returns-clause-went
returns-clause-went g c =
    let many = length-out c.args.self.now.graph c.self.inside.graph c.args.action c.successors-next.result.now c.successors-next.ensures.nodes (ap (λ (z : Shared). z.graph) c.self.view_is) in
    let past = c.loop-place-test.false in
    c.loop-place.invariant.went
    ∙ went_whole c.args.self.now.graph c.args.action c.loop-place.place c.args.seat.now.view (omega arith)

pub returns-clause-heard : goal.returns-clause-heard
returns-clause-heard g c =
    let many = length-out c.args.self.now.graph c.self.inside.graph c.args.action c.successors-next.result.now c.successors-next.ensures.nodes (ap (λ (z : Shared). z.graph) c.self.view_is) in
    let past = c.loop-place-test.false in
    heard_whole c.args.self.now.graph c.args.action c.loop-place.place (g.L.Listener.heard c.loop-place.listener) c.args.seat.now.view (omega arith) c.loop-place.invariant.heard
