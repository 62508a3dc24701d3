use Rattle.std.proofs.Common.{ℕ, [], Option, Some, IfSome, refl, arith, sym, ◌∙◌, subst}
use Rattle.tf_walk_action.specs.declared.action_result.ActionResult.{ActionResult}
use Rattle.tf_walk_workers.specs.Calls.{HasParts, IsCell, reported_in}
use Rattle.tf_walk_workers.specs.Ideal.{IsEndOf}
use Rattle.tf_walk_workers.proofs.cells.Cells.publish.Goals as goal

pub put-ended-requires : goal.put-ended-requires
put-ended-requires g c =
    let won = c.turn-found.ensures.0 c.if-found-ne-FREE.false in
    let own = c.turn-found.ensures.2 ∙ c.cell.ensures in (
      won.0 refl,
      omega arith,
      refl,
      subst (λ (n : ℕ). IsCell g.N.WalkBrand.meanings g.N.WalkBrand.plan g.N.WalkBrand.table n (Some c.args.ended) c.args.part) (sym own) (record { fits = c.requires.own; reports = c.requires.part }),
    )

pub returns-in-Some : goal.returns-in-Some
returns-in-Some g c =
    let own = c.turn-found.ensures.2 ∙ c.cell.ensures in
    let ms = g.N.WalkBrand.meanings in
    let plan = g.N.WalkBrand.plan in
    let left = c.put-ended.result in
    let fits : IfSome left.ended (IsEndOf ms plan c.args.action) = subst (λ (n : ℕ). IfSome left.ended (IsEndOf ms plan n)) own c.put-ended.ensures.fits in (
      subst (λ (o : Option ActionResult). IfSome o (IsEndOf ms plan c.args.action)) c.in-Some.is fits,
      subst (λ (o : Option ActionResult). HasParts g.N.WalkBrand.table 1 [] (reported_in o) left.part) c.in-Some.is c.put-ended.ensures.reports,
    )
