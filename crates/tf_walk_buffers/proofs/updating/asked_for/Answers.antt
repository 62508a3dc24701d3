use Rattle.std.proofs.Common.{◌<◌, ◌∙◌, List, map, subst, arith}
use Rattle.std.proofs.lemmas.List.{take_all}
use Rattle.std.specs.List.{AllByRecursion}
use Rattle.tf_walk_buffers.proofs.Lists.{all-at, all-next}
use Rattle.tf_walk_buffers.proofs.Updated.{added_asked, kept_asked}
use Rattle.tf_walk_buffers.specs.Unchanged.{HasNumberBelow, IsResourceAsked, unchanged_record_of}
use Rattle.tf_walk_buffers.specs.declared.unchanged.UnchangedRecord.{UnchangedRecord}
use Rattle.tf_walk_buffers.proofs.updating.asked_for.Goals as goal

pub insert-requires : goal.insert-requires
insert-requires c =
    let one = c.one-item.result in
    let below : one.number < c.args.count = all-at (HasNumberBelow c.args.count) unchanged_record_of c.args.unchanged.now c.loop-one.one-index one c.loop-one-test.true c.one-item.is c.requires in
    omega (arith, below, c.loop-one.invariant.long)

pub loop-one-preserved : goal.loop-one-preserved
loop-one-preserved c =
    let l = c.loop-one in
    let one = c.one-item.result in
    let new = c.insert.new.self in
    record {
      long = c.insert.ensures.length ∙ l.invariant.long;
      asked =
          all-next (IsResourceAsked l.asked) (IsResourceAsked new) unchanged_record_of c.args.unchanged.now l.one-index one c.loop-one-test.true c.one-item.is
          (λ u. kept_asked l.asked new one.number u.number c.insert.ensures.members) l.invariant.asked (added_asked l.asked new one.number c.insert.ensures.members);
    }

pub returns-clause-asked : goal.returns-clause-asked
returns-clause-asked c =
    let l = c.loop-one in
    subst (λ (xs : List UnchangedRecord). AllByRecursion (IsResourceAsked l.asked) (map unchanged_record_of xs)) (take_all l.one-index c.args.unchanged.now (omega arith)) l.invariant.asked
