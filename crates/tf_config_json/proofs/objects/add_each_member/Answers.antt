use Rattle.std.proofs.lemmas.Result.{err_from_is_err_and}
use Rattle.tf_config_json.proofs.Members.{refused_next, read_next}
use Rattle.tf_config_refusal.proofs.Places.{place_of-Member}
use Rattle.tf_config_refusal.specs.Place.{place_of}
use Rattle.tf_config_json.proofs.objects.add_each_member.Goals as goal

pub returns-in_err-add : goal.returns-in_err-add
returns-in_err-add g c =
    let p = err_from_is_err_and c.from_residual.result c.from_residual.ensures.1 in
    let first = rw (place_of-Member, c.as_str-name.ensures.value) at c.in_err-add.ensures in
    rw (p.1, p.2)
    (refused_next g.M.Members.OutView (g.M.Members.adds c.args.members.now) (g.M.Members.out_view c.args.said.now) (g.M.Members.checks c.args.members.now) c.requires.sound (place_of c.args.path.now) _ _ (c.in-Some.key.now, c.in-Some.value.now) c.next.new.self _ _ c.loop-key.invariant c.in-Some.ensures.steps first)

pub loop-key-preserved : goal.loop-key-preserved
loop-key-preserved g c =
    let adds = rw c.as_str-name.ensures.value at c.in_ok-add.ensures in
    read_next g.M.Members.OutView (g.M.Members.adds c.args.members.now) (g.M.Members.out_view c.args.said.now) _ _ (c.in-Some.key.now, c.in-Some.value.now) c.next.new.self _ _ c.loop-key.invariant c.in-Some.ensures.steps adds
