use Rattle.tf_config_json.proofs.Members.{AreRead}
use Rattle.tf_config_json.proofs.objects.add_each_member.Given as goal

-- the members so far are read
abbrev pub invariant-loop-key : goal.invariant-loop-key
invariant-loop-key g l = AreRead g.M.Members.OutView (g.M.Members.adds l.members) (g.M.Members.out_view l.fn.said) l.object.entries l.key-iterator (g.M.Members.out_view l.said)
