-- The resource at the place has the address, or there is none.
use Rattle.std.proofs.Common.{rules, Some, ap, sym, ◌∙◌}
use Rattle.tf_config_address.specs.ResourceAddr.{addr_of}
use Rattle.tf_state_next.proofs.Near.{at_place, lent}
use Rattle.tf_state_next.proofs.recording.stands_at.Goals as goal

pub returns-in-Some : goal.returns-in-Some
returns-in-Some c = λ same. at_place (addr_of c.args.addr.now) c.args.resources.now c.args.place c.in-Some.resource.now c.requires
    (lent c.args.resources.now c.args.place c.in-Some.resource c.in-Some.ensures.lookup) (search (rules, same, c.is_eq.ensures, c.cmp.ensures, c.addr.ensures))
