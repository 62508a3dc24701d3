-- The last resource stands before the address, or there is none.
use Rattle.std.proofs.Common.{rules}
use Rattle.tf_config_address.specs.ResourceAddr.{addr_of}
use Rattle.tf_state_next.proofs.Near.{behind_all}
use Rattle.tf_state_next.proofs.recording.is_behind.Goals as goal

pub returns-in-Some : goal.returns-in-Some
returns-in-Some c = λ less. behind_all (addr_of c.args.addr.now) c.args.resources.now c.in-Some.last.now c.requires
    (search (rules, c.in-Some.ensures, c.last.ensures, c.in-Some.is)) (search (rules, less, c.is_lt.ensures, c.cmp.ensures, c.addr.ensures))
