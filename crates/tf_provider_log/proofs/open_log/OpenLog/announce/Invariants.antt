-- the messages of the lines passed
use Rattle.std.proofs.Common.{◌≡◌, map}
use Rattle.tf_provider_log.proofs.open_log.OpenLog.announce.Given as goal

abbrev pub invariant-loop-line : goal.invariant-loop-line
invariant-loop-line g l =
    map (λ a. a.message) l.announced.items ≡ map (λ w. w.message) l.yielded
