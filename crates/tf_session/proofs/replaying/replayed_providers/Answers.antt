use Rattle.std.proofs.Common.{map, refl}
use Rattle.tf_provider_log.specs.LogEntry.{log_entry_of}
use Rattle.tf_provider_remote.specs.Types.{remote_meaning, type_of}
use Rattle.tf_session.proofs.Together.{outside_together}
use Rattle.tf_session.proofs.replaying.replayed_providers.Goals as goal

pub returns : goal.returns
returns c =
    let together = outside_together (remote_meaning (map type_of c.args.types.now.types.value.items)) _ _ _ _ (map log_entry_of c.args.entries.items) c.in_ok-remote.ensures refl in
    rw (c.new-remote.ensures, c.in_ok-share.ensures, c.new-sim.ensures, c.in_ok-new.ensures, c.new-files.ensures, c.in_ok-new-2.ensures) together
