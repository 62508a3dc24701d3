use Rattle.std.proofs.Common.{map, subst}
use Rattle.tf_cli_program.specs.Recovery.{IsRecoveryStatus}
use Rattle.tf_cli_program.specs.declared.recovery_status.RecoveryStatus.{RecoveryStatus}
use Rattle.tf_cli_program.proofs.Continuing.{after_continues, anyway}
use Rattle.tf_cli_program.proofs.logging.finish_recovery.Goals as goal

pub returns-in-After-clause-from : goal.returns-in-After-clause-from
returns-in-After-clause-from g c =
    let ms = map (λ b. (goal.Provider-dyn g (b.vtable, b.value)).meaning b.value) c.args.replayed.now in
    anyway c.empty_log.result (after_continues ms c.args.unfinished.now c.args.given.now (subst (λ (s : RecoveryStatus). IsRecoveryStatus ms c.args.unfinished.now c.args.given.now s) c.in-After.is c.in_ok-status.ensures.looked))
