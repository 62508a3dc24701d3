use Rattle.std.proofs.Common.{Err, Ok, inl, inr, refl}
use Rattle.tf_cli_files.proofs.program.run.Goals as goal

pub returns-in-Ok-Ok : goal.returns-in-Ok-Ok
returns-in-Ok-Ok g c = (_, c.end.ensures.status, inr (_, _, _, _, _, c.work-answer.ensures))

pub returns-in-Ok-Err : goal.returns-in-Ok-Err
returns-in-Ok-Err g c = (Ok c.in-Ok-Err.status, refl, inl (rw c.in-Ok-Err.field-0-is at c.in-Ok-Err.ensures))

pub returns-in-Err : goal.returns-in-Err
returns-in-Err g c = (Err c.in-Err.error, c.end-in-Err.ensures.status, inl tt)
