use Rattle.std.proofs.Common.{inl, inr, map, option_map, string_bytes}
use Rattle.std.specs.Prelude.{unwrap_or}
use Rattle.tf_cli_program.proofs.Worked.{at_most, is_answer}
use Rattle.tf_plan_data.specs.Plan.{plan_of}
use Rattle.tf_cli_program.proofs.applying.run_logged.Goals as goal

pub returns-in-Err : goal.returns-in-Err
returns-in-Err g c = λ before is.
    inl (c.in-Err.ensures.status, at_most (map (λ b. (goal.Provider-dyn g (b.vtable, b.value)).meaning b.value) c.args.providers.now) c.args.given.now c.args.printed (unwrap_or (option_map string_bytes c.args.diff) (string_bytes c.args.text)) _ _ c.requires.shows is)

pub returns : goal.returns
returns g c = λ before is.
    let ms = map (λ b. (goal.Provider-dyn g (b.vtable, b.value)).meaning b.value) c.args.providers.now in
    inr (
      c.carry_out-answer.result,
      is_answer ms c.args.given.now (plan_of c.args.planned.now) c.requires.planned c.carry_out-answer.result
          c.carry_out-answer.ensures.carried_out c.carry_out-answer.ensures.workers c.carry_out-answer.ensures.refused,
      rw (← c.in_default.ensures.quiet) (c.end_apply.ensures ms c.args.given.now before c.shown_of.result.now (rw c.shown_of.ensures c.requires.shows) (c.print_text-printed.ensures before (rw c.shown_of.ensures is))),
    )
