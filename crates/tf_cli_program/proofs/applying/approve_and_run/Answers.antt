use Rattle.std.proofs.Common.{inl, inr, map, option_map, refl, string_bytes}
use Rattle.tf_plan_data.specs.Plan.{plan_of}
use Rattle.tf_cli_program.proofs.Worked.{shown_is}
use Rattle.tf_cli_program.proofs.applying.approve_and_run.Goals as goal

pub returns-then-is_empty : goal.returns-then-is_empty
returns-then-is_empty g c = c.run_logged.ensures _ refl

pub returns-then-not-approves : goal.returns-then-not-approves
returns-then-not-approves g c = inl (
  refl,
  inr (
    c.shown_of.result.now,
    rw c.shown_of.ensures (record {
      colours = c.colours.result;
      plan = plan_of c.args.planned.now;
      planned = c.requires.planned;
      shows = shown_is c.args.given.now.options.diff (option_map string_bytes c.in-Ok-diff_of.diff) (string_bytes c.in-Ok.text) _ _ c.in-Ok-diff_of.ensures.diff c.in-Ok.ensures.shown;
    }),
    c.save-printed.ensures.part,
  ),
)

pub returns : goal.returns
returns g c = c.run_logged-2.ensures _ (rw (← c.shown_of.ensures) (c.save-printed.ensures.whole, c.save-printed.ensures.part))
