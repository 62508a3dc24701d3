use Rattle.std.proofs.Common.{Ok, subst}
use Rattle.std.specs.Fn.{FnReturnsAt}
use Rattle.tf_cli_files.proofs.Unread.{of_each_error, without_cause}
use Rattle.tf_cli_files.proofs.reading.read_files.Goals as goal

pub returns-in_err-sources-clause-cause : goal.returns-in_err-sources-clause-cause
returns-in_err-sources-clause-cause g c = of_each_error c.from_residual-in_err-sources.result (λ ending none.
    (c.in_ok-config.config, subst (λ name. FnReturnsAt g.F.Fn c.args.read.now name (Ok c.in_ok-config.config)) c.as_str.ensures.value c.in_ok-config.ensures.read))

pub returns-in_err-found-clause-status : goal.returns-in_err-found-clause-status
returns-in_err-found-clause-status g c = without_cause (FnReturnsAt g.F.Fn c.args.read.now) _ c.from_residual-in_err-found.result c.in_err-found.ensures.status c.from_residual-in_err-found.ensures.1

pub returns-in_err-found-clause-cause : goal.returns-in_err-found-clause-cause
returns-in_err-found-clause-cause g c = of_each_error c.from_residual-in_err-found.result (λ ending none.
    (c.in_ok-config.config, subst (λ name. FnReturnsAt g.F.Fn c.args.read.now name (Ok c.in_ok-config.config)) c.as_str.ensures.value c.in_ok-config.ensures.read))

pub returns-in_err-vars_name-clause-status : goal.returns-in_err-vars_name-clause-status
returns-in_err-vars_name-clause-status g c = without_cause (FnReturnsAt g.F.Fn c.args.read.now) _ c.from_residual-in_err-vars_name.result c.in_err-vars_name.ensures c.from_residual-in_err-vars_name.ensures.1

pub returns-in_err-vars_name-clause-cause : goal.returns-in_err-vars_name-clause-cause
returns-in_err-vars_name-clause-cause g c = of_each_error c.from_residual-in_err-vars_name.result (λ ending none.
    (c.in_ok-config.config, subst (λ name. FnReturnsAt g.F.Fn c.args.read.now name (Ok c.in_ok-config.config)) c.as_str.ensures.value c.in_ok-config.ensures.read))
