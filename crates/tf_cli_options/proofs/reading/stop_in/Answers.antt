-- The number that was read is the one that was given, where that is accepted.
use Rattle.std.specs.Prelude.{None, Some, codes}
use Rattle.std.proofs.Common.{rules, subst}
use Rattle.clap.specs.Words.{found_of}
use Rattle.std.specs.declared.num.ParseIntError.{ParseIntError}
use Rattle.clap.proofs.WalkLemmas.{one_text-rows}
use Rattle.tf_cli_options.specs.Reads.{IsStop}
use Rattle.tf_cli_options.proofs.Workers.{parses, stop_read, stop_beyond, stop_none}
use Rattle.tf_cli_options.proofs.reading.stop_in.Goals as goal

pub returns-in-Some-clause-reads : goal.returns-in-Some-clause-reads
returns-in-Some-clause-reads c = subst (λ o. IsStop o (Some c.in-Some.calls)) (one_text-rows (found_of c.args.matches.now) (codes "stop-after"))
    (stop_read ParseIntError parses (λ t r g. g.0) _ c.get_one.result c.in-Some.calls (search rules) c.get_one.ensures.none c.get_one.ensures.value)

pub returns-in_default-clause-reads : goal.returns-in_default-clause-reads
returns-in_default-clause-reads c = subst (λ o. IsStop o None) (one_text-rows (found_of c.args.matches.now) (codes "stop-after"))
    (stop_beyond ParseIntError parses (λ t r g. g.0) _ c.get_one.result c.in-Some.calls (search rules) (search rules) c.get_one.ensures.none c.get_one.ensures.value)

pub returns-in_default-2-clause-reads : goal.returns-in_default-2-clause-reads
returns-in_default-2-clause-reads c = subst (λ o. IsStop o None) (one_text-rows (found_of c.args.matches.now) (codes "stop-after"))
    (stop_none ParseIntError parses (λ t r g. g.0) _ c.get_one.result (search rules) c.get_one.ensures.value)
