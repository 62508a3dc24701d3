-- The number that was read is the one that was given, where that is accepted.
use Rattle.std.proofs.Common.{codes, rules, refl, subst, inl, inr}
use Rattle.clap.specs.Words.{found_of}
use Rattle.std.specs.declared.num.ParseIntError.{ParseIntError}
use Rattle.clap.proofs.WalkLemmas.{one_text-rows}
use Rattle.tf_cli_options.specs.Reads.{IsWorkers}
use Rattle.tf_cli_options.proofs.Workers.{parses, workers_read, workers_beyond, workers_none}
use Rattle.tf_cli_options.proofs.reading.workers_in.Goals as goal

pub returns-in-Some-clause-reads : goal.returns-in-Some-clause-reads
returns-in-Some-clause-reads c = subst (λ o. IsWorkers o c.in-Some.workers) (one_text-rows (found_of c.args.matches.now) (codes "parallelism"))
    (workers_read ParseIntError parses (λ t r g. g.0) _ c.get_one.result c.in-Some.workers (search rules) c.get_one.ensures.none c.get_one.ensures.value)

pub returns-in_default-clause-reads : goal.returns-in_default-clause-reads
returns-in_default-clause-reads c = subst (λ o. IsWorkers o 10) (one_text-rows (found_of c.args.matches.now) (codes "parallelism"))
    (workers_beyond ParseIntError parses (λ t r g. g.0) _ c.get_one.result c.in-Some.workers 10 (search rules) (inr (search rules)) c.get_one.ensures.none c.get_one.ensures.value refl)

pub returns-in_default-2-clause-reads : goal.returns-in_default-2-clause-reads
returns-in_default-2-clause-reads c = subst (λ o. IsWorkers o 10) (one_text-rows (found_of c.args.matches.now) (codes "parallelism"))
    (workers_beyond ParseIntError parses (λ t r g. g.0) _ c.get_one.result c.in-Some.workers 10 (search rules) (inl (search rules)) c.get_one.ensures.none c.get_one.ensures.value refl)

pub returns-in_default-3-clause-reads : goal.returns-in_default-3-clause-reads
returns-in_default-3-clause-reads c = subst (λ o. IsWorkers o 10) (one_text-rows (found_of c.args.matches.now) (codes "parallelism"))
    (workers_none ParseIntError parses (λ t r g. g.0) _ c.get_one.result 10 (search rules) c.get_one.ensures.value refl)
