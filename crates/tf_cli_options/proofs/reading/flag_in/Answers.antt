-- The flag is the one that `clap` finds.
use Rattle.std.proofs.Common.{subst}
use Rattle.clap.specs.Words.{found_of}
use Rattle.clap.proofs.WalkLemmas.{one_text-rows}
use Rattle.tf_cli_options.specs.Reads.{IsFlag}
use Rattle.tf_cli_options.proofs.Flags.{flag_read}
use Rattle.tf_cli_options.proofs.reading.flag_in.Goals as goal

pub returns : goal.returns
returns c = subst (λ o. IsFlag o c.get_flag.result) (one_text-rows (found_of c.args.matches.now) c.args.name.now)
    (flag_read _ c.get_flag.result c.get_flag.ensures.none c.get_flag.ensures.value c.get_flag.ensures.other)
