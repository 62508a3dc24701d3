-- the replies of the lines passed, and those of the others
use Rattle.std.proofs.Common.{◌≡◌, ◌++◌, length, map}
use Rattle.tf_provider_log.specs.Line.{lines_of}
use Rattle.tf_provider_remote.specs.Responses.{response_of, responses_in, numbered}
use Rattle.tf_provider_remote.proofs.replies.read_replies.Given as goal

abbrev pub invariant-loop-line : goal.invariant-loop-line
invariant-loop-line l =
    map numbered (responses_in (lines_of l.bytes)) ≡ map response_of l.replies.items ++ map numbered (responses_in (lines_of l.rest))

abbrev pub decreases-loop-line : goal.decreases-loop-line
decreases-loop-line l = length l.rest
