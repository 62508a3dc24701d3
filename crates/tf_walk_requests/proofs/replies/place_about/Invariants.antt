-- none of the entries passed is about the request
use Rattle.std.proofs.Common.{◌≡◌, drop, map}
use Rattle.std.specs.List.{position_from}
use Rattle.tf_provider_log.specs.LogEntry.{log_entry_of}
use Rattle.tf_provider_log.specs.Replayed.{is_about}
use Rattle.tf_provider_protocol.specs.Meaning.{asked}
use Rattle.tf_walk_requests.proofs.replies.place_about.Given as goal

abbrev pub invariant-loop-place : goal.invariant-loop-place
invariant-loop-place l = position_from (is_about (asked l.request)) 0 (map log_entry_of l.entries) ≡ position_from (is_about (asked l.request)) l.place (map log_entry_of (drop l.place l.entries))
