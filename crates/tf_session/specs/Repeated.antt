-- The calls in flight of an unfinished apply that are made again without being asked to.
use Rattle.std.specs.Prelude.{◌≡◌, not, List, Option, Vec, filter, option_map, string_bytes}
use Rattle.std.specs.declared.alloc.Global.{Global}
use Rattle.tf_cli_files.specs.declared.unfinished.UnfinishedApply.{UnfinishedApply}
use Rattle.tf_provider_log.specs.declared.entry.LogEntry.{LogEntry}
use Rattle.tf_provider_protocol.specs.declared.request.Request.{Request}
use Rattle.tf_provider_remote.specs.Types.{TypeView, is_idempotent}

-- the calls of types that aren't idempotent, in their order
abbrev pub not_repeated : List TypeView → List Request → List Request
not_repeated ts requests = filter (λ r. not (is_idempotent (string_bytes r.type_name) ts)) requests

-- the same unfinished apply, if there is one, but that calls of idempotent types aren't in flight
pub record IsWithoutRepeated (ts : List TypeView) (old new : Option (UnfinishedApply × Vec LogEntry Global)) : Type 0 where
  pub header : option_map (λ p. p.0.header) new ≡ option_map (λ p. p.0.header) old
  pub answers : option_map (λ p. p.0.answers) new ≡ option_map (λ p. p.0.answers) old
  pub in_flight : option_map (λ p. p.0.in_flight.items) new ≡ option_map (λ p. not_repeated ts p.0.in_flight.items) old
  pub entries : option_map (λ p. p.1) new ≡ option_map (λ p. p.1) old
