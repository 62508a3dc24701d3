-- none of the types passed has the name
use Rattle.std.proofs.Common.{◌≡◌, map, drop}
use Rattle.std.specs.Prelude.{find}
use Rattle.std.specs.Str.{bytes_eq}
use Rattle.tf_provider_remote.specs.Types.{type_of}
use Rattle.tf_provider_remote.proofs.types.named.Given as goal

abbrev pub invariant-loop-known : goal.invariant-loop-known
invariant-loop-known l =
    find (λ t. bytes_eq t.name l.name) (map type_of l.types) ≡ find (λ t. bytes_eq t.name l.name) (map type_of (drop l.known-index l.types))
