-- none of the providers passed has the type
use Rattle.std.proofs.Common.{◌≡◌, map, drop}
use Rattle.tf_provider_protocol.specs.Meaning.{first_with}
use Rattle.tf_provider_protocol.proofs.provider.first_provider.Given as goal

abbrev pub invariant-loop-provider : goal.invariant-loop-provider
invariant-loop-provider g l =
    first_with l.type_name (map (λ b. (goal.Provider-dyn g (b.vtable, b.value)).meaning b.value) (drop l.provider-index l.providers))
    ≡ first_with l.type_name (map (λ b. (goal.Provider-dyn g (b.vtable, b.value)).meaning b.value) l.providers)
