-- What has a text is known.
use Rattle.std.proofs.Common.{◌≡◌, ℕ, List, true, Some, refl}
use Rattle.tf_value_data.specs.Known.{known}
use Rattle.tf_value_data.specs.Scalar.{scalar_text}
use Rattle.tf_value_data.specs.Tree.{Tree, boolean, whole, text}

pub scalar-known : (t : Tree) (s : List ℕ) → scalar_text t ≡ Some s → known t ≡ true
scalar-known (boolean b) s e = refl
scalar-known (whole z) s e = refl
scalar-known (text u) s e = refl
scalar-known _ s e = absurd (cc)
