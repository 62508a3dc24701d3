-- How many keys a map has, beside how many attributes there are.
use Rattle.std.proofs.Common.{◌≡◌, List, [], ◌∷◌, length, map, Bool, true, false, ◌&&◌, refl, arith, String, Global, string_bytes}
use Rattle.std.specs.Str.{bytes_eq}
use Rattle.tf_value_data.specs.Tree.{keys_of, entries_view}
use Rattle.tf_value_data.specs.declared.value.Value.{Value}
use Rattle.tf_provider_protocol.specs.declared.schema.Attribute.{Attribute}
use Rattle.tf_provider_protocol.specs.Schema.{attribute_of}
use Rattle.tf_provider_protocol.specs.Verdict.{same_names}

and_false : (b : Bool) → (b && false) ≡ false
and_false true = refl
and_false false = refl

-- a map with more or fewer keys than there are attributes doesn't have their names
pub same_names-length : (es : List (String Global × Value)) (xs : List Attribute) → (length es ≡ length xs → ⊥) → same_names (keys_of (entries_view es)) (map (λ a. a.name) (map attribute_of xs)) ≡ false
same_names-length [] [] h = absurd (h refl)
same_names-length [] (x ∷ xs) h = refl
same_names-length (e ∷ es) [] h = refl
same_names-length (e ∷ es) (x ∷ xs) h =
    rw (same_names-length es xs (λ e. h (omega arith))) (and_false (bytes_eq (string_bytes e.0) (string_bytes x.name)))
