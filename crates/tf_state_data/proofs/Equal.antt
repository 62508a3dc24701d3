-- What is equal field by field is the same as plain data.
use Rattle.std.proofs.Common.{◌≡◌, Bool, true, false, ◌&&◌, List, [], ◌∷◌, String, refl, sym, ◌∙◌}
use Rattle.std.specs.Cmp.Derive.Mapped.{pointwise-map}
use Rattle.std.specs.Cmp.Lexicographic.{pointwise}
use Rattle.std.specs.Ordering.{on}
use Rattle.std.specs.Prelude.{bytes_eq, map, string_bytes}
use Rattle.std.specs.String.{string_eq}
use Rattle.std.specs.declared.alloc.Global.{Global}
use Rattle.tf_state_data.specs.Equality.{attributes_of}
use Rattle.tf_state_data.specs.State.{outputs_of}
use Rattle.tf_state_data.specs.declared.object.Object.{Object}
use Rattle.tf_value_data.specs.Tree.{same, same_entries}

-- where a test passes, the next one decides
pub passed : {value test fact next : Bool} → test ≡ fact → test ≡ true → value ≡ next → value ≡ (fact && next)
passed is so e = let holds = sym is ∙ so in rw holds e

-- and where it fails, it decides itself
pub failed : {value test fact : Bool} (next : Bool) → test ≡ fact → test ≡ false → value ≡ test → value ≡ (fact && next)
failed next is so e = let fails = sym is ∙ so in rw fails (e ∙ so)

pub dependencies_equal : (xs ys : List (String Global)) → pointwise string_eq xs ys ≡ pointwise bytes_eq (map string_bytes xs) (map string_bytes ys)
dependencies_equal xs ys = sym (pointwise-map string_bytes bytes_eq xs ys)

together : (a b c d : Bool) → c ≡ d → ((a && b) && c) ≡ (a && (b && d))
together true true c d e = e
together true false c d e = refl
together false b c d e = refl

pub outputs_equal : (es fs : List (String Global × Object)) → pointwise (λ p q. string_eq p.0 q.0 && on attributes_of same p.1 q.1) es fs ≡ same_entries (outputs_of es) (outputs_of fs)
outputs_equal [] [] = refl
outputs_equal [] (f ∷ fs) = refl
outputs_equal (e ∷ es) [] = refl
outputs_equal (e ∷ es) (f ∷ fs) = together (string_eq e.0 f.0) (on attributes_of same e.1 f.1) _ _ (outputs_equal es fs)
