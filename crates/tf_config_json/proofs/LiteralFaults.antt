-- What is told of a literal value that isn't read.
use Rattle.std.proofs.Common.{◌≡◌, ℕ, Bool, true, false, List, None, Some, inl, inr, refl, subst, arith}
use Rattle.serde_json.specs.Data.{Data}
use Rattle.tf_config_json.proofs.PartFits.{numbers_known, known_value}
use Rattle.tf_config_json.proofs.Refusals.{Refuses-right}
use Rattle.tf_config_json.specs.Demand.{AreMet, Refuses, TellsAt, bad_shape, holds}
use Rattle.tf_config_json.specs.Parts.{number_checks, literal_checks}
use Rattle.tf_config_refusal.specs.Check.{demanded}
use Rattle.tf_config_refusal.specs.Place.{dotted}
use Rattle.tf_config_refusal.specs.Refusal.{RefusalView, no_memory, workers, fault}
use Rattle.tf_value_data.proofs.Storing.{within-limits}
use Rattle.tf_value_json.specs.Json.{tree_from, IsUnread}
use Rattle.tf_value_data.specs.Known.{known}
use Rattle.tf_value_data.specs.Measure.{is_within, IsWithinLimits, IsTooLarge}
use Rattle.tf_value_data.specs.Tree.{Tree}
use Rattle.tf_value_json.specs.declared.fault.JsonFault.TheVariants.{NotWhole, TooLarge}

-- a condition that doesn't hold is told
pub Refuses-holds : (place : List (List ℕ)) (condition : Bool) (t : RefusalView) → condition ≡ false → TellsAt (dotted place) bad_shape t → Refuses (demanded place (holds condition)) t
Refuses-holds place condition no_memory is h = tt
Refuses-holds place condition workers is h = absurd h
Refuses-holds place condition (fault code at detail) is h = inl (h.0, (is, h.1))

within_false : (b : Bool) → (b ≡ true → ⊥) → b ≡ false
within_false true h = absurd (h refl)
within_false false h = refl

apart : (t : Tree) → IsTooLarge t → IsWithinLimits t → ⊥
apart t h w = elim h [ inl heavy ↦ absurd (omega (arith, heavy, w.0)) | inr deep ↦ absurd (omega (arith, deep, w.1)) ]

pub too_large : (place : List (List ℕ)) (d : Data) (t : RefusalView) → AreMet (number_checks place d) → IsUnread d TooLarge → TellsAt (dotted place) bad_shape t → Refuses (literal_checks place d) t
too_large place d t met h tells =
    let is = known_value (known (tree_from d)) (tree_from d) h.0 h.1 in
    Refuses-right (number_checks place d) (demanded place (holds (is_within (tree_from d)))) t met
    (Refuses-holds place (is_within (tree_from d)) t (within_false _ (λ within. apart h.0 h.2 (subst IsWithinLimits is.1 (within-limits (tree_from d) within)))) tells)

pub not_whole : (place : List (List ℕ)) (d : Data) → AreMet (number_checks place d) → IsUnread d NotWhole → ⊥
not_whole place d met h = let no : Some (tree_from d) ≡ None = rw (numbers_known place d met) at h in absurd (cc)
