-- Beside the planned object itself nothing is done.
use Rattle.std.proofs.Common.{◌≡◌, ℕ, Bool, true, false, List, [], ◌∷◌, Option, Some, None, refl, sym, subst}
use Rattle.std.specs.List.{list_all}
use Rattle.std.specs.Option.{option_map_or}
use Rattle.tf_provider_protocol.specs.Schema.{AttributeView, SchemaView, IsSchema}
use Rattle.tf_provider_protocol.specs.Verdict.{has_attributes}
use Rattle.tf_value_data.specs.Known.{known, known_entries}
use Rattle.tf_value_data.specs.Tree.{Tree, map, Entries, get}
use Rattle.tf_value_data.proofs.Conjunction.{and-both}
use Rattle.tf_plan_decision.specs.Differing.{differing}
use Rattle.tf_plan_object.specs.Kept.{is_kept, kept_object}
use Rattle.tf_plan_decision.specs.Laws.{BesidePlannedNothingIsDone}
use Rattle.tf_plan_decision.proofs.Equal.{known_at, nothing_where_none_differs}
use Rattle.tf_plan_decision.proofs.Replies.{no_difference, object_stays, stays}

itself : (keeps : Bool) (o : Option Tree) → option_map_or known o true ≡ true → stays keeps o o ≡ true
itself keeps None h = refl
itself true (Some t) h = no_difference t h
itself false (Some t) h = no_difference t h

each_itself : (schema : SchemaView) (ignored : List (List ℕ)) (es : Entries) (attributes : List AttributeView) → known_entries es ≡ true
    → list_all (λ a. stays (is_kept schema ignored a.name) (get a.name es) (get a.name es)) attributes ≡ true
each_itself schema ignored es [] h = refl
each_itself schema ignored es (a ∷ others) h =
    and-both (stays (is_kept schema ignored a.name) (get a.name es) (get a.name es)) _ (itself (is_kept schema ignored a.name) (get a.name es) (known_at es a.name h)) (each_itself schema ignored es others h)

none_differs : (schema : SchemaView) (ignored : List (List ℕ)) (t : Tree) → IsSchema schema → has_attributes schema t ≡ true → known t ≡ true → differing t (kept_object schema ignored t t) ≡ []
none_differs schema ignored (map es) good h k = object_stays schema ignored (map es) (map es) good h (each_itself schema ignored es schema.attributes k)
none_differs schema ignored _ good h k = refl

pub beside_planned : BesidePlannedNothingIsDone
beside_planned schema ignored r planned good h k untainted is =
    nothing_where_none_differs schema ignored r.tainted r.attributes planned untainted
    (subst (λ (t : Tree). differing t (kept_object schema ignored t planned) ≡ []) is
    (none_differs schema ignored planned good h (subst (λ (t : Tree). known t ≡ true) (sym is) k)))
