-- The verdict on an answer, by the request, the answer and the schema alone.
use Rattle.std.specs.Prelude.{◌≡◌, ℕ, Bool, true, false, ◌&&◌, ◌||◌, List, [], ◌∷◌, map as each, Option, Some, None, if◌then◌else◌, not, option_and_then}
use Rattle.std.specs.List.{list_all, position_from}
use Rattle.std.specs.Option.{option_map_or}
use Rattle.std.specs.Str.{bytes_eq}
use Rattle.tf_value_data.specs.Tree.{Tree, null, boolean, whole, text, map, part_at, keys_of}
use Rattle.tf_value_data.specs.Refinement.{refined}
use Rattle.tf_value_data.specs.Stored.{may_be_stored}
use Rattle.tf_provider_protocol.specs.Schema.{AttributeView, SchemaView}
use Rattle.tf_provider_protocol.specs.Meaning.{Asked, Answer, object, gone, failed}
use Rattle.tf_provider_protocol.specs.declared.request.Op.{Op}
use Rattle.tf_provider_protocol.specs.declared.request.Op.TheVariants.{Create, Update, Destroy}
use Rattle.tf_provider_protocol.specs.declared.schema.Kind.{Kind}
use Rattle.tf_provider_protocol.specs.declared.schema.Kind.TheVariants as kind
use Rattle.tf_provider_protocol.specs.declared.schema.Mode.{Mode}
use Rattle.tf_provider_protocol.specs.declared.schema.Mode.TheVariants.{Required, Optional, Computed}
use Rattle.tf_provider_protocol.specs.declared.verdict.Verdict.{Verdict}
use Rattle.tf_provider_protocol.specs.declared.verdict.Verdict.TheVariants as verdict

-- two lists of names are the same
abbrev pub same_names : List (List ℕ) → List (List ℕ) → Bool
same_names [] [] = true
same_names (a ∷ rest) (b ∷ others) = bytes_eq a b && same_names rest others
same_names _ _ = false

-- the names of a schema's attributes, in byte order
abbrev pub names_of : SchemaView → List (List ℕ)
names_of s = each (λ a. a.name) s.attributes

-- A value has exactly a schema's attributes if it is a map whose keys are their names.
abbrev pub has_attributes : SchemaView → Tree → Bool
has_attributes s (map es) = same_names (keys_of es) (names_of s)
has_attributes s _ = false

abbrev pub is_required : Mode → Bool
is_required Required = true
is_required Optional = false
is_required Computed = false

-- A value is of a kind, without conversion: texts are of kind String, whole numbers of kind Number, truth
-- values of kind Bool, and everything is of kind Any.
abbrev pub is_of_kind : Kind → Tree → Bool
is_of_kind kind.Any t = true
is_of_kind kind.String (text s) = true
is_of_kind kind.Number (whole z) = true
is_of_kind kind.Bool (boolean b) = true
is_of_kind _ _ = false

-- A null is allowed if the attribute isn't required. Any other value has to be of the attribute's kind.
abbrev pub is_allowed : AttributeView → Tree → Bool
is_allowed a null = not (is_required a.mode)
is_allowed a t = is_of_kind a.kind t

-- A value fits an attribute if it may be stored and is allowed.
abbrev pub fits : AttributeView → Tree → Bool
fits a t = may_be_stored t && is_allowed a t

-- an object has a value for the attribute, and it fits
abbrev pub fits_in : Tree → AttributeView → Bool
fits_in t a = option_map_or (fits a) (part_at a.name t) false

-- An object is well formed if it has exactly the schema's attributes and the value of each fits.
abbrev pub well_formed : SchemaView → Tree → Bool
well_formed s t = has_attributes s t && list_all (fits_in t) s.attributes

abbrev pub IsWellFormed : SchemaView → Tree → Type 0
IsWellFormed s t = well_formed s t ≡ true

-- The outcome of an action is good if the verdict on its reply is `Good`, and for no other verdict.
abbrev pub is_good_verdict : Verdict → Bool
is_good_verdict verdict.Good = true
is_good_verdict _ = false

-- A requested value contradicts the actual one if it doesn't refine to it.
abbrev pub contradicts : Option Tree → Option Tree → Bool
contradicts (Some t) (Some u) = not (refined t u)
contradicts _ _ = false

-- an attribute's requested value contradicts the actual one
abbrev pub contradicts_at : Tree → Tree → AttributeView → Bool
contradicts_at wanted there a = contradicts (part_at a.name wanted) (part_at a.name there)

-- the place of the first attribute whose requested value contradicts the actual one
abbrev pub contradiction : SchemaView → Tree → Tree → Option ℕ
contradiction s wanted there = position_from (contradicts_at wanted there) 0 s.attributes

abbrev pub is_destroy : Op → Bool
is_destroy Create = false
is_destroy Update = false
is_destroy Destroy = true

-- A destroy needs no object. The object of a create or an update has exactly the schema's attributes.
abbrev pub asks_fully : Asked → SchemaView → Bool
asks_fully r s = is_destroy r.op || option_map_or (has_attributes s) r.object false

-- An object that answers a create or an update is malformed if it isn't well formed. Otherwise it is contradicted at
-- the first attribute that contradicts the request's object, if there is one, and else good.
abbrev pub verdict_on_object : SchemaView → Option Tree → Tree → Verdict
verdict_on_object s wanted there =
    if not (well_formed s there) then verdict.Malformed
    else option_map_or verdict.Contradicted (option_and_then (λ t. contradiction s t there) wanted) verdict.Good

-- The verdict on an answer. No answer, as memory ran out, is excused, and a failure is failed. A destroy is good if
-- the object is gone. A create or an update has to answer with an object.
abbrev pub verdict_on : Asked → Option Answer → SchemaView → Verdict
verdict_on r None s = verdict.Excused
verdict_on r (Some (failed message there)) s = verdict.Failed
verdict_on r (Some gone) s = if is_destroy r.op then verdict.Good else verdict.Malformed
verdict_on r (Some (object there)) s =
    if is_destroy r.op then verdict.Malformed else verdict_on_object s r.object there
