-- What holds of the object that an update asks for, for any prior and planned objects.
use Rattle.std.specs.Prelude.{◌≡◌, ℕ, true, false, List, option_map}
use Rattle.tf_provider_protocol.specs.Schema.{SchemaView}
use Rattle.tf_provider_protocol.specs.Verdict.{has_attributes}
use Rattle.tf_value_data.specs.Refinement.{Refines}
use Rattle.tf_value_data.specs.Tree.{Tree, part_at}
use Rattle.tf_plan_object.specs.Kept.{is_kept, kept_object, kept_value}

-- An update's object has at each name the planned value, or the prior one if that is kept. So it has each configured
-- value of an attribute whose changes aren't ignored.
abbrev pub UpdatesKeep : Type 0
UpdatesKeep =
    (schema : SchemaView) (ignored : List (List ℕ)) (prior planned : Tree) (name : List ℕ)
    → part_at name (kept_object schema ignored prior planned) ≡ option_map (kept_value schema ignored prior name) (part_at name planned)

abbrev pub UpdatesHaveArguments : Type 0
UpdatesHaveArguments =
    (schema : SchemaView) (ignored : List (List ℕ)) (prior planned : Tree) (name : List ℕ)
    → is_kept schema ignored name ≡ false → part_at name (kept_object schema ignored prior planned) ≡ part_at name planned

-- An update's object has exactly the schema's attributes if the planned one has.
abbrev pub UpdatesHaveAttributes : Type 0
UpdatesHaveAttributes =
    (schema : SchemaView) (ignored : List (List ℕ)) (prior planned : Tree)
    → has_attributes schema planned ≡ true → has_attributes schema (kept_object schema ignored prior planned) ≡ true

-- If a planned object refines to the one that is planned when more is known, so does the object that an update asks
-- for.
abbrev pub UpdatesGrow : Type 0
UpdatesGrow =
    (schema : SchemaView) (ignored : List (List ℕ)) (prior planned later : Tree)
    → Refines planned later → Refines (kept_object schema ignored prior planned) (kept_object schema ignored prior later)
