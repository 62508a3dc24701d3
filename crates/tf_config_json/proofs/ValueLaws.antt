-- Variables have values exactly where nothing is refused in them, and one each at most.
use Rattle.std.proofs.Common.{[], ◌∷◌, is_some, refl, sym, ap, ◌∙◌}
use Rattle.tf_config_json.proofs.PartFits.{what_is_there, one_there}
use Rattle.tf_value_data.specs.Tree.{no_entries, entry}
use Rattle.tf_config_json.specs.VariableLaws.{ValuesAreOne, ValuesAreFaultless, FaultlessHaveValues}
use Rattle.tf_config_json.specs.Values.{value_for}

pub values_one : ValuesAreOne
values_one file [] no_entries no_entries h k = refl
values_one file [] no_entries (entry m u fs) h k = absurd k
values_one file [] (entry n t es) fs h k = absurd h
values_one file (v ∷ vs) no_entries fs h k = absurd h
values_one file (v ∷ vs) (entry n t es) no_entries h k = absurd k
values_one file (v ∷ vs) (entry n t es) (entry m u fs) h k = rw (h.0 ∙ sym k.0, one_there (value_for file v) t u h.1 k.1, values_one file vs es fs h.2 k.2) refl

pub values_faultless : ValuesAreFaultless
values_faultless file [] es h = tt
values_faultless file (v ∷ vs) no_entries h = absurd h
values_faultless file (v ∷ vs) (entry n t es) h = (ap is_some h.1, values_faultless file vs es h.2)

pub faultless_values : FaultlessHaveValues
faultless_values file [] h = (no_entries, tt)
faultless_values file (v ∷ vs) h =
    let found = what_is_there (value_for file v) h.0 in
    let more = faultless_values file vs h.1 in
    (entry v.name found.0 more.0, (refl, found.1, more.1))
