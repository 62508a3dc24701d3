-- What is read of a property that holds values or addresses is what it says.
use Rattle.std.proofs.Common.{◌≡◌, ℕ, List, Option, Some, None, option_map, sym, ap, ◌∙◌}
use Rattle.serde_json.specs.Data.{Data, array, object}
use Rattle.tf_value_data.specs.Tree.{Tree, map, Entries, no_entries}
use Rattle.tf_state.specs.Reading.{attributes_in, dependencies_in, output_in, outputs_in, value_in, values_in}
use Rattle.tf_state.specs.Table.{SaysAttributes, SaysDependencies, SaysOutput, SaysOutputs, SaysValue}
use Rattle.tf_state.proofs.Gathered.{addresses-said, addresses-say}
use Rattle.tf_state.proofs.Properties.{mapped}
use Rattle.tf_state.proofs.Tables.{output-said, output-says, table-said, table-says, value-said, value-says}

same : {A : Type 0} (a b : A) → Some a ≡ Some b → a ≡ b
same a b e = cc

pub attributes_say : (o : Option Data) (t : Tree) → attributes_in o ≡ Some t → SaysAttributes o t
attributes_say (Some (object ms)) t e = let m = mapped map (values_in value_in ms no_entries) t e in (m.0, sym m.2, table-says value_in SaysValue value-says ms m.0 m.1)
attributes_say _ t e = absurd (cc)

pub attributes_said : (o : Option Data) (t : Tree) → SaysAttributes o t → attributes_in o ≡ Some t
attributes_said (Some (object ms)) t h = ap (option_map map) (table-said value_in SaysValue value-said ms h.0 h.2) ∙ ap Some (sym h.1)
attributes_said _ t h = absurd (assumption)

pub dependencies_say : (o : Option Data) (ts : List (List ℕ)) → dependencies_in o ≡ Some ts → SaysDependencies o ts
dependencies_say None ts e = cc
dependencies_say (Some (array ds)) ts e = addresses-say ds ts e
dependencies_say (Some _) ts e = absurd (cc)

pub dependencies_said : (o : Option Data) (ts : List (List ℕ)) → SaysDependencies o ts → dependencies_in o ≡ Some ts
dependencies_said None ts h = ap Some (sym h)
dependencies_said (Some (array ds)) ts h = addresses-said ds h.0 ts h.1 h.2 h.3
dependencies_said (Some _) ts h = absurd (assumption)

pub outputs_say : (o : Option Data) (es : Entries) → outputs_in o ≡ Some es → SaysOutputs o es
outputs_say None es e = cc
outputs_say (Some (object ms)) es e = table-says output_in SaysOutput output-says ms es e
outputs_say (Some _) es e = absurd (cc)

pub outputs_said : (o : Option Data) (es : Entries) → SaysOutputs o es → outputs_in o ≡ Some es
outputs_said None es h = ap Some (sym h)
outputs_said (Some (object ms)) es h = table-said output_in SaysOutput output-said ms es h
outputs_said (Some _) es h = absurd (assumption)
