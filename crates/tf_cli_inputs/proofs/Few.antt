-- There are few resources of a configuration and a state together, and a serial after the state's.
use Rattle.std.proofs.Common.{◌≡◌, ◌≤◌, ◌<◌, ◌+◌, ◌^◌, ℕ, List, [], ◌∷◌, Option, Some, None, length, map, suc, refl, sym, subst, ap, arith}
use Rattle.std.proofs.lemmas.List.{length-append}
use Rattle.tf_config_json.specs.Config.{names_in}
use Rattle.tf_config_json.specs.Reading.{IsWithinCounts}
use Rattle.tf_config_data.specs.Config.{ConfigView}
use Rattle.tf_config_data.specs.Names.{block_name, local_names, names_of}
use Rattle.tf_cli_inputs.specs.Texts.{IsPrior}
use Rattle.tf_state.specs.Table.{IsPlannable}
use Rattle.tf_state_data.specs.State.{StateView, empty_state}
use Rattle.tf_expr_syntax.specs.ExprTree.{Entries, no_entries, entry}

mapped-length : {A B : Type 0} (f : A → B) (xs : List A) → length (map f xs) ≡ length xs
mapped-length f [] = refl
mapped-length f (x ∷ xs) = ap suc (mapped-length f xs)

local_names-length : (es : Entries) → length (local_names es) ≡ length (names_in es)
local_names-length no_entries = refl
local_names-length (entry name e es) = ap suc (local_names-length es)

empty_plannable : (lineage : List ℕ) → IsPlannable (empty_state lineage)
empty_plannable lineage = (omega arith, omega arith)

-- a plan can start from a prior state
pub plannable : (state : Option (List ℕ)) (lineage : List ℕ) (prior : StateView) → IsPrior state lineage prior → IsPlannable prior
plannable None lineage prior is = subst IsPlannable (sym is) (empty_plannable lineage)
plannable (Some bytes) lineage prior is = is.1

pub few_names : (config : ConfigView) (prior : StateView) → IsWithinCounts config → IsPlannable prior → length (names_of config) + length prior.resources ≤ 8000
few_names config prior h can =
    let locals : length (names_in config.locals) ≤ 2000 = h.1 in
    let blocks : length config.blocks ≤ 2000 = h.3 in
    let resources : length prior.resources ≤ 4000 = can.0 in
    omega (arith, length-append (local_names config.locals) (map block_name config.blocks), local_names-length config.locals, mapped-length block_name config.blocks, locals, blocks, resources)

pub has_next : (prior : StateView) → IsPlannable prior → prior.serial + 1 < 2 ^ 32
has_next prior can =
    let below : prior.serial < 4294967295 = can.1 in
    omega (arith, below)
