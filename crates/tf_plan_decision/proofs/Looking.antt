-- What is looked at at one place.
use Rattle.std.proofs.Common.{◌≡◌, ℕ, Bool, true, false, if◌then◌else◌, List, [], Option, Some, None, Result, IfOk, option_map, refl, sym, ap, ◌∙◌, arith}
use Rattle.std.proofs.Math.ListN.{get_or-map}
use Rattle.std.specs.Borrow.{Bor}
use Rattle.std.specs.Option.{unwrap_or}
use Rattle.std.specs.Slice.{IsItemAt}
use Rattle.std.specs.declared.alloc.AllocError.{AllocError}
use Rattle.tf_config_data.specs.Names.{NameView, Meant, a_local, a_block, directly_before, meant_at}
use Rattle.tf_config_names.specs.Table.{names_in}
use Rattle.tf_expand_keys.specs.InstanceKeys.{InstanceKeysView}
use Rattle.tf_expand_keys.specs.Resolved.{ResolvedView, all_stand, environment, stands_at, where_all}
use Rattle.tf_expand_keys.specs.Views.{resolved_of, shape_of, shapes_of}
use Rattle.tf_expand_keys.specs.Words.{seen_by}
use Rattle.tf_expand_keys.specs.declared.shape.InstanceKeys.{InstanceKeys}
use Rattle.tf_expand_keys.specs.declared.shape.InstanceKeys.TheVariants.{One}
use Rattle.tf_expand_keys.specs.declared.table.ModuleParts.{ModuleParts}
use Rattle.tf_plan_decision.specs.Deciding.{decided_of, decisions_on}
use Rattle.tf_plan_decision.specs.Rows.{nothing_decided, row}
use Rattle.tf_plan_decision.specs.Stage.{deciding}
use Rattle.tf_plan_decision.specs.Whole.{block_instances}
use Rattle.tf_plan_decision.specs.declared.planned_values.Looked.{Looked}
use Rattle.tf_provider_protocol.specs.Meaning.{Meaning}
use Rattle.tf_state_data.specs.Resource.{ResourceView}
use Rattle.tf_value_data.specs.Tree.{Entries, entries_view}

-- how the instances of a resource stand together, by what is found at its place
pub shape_found : (shapes : List InstanceKeys) (p : ℕ) (found is : Option (Bor InstanceKeys)) → IsItemAt shapes p found → found ≡ is → shapes_of shapes p ≡ shape_of (unwrap_or (option_map (λ (b : Bor InstanceKeys). b.now) is) One)
shape_found shapes p found is lookup same =
    get_or-map shape_of shapes p One ∙ ap shape_of (sym (lookup.4 (omega arith) One) ∙ ap (λ (o : Option (Bor InstanceKeys)). unwrap_or (option_map (λ (b : Bor InstanceKeys). b.now) o) One) same)

-- where something that a name needs was refused, it stands for nothing, wanted or not
pub nothing_either : (is_wanted : Bool) (resolved : ResolvedView) → resolved ≡ None → resolved ≡ (if is_wanted then None else None)
nothing_either true resolved none = none
nothing_either false resolved none = none

-- and nothing is decided there
pub nothing_in_row : (ms : List Meaning) (resources : List ResourceView) (variables : Entries) (names : List NameView) (shapes : ℕ → InstanceKeysView) (kept : ℕ → ResolvedView) (p : ℕ) (m : Option Meant)
    → all_stand (seen_by kept (directly_before names p)) ≡ false → nothing_decided ≡ row ms resources variables names shapes kept p m
nothing_in_row ms resources variables names shapes kept p None refused = refl
nothing_in_row ms resources variables names shapes kept p (Some (a_local e)) refused = refl
nothing_in_row ms resources variables names shapes kept p (Some (a_block block)) refused =
    ap (λ (all : Bool). decisions_on (if all then block_instances ms resources p block (environment variables names kept) (shapes p) else [])) (sym refused)

-- what is found of the name at a place of a module
pub record IsLooked (ms : List Meaning) (resources : List ResourceView) (shapes : ℕ → InstanceKeysView) (kept : ℕ → ResolvedView) (p : ℕ) (is_wanted : Bool) (result : Result Looked AllocError) (m : ModuleParts) : Type 0 where
  pub resolved : IfOk result (λ looked. resolved_of looked.resolved ≡ (if is_wanted
      then where_all (all_stand (seen_by kept (directly_before (names_in m.names.now) p)))
      (stands_at (deciding ms resources shapes) p (meant_at (names_in m.names.now) p) (environment (entries_view m.variables.now.entries) (names_in m.names.now) kept))
      else None))
  pub decided : IfOk result (λ looked. decided_of looked.decided ≡ row ms resources (entries_view m.variables.now.entries) (names_in m.names.now) shapes kept p (meant_at (names_in m.names.now) p))
