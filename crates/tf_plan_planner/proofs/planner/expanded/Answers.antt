use Rattle.std.proofs.Common.{◌≡◌, ◌∷◌, [], List, subst, sym}
use Rattle.tf_config_names.specs.Table.{names_in}
use Rattle.tf_config_refusal.specs.Refusal.{RefusalView, refusal_of}
use Rattle.tf_value_data.specs.Tree.{entries_view}
use Rattle.tf_expand_keys.specs.Module.{IsModule}
use Rattle.tf_expand_keys.specs.Views.{shapes_of}
use Rattle.tf_expand_keys.specs.declared.table.ModuleParts.{ModuleParts}
use Rattle.tf_plan_planner.proofs.Refusing.{fault-placed, fault-told, instances-are, tells-weaker}
use Rattle.tf_plan_planner.specs.Refused.{AreUnexpanded, IsPlaced, TellsFault}
use Rattle.tf_plan_planner.proofs.planner.expanded.Goals as goal

pub expansion_refusal-requires : goal.expansion_refusal-requires
expansion_refusal-requires c =
    let fits = subst IsModule c.declared.view_is c.declared.invariant in
    subst (λ (m : ModuleParts). IsPlaced (names_in m.names.now) c.in-Err.fault) (sym c.declared.view_is)
    (fault-placed (entries_view c.args.declared.now.variables.now.entries) (names_in c.args.declared.now.names.now) c.args.declared.now.dependence.now c.in-Err.fault
    fits.dependence fits.acyclic c.in-Err.ensures)

pub returns-in_ok-alone-in-Err-clause-refused : goal.returns-in_ok-alone-in-Err-clause-refused
returns-in_ok-alone-in-Err-clause-refused c =
    let fits = subst IsModule c.declared.view_is c.declared.invariant in
    let variables = entries_view c.args.declared.now.variables.now.entries in
    let names = names_in c.args.declared.now.names.now in
    let t = refusal_of c.in_ok-refusal-in-Err.refusal in
    tells-weaker (λ (refusal_views : List RefusalView). refusal_views ≡ t ∷ []) (AreUnexpanded variables names) c.in_ok-alone-in-Err.field-0
    (λ refusal_views is.
    fault-told variables names c.args.declared.now.dependence.now c.in-Err.fault t refusal_views fits.dependence fits.acyclic c.in-Err.ensures
    (subst (λ (m : ModuleParts). TellsFault (names_in m.names.now) c.in-Err.fault t) c.declared.view_is c.in_ok-refusal-in-Err.ensures) is) c.in_ok-alone-in-Err.ensures

pub returns-in-Ok-clause-instances : goal.returns-in-Ok-clause-instances
returns-in-Ok-clause-instances c =
    let fits = subst IsModule c.declared.view_is c.declared.invariant in
    instances-are (entries_view c.args.declared.now.variables.now.entries) (names_in c.args.declared.now.names.now) c.args.declared.now.dependence.now (shapes_of c.in-Ok.shapes.items) fits.dependence fits.acyclic
    c.in-Ok.ensures
