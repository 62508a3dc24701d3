-- What the stages of a plan refuse.
use Rattle.std.proofs.Common.{◌≡◌, inl, inr, ℕ, true, false, Bool, if◌then◌else◌, List, [], ◌∷◌, map, Option, None, Some, Result, Ok, Err, IfErr, refl, ap, ◌∙◌}
use Rattle.tf_config_data.specs.Config.{BlockView}
use Rattle.tf_config_data.specs.Names.{NameView, Meant, a_local, a_block, meant_at, directly_before}
use Rattle.tf_expand_keys.specs.Stages.{expansion}
use Rattle.tf_expand_keys.specs.Resolved.{ResolvedView, AreResolvedNames, all_stand, environment}
use Rattle.tf_expand_keys.specs.InstanceKeys.{InstanceKeysView, one}
use Rattle.tf_expand_keys.specs.declared.repetition.RepetitionFault.{RepetitionFault}
use Rattle.tf_expr_eval.specs.Environment.{Environment}
use Rattle.tf_expand_keys.specs.Expanding.{AreExpanded, shape_in}
use Rattle.tf_expand_keys.specs.Told.{Refuses}
use Rattle.tf_expand_keys.specs.declared.expansion.ExpansionFault.{ExpansionFault}
use Rattle.tf_expand_keys.specs.declared.expansion.ExpansionFault.TheVariants.{OutOfMemory, Resource, TooMany}
use Rattle.tf_graph.specs.Solutions.{seen_by}
use Rattle.tf_config_names.specs.Needs.{IsAcyclic, IsDependence}
use Rattle.tf_config_names.specs.declared.dependence.Dependence.{Dependence}
use Rattle.tf_config_refusal.specs.Refusal.{RefusalView, refusal_of}
use Rattle.tf_value_data.specs.Tree.{Entries}
use Rattle.tf_plan_planner.proofs.Existing.{some_standings}
use Rattle.tf_plan_planner.specs.Planned.{AreInstances}
use Rattle.tf_plan_planner.specs.Refused.{AreUnexpanded, IsPlaced, Tells, TellsFault}
use Rattle.tf_plan_planner.specs.declared.refused.Refused.{Refused}
use Rattle.tf_plan_planner.specs.declared.refused.Refused.TheVariants.{NoMemory, These}

-- what is refused in the expansion is a resource
is_block : (m : Option Meant) (env : Environment) (why : RepetitionFault) → shape_in m env ≡ Err why → (block : BlockView) × (m ≡ Some (a_block block))
is_block None env why h = absurd (cc)
is_block (Some (a_local e)) env why h = absurd (cc)
is_block (Some (a_block block)) env why h = (block, refl)

pub refused_block : (yes : Bool) (m : Option Meant) (env : Environment) (why : RepetitionFault) → (if yes then shape_in m env else Ok one) ≡ Err why → (block : BlockView) × (m ≡ Some (a_block block))
refused_block true m env why h = is_block m env why h
refused_block false m env why h = absurd (cc)

placed : (variables : Entries) (names : List NameView) (resolved_names : ℕ → ResolvedView) (fault : ExpansionFault) → Refuses variables names resolved_names fault → IsPlaced names fault
placed variables names resolved_names OutOfMemory h = tt
placed variables names resolved_names TooMany h = tt
placed variables names resolved_names (Resource n why) h =
    (h.inside, refused_block (all_stand (seen_by resolved_names (directly_before names n))) (meant_at names n) (environment variables names resolved_names) why h.refused)

-- a fault of an expansion is that of a resource, where it is one's
pub fault-placed : (variables : Entries) (names : List NameView) (d : Dependence) (fault : ExpansionFault) → IsDependence names d → IsAcyclic d
    → ((resolved_names : ℕ → ResolvedView) → AreResolvedNames expansion variables names resolved_names → Refuses variables names resolved_names fault) → IsPlaced names fault
fault-placed variables names d fault is acyclic refuses =
    let resolved_names = some_standings expansion variables names d is acyclic in
    placed variables names resolved_names.0 fault (refuses resolved_names.0 resolved_names.1)

-- the instances of an expansion are those of the definition
pub instances-are : (variables : Entries) (names : List NameView) (d : Dependence) (shapes : ℕ → InstanceKeysView) → IsDependence names d → IsAcyclic d
    → ((resolved_names : ℕ → ResolvedView) → AreResolvedNames expansion variables names resolved_names → AreExpanded variables names resolved_names shapes) → AreInstances variables names shapes
instances-are variables names d shapes is acyclic each =
    let found = some_standings expansion variables names d is acyclic in
    record { resolved_names = found.0; stand = found.1; expanded = each found.0 found.1 }

-- what is told of a fault of an expansion
pub fault-told : (variables : Entries) (names : List NameView) (d : Dependence) (fault : ExpansionFault) (t : RefusalView) (refusal_views : List RefusalView) → IsDependence names d → IsAcyclic d
    → ((resolved_names : ℕ → ResolvedView) → AreResolvedNames expansion variables names resolved_names → Refuses variables names resolved_names fault) → TellsFault names fault t → refusal_views ≡ t ∷ [] → AreUnexpanded variables names refusal_views
fault-told variables names d OutOfMemory t refusal_views is acyclic refuses h alone = absurd h
fault-told variables names d TooMany t refusal_views is acyclic refuses h alone =
    let found = some_standings expansion variables names d is acyclic in
    inr (record { resolved_names = found.0; stand = found.1; many = refuses found.0 found.1; refused = alone ∙ ap (λ u. u ∷ []) h })
fault-told variables names d (Resource n why) t refusal_views is acyclic refuses h alone =
    let found = some_standings expansion variables names d is acyclic in
    inl
    (record {
      place = n;
      why = why;
      block = h.0;
      is_block = h.1;
      resolved_names = found.0;
      stand = found.1;
      first = refuses found.0 found.1;
      refused = alone ∙ ap (λ u. u ∷ []) h.2;
    })

-- what refuses for one reason refuses for a weaker one
pub tells-weaker : (P Q : List RefusalView → Type 0) (refused : Refused) → ((refusal_views : List RefusalView) → P refusal_views → Q refusal_views) → Tells P refused → Tells Q refused
tells-weaker P Q NoMemory f h = tt
tells-weaker P Q (These refusals) f h = f (map refusal_of refusals.items) h

-- an error that refuses for one reason refuses for a weaker one
pub refused-weaker : {T : Type 0} (P Q : List RefusalView → Type 0) (answer : Result T Refused) → ((refusal_views : List RefusalView) → P refusal_views → Q refusal_views) → IfErr answer (Tells P) → IfErr answer (Tells Q)
refused-weaker P Q (Ok t) f h = tt
refused-weaker P Q (Err refused) f h = tells-weaker P Q refused f h
