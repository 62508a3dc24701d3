-- The values of a configuration's names, at one stage of the engine.
use Rattle.std.specs.Prelude.{◌==◌, ℕ, Bool, if◌then◌else◌, List, [], ◌∷◌, length, codes, Option, Some, None, option_map, Err, is_some}
use Rattle.std.specs.List.{list_all}
use Rattle.std.specs.Str.{bytes_eq}
use Rattle.tf_config_address.specs.ObjectId.{InstanceKeyView}
use Rattle.tf_config_data.specs.Config.{BlockView}
use Rattle.tf_config_data.specs.Names.{NameView, Meant, a_local, a_block, place_of, meant_at, directly_before}
use Rattle.tf_graph.specs.Solutions.{Solves, seen_by}
use Rattle.tf_value_data.specs.Tree.{Tree, Entries, get}
use Rattle.tf_expr_operators.specs.Answer.{Answer, limited, present_value}
use Rattle.tf_expr_syntax.specs.declared.fault.EvalFault.TheVariants.{Missing}
use Rattle.tf_expr_eval.specs.Environment.{Environment}
use Rattle.tf_expr_eval.specs.ExprMeaning.{meaning}
use Rattle.tf_expand_keys.specs.InstanceKeys.{InstanceKeysView, collected}

-- What a local or a resource resolves to: a value, or a fault that is reported at every reference. `None` if the
-- resource is refused, or if a name that it needs doesn't resolve.
abbrev pub ResolvedView : Type 0
ResolvedView = Option Answer

-- the value or the fault, or `Missing` if there is neither
abbrev pub or_missing : ResolvedView → Answer
or_missing None = Err Missing
or_missing (Some a) = a

-- what a reference to a place of the list evaluates to
abbrev pub answer_at : (ℕ → ResolvedView) → Option ℕ → Answer
answer_at resolved_names None = Err Missing
answer_at resolved_names (Some n) = or_missing (resolved_names n)

-- The values of references: `var.NAME` is the variable's value, and a local or a resource is what its place resolves
-- to. Any other reference is missing.
abbrev pub environment : Entries → List NameView → (ℕ → ResolvedView) → Environment
environment variables names resolved_names first name =
    if bytes_eq first (codes "var") then present_value (get name variables) else answer_at resolved_names (place_of names (first, name))

-- A stage of the engine: the shape of a resource, or `None` if it is refused, and the object of each instance, or
-- `None` if it is refused. Both see the place of the resource's name, its block, and the values of the references in
-- it.
pub record ResourceValuesView : Type 0 where
  pub shape : ℕ → BlockView → Environment → Option InstanceKeysView
  pub object : ℕ → BlockView → Environment → InstanceKeyView → Option Tree

-- The value of a resource: its objects collected and measured as one value.
abbrev pub together : Option InstanceKeysView → (InstanceKeyView → Option Tree) → ResolvedView
together None object = None
together (Some shape) object = option_map limited (collected shape object)

-- A local resolves to the value of its expression, and a resource to its objects.
abbrev pub stands : ResourceValuesView → ℕ → Meant → Environment → ResolvedView
stands stage n (a_local e) env = Some (meaning env e)
stands stage n (a_block b) env = together (stage.shape n b env) (stage.object n b env)

-- what is not a place resolves to nothing
abbrev pub stands_at : ResourceValuesView → ℕ → Option Meant → Environment → ResolvedView
stands_at stage n None env = None
stands_at stage n (Some m) env = stands stage n m env

-- the result that is seen of a node, or `None` if it isn't seen
abbrev pub result_in : List (ℕ × ResolvedView) → ℕ → ResolvedView
result_in [] n = None
result_in (s ∷ seen) n = if s.0 == n then s.1 else result_in seen n

-- all nodes that are seen resolve
abbrev pub all_stand : List (ℕ × ResolvedView) → Bool
all_stand seen = list_all (λ s. is_some s.1) seen

-- the result if all nodes that are seen resolve
abbrev pub where_all : Bool → ResolvedView → ResolvedView
where_all all_stand resolved = if all_stand then resolved else None

-- What a name resolves to, by what the names directly before it resolve to.
abbrev pub rule : ResourceValuesView → Entries → List NameView → ℕ → List (ℕ × ResolvedView) → ResolvedView
rule stage variables names n seen =
    where_all (all_stand seen) (stands_at stage n (meant_at names n) (environment variables names (result_in seen)))

-- The resolved names at a stage: the solution of the rule.
abbrev pub AreResolvedNames : ResourceValuesView → Entries → List NameView → (ℕ → ResolvedView) → Type 0
AreResolvedNames stage variables names resolved_names = Solves (length names) (directly_before names) (rule stage variables names) resolved_names

-- the values of the references in a name's expressions: of all names only those directly before it are seen
abbrev pub environment_at : Entries → List NameView → (ℕ → ResolvedView) → ℕ → Environment
environment_at variables names resolved_names n = environment variables names (result_in (seen_by resolved_names (directly_before names n)))
