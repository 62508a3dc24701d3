-- What is asked for, where what a block names stands for what it does among all names.
use Rattle.std.proofs.Common.{◌≡◌, ◌++◌, ℕ, List, [], ◌∷◌, zero, suc, ◌<◌, length, true, Some, Result, Ok, Err, IfOk, refl, sym, ap, subst, ◌∙◌, arith}
use Rattle.std.specs.declared.alloc.AllocError.{AllocError}
use Rattle.std.specs.List.{AllByRecursion}
use Rattle.tf_config_address.specs.ObjectId as keys
use Rattle.tf_config_address.specs.ObjectId.{InstanceKeyView}
use Rattle.tf_config_data.specs.Config.{BlockView, RepetitionView, single, count, for_each}
use Rattle.tf_config_data.specs.Names.{NameView, a_block, meant_at, block_refers, named_in_repetition, places}
use Rattle.tf_provider_protocol.specs.Schema.{SchemaView}
use Rattle.tf_expr_syntax.specs.ExprNames.{named_below}
use Rattle.tf_expr_syntax.specs.ExprTree as expr
use Rattle.tf_expr_syntax.specs.TemplateNames.{Pair}
use Rattle.tf_value_data.specs.Tree.{Tree, Entries}
use Rattle.tf_value_data.specs.declared.value.Value.{Value}
use Rattle.tf_expr_eval.proofs.Locality.{expressions_local}
use Rattle.tf_expr_eval.specs.Environment.{Environment}
use Rattle.tf_expr_eval.specs.Locality.{AgreeOn}
use Rattle.tf_expr_eval.specs.Meaning.{and_then}
use Rattle.tf_expand_keys.proofs.Seen.{agree_on}
use Rattle.tf_expand_keys.specs.Instance.{bound, instance_constants}
use Rattle.tf_expand_keys.specs.InstanceKeys.{InstanceKeysView}
use Rattle.tf_expand_keys.specs.Stages.{applying}
use Rattle.tf_expand_keys.specs.Resolved.{ResolvedView, AreResolvedNames, environment}
use Rattle.tf_plan_object.proofs.Locals.{instances_local}
use Rattle.tf_plan_object.specs.Instance.{instance_object, instance_of, object_in}
use Rattle.tf_plan_object.specs.declared.instance.InstanceFault.{InstanceFault}
use Rattle.tf_walk_action.specs.Requests.{IsRequest}
use Rattle.tf_walk_names.specs.Resolving.{is_resource}
use Rattle.tf_walk_names.specs.Wanted.{instance_names, named_in_for_each}

-- a resource stands at a place of the list
pub resource_below : (names : List NameView) (place : ℕ) → is_resource (meant_at names place) ≡ true → place < length names
resource_below [] place h = absurd (cc)
resource_below (name ∷ names) zero h = omega arith
resource_below (name ∷ names) (suc n) h = let below = resource_below names n h in omega arith

-- a repetition whose `count` names nothing
bare : RepetitionView → RepetitionView
bare single = single
bare (count e) = count expr.null
bare (for_each e) = for_each e

bare_block : BlockView → BlockView
bare_block b = record b { repetition = bare b.repetition; depends_on = [] }

constants_bare : (r : RepetitionView) (key : InstanceKeyView) (env : Environment) → instance_constants (bare r) key env ≡ instance_constants r key env
unfolding bare
constants_bare single key env = refl
constants_bare (count e) keys.single env = refl
constants_bare (count e) (keys.number n) env = refl
constants_bare (count e) (keys.name k) env = refl
constants_bare (for_each e) key env = refl

named_bare : (r : RepetitionView) → named_in_repetition (bare r) ≡ named_in_for_each r
unfolding bare
named_bare single = refl
named_bare (count e) = refl
named_bare (for_each e) = refl

object_bare : (schema : SchemaView) (b : BlockView) (key : InstanceKeyView) (env : Environment) → instance_object schema (bare_block b) key env ≡ instance_object schema b key env
unfolding bare_block
object_bare schema b key env = ap (λ cs. object_in schema b.arguments (and_then cs (λ constants. Ok (bound constants env)))) (constants_bare b.repetition key env)

append_none : (xs : List Pair) → xs ++ [] ≡ xs
append_none [] = refl
append_none (x ∷ xs) = ap (λ ys. x ∷ ys) (append_none xs)

refers_bare : (b : BlockView) → block_refers (bare_block b) ≡ instance_names b
unfolding bare_block
refers_bare b = append_none (named_in_repetition (bare b.repetition) ++ named_below b.arguments) ∙ ap (λ ps. ps ++ named_below b.arguments) (named_bare b.repetition)

-- what `for_each` and the arguments name decides the object of an instance
pub instance_same : (schema : SchemaView) (b : BlockView) (key : InstanceKeyView) (e f : Environment) → AgreeOn e f (instance_names b) → instance_object schema b key e ≡ instance_object schema b key f
instance_same schema b key e f agree =
    let all : AgreeOn e f (block_refers (bare_block b)) = subst (λ ps. AgreeOn e f ps) (sym (refers_bare b)) agree in
    sym (object_bare schema b key e) ∙ instances_local expressions_local schema (bare_block b) key e f all ∙ object_bare schema b key f

-- the object of an instance where so much stands is what is asked for
pub requested : (variables : Entries) (names : List NameView) (shapes : ℕ → InstanceKeysView) (objects : ℕ → InstanceKeyView → Tree) (kept : ℕ → ResolvedView) (found : BlockView) (place : ℕ) → meant_at names place ≡ Some (a_block found)
    → ((resolved_names : ℕ → ResolvedView) → AreResolvedNames (applying shapes objects) variables names resolved_names → AllByRecursion (λ n. kept n ≡ resolved_names n) (places names (instance_names found)))
    → (key : InstanceKeyView) (schema : SchemaView) (result : Result (Result Value InstanceFault) AllocError)
    → IfOk result (λ request. instance_of request ≡ instance_object schema found key (environment variables names kept))
    → IfOk result (λ request. IsRequest variables names shapes objects place key schema (instance_of request))
requested variables names shapes objects kept found place is same key schema (Ok request) planned = λ resolved_names block solves meant.
    let agree = agree_on variables names kept resolved_names (instance_names found) (same resolved_names solves) in
    let one : found ≡ block = (cc) in
    planned ∙ instance_same schema found key (environment variables names kept) (environment variables names resolved_names) agree
    ∙ ap (λ b. instance_object schema b key (environment variables names resolved_names)) one
requested variables names shapes objects kept found place is same key schema (Err e) planned = planned
