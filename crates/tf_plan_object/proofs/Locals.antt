-- What planned objects depend on.
use Rattle.std.proofs.Common.{◌≡◌, ◌++◌, ◌&&◌, ℕ, Bool, true, false, if◌then◌else◌, List, [], ◌∷◌, map as each, Option, Some, Result, Ok, Err, refl, ap, ◌∙◌}
use Rattle.std.specs.Str.{bytes_eq}
use Rattle.tf_config_address.specs.ObjectId as keys
use Rattle.tf_config_address.specs.ObjectId.{InstanceKeyView}
use Rattle.tf_config_data.specs.Config.{RepetitionView, single, count, for_each}
use Rattle.tf_config_data.specs.Names.{named_in_repetition, addr_pair}
use Rattle.tf_expr_operators.specs.Answer.{Answer}
use Rattle.tf_expr_syntax.specs.declared.fault.EvalFault.{EvalFault}
use Rattle.tf_provider_protocol.specs.Schema.{AttributeView, SchemaView}
use Rattle.tf_expr_syntax.specs.ExprNames.{named_by, named_below}
use Rattle.tf_expr_syntax.specs.ExprTree as expr
use Rattle.tf_expr_syntax.specs.TemplateNames.{Pair}
use Rattle.tf_value_data.specs.Tree.{map}
use Rattle.tf_expr_eval.specs.Constants.{ConstantView}
use Rattle.tf_expr_eval.specs.Environment.{Environment}
use Rattle.tf_expr_eval.specs.ExprMeaning.{meaning}
use Rattle.tf_expr_eval.specs.Locality.{AgreeOn, ExpressionsAreLocal}
use Rattle.tf_expr_eval.specs.Meaning.{and_then}
use Rattle.tf_expr_eval.proofs.Locality.{both_halves}
use Rattle.tf_expand_keys.specs.Instance.{bound, each_key, each_value, instance_constants, value_under}
use Rattle.tf_plan_object.specs.Argument.{attribute_value, evaluated, given_value, result_then}
use Rattle.tf_plan_object.specs.Instance.{object_in, or_argument_fault}
use Rattle.tf_plan_object.specs.Laws.{InstancesAreLocal}
use Rattle.tf_plan_object.specs.Planned.{fault_at, attribute_faults, stray_faults, first_of_faults, first_fault, with_value, planned_entries, unless_fault, planned_object}

agree_halves : (e f : Environment) (xs ys : List Pair) → AgreeOn e f (xs ++ ys) → AgreeOn e f xs × AgreeOn e f ys
agree_halves e f xs ys h = both_halves (λ (pair : Pair). e pair.0 pair.1 ≡ f pair.0 pair.1) xs ys h

pick_local : (e f : Environment) (a : AttributeView) (here : Bool) (t : expr.Tree) (rest : Option expr.Tree) → meaning e t ≡ meaning f t → attribute_value e a rest ≡ attribute_value f a rest
    → attribute_value e a (if here then Some t else rest) ≡ attribute_value f a (if here then Some t else rest)
pick_local e f a true t rest h k = ap (λ (r : Answer). result_then (given_value a.mode a.kind) (evaluated r)) h
pick_local e f a false t rest h k = k

-- what the arguments name decides each attribute's value
value_local : ExpressionsAreLocal → (e f : Environment) (a : AttributeView) (name : List ℕ) (arguments : expr.Entries) → AgreeOn e f (named_below arguments)
    → attribute_value e a (expr.get name arguments) ≡ attribute_value f a (expr.get name arguments)
value_local law e f a name expr.no_entries h = refl
value_local law e f a name (expr.entry l t es) h =
    let both = agree_halves e f (named_by t) (named_below es) h in
    pick_local e f a (bytes_eq name l) t (expr.get name es) (law e f t both.0) (value_local law e f a name es both.1)

faults_local : ExpressionsAreLocal → (e f : Environment) (attributes : List AttributeView) (arguments : expr.Entries) → AgreeOn e f (named_below arguments)
    → attribute_faults attributes e arguments ≡ attribute_faults attributes f arguments
faults_local law e f [] arguments h = refl
faults_local law e f (a ∷ others) arguments h =
    ap (λ r. fault_at a.name r ++ attribute_faults others e arguments) (value_local law e f a a.name arguments h)
    ∙ ap (λ xs. fault_at a.name (attribute_value f a (expr.get a.name arguments)) ++ xs) (faults_local law e f others arguments h)

entries_local : ExpressionsAreLocal → (e f : Environment) (attributes : List AttributeView) (arguments : expr.Entries) → AgreeOn e f (named_below arguments)
    → planned_entries attributes e arguments ≡ planned_entries attributes f arguments
entries_local law e f [] arguments h = refl
entries_local law e f (a ∷ others) arguments h =
    ap (λ r. with_value a.name r (planned_entries others e arguments)) (value_local law e f a a.name arguments h)
    ∙ ap (λ es. with_value a.name (attribute_value f a (expr.get a.name arguments)) es) (entries_local law e f others arguments h)

object_local : ExpressionsAreLocal → (schema : SchemaView) (e f : Environment) (arguments : expr.Entries) → AgreeOn e f (named_below arguments)
    → planned_object schema e arguments ≡ planned_object schema f arguments
object_local law schema e f arguments h =
    ap (λ xs. unless_fault (first_of_faults (xs ++ stray_faults schema arguments)) (map (planned_entries schema.attributes e arguments))) (faults_local law e f schema.attributes arguments h)
    ∙ ap (λ es. unless_fault (first_fault schema f arguments) (map es)) (entries_local law e f schema.attributes arguments h)

-- what `for_each` names decides the constants of an instance
constants_local : ExpressionsAreLocal → (repetition : RepetitionView) (key : InstanceKeyView) (e f : Environment) → AgreeOn e f (named_in_repetition repetition)
    → instance_constants repetition key e ≡ instance_constants repetition key f
constants_local law single key e f h = refl
constants_local law (count x) keys.single e f h = refl
constants_local law (count x) (keys.number n) e f h = refl
constants_local law (count x) (keys.name k) e f h = refl
constants_local law (for_each x) keys.single e f h = refl
constants_local law (for_each x) (keys.number n) e f h = refl
constants_local law (for_each x) (keys.name k) e f h = ap (λ (r : Answer). and_then r (λ all. and_then (value_under k all) (λ t. Ok (each_key k ∷ each_value t ∷ [])))) (law e f x h)

bound_same : (cs : List ConstantView) (e f : Environment) (first name : List ℕ) → e first name ≡ f first name → bound cs e first name ≡ bound cs f first name
bound_same [] e f first name h = h
bound_same (c ∷ cs) e f first name h = ap (λ (r : Answer). if bytes_eq c.first first && bytes_eq c.name name then Ok c.value else r) (bound_same cs e f first name h)

bound_agree : (cs : List ConstantView) (e f : Environment) (pairs : List Pair) → AgreeOn e f pairs → AgreeOn (bound cs e) (bound cs f) pairs
bound_agree cs e f [] h = tt
bound_agree cs e f (pair ∷ pairs) h = (bound_same cs e f pair.0 pair.1 h.0, bound_agree cs e f pairs h.1)

bound_local : ExpressionsAreLocal → (schema : SchemaView) (arguments : expr.Entries) (constants : Result (List ConstantView) EvalFault) (e f : Environment) → AgreeOn e f (named_below arguments)
    → object_in schema arguments (and_then constants (λ cs. Ok (bound cs e))) ≡ object_in schema arguments (and_then constants (λ cs. Ok (bound cs f)))
bound_local law schema arguments (Ok cs) e f h = ap or_argument_fault (object_local law schema (bound cs e) (bound cs f) arguments (bound_agree cs e f (named_below arguments) h))
bound_local law schema arguments (Err why) e f h = refl

pub instances_local : ExpressionsAreLocal → InstancesAreLocal
instances_local law schema block key e f h =
    let outer = agree_halves e f (named_in_repetition block.repetition ++ named_below block.arguments) (each addr_pair block.depends_on) h in
    let inner = agree_halves e f (named_in_repetition block.repetition) (named_below block.arguments) outer.0 in
    bound_local law schema block.arguments (instance_constants block.repetition key e) e f inner.1
    ∙ ap (λ (r : Result (List ConstantView) EvalFault). object_in schema block.arguments (and_then r (λ cs. Ok (bound cs f)))) (constants_local law block.repetition key e f inner.0)
