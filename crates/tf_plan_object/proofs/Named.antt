-- A planned object has the attributes of its schema.
use Rattle.std.proofs.Common.{◌≡◌, ℕ, Bool, true, false, cond, List, [], ◌∷◌, ◌++◌, map as each, fold, Option, Some, None, Result, Ok, Err, refl, ap}
use Rattle.std.specs.Prelude.{is_some}
use Rattle.std.specs.Str.{bytes_eq}
use Rattle.std.proofs.lemmas.Slice.Eq.{bytes_eq-Decides}
use Rattle.tf_expr_syntax.specs.declared.fault.EvalFault.{EvalFault}
use Rattle.tf_provider_protocol.specs.Schema.{AttributeView, SchemaView, is_below}
use Rattle.tf_provider_protocol.specs.Verdict.{has_attributes, same_names}
use Rattle.tf_expr_syntax.specs.ExprTree as expr
use Rattle.tf_value_data.specs.Tree.{Tree, Entries, map, keys_of}
use Rattle.tf_expr_eval.specs.Environment.{Environment}
use Rattle.tf_expand_keys.specs.Instance.{instance_environment}
use Rattle.tf_plan_object.specs.Argument.{attribute_value}
use Rattle.tf_plan_object.specs.Instance.{object_in, or_argument_fault}
use Rattle.tf_plan_object.specs.Laws.{InstancesHaveAttributes}
use Rattle.tf_plan_object.specs.Planned.{NamedFaultView, fault_at, attribute_faults, stray_faults, sooner, first_of_faults, first_fault, with_value, planned_entries, unless_fault, planned_object}
use Rattle.tf_plan_object.specs.declared.argument.ArgumentFault.{ArgumentFault}

sooner_some : (b : Bool) (old new : NamedFaultView) → is_some (cond b (Some new) (Some old)) ≡ true
sooner_some true old new = refl
sooner_some false old new = refl

-- a fault that was found stays, or gives way to another
fold_some : (found : Option NamedFaultView) (faults : List NamedFaultView) → is_some found ≡ true → is_some (fold sooner found faults) ≡ true
fold_some found [] h = h
fold_some None (f ∷ faults) h = absurd (cc)
fold_some (Some old) (f ∷ faults) h = fold_some (sooner (Some old) f) faults (sooner_some (is_below f.0 old.0) old f)

no_fault : (faults : List NamedFaultView) → first_of_faults faults ≡ None → faults ≡ []
no_fault [] h = refl
no_fault (f ∷ faults) h = let some = fold_some (Some f) faults refl in let none : is_some (fold sooner (Some f) faults) ≡ false = ap is_some h in absurd (cc)

pub both_empty : (xs ys : List NamedFaultView) → xs ++ ys ≡ [] → (xs ≡ []) × (ys ≡ [])
both_empty [] ys h = (refl, h)
both_empty (x ∷ xs) ys h = absurd (cc)

-- where nothing is wrong, no attribute has a fault
pub faultless : (schema : SchemaView) (env : Environment) (arguments : expr.Entries) → first_fault schema env arguments ≡ None → attribute_faults schema.attributes env arguments ≡ []
faultless schema env arguments h =
    (both_empty (attribute_faults schema.attributes env arguments) (stray_faults schema arguments) (no_fault (attribute_faults schema.attributes env arguments ++ stray_faults schema arguments) h)).0

same_name : (name : List ℕ) → bytes_eq name name ≡ true
same_name name = (bytes_eq-Decides name name).1 refl

named_first : (a : AttributeView) (planned : Result Tree ArgumentFault) (rest : Entries) (others : List (List ℕ)) → fault_at a.name planned ≡ [] → same_names (keys_of rest) others ≡ true
    → same_names (keys_of (with_value a.name planned rest)) (a.name ∷ others) ≡ true
named_first a (Ok t) rest others h same = rw (same_name a.name) same
named_first a (Err why) rest others h same = absurd (cc)

-- where no attribute has a fault, each has a value
pub all_named : (attributes : List AttributeView) (env : Environment) (arguments : expr.Entries) → attribute_faults attributes env arguments ≡ []
    → same_names (keys_of (planned_entries attributes env arguments)) (each (λ a. a.name) attributes) ≡ true
all_named [] env arguments h = refl
all_named (a ∷ others) env arguments h =
    let planned = attribute_value env a (expr.get a.name arguments) in
    let both = both_empty (fault_at a.name planned) (attribute_faults others env arguments) h in
    named_first a planned (planned_entries others env arguments) (each (λ b. b.name) others) both.0 (all_named others env arguments both.1)

-- the object of arguments without a fault has the attributes of its schema
pub object_named : (schema : SchemaView) (env : Environment) (arguments : expr.Entries) → first_fault schema env arguments ≡ None
    → has_attributes schema (map (planned_entries schema.attributes env arguments)) ≡ true
object_named schema env arguments h = all_named schema.attributes env arguments (faultless schema env arguments h)

unless_is : (fault : Option NamedFaultView) (t u : Tree) → unless_fault fault t ≡ Ok u → (fault ≡ None) × (t ≡ u)
unless_is None t u h = (refl, (cc))
unless_is (Some fault) t u h = absurd (cc)

-- where there is an object, nothing is wrong, and it is made of the planned values
pub object_is : (schema : SchemaView) (env : Environment) (arguments : expr.Entries) (t : Tree) → planned_object schema env arguments ≡ Ok t
    → (first_fault schema env arguments ≡ None) × (map (planned_entries schema.attributes env arguments) ≡ t)
object_is schema env arguments t h = unless_is (first_fault schema env arguments) (map (planned_entries schema.attributes env arguments)) t h

unless_fails : (fault : Option NamedFaultView) (t : Tree) (n : NamedFaultView) → unless_fault fault t ≡ Err n → fault ≡ Some n
unless_fails None t n h = absurd (cc)
unless_fails (Some fault) t n h = cc

-- and where there is none, the first fault is what is wrong
pub fault_is : (schema : SchemaView) (env : Environment) (arguments : expr.Entries) (n : NamedFaultView) → planned_object schema env arguments ≡ Err n → first_fault schema env arguments ≡ Some n
fault_is schema env arguments n h = unless_fails (first_fault schema env arguments) (map (planned_entries schema.attributes env arguments)) n h

argument_is : (r : Result Tree NamedFaultView) (t : Tree) → or_argument_fault r ≡ Ok t → r ≡ Ok t
argument_is (Ok u) t h = cc
argument_is (Err n) t h = absurd (cc)

-- where an instance has an object, its arguments see an environment, in which they make that object
pub instance_is : (schema : SchemaView) (arguments : expr.Entries) (seen : Result Environment EvalFault) (t : Tree) → object_in schema arguments seen ≡ Ok t
    → (env : Environment) × (seen ≡ Ok env) × (planned_object schema env arguments ≡ Ok t)
instance_is schema arguments (Ok env) t h = (env, refl, argument_is (planned_object schema env arguments) t h)
instance_is schema arguments (Err why) t h = absurd (cc)

pub instances_named : InstancesHaveAttributes
instances_named schema block key env t h =
    let at = instance_is schema block.arguments (instance_environment block.repetition key env) t h in
    let object = object_is schema at.0 block.arguments t at.2 in
    rw (← object.1) (object_named schema at.0 block.arguments object.0)
