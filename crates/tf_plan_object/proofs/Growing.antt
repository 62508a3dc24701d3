-- What is known of planned objects only grows.
use Rattle.std.proofs.Common.{◌≡◌, ℕ, List, [], ◌∷◌, Bool, if◌then◌else◌, codes, Option, Some, None, Result, Ok, Err, refl, ap}
use Rattle.std.specs.Fmt.{signed_decimal}
use Rattle.tf_expr_operators.specs.Answer.{Answer}
use Rattle.tf_provider_protocol.specs.Schema.{AttributeView, SchemaView}
use Rattle.tf_provider_protocol.specs.declared.schema.Kind.{Kind}
use Rattle.tf_provider_protocol.specs.declared.schema.Kind.TheVariants as kinds
use Rattle.tf_provider_protocol.specs.declared.schema.Mode.{Mode}
use Rattle.tf_provider_protocol.specs.declared.schema.Mode.TheVariants as modes
use Rattle.tf_expr_syntax.specs.ExprTree as expr
use Rattle.tf_value_data.specs.Laws.{ListsRefine, RefinementIsReflexive}
use Rattle.tf_value_data.specs.Refinement.{Refines, RefinesEntries}
use Rattle.tf_value_data.specs.Sets.{with_lists}
use Rattle.tf_value_data.specs.Tree.{Tree, null, boolean, whole, text, unknown, Entries}
use Rattle.tf_expr_eval.specs.Environment.{Environment, RefinesTo}
use Rattle.tf_expr_eval.specs.ExprMeaning.{meaning}
use Rattle.tf_expr_eval.specs.Growth.{ExprKnowledgeGrows}
use Rattle.tf_expand_keys.specs.Instance.{instance_environment}
use Rattle.tf_expand_keys.specs.StandingLaws.{InstanceEnvironmentsGrow}
use Rattle.tf_plan_object.specs.Argument.{attribute_value, converted, evaluated, given_value, or_bad_argument, result_then, set_value, unset_value}
use Rattle.tf_plan_object.specs.Laws.{ConversionGrows, InstancesGrow}
use Rattle.tf_plan_object.specs.Planned.{fault_at, attribute_faults, with_value, planned_entries, planned_object}
use Rattle.tf_plan_object.specs.declared.argument.ArgumentFault.{ArgumentFault}
use Rattle.tf_plan_object.proofs.Named.{both_empty, faultless, object_is, instance_is}

-- what holds of values, expressions and environments: all of them grow
pub record Known : Type 0 where
  pub same : RefinementIsReflexive
  pub lists : ListsRefine
  pub meaning : ExprKnowledgeGrows
  pub seen : InstanceEnvironmentsGrow

text_kept : (s r : List ℕ) (v w : Tree) → s ≡ r → ◌≡◌ {A = Option Tree} (Some (text s)) (Some v) → ◌≡◌ {A = Option Tree} (Some (text r)) (Some w) → Refines v w
text_kept s r v w h p q = let e : text s ≡ v = (cc) in let f : text r ≡ w = (cc) in rw (← e, ← f) h

unknown_kept : (v w : Tree) → ◌≡◌ {A = Option Tree} (Some unknown) (Some v) → Refines v w
unknown_kept v w p = let e : unknown ≡ v = (cc) in rw (← e) tt

pub conversion_grows : ListsRefine → ConversionGrows
conversion_grows lists kinds.Any t u v w h p q = let e : with_lists t ≡ v = (cc) in let f : with_lists u ≡ w = (cc) in rw (← e, ← f) (lists t u h)
conversion_grows lists kinds.String unknown u v w h p q = unknown_kept v w p
conversion_grows lists kinds.String (text s) (text r) v w h p q = text_kept s r v w h p q
conversion_grows lists kinds.String (text s) u v w h p q = absurd h
conversion_grows lists kinds.String (whole y) (whole z) v w h p q = text_kept (signed_decimal y) (signed_decimal z) v w (ap signed_decimal h) p q
conversion_grows lists kinds.String (whole y) u v w h p q = absurd h
conversion_grows lists kinds.String (boolean b) (boolean c) v w h p q =
    text_kept (if b then codes "true" else codes "false") (if c then codes "true" else codes "false") v w (ap (λ (x : Bool). if x then codes "true" else codes "false") h) p q
conversion_grows lists kinds.String (boolean b) u v w h p q = absurd h
conversion_grows lists kinds.String t u v w h p q = absurd (cc)
conversion_grows lists kinds.Number unknown u v w h p q = unknown_kept v w p
conversion_grows lists kinds.Number (whole y) (whole z) v w h p q = let e : whole y ≡ v = (cc) in let f : whole z ≡ w = (cc) in rw (← e, ← f) h
conversion_grows lists kinds.Number (whole y) u v w h p q = absurd h
conversion_grows lists kinds.Number t u v w h p q = absurd (cc)
conversion_grows lists kinds.Bool unknown u v w h p q = unknown_kept v w p
conversion_grows lists kinds.Bool (boolean b) (boolean c) v w h p q = let e : boolean b ≡ v = (cc) in let f : boolean c ≡ w = (cc) in rw (← e, ← f) h
conversion_grows lists kinds.Bool (boolean b) u v w h p q = absurd h
conversion_grows lists kinds.Bool t u v w h p q = absurd (cc)

same_result : RefinementIsReflexive → (r : Result Tree ArgumentFault) (v w : Tree) → r ≡ Ok v → r ≡ Ok w → Refines v w
same_result same r v w p q = let e : v ≡ w = (cc) in rw (← e) (same v)

good_is : (o : Option Tree) (v : Tree) → or_bad_argument o ≡ Ok v → o ≡ Some v
good_is None v h = absurd (cc)
good_is (Some t) v h = cc

set_grows : (known : Known) (mode : Mode) (kind : Kind) (t u v w : Tree) → Refines t u → set_value mode kind t ≡ Ok v → set_value mode kind u ≡ Ok w → Refines v w
set_grows known modes.Computed kind t u v w h p q = absurd (cc)
set_grows known modes.Required kind t u v w h p q = conversion_grows known.lists kind t u v w h (good_is (converted kind t) v p) (good_is (converted kind u) w q)
set_grows known modes.Optional kind t u v w h p q = conversion_grows known.lists kind t u v w h (good_is (converted kind t) v p) (good_is (converted kind u) w q)

unknown_converted : (kind : Kind) → converted kind unknown ≡ Some unknown
unknown_converted kinds.Any = refl
unknown_converted kinds.String = refl
unknown_converted kinds.Number = refl
unknown_converted kinds.Bool = refl

-- an unknown value that is set stays unknown
unknown_set : (mode : Mode) (kind : Kind) (v w : Tree) → set_value mode kind unknown ≡ Ok v → Refines v w
unknown_set modes.Computed kind v w h = absurd (cc)
unknown_set modes.Required kind v w h = let e = unknown_converted kind in unknown_kept v w (rw e at (good_is (converted kind unknown) v h))
unknown_set modes.Optional kind v w h = let e = unknown_converted kind in unknown_kept v w (rw e at (good_is (converted kind unknown) v h))

-- null stays null; what isn't known yet may turn out null
given_grows : (known : Known) (mode : Mode) (kind : Kind) (t u v w : Tree) → Refines t u → given_value mode kind t ≡ Ok v → given_value mode kind u ≡ Ok w → Refines v w
given_grows known mode kind null null v w h p q = same_result known.same (unset_value mode) v w p q
given_grows known mode kind null u v w h p q = absurd h
given_grows known mode kind unknown u v w h p q = unknown_set mode kind v w p
given_grows known mode kind t null v w h p q = absurd h
given_grows known mode kind t u v w h p q = set_grows known mode kind t u v w h p q

valued : (r : Answer) (next : Tree → Result Tree ArgumentFault) (v : Tree) → result_then next (evaluated r) ≡ Ok v → (t : Tree) × (r ≡ Ok t) × (next t ≡ Ok v)
valued (Ok t) next v h = (t, refl, h)
valued (Err why) next v h = absurd (cc)

attribute_grows : (known : Known) (e f : Environment) → RefinesTo e f → (a : AttributeView) (argument : Option expr.Tree) (v w : Tree)
    → attribute_value e a argument ≡ Ok v → attribute_value f a argument ≡ Ok w → Refines v w
attribute_grows known e f h a None v w p q = same_result known.same (unset_value a.mode) v w p q
attribute_grows known e f h a (Some x) v w p q =
    let s = valued (meaning e x) (given_value a.mode a.kind) v p in
    let t = valued (meaning f x) (given_value a.mode a.kind) w q in
    given_grows known a.mode a.kind s.0 t.0 v w (known.meaning e f h x s.0 t.0 s.1 t.1) s.2 t.2

with_values : (name : List ℕ) (p q : Result Tree ArgumentFault) (es fs : Entries) → fault_at name p ≡ [] → fault_at name q ≡ [] → ((v w : Tree) → p ≡ Ok v → q ≡ Ok w → Refines v w) → RefinesEntries es fs
    → RefinesEntries (with_value name p es) (with_value name q fs)
with_values name (Ok v) (Ok w) es fs h k grows rest = (refl, grows v w refl refl, rest)
with_values name (Ok v) (Err why) es fs h k grows rest = absurd (cc)
with_values name (Err why) q es fs h k grows rest = absurd (cc)

entries_grow : (known : Known) (e f : Environment) → RefinesTo e f → (attributes : List AttributeView) (arguments : expr.Entries) → attribute_faults attributes e arguments ≡ [] → attribute_faults attributes f arguments ≡ []
    → RefinesEntries (planned_entries attributes e arguments) (planned_entries attributes f arguments)
entries_grow known e f h [] arguments p q = tt
entries_grow known e f h (a ∷ others) arguments p q =
    let argument = expr.get a.name arguments in
    let before = both_empty (fault_at a.name (attribute_value e a argument)) (attribute_faults others e arguments) p in
    let after = both_empty (fault_at a.name (attribute_value f a argument)) (attribute_faults others f arguments) q in
    with_values a.name (attribute_value e a argument) (attribute_value f a argument) (planned_entries others e arguments) (planned_entries others f arguments) before.0 after.0
    (λ v w x y. attribute_grows known e f h a argument v w x y) (entries_grow known e f h others arguments before.1 after.1)

object_grows : (known : Known) (schema : SchemaView) (e f : Environment) → RefinesTo e f → (arguments : expr.Entries) (t u : Tree)
    → planned_object schema e arguments ≡ Ok t → planned_object schema f arguments ≡ Ok u → Refines t u
object_grows known schema e f h arguments t u p q =
    let before = object_is schema e arguments t p in
    let after = object_is schema f arguments u q in
    rw (← before.1, ← after.1) (entries_grow known e f h schema.attributes arguments (faultless schema e arguments before.0) (faultless schema f arguments after.0))

pub instances_grow : Known → InstancesGrow
instances_grow known schema block key one other t u h p q =
    let before = instance_is schema block.arguments (instance_environment block.repetition key one) t p in
    let after = instance_is schema block.arguments (instance_environment block.repetition key other) u q in
    object_grows known schema before.0 after.0 (known.seen block.repetition key one other before.0 after.0 h before.1 after.1) block.arguments t u before.2 after.2
