-- Where all that names stand for is known, so is what arguments make, but for what the provider makes.
use Rattle.std.proofs.Common.{◌≡◌, ◌∙◌, ℕ, pos, Bool, true, false, ◌||◌, ◌&&◌, cond, if◌then◌else◌, Option, Some, None, List, [], ◌∷◌, map as each, Result, Ok, Err, refl, sym, ap, subst, codes}
use Rattle.std.specs.Prelude.{find}
use Rattle.std.specs.Fmt.{signed_decimal}
use Rattle.std.specs.List.{AllByRecursion, list_all}
use Rattle.std.specs.Option.{option_map_or}
use Rattle.std.specs.Str.{bytes_eq}
use Rattle.std.proofs.lemmas.Slice.Eq.{bytes_eq-Decides}
use Rattle.tf_config_address.specs.ObjectId as keys
use Rattle.tf_config_address.specs.ObjectId.{InstanceKeyView}
use Rattle.tf_plan_object.proofs.Named.{all_named, both_empty, faultless, object_is, instance_is}
use Rattle.tf_plan_object.specs.Argument.{attribute_value, converted, evaluated, given_value, or_bad_argument, result_then, set_value, unset_value}
use Rattle.tf_plan_object.specs.Planned.{attribute_faults, fault_at, planned_entries, with_value}
use Rattle.tf_plan_object.specs.declared.argument.ArgumentFault.{ArgumentFault}
use Rattle.tf_config_data.specs.Config.{RepetitionView, single, count, for_each}
use Rattle.tf_plan_decision.proofs.Aligned.{apart, same_name}
use Rattle.tf_plan_decision.proofs.Equal.{known_at}
use Rattle.tf_plan_object.specs.Kept.{is_computed, is_ignored}
use Rattle.tf_plan_decision.specs.Laws.{is_settled}
use Rattle.tf_expand_keys.specs.Instance.{bound, count_index, each_key, each_value, instance_constants, instance_environment, value_under}
use Rattle.tf_expr_eval.proofs.Alone.{split}
use Rattle.tf_expr_eval.specs.Constants.{ConstantView}
use Rattle.tf_expr_eval.specs.Environment.{Environment}
use Rattle.tf_expr_eval.specs.ExprMeaning.{meaning}
use Rattle.tf_expr_eval.specs.Meaning.{and_then}
use Rattle.tf_expr_operators.specs.Answer.{Answer, present_value, whole_value}
use Rattle.tf_expr_syntax.specs.declared.fault.EvalFault.{EvalFault}
use Rattle.tf_expr_syntax.specs.declared.fault.EvalFault.TheVariants.{Overflow}
use Rattle.tf_provider_protocol.specs.Schema.{AttributeView, SchemaView, ascends, attribute_named, is_below}
use Rattle.tf_provider_protocol.specs.Verdict.{same_names}
use Rattle.tf_provider_protocol.specs.declared.schema.Kind.{Kind}
use Rattle.tf_provider_protocol.specs.declared.schema.Kind.TheVariants as kinds
use Rattle.tf_provider_protocol.specs.declared.schema.Mode.{Mode}
use Rattle.tf_provider_protocol.specs.declared.schema.Mode.TheVariants as modes
use Rattle.tf_expr_syntax.specs.ExprTree as expr
use Rattle.tf_value_data.proofs.Conjunction.{and-first, and-second, and-both}
use Rattle.tf_value_data.proofs.WithLists.{lists-known}
use Rattle.tf_value_data.specs.Known.{known}
use Rattle.tf_value_data.specs.Sets.{with_lists}
use Rattle.tf_value_data.specs.Tree.{Tree, null, boolean, whole, text, map, set, unknown, Entries, no_entries, entry, get, keys_of}
use Rattle.tf_laws.specs.Known.{IsKnown, ExpressionsStayKnown}
use Rattle.tf_laws.specs.InstancesAtRest.{ObjectsAreSettled}

-- ---- what the arguments of an instance see

known_is : (t v : Tree) → known t ≡ true → ◌≡◌ {A = Answer} (Ok t) (Ok v) → known v ≡ true
known_is t v k e = let same : t ≡ v = (cc) in subst (λ (x : Tree). known x ≡ true) same k

whole_known : (fits : Bool) (n : ℕ) (v : Tree) → ◌≡◌ {A = Answer} (if fits then Ok (whole (pos n)) else Err Overflow) (Ok v) → known v ≡ true
whole_known true n v e = known_is (whole (pos n)) v refl e
whole_known false n v e = absurd (cc)

present_known : (o : Option Tree) (v : Tree) → option_map_or known o true ≡ true → present_value o ≡ Ok v → known v ≡ true
present_known None v k e = absurd (cc)
present_known (Some t) v k e = known_is t v k e

under_known : (key : List ℕ) (t v : Tree) → known t ≡ true → value_under key t ≡ Ok v → known v ≡ true
under_known key (set texts) v k e = known_is (text key) v refl e
under_known key (map es) v k e = present_known (get key es) v (known_at es key k) e
under_known key _ v k e = absurd (cc)

either_known : (b : Bool) (t : Tree) (rest : Answer) (v : Tree) → known t ≡ true → (rest ≡ Ok v → known v ≡ true) → ◌≡◌ {A = Answer} (if b then Ok t else rest) (Ok v) → known v ≡ true
either_known true t rest v k h e = known_is t v k e
either_known false t rest v k h e = h e

abbrev AreKnown : List ConstantView → Type 0
AreKnown constants = AllByRecursion (λ c. known c.value ≡ true) constants

bound_known : (cs : List ConstantView) (env : Environment) → AreKnown cs → IsKnown env → IsKnown (bound cs env)
bound_known [] env all is first name v e = is first name v e
bound_known (c ∷ cs) env all is first name v e =
    either_known (bytes_eq c.first first && bytes_eq c.name name) c.value (bound cs env first name) v all.0 (λ f. bound_known cs env all.1 is first name v f) e

are_known : (cs ds : List ConstantView) → AreKnown cs → ◌≡◌ {A = Result (List ConstantView) EvalFault} (Ok cs) (Ok ds) → AreKnown ds
are_known cs ds all e = let same : cs ≡ ds = (cc) in subst AreKnown same all

constants_known : ExpressionsStayKnown → (repetition : RepetitionView) (key : InstanceKeyView) (env : Environment) (cs : List ConstantView) → IsKnown env → instance_constants repetition key env ≡ Ok cs → AreKnown cs
constants_known law single key env cs is e = are_known [] cs tt e
constants_known law (count x) keys.single env cs is e = are_known [] cs tt e
constants_known law (count x) (keys.number n) env cs is e =
    let found = split (whole_value (pos n)) (λ t. Ok (count_index t ∷ [])) cs e in
    are_known (count_index found.0 ∷ []) cs (whole_known _ n found.0 found.1, tt) found.2
constants_known law (count x) (keys.name s) env cs is e = are_known [] cs tt e
constants_known law (for_each x) keys.single env cs is e = are_known [] cs tt e
constants_known law (for_each x) (keys.number n) env cs is e = are_known [] cs tt e
constants_known law (for_each x) (keys.name s) env cs is e =
    let all = split (meaning env x) (λ t. and_then (value_under s t) (λ u. Ok (each_key s ∷ each_value u ∷ []))) cs e in
    let own = split (value_under s all.0) (λ u. Ok (each_key s ∷ each_value u ∷ [])) cs all.2 in
    are_known (each_key s ∷ each_value own.0 ∷ []) cs (refl, (under_known s all.0 own.0 (law env x all.0 is all.1) own.1, tt)) own.2

-- where all that names stand for is known, so is what an instance's arguments see
pub seen_known : ExpressionsStayKnown → (repetition : RepetitionView) (key : InstanceKeyView) (env seen : Environment) → IsKnown env → instance_environment repetition key env ≡ Ok seen → IsKnown seen
seen_known law repetition key env seen is e =
    let found = split (instance_constants repetition key env) (λ cs. Ok (bound cs env)) seen e in
    let same : bound found.0 env ≡ seen = seen_is (bound found.0 env) seen found.2 in
    subst IsKnown same (bound_known found.0 env (constants_known law repetition key env found.0 is found.1) is)
  where
    seen_is : (f g : Environment) → ◌≡◌ {A = Result Environment EvalFault} (Ok f) (Ok g) → f ≡ g
    seen_is f g h = cc

-- ---- what an argument makes

known_some : (t v : Tree) → known t ≡ true → Some t ≡ Some v → known v ≡ true
known_some t v k e = let same : t ≡ v = (cc) in subst (λ (x : Tree). known x ≡ true) same k

converted_known : (kind : Kind) (t v : Tree) → known t ≡ true → converted kind t ≡ Some v → known v ≡ true
converted_known kinds.Any t v k e = known_some (with_lists t) v (lists-known t ∙ k) e
converted_known kinds.String unknown v k e = absurd (cc)
converted_known kinds.String (text s) v k e = known_some (text s) v refl e
converted_known kinds.String (whole z) v k e = known_some (text (signed_decimal z)) v refl e
converted_known kinds.String (boolean b) v k e = known_some (text (if b then codes "true" else codes "false")) v refl e
converted_known kinds.String _ v k e = absurd (cc)
converted_known kinds.Number unknown v k e = absurd (cc)
converted_known kinds.Number (whole z) v k e = known_some (whole z) v refl e
converted_known kinds.Number _ v k e = absurd (cc)
converted_known kinds.Bool unknown v k e = absurd (cc)
converted_known kinds.Bool (boolean b) v k e = known_some (boolean b) v refl e
converted_known kinds.Bool _ v k e = absurd (cc)

good_is : (o : Option Tree) (v : Tree) → or_bad_argument o ≡ Ok v → o ≡ Some v
good_is None v e = absurd (cc)
good_is (Some t) v e = cc

fine_known : (t v : Tree) → known t ≡ true → ◌≡◌ {A = Result Tree ArgumentFault} (Ok t) (Ok v) → known v ≡ true
fine_known t v k e = let same : t ≡ v = (cc) in subst (λ (x : Tree). known x ≡ true) same k

-- a value is known, or its attribute is computed
unset_settled : (mode : Mode) (v : Tree) → unset_value mode ≡ Ok v → (is_computed mode || known v) ≡ true
unset_settled modes.Required v e = absurd (cc)
unset_settled modes.Optional v e = fine_known null v refl e
unset_settled modes.Computed v e = refl

set_settled : (mode : Mode) (kind : Kind) (t v : Tree) → known t ≡ true → set_value mode kind t ≡ Ok v → (is_computed mode || known v) ≡ true
set_settled modes.Computed kind t v k e = refl
set_settled modes.Required kind t v k e = converted_known kind t v k (good_is (converted kind t) v e)
set_settled modes.Optional kind t v k e = converted_known kind t v k (good_is (converted kind t) v e)

given_settled : (mode : Mode) (kind : Kind) (t v : Tree) → known t ≡ true → given_value mode kind t ≡ Ok v → (is_computed mode || known v) ≡ true
given_settled mode kind null v k e = unset_settled mode v e
given_settled mode kind t v k e = set_settled mode kind t v k e

valued : (r : Answer) (next : Tree → Result Tree ArgumentFault) (v : Tree) → result_then next (evaluated r) ≡ Ok v → (t : Tree) × (r ≡ Ok t) × (next t ≡ Ok v)
valued (Ok t) next v h = (t, refl, h)
valued (Err why) next v h = absurd (cc)

attribute_settled : ExpressionsStayKnown → (env : Environment) → IsKnown env → (a : AttributeView) (argument : Option expr.Tree) (v : Tree) → attribute_value env a argument ≡ Ok v → (is_computed a.mode || known v) ≡ true
attribute_settled law env is a None v e = unset_settled a.mode v e
attribute_settled law env is a (Some x) v e =
    let found = valued (meaning env x) (given_value a.mode a.kind) v e in given_settled a.mode a.kind found.0 v (law env x found.0 is found.1) found.2

-- ---- what arguments make, attribute by attribute

-- a test of each attribute with the value that stands at its place
abbrev each_pair : (AttributeView → Tree → Bool) → List AttributeView → Entries → Bool
each_pair q [] es = true
each_pair q (a ∷ others) no_entries = true
each_pair q (a ∷ others) (entry k t es) = q a t && each_pair q others es

pair_first : (q : AttributeView → Tree → Bool) (a : AttributeView) (p : Result Tree ArgumentFault) (es : Entries) (others : List AttributeView) → fault_at a.name p ≡ [] → ((v : Tree) → p ≡ Ok v → q a v ≡ true)
    → each_pair q others es ≡ true → each_pair q (a ∷ others) (with_value a.name p es) ≡ true
pair_first q a (Ok v) es others f s rest = and-both (q a v) (each_pair q others es) (s v refl) rest
pair_first q a (Err why) es others f s rest = absurd (cc)

pairs_settled : ExpressionsStayKnown → (env : Environment) → IsKnown env → (attributes : List AttributeView) (arguments : expr.Entries) → attribute_faults attributes env arguments ≡ []
    → each_pair (λ a t. is_computed a.mode || known t) attributes (planned_entries attributes env arguments) ≡ true
pairs_settled law env is [] arguments h = refl
pairs_settled law env is (a ∷ others) arguments h =
    let planned = attribute_value env a (expr.get a.name arguments) in
    let both = both_empty (fault_at a.name planned) (attribute_faults others env arguments) h in
    pair_first (λ b t. is_computed b.mode || known t) a planned (planned_entries others env arguments) others both.0
    (λ v e. attribute_settled law env is a (expr.get a.name arguments) v e) (pairs_settled law env is others arguments both.1)

later : (q : AttributeView → Option Tree → Bool) (k : List ℕ) (t : Tree) (es : Entries) (others : List AttributeView) → list_all (λ b. is_below k b.name) others ≡ true
    → list_all (λ b. q b (get b.name (entry k t es))) others ≡ list_all (λ b. q b (get b.name es)) others
later q k t es [] h = refl
later q k t es (b ∷ others) h =
    ap (λ (c : Bool). q b (cond c (Some t) (get b.name es)) && list_all (λ a. q a (get a.name (entry k t es))) others) (apart k b.name (and-first (is_below k b.name) _ h))
    ∙ ap (λ (c : Bool). q b (get b.name es) && c) (later q k t es others (and-second (is_below k b.name) _ h))

-- what holds pair by pair holds of what stands under each attribute's name
by_name : (q : AttributeView → Option Tree → Bool) (attributes : List AttributeView) (es : Entries) → same_names (keys_of es) (each (λ a. a.name) attributes) ≡ true → ascends attributes ≡ true
    → each_pair (λ a t. q a (Some t)) attributes es ≡ true → list_all (λ a. q a (get a.name es)) attributes ≡ true
by_name q [] es same up all = refl
by_name q (a ∷ others) no_entries same up all = absurd (cc)
by_name q (a ∷ others) (entry k t es) same up all =
    let is : k ≡ a.name = (bytes_eq-Decides k a.name).0 (and-first (bytes_eq k a.name) _ same) in
    let found : bytes_eq a.name k ≡ true = (bytes_eq-Decides a.name k).1 (sym is) in
    let here : q a (get a.name (entry k t es)) ≡ true = ap (λ (b : Bool). q a (cond b (Some t) (get a.name es))) found ∙ and-first (q a (Some t)) _ all in
    let below : list_all (λ b. is_below k b.name) others ≡ true = subst (λ (n : List ℕ). list_all (λ b. is_below n b.name) others ≡ true) (sym is) (and-first (list_all (λ b. is_below a.name b.name) others) _ up) in
    let rest = by_name q others es (and-second (bytes_eq k a.name) _ same) (and-second (list_all (λ b. is_below a.name b.name) others) _ up) (and-second (q a (Some t)) _ all) in
    and-both (q a (get a.name (entry k t es))) _ here (later q k t es others below ∙ rest)

-- ---- each attribute is found by its name

not_same : (k name : List ℕ) → is_below k name ≡ true → bytes_eq k name ≡ false
not_same k name h = by_test (bytes_eq k name) refl
  where
    by_test : (b : Bool) → bytes_eq k name ≡ b → bytes_eq k name ≡ false
    by_test false e = e
    by_test true e =
        let turned : bytes_eq name k ≡ true = (bytes_eq-Decides name k).1 (sym ((bytes_eq-Decides k name).0 e)) in
        let other : bytes_eq name k ≡ false = apart k name h in
        absurd (cc)

found_later : (x : AttributeView) (xs ys : List AttributeView) → list_all (λ b. is_below x.name b.name) ys ≡ true → AllByRecursion (λ a. find (λ b. bytes_eq b.name a.name) xs ≡ Some a) ys
    → AllByRecursion (λ a. find (λ b. bytes_eq b.name a.name) (x ∷ xs) ≡ Some a) ys
found_later x xs [] below h = tt
found_later x xs (y ∷ ys) below h = (
  ap (λ (c : Bool). cond c (Some x) (find (λ b. bytes_eq b.name y.name) xs)) (not_same x.name y.name (and-first (is_below x.name y.name) _ below)) ∙ h.0,
  found_later x xs ys (and-second (is_below x.name y.name) _ below) h.1,
)

found_by_name : (xs : List AttributeView) → ascends xs ≡ true → AllByRecursion (λ a. find (λ b. bytes_eq b.name a.name) xs ≡ Some a) xs
found_by_name [] up = tt
found_by_name (x ∷ xs) up = (
  ap (λ (c : Bool). cond c (Some x) (find (λ b. bytes_eq b.name x.name) xs)) (same_name x.name),
  found_later x xs xs (and-first (list_all (λ b. is_below x.name b.name) xs) _ up) (found_by_name xs (and-second (list_all (λ b. is_below x.name b.name) xs) _ up)),
)

any_of : (c i k : Bool) → (c || k) ≡ true → ((c || i) || k) ≡ true
any_of true i k h = refl
any_of false true k h = refl
any_of false false k h = h

settled_by_name : (schema : SchemaView) (ignored : List (List ℕ)) (es : Entries) (attributes : List AttributeView) → AllByRecursion (λ a. attribute_named a.name schema ≡ Some a) attributes
    → list_all (λ a. is_computed a.mode || option_map_or known (get a.name es) false) attributes ≡ true → list_all (is_settled schema ignored (map es)) attributes ≡ true
settled_by_name schema ignored es [] named h = refl
settled_by_name schema ignored es (a ∷ others) named h =
    let here : is_settled schema ignored (map es) a ≡ true =
    ap (λ (o : Option AttributeView). (option_map_or (λ b. is_computed b.mode) o false || is_ignored ignored a.name) || option_map_or known (get a.name es) false) named.0
    ∙ any_of (is_computed a.mode) (is_ignored ignored a.name) (option_map_or known (get a.name es) false) (and-first (is_computed a.mode || option_map_or known (get a.name es) false) _ h) in
    and-both (is_settled schema ignored (map es) a) _ here
    (settled_by_name schema ignored es others named.1 (and-second (is_computed a.mode || option_map_or known (get a.name es) false) _ h))

pub objects_settled : ExpressionsStayKnown → ObjectsAreSettled
objects_settled law schema ignored block key env t good is h =
    let at = instance_is schema block.arguments (instance_environment block.repetition key env) t h in
    let object = object_is schema at.0 block.arguments t at.2 in
    let none = faultless schema at.0 block.arguments object.0 in
    let es = planned_entries schema.attributes at.0 block.arguments in
    let named = all_named schema.attributes at.0 block.arguments none in
    let all = by_name (λ a o. is_computed a.mode || option_map_or known o false) schema.attributes es named good.ascending (pairs_settled law at.0 (seen_known law block.repetition key env at.0 is at.1) schema.attributes block.arguments none) in
    subst (λ (u : Tree). list_all (is_settled schema ignored u) schema.attributes ≡ true) object.1 (settled_by_name schema ignored es schema.attributes (found_by_name schema.attributes good.ascending) all)
