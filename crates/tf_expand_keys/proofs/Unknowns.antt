-- Objects of which nothing is known: they stand together, where they aren't too many, and so each name stands for something where none is refused.
use Rattle.std.proofs.Common.{◌≡◌, ◌≤◌, ◌+◌, ℕ, false, nat_le, List, [], ◌∷◌, map as each, length, Some, Err, option_map, refl, arith, ◌<◌, zero, suc, true, if◌then◌else◌, Option, None, is_some, Result, Ok, sym, ap, ◌∙◌}
use Rattle.std.proofs.lemmas.Bool.{lt-leb}
use Rattle.std.proofs.lemmas.List.FromFn.{length-map-range_with_len}
use Rattle.tf_config_address.specs.ObjectId.{InstanceKeyView, number}
use Rattle.tf_value_data.specs.Measure.{weight_of_items, max_weight}
use Rattle.tf_value_data.specs.Tree.{unknown, items_of, Tree}
use Rattle.tf_expr_operators.specs.Answer.{limited}
use Rattle.tf_expr_syntax.specs.declared.fault.EvalFault.TheVariants.{TooLarge}
use Rattle.tf_expand_keys.specs.InstanceKeys.{InstanceKeysView, many, instance_keys, objects_at, collected, one, named, list_of, map_under}
use Rattle.tf_expand_keys.specs.Resolved.{ResolvedView, together, stands_at, where_all, all_stand, environment}
use Rattle.std.specs.List.{AllByRecursion}
use Rattle.tf_config_data.specs.Names.{NameView, Meant, a_local, a_block, meant_at, directly_before}
use Rattle.tf_graph.specs.Solutions.{seen_by}
use Rattle.tf_expr_eval.specs.Environment.{Environment}
use Rattle.tf_expr_eval.proofs.Locality.{expressions_local}
use Rattle.tf_expand_keys.specs.Repetition.{instances}
use Rattle.tf_expand_keys.specs.Stages.{expansion, fine}
use Rattle.tf_expand_keys.specs.declared.repetition.RepetitionFault.{RepetitionFault}
use Rattle.tf_expand_keys.proofs.Locals.{all_seen, expansion_local}
use Rattle.tf_expand_keys.proofs.Places.{along, names_stay}
use Rattle.tf_expand_keys.specs.Expanding.{shape_in}
use Rattle.tf_expand_keys.specs.ExpansionLaws.{AllStandWhereNoneIsRefused}

all_unknown : (ks : List InstanceKeyView) → objects_at (λ key. Some unknown) ks ≡ Some (each (λ key. unknown) ks)
all_unknown [] = refl
all_unknown (k ∷ ks) = rw (all_unknown ks) refl

unknown_weight : (ks : List InstanceKeyView) → weight_of_items (items_of (each (λ key. unknown) ks)) ≡ length ks
unknown_weight [] = refl
unknown_weight (k ∷ ks) = let rest : weight_of_items (items_of (each (λ key. unknown) ks)) ≡ length ks = unknown_weight ks in omega arith

-- a list of a million objects or more is too large
pub shape_too_many : (shape : InstanceKeysView) (n : ℕ) → shape ≡ many n → max_weight ≤ n → ◌≡◌ {A = ResolvedView} (Some (Err TooLarge)) (option_map limited (collected shape (λ key. Some unknown)))
shape_too_many shape n is h =
    let ks = instance_keys (many n) in
    let count : length ks ≡ n = length-map-range_with_len number 0 n in
    let heavy = unknown_weight ks in
    let fails : nat_le (1 + weight_of_items (items_of (each (λ key. unknown) ks))) max_weight ≡ false = lt-leb _ max_weight (omega (arith, h, count, heavy)) in
    rw (is, all_unknown ks, fails) refl

stand_together : (shape : InstanceKeysView) → (t : Tree) × (collected shape (λ key. Some unknown) ≡ Some t)
stand_together one = (unknown, refl)
stand_together (many n) = (list_of _, ap (option_map list_of) (all_unknown (instance_keys (many n))))
stand_together (named names) = (map_under names _, ap (option_map (map_under names)) (all_unknown (instance_keys (named names))))

-- a resource whose instances are told stands for something
block_stands : (worked : Result InstanceKeysView RepetitionFault) (shape : InstanceKeysView) → worked ≡ Ok shape → is_some (together (fine worked) (λ key. Some unknown)) ≡ true
block_stands (Ok s) shape h = rw ((stand_together s).1) refl
block_stands (Err why) shape h = absurd (cc)

meant_stands : (m : Option Meant) (n : ℕ) (env : Environment) (shape : InstanceKeysView) → (m ≡ None → ⊥) → shape_in m env ≡ Ok shape → is_some (stands_at expansion n m env) ≡ true
meant_stands None n env shape some h = absurd (some refl)
meant_stands (Some (a_local e)) n env shape some h = refl
meant_stands (Some (a_block b)) n env shape some h = block_stands (instances b.repetition env) shape h

meant_at-inside : (names : List NameView) (n : ℕ) → n < length names → meant_at names n ≡ None → ⊥
meant_at-inside [] n h e = absurd (omega arith)
meant_at-inside (name ∷ names) zero h e = absurd (cc)
meant_at-inside (name ∷ names) (suc n) h e = meant_at-inside names n (omega arith) e

all_seen-stand : (resolved_names : ℕ → ResolvedView) (ns : List ℕ) → AllByRecursion (λ a. is_some (resolved_names a) ≡ true) ns → all_stand (seen_by resolved_names ns) ≡ true
all_seen-stand resolved_names [] h = refl
all_seen-stand resolved_names (a ∷ ns) h = rw h.0 (all_seen-stand resolved_names ns h.1)

pub all_standing : AllStandWhereNoneIsRefused
all_standing variables names resolved_names shapes ranked solves each =
    along (length names) (directly_before names) (λ n. is_some (resolved_names n) ≡ true) ranked (names_stay names)
    (λ n h before.
    let env = environment variables names resolved_names in
    let m = meant_at names n in
    let all : all_stand (seen_by resolved_names (directly_before names n)) ≡ true = all_seen-stand resolved_names (directly_before names n) before in
    let told : shape_in m env ≡ Ok (shapes n) = ap (λ b. if b then shape_in m env else Ok one) (sym all) ∙ each n h in
    ap is_some (all_seen expressions_local expansion variables names resolved_names (expansion_local expressions_local) solves n h)
    ∙ ap (λ b. is_some (where_all b (stands_at expansion n m env))) all
    ∙ meant_stands m n env (shapes n) (meant_at-inside names n h) told)
