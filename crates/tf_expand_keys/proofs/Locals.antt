-- What blocks and names stand for depends on what they refer to alone.
use Rattle.std.proofs.Common.{◌≡◌, ◌++◌, ℕ, List, [], ◌∷◌, map as each, Option, Some, None, option_map, refl, sym, ap, ◌∙◌}
use Rattle.std.specs.List.{AllByRecursion}
use Rattle.tf_config_address.specs.ObjectId.{InstanceKeyView}
use Rattle.tf_config_data.specs.Config.{BlockView, RepetitionView, single, count, for_each}
use Rattle.tf_config_data.specs.Names.{NameView, Meant, a_local, a_block, meant_at, refers_at, block_refers, named_in_repetition, addr_pair, directly_before}
use Rattle.tf_graph.specs.Solutions.{seen_by}
use Rattle.tf_expr_syntax.specs.ExprNames.{named_below}
use Rattle.tf_expr_syntax.specs.TemplateNames.{Pair}
use Rattle.tf_value_data.specs.Tree.{Tree, Entries, unknown}
use Rattle.tf_expr_operators.specs.Answer.{limited}
use Rattle.tf_expr_eval.specs.Environment.{Environment}
use Rattle.tf_expr_eval.specs.Locality.{AgreeOn, ExpressionsAreLocal}
use Rattle.tf_expr_eval.proofs.Locality.{both_halves}
use Rattle.tf_expand_keys.specs.StandingLaws.{IsLocal, AllAreSeen, ExpansionIsLocal, PlanningIsLocal, ApplyingIsLocal}
use Rattle.tf_expand_keys.specs.Repetition.{instances, counted, keyed}
use Rattle.tf_expand_keys.specs.InstanceKeys.{InstanceKeysView, one, many, named, instance_keys, objects_at, list_of, map_under, collected}
use Rattle.tf_expand_keys.specs.Stages.{fine}
use Rattle.tf_expand_keys.specs.Resolved.{ResolvedView, ResourceValuesView, stands_at, together, where_all, all_stand, environment, result_in}
use Rattle.tf_expand_keys.proofs.Seen.{agree_on, same_seen}

-- what `count` or `for_each` names decides the instances
pub instances_local : ExpressionsAreLocal → (repetition : RepetitionView) (e f : Environment) → AgreeOn e f (named_in_repetition repetition) → instances repetition e ≡ instances repetition f
instances_local law single e f h = refl
instances_local law (count t) e f h = ap counted (law e f t h)
instances_local law (for_each t) e f h = ap keyed (law e f t h)

objects_same : (f g : InstanceKeyView → Option Tree) (ks : List InstanceKeyView) → ((key : InstanceKeyView) → f key ≡ g key) → objects_at f ks ≡ objects_at g ks
objects_same f g [] h = refl
objects_same f g (k ∷ ks) h = rw (h k, objects_same f g ks h) refl

laid_same : (f g : InstanceKeyView → Option Tree) (shape : InstanceKeysView) → ((key : InstanceKeyView) → f key ≡ g key) → collected shape f ≡ collected shape g
laid_same f g one h = h _
laid_same f g (many n) h = ap (option_map list_of) (objects_same f g (instance_keys (many n)) h)
laid_same f g (named names) h = ap (option_map (map_under names)) (objects_same f g (instance_keys (named names)) h)

pub together_same : (f g : InstanceKeyView → Option Tree) (shape : Option InstanceKeysView) → ((key : InstanceKeyView) → f key ≡ g key) → together shape f ≡ together shape g
together_same f g None h = refl
together_same f g (Some shape) h = ap (λ o. option_map limited o) (laid_same f g shape h)

-- a block's instances depend on what it refers to alone
pub block_local : ExpressionsAreLocal → (block : BlockView) (e f : Environment) → AgreeOn e f (block_refers block)
    → instances block.repetition e ≡ instances block.repetition f
block_local law block e f h =
    let agree : Pair → Type 0 = λ pair. e pair.0 pair.1 ≡ f pair.0 pair.1 in
    let outer = both_halves agree (named_in_repetition block.repetition ++ named_below block.arguments) (each addr_pair block.depends_on) h in
    instances_local law block.repetition e f (both_halves agree (named_in_repetition block.repetition) (named_below block.arguments) outer.0).0

pub expansion_local : ExpressionsAreLocal → ExpansionIsLocal
expansion_local law n block e f h = ap (λ r. together (fine r) (λ key. Some unknown)) (block_local law block e f h)

pub planning_local : PlanningIsLocal
planning_local shapes planned local n block e f h =
    together_same (planned n block e) (planned n block f) (Some (shapes n)) (λ key. local n block e f key h)

pub applying_local : ApplyingIsLocal
applying_local shapes objects n block e f h = refl

stands_local : ExpressionsAreLocal → (stage : ResourceValuesView) → IsLocal stage → (n : ℕ) (m : Option Meant) (e f : Environment) → AgreeOn e f (refers_at m) → stands_at stage n m e ≡ stands_at stage n m f
stands_local law stage local n None e f h = refl
stands_local law stage local n (Some (a_local t)) e f h = ap Some (law e f t h)
stands_local law stage local n (Some (a_block b)) e f h = local n b e f h

-- what stands directly before a name decides what it stands for
pub sees : ExpressionsAreLocal → (stage : ResourceValuesView) (variables : Entries) (names : List NameView) (resolved_names others : ℕ → ResolvedView) → IsLocal stage → (n : ℕ)
    → AllByRecursion (λ a. resolved_names a ≡ others a) (directly_before names n)
    → stands_at stage n (meant_at names n) (environment variables names resolved_names) ≡ stands_at stage n (meant_at names n) (environment variables names others)
sees law stage variables names resolved_names others local n h =
    stands_local law stage local n (meant_at names n) (environment variables names resolved_names) (environment variables names others)
    (agree_on variables names resolved_names others (refers_at (meant_at names n)) h)

pub all_seen : ExpressionsAreLocal → AllAreSeen
all_seen law stage variables names resolved_names local solves n h =
    solves n h ∙ ap (where_all (all_stand (seen_by resolved_names (directly_before names n))))
    (sym (sees law stage variables names resolved_names (result_in (seen_by resolved_names (directly_before names n))) local n (same_seen resolved_names (directly_before names n))))
