-- What names stand for grows where resources do, and so it does from stage to stage.
use Rattle.std.proofs.Common.{◌≡◌, ◌<◌, ◌==◌, ℕ, Bool, true, List, [], ◌∷◌, length, codes, Option, Some, None, Ok, refl, ◌&&◌, pos, Result, sym, ap}
use Rattle.std.specs.List.{AllByRecursion}
use Rattle.std.specs.Str.{bytes_eq}
use Rattle.tf_config_data.specs.Config.{BlockView, RepetitionView, single, count, for_each}
use Rattle.tf_config_data.specs.Names.{NameView, Meant, a_local, a_block, meant_at, refers_at, place_of, directly_before}
use Rattle.tf_graph.specs.Solutions.{seen_by}
use Rattle.tf_graph.proofs.Solving.{solutions-related}
use Rattle.tf_value_data.specs.Tree.{Tree, Entries, get, whole, text, map, set, unknown, keys_of}
use Rattle.tf_value_data.specs.Refinement.{Refines}
use Rattle.tf_expr_operators.specs.Answer.{Answer, present_value, whole_value}
use Rattle.tf_expr_eval.specs.Environment.{Environment, RefinesTo}
use Rattle.tf_expr_eval.specs.Growth.{ExprKnowledgeGrows}
use Rattle.tf_expand_keys.specs.StandingLaws.{Grows, ResolvedNamesGrow, ExpansionGrows, PlanGrows, InstancesStay, InstanceEnvironmentsGrow}
use Rattle.tf_expand_keys.specs.Resolved.{ResolvedView, ResourceValuesView, stands, stands_at, or_missing, answer_at, environment, environment_at, result_in, where_all, all_stand, rule, together}
use Rattle.tf_expand_keys.proofs.Places.{IsPlaceBelow, place_below, all_places, names_stay}
use Rattle.tf_expand_keys.proofs.Refining.{AnswersRefine, either, together_grows, same_keys, get_refines}
use Rattle.tf_config_address.specs.ObjectId as keys
use Rattle.tf_config_address.specs.ObjectId.{InstanceKeyView}
use Rattle.tf_expr_syntax.specs.declared.fault.EvalFault.{EvalFault}
use Rattle.tf_expr_eval.specs.Constants.{ConstantView}
use Rattle.tf_expr_eval.specs.ExprMeaning.{meaning}
use Rattle.tf_expr_eval.specs.Meaning.{and_then}
use Rattle.tf_expand_keys.specs.Instance.{bound, count_index, each_key, each_value, value_under, instance_constants}
use Rattle.tf_expand_keys.specs.Repetition.{instances, counted, keyed, or_bad_for_each}
use Rattle.tf_expand_keys.specs.declared.repetition.RepetitionFault.{RepetitionFault}
use Rattle.tf_expand_keys.specs.InstanceKeys.{InstanceKeysView}
use Rattle.tf_expand_keys.specs.Stages.{expansion, planning, applying, fine}

-- what holds of values alone: a value refines to itself, and knowledge grows
pub record Known : Type 0 where
  pub same : (t : Tree) → Refines t t
  pub meaning : ExprKnowledgeGrows

pub one_answer : (same : (t : Tree) → Refines t t) (r : Answer) → AnswersRefine r r
one_answer same r v w p q = let e : v ≡ w = (cc) in rw (← e) (same v)

seen_grows : (r s : ℕ → ResolvedView) (nodes : List ℕ) (n : ℕ) → AllByRecursion (λ a. Grows (r a) (s a)) nodes → Grows (result_in (seen_by r nodes) n) (result_in (seen_by s nodes) n)
seen_grows r s [] n h v w p q = absurd (cc)
seen_grows r s (a ∷ nodes) n h v w p q =
    either Grows (a == n) (r a) (result_in (seen_by r nodes) n) (s a) (result_in (seen_by s nodes) n) h.0 (seen_grows r s nodes n h.1) v w p q

or_missing_is : (x : ResolvedView) (v : Tree) → or_missing x ≡ Ok v → x ≡ Some (Ok v)
or_missing_is None v h = absurd (cc)
or_missing_is (Some a) v h = cc

answers_grow : (r s : ℕ → ResolvedView) (most : ℕ) (place : Option ℕ) → ((n : ℕ) → n < most → Grows (r n) (s n)) → IsPlaceBelow most place
    → AnswersRefine (answer_at r place) (answer_at s place)
answers_grow r s most None h b v w p q = absurd (cc)
answers_grow r s most (Some n) h b v w p q = h n b v w (or_missing_is (r n) v p) (or_missing_is (s n) w q)

-- environments of resolved names that grow do
pub references_grow : (same : (t : Tree) → Refines t t) (variables : Entries) (names : List NameView) (r s : ℕ → ResolvedView) → ((n : ℕ) → n < length names → Grows (r n) (s n))
    → RefinesTo (environment variables names r) (environment variables names s)
references_grow same variables names r s h first name v w p q =
    let var = present_value (get name variables) in
    let place = place_of names (first, name) in
    either AnswersRefine (bytes_eq first (codes "var")) var (answer_at r place) var (answer_at s place) (one_answer same var)
    (answers_grow r s (length names) place h (place_below names (first, name))) v w p q

-- and so does what one of the names sees
pub sees_more : (same : (t : Tree) → Refines t t) (variables : Entries) (names : List NameView) (r s : ℕ → ResolvedView) (n : ℕ) → AllByRecursion (λ a. Grows (r a) (s a)) (directly_before names n)
    → RefinesTo (environment_at variables names r n) (environment_at variables names s n)
sees_more same variables names r s n h =
    references_grow same variables names (result_in (seen_by r (directly_before names n))) (result_in (seen_by s (directly_before names n))) (λ m k. seen_grows r s (directly_before names n) m h)

where_grows : (b c : Bool) (x y : ResolvedView) → Grows x y → Grows (where_all b x) (where_all c y)
where_grows true true x y h v w p q = h v w p q
where_grows _ _ x y h v w p q = absurd (cc)

stands_grows : (known : Known) (before after : ResourceValuesView) (n : ℕ) (m : Option Meant) (e f : Environment) → RefinesTo e f
    → ((b : BlockView) → m ≡ Some (a_block b) → Grows (stands before n (a_block b) e) (stands after n (a_block b) f))
    → Grows (stands_at before n m e) (stands_at after n m f)
stands_grows known before after n None e f h blocks v w p q = absurd (cc)
stands_grows known before after n (Some (a_local t)) e f h blocks v w p q = known.meaning e f h t v w (cc) (cc)
stands_grows known before after n (Some (a_block b)) e f h blocks v w p q = blocks b refl v w p q

pub resolved_names_grow : Known → ResolvedNamesGrow
resolved_names_grow known before after variables names r s ranked p q resources =
    let grown : (n : ℕ) → n < length names → Grows (r n) (s n) =
    solutions-related (λ n x y. Grows x y) (length names) (directly_before names) (rule before variables names) (rule after variables names) r s
    ranked (names_stay names) p q
    (λ n k h.
    let e = environment_at variables names r n in
    let f = environment_at variables names s n in
    let more = sees_more known.same variables names r s n h in
    where_grows (all_stand (seen_by r (directly_before names n))) (all_stand (seen_by s (directly_before names n)))
    (stands_at before n (meant_at names n) e) (stands_at after n (meant_at names n) f)
    (stands_grows known before after n (meant_at names n) e f more (λ b is. resources n b is more))) in
    record {
      each = grown;
      references = references_grow known.same variables names r s grown;
      seen = λ n k. sees_more known.same variables names r s n (all_places (λ a. Grows (r a) (s a)) names (refers_at (meant_at names n)) grown);
    }

-- where nothing is known of the objects, they refine to any others of the shape that is worked out
unknowns_grow : (worked : Option InstanceKeysView) (shape : InstanceKeysView) (f : InstanceKeyView → Option Tree) → ((s : InstanceKeysView) → worked ≡ Some s → shape ≡ s)
    → Grows (together worked (λ key. Some unknown)) (together (Some shape) f)
unknowns_grow None shape f h v w p q = absurd (cc)
unknowns_grow (Some s) shape f h v w p q =
    together_grows s (λ key. Some unknown) f (λ key t u a b. let e : unknown ≡ t = (cc) in rw (← e) tt) v w p (rw (sym (h s refl)) q)

pub expansion_grows : Known → ExpansionGrows
expansion_grows known variables names shapes planned r s ranked p q expanded =
    resolved_names_grow known expansion (planning shapes planned) variables names r s ranked p q
    (λ n block is more.
    unknowns_grow (fine (instances block.repetition (environment_at variables names r n))) (shapes n) (planned n block (environment_at variables names s n))
    (λ shape worked. expanded n block shape is worked))

pub plan_grows : Known → PlanGrows
plan_grows known variables names shapes planned objects r s ranked p q answered =
    resolved_names_grow known (planning shapes planned) (applying shapes objects) variables names r s ranked p q
    (λ n block is more.
    together_grows (shapes n) (planned n block (environment_at variables names r n)) (λ key. Some (objects n key))
    (λ key t u a b. let e : objects n key ≡ u = (cc) in rw (← e) (answered n block key t is a)))

same_shape : {A : Type 0} (f : A → Result InstanceKeysView RepetitionFault) (x y : A) (shape later : InstanceKeysView) → x ≡ y
    → f x ≡ Ok shape → f y ≡ Ok later → shape ≡ later
same_shape f x y shape later e p q = let same : f x ≡ f y = ap f e in cc

-- a count that has a value keeps it
count_stays : (a b : Answer) (shape later : InstanceKeysView) → AnswersRefine a b → counted a ≡ Ok shape → counted b ≡ Ok later → shape ≡ later
count_stays (Ok (whole y)) (Ok (whole z)) shape later h p q = same_shape (λ x. counted (Ok (whole x))) y z shape later (h (whole y) (whole z) refl refl) p q
count_stays (Ok (whole y)) (Ok u) shape later h p q = absurd (h (whole y) u refl refl)
count_stays _ _ shape later h p q = absurd (cc)

-- keys that have a value keep it
keys_stay : (a b : Answer) (shape later : InstanceKeysView) → AnswersRefine a b → keyed a ≡ Ok shape → keyed b ≡ Ok later → shape ≡ later
keys_stay (Ok (set ss)) (Ok (set ts)) shape later h p q = same_shape (λ ks. or_bad_for_each (Some ks)) ss ts shape later (h (set ss) (set ts) refl refl) p q
keys_stay (Ok (map es)) (Ok (map fs)) shape later h p q =
    same_shape (λ ks. or_bad_for_each (Some ks)) (keys_of es) (keys_of fs) shape later (same_keys es fs (h (map es) (map fs) refl refl)) p q
keys_stay (Ok (set ss)) (Ok u) shape later h p q = absurd (h (set ss) u refl refl)
keys_stay (Ok (map es)) (Ok u) shape later h p q = absurd (h (map es) u refl refl)
keys_stay _ _ shape later h p q = absurd (cc)

pub instances_stay : Known → InstancesStay
instances_stay known single e f shape later h p q = cc
instances_stay known (count x) e f shape later h p q = count_stays (meaning e x) (meaning f x) shape later (known.meaning e f h x) p q
instances_stay known (for_each x) e f shape later h p q = keys_stay (meaning e x) (meaning f x) shape later (known.meaning e f h x) p q

both_ok : {A : Type 0} (R : A → A → Type 0) (a b : A) → R a b → (c d : A)
    → ◌≡◌ {A = Result A EvalFault} (Ok a) (Ok c) → ◌≡◌ {A = Result A EvalFault} (Ok b) (Ok d) → R c d
both_ok R a b h c d p q = let e : a ≡ c = (cc) in let f : b ≡ d = (cc) in rw (← e, ← f) h

-- what follows from related values is related
followed_both : {A B : Type 0} (R : A → A → Type 0) (S : B → B → Type 0) (f g : A → Result B EvalFault)
    → ((a b : A) → R a b → (c d : B) → f a ≡ Ok c → g b ≡ Ok d → S c d)
    → (x y : Result A EvalFault) → ((a b : A) → x ≡ Ok a → y ≡ Ok b → R a b) → (c d : B) → and_then x f ≡ Ok c → and_then y g ≡ Ok d → S c d
followed_both R S f g next (Ok a) (Ok b) h c d p q = next a b (h a b refl refl) c d p q
followed_both R S f g next _ _ h c d p q = absurd (cc)

-- constants under the same names, whose values refine
abbrev pub ConstantsRefine : List ConstantView → List ConstantView → Type 0
ConstantsRefine [] [] = Unit {0}
ConstantsRefine (c ∷ cs) (d ∷ ds) = (c.first ≡ d.first) × (c.name ≡ d.name) × Refines c.value d.value × ConstantsRefine cs ds
ConstantsRefine _ _ = ⊥

pub bound_grows : (cs ds : List ConstantView) (e f : Environment) → RefinesTo e f → ConstantsRefine cs ds → RefinesTo (bound cs e) (bound ds f)
bound_grows [] [] e f h r first name v w p q = h first name v w p q
bound_grows (c ∷ cs) (d ∷ ds) e f h r first name v w p q =
    either AnswersRefine (bytes_eq c.first first && bytes_eq c.name name) (Ok c.value) (bound cs e first name) (Ok d.value) (bound ds f first name)
    (both_ok Refines c.value d.value r.2) (bound_grows cs ds e f h r.3 first name) v w p (rw (r.0, r.1) q)
bound_grows _ _ e f h r first name v w p q = absurd r

-- what stands under a key refines
value_refines : (key : List ℕ) (a b v w : Tree) → Refines a b → value_under key a ≡ Ok v → value_under key b ≡ Ok w → Refines v w
value_refines key (set ss) (set ts) v w h p q = both_ok Refines (text key) (text key) refl v w p q
value_refines key (set ss) _ v w h p q = absurd (assumption)
value_refines key (map es) (map fs) v w h p q = get_refines key es fs v w h (present_is (get key es) v p) (present_is (get key fs) w q)
  where
    present_is : (o : Option Tree) (t : Tree) → present_value o ≡ Ok t → o ≡ Some t
    present_is None t e = absurd (cc)
    present_is (Some u) t e = cc
value_refines key (map es) _ v w h p q = absurd (assumption)
value_refines key _ b v w h p q = absurd (cc)

constants_refine : (known : Known) (repetition : RepetitionView) (key : InstanceKeyView) (e f : Environment) → RefinesTo e f → (cs ds : List ConstantView)
    → instance_constants repetition key e ≡ Ok cs → instance_constants repetition key f ≡ Ok ds → ConstantsRefine cs ds
constants_refine known (count x) (keys.number n) e f h cs ds p q =
    followed_both Refines ConstantsRefine (λ t. Ok (count_index t ∷ [])) (λ t. Ok (count_index t ∷ []))
    (λ t u r. both_ok ConstantsRefine (count_index t ∷ []) (count_index u ∷ []) (refl, refl, r, tt))
    (whole_value (pos n)) (whole_value (pos n)) (one_answer known.same (whole_value (pos n))) cs ds p q
constants_refine known (for_each x) (keys.name k) e f h cs ds p q =
    let constants : Tree → Result (List ConstantView) EvalFault = λ t. Ok (each_key k ∷ each_value t ∷ []) in
    followed_both Refines ConstantsRefine (λ all. and_then (value_under k all) constants) (λ all. and_then (value_under k all) constants)
    (λ t u r. followed_both Refines ConstantsRefine constants constants
    (λ v w held. both_ok ConstantsRefine (each_key k ∷ each_value v ∷ []) (each_key k ∷ each_value w ∷ []) (refl, refl, refl, (refl, refl, held, tt)))
    (value_under k t) (value_under k u) (λ v w. value_refines k t u v w r))
    (meaning e x) (meaning f x) (known.meaning e f h x) cs ds p q
constants_refine known _ _ e f h cs ds p q = both_ok ConstantsRefine [] [] tt cs ds p q

pub environments_grow : Known → InstanceEnvironmentsGrow
environments_grow known repetition key e f before after h p q =
    followed_both ConstantsRefine RefinesTo (λ cs. Ok (bound cs e)) (λ cs. Ok (bound cs f))
    (λ cs ds r. both_ok RefinesTo (bound cs e) (bound ds f) (bound_grows cs ds e f h r))
    (instance_constants repetition key e) (instance_constants repetition key f) (constants_refine known repetition key e f h) before after p q
