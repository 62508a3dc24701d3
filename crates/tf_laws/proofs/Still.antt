-- Beside resources at rest nothing is planned.
use Rattle.std.proofs.Common.{◌≡◌, ◌∙◌, ◌<◌, ◌+◌, ◌++◌, ℕ, Bool, true, false, cond, if◌then◌else◌, List, [], ◌∷◌, Option, Some, None, is_some, option_map, Result, Ok, Err, length, refl, sym, ap, subst}
use Rattle.std.specs.List.{AllByRecursion, list_all}
use Rattle.std.specs.Option.{option_and_then}
use Rattle.std.specs.Prelude.{is_none, slice_get}
use Rattle.tf_config_address.specs.ObjectId.{InstanceKeyView}
use Rattle.tf_plan_object.proofs.Locals.{instances_local}
use Rattle.tf_plan_object.specs.Instance.{instance_object}
use Rattle.tf_config_data.specs.Config.{BlockView, LifecycleView}
use Rattle.tf_config_data.specs.Names.{NameView, Meant, a_local, a_block, meant_at, refers_at, directly_before, block_refers}
use Rattle.tf_plan_decision.proofs.Local.{stage_local}
use Rattle.tf_plan_decision.specs.Deciding.{OfView, of_at}
use Rattle.tf_plan_decision.specs.Outcome.{OutcomeView, by_decision, declared_outcome, member_outcome, removal_outcome}
use Rattle.tf_plan_decision.specs.Stage.{all_can_go, block_members, decided_object, deciding, object_of, object_beside, object_unless_refused, records_at, stays_or_goes}
use Rattle.tf_plan_decision.specs.Steps.{decided_steps, destroy_if_deposed}
use Rattle.tf_plan_decision.specs.Decision as decision
use Rattle.tf_plan_decision.specs.Decision.{DecisionView, DecisionFaultView, change, current, nothing}
use Rattle.tf_expand_keys.proofs.Locals.{all_seen}
use Rattle.tf_expand_keys.proofs.Places.{along, names_stay}
use Rattle.tf_expand_keys.proofs.Seen.{agree_on}
use Rattle.tf_expand_keys.specs.InstanceKeys.{InstanceKeysView, one, many, named, instance_keys, collected, list_of, map_under, objects_at}
use Rattle.tf_expand_keys.specs.Stages.{applying}
use Rattle.tf_expand_keys.specs.Resolved.{ResolvedView, AreResolvedNames, all_stand, environment, rule, stands_at, together}
use Rattle.tf_expr_eval.proofs.Locality.{expressions_local}
use Rattle.tf_expr_eval.specs.Environment.{Environment}
use Rattle.tf_expr_eval.specs.Locality.{AgreeOn}
use Rattle.tf_graph.proofs.Solving.{all_by_weaker, solution-exists}
use Rattle.tf_graph.specs.Solutions.{Ranked, seen_by}
use Rattle.tf_plan_order.specs.Members.{InstanceToPlanView, is_among, member, members, records_of}
use Rattle.tf_expr_operators.specs.Answer.{limited}
use Rattle.tf_plan_planner.proofs.Listing.{member_actions, meant_actions, place_actions}
use Rattle.tf_provider_protocol.specs.Meaning.{Meaning, schema_in}
use Rattle.tf_provider_protocol.specs.Schema.{SchemaView}
use Rattle.tf_walk_names.proofs.Answering.{next_is}
use Rattle.tf_plan_order.specs.ResourceIndex.{ResourceRefView, a_name, an_orphan, numbered}
use Rattle.tf_state_data.specs.Record.{RecordView}
use Rattle.tf_state_data.specs.Resource.{ResourceView}
use Rattle.tf_value_data.proofs.Conjunction.{and-both}
use Rattle.tf_value_data.specs.Tree.{Tree, Entries}
use Rattle.tf_laws.proofs.Decided.{IsFine, by_decision-is, decision_is}
use Rattle.tf_laws.proofs.Fine.{actions_are, block_fine}
use Rattle.tf_laws.proofs.Lists.{flat_none, or_first}
use Rattle.tf_laws.proofs.Members.{all_among, instance_holds, members_hold}
use Rattle.tf_laws.proofs.Places.{at_name, meant_there, meant_within, no_orphan}
use Rattle.tf_laws.specs.Rest.{AreAtRest, IsResting, NothingIsPlannedAtRest}

-- ---- objects that stand together

some_mapped : {A B : Type 0} (o : Option A) (f : A → B) → is_some o ≡ true → is_some (option_map f o) ≡ true
some_mapped (Some a) f h = refl
some_mapped None f h = absurd (cc)

objects_there : (object : InstanceKeyView → Tree) (ks : List InstanceKeyView) → is_some (objects_at (λ key. Some (object key)) ks) ≡ true
objects_there object [] = refl
objects_there object (k ∷ ks) = some_mapped (objects_at (λ key. Some (object key)) ks) _ (objects_there object ks)

laid_there : (shape : InstanceKeysView) (object : InstanceKeyView → Tree) → is_some (collected shape (λ key. Some (object key))) ≡ true
laid_there one object = refl
laid_there (many n) object = some_mapped (objects_at (λ key. Some (object key)) (instance_keys (many n))) list_of (objects_there object (instance_keys (many n)))
laid_there (named names) object = some_mapped (objects_at (λ key. Some (object key)) (instance_keys (named names))) (map_under names) (objects_there object (instance_keys (named names)))

pub together_there : (shape : InstanceKeysView) (object : InstanceKeyView → Tree) → is_some (together (Some shape) (λ key. Some (object key))) ≡ true
together_there shape object = some_mapped (collected shape (λ key. Some (object key))) limited (laid_there shape object)

objects_same : (f g : InstanceKeyView → Option Tree) (ks : List InstanceKeyView) → AllByRecursion (λ key. f key ≡ g key) ks → objects_at f ks ≡ objects_at g ks
objects_same f g [] h = refl
objects_same f g (k ∷ ks) h =
    let first : f k ≡ g k = h.0 in
    let rest : objects_at f ks ≡ objects_at g ks = objects_same f g ks h.1 in
    rw (first, rest) refl

laid_same : (f g : InstanceKeyView → Option Tree) (shape : InstanceKeysView) → AllByRecursion (λ key. f key ≡ g key) (instance_keys shape) → collected shape f ≡ collected shape g
laid_same f g one h = h.0
laid_same f g (many n) h = ap (option_map list_of) (objects_same f g (instance_keys (many n)) h)
laid_same f g (named names) h = ap (option_map (map_under names)) (objects_same f g (instance_keys (named names)) h)

-- resources whose instances stand for the same stand for the same
pub together_same : (f g : InstanceKeyView → Option Tree) (shape : InstanceKeysView) → ((key : InstanceKeyView) → is_among (instance_keys shape) key ≡ true → f key ≡ g key) → together (Some shape) f ≡ together (Some shape) g
together_same f g shape h = ap (option_map limited) (laid_same f g shape (all_among (λ key. f key ≡ g key) (instance_keys shape) h))

-- ---- one instance at rest

pub current_is : (r : RecordView) → r.id.deposed ≡ None → current (r ∷ []) ≡ Some r
current_is r e = ap (λ (o : Option (List ℕ)). cond (is_none o) (Some r) None) e

steps_none : (records : List RecordView) (r : RecordView) → records ≡ r ∷ [] → r.id.deposed ≡ None → decided_steps records nothing ≡ []
steps_none records r alone e = ap (λ (rs : List RecordView). decided_steps rs nothing) alone ∙ ap (λ (o : Option (List ℕ)). destroy_if_deposed o r.attributes ++ []) e

module _ (ms : List Meaning) (block : BlockView) (key : InstanceKeyView) (env seen : Environment) (object : Tree) (records : List RecordView) (rest : IsResting ms block key seen object records) where
  -- by what its block makes where names stand for as much, nothing is decided
  nothing_decided_at : (schema : SchemaView) (d : DecisionView) → schema_in block.addr.type_name ms ≡ Some schema → instance_object schema block key env ≡ instance_object schema block key seen
      → decision.decision schema block.lifecycle records (instance_object schema block key env) ≡ Ok d → d ≡ nothing
  nothing_decided_at schema d has same e =
      let is = decision_is schema block.lifecycle records (instance_object schema block key env) d e in
      let found : current records ≡ Some rest.only = ap current rest.alone ∙ current_is rest.only rest.current in
      sym is.changes ∙ ap (λ (o : Option RecordView). change schema block.lifecycle.ignore_changes o is.made) found ∙ rest.rests schema is.made has (sym same ∙ is.makes)

  stands_for : (schema : SchemaView) (r : Result DecisionView DecisionFaultView) (d : DecisionView) → r ≡ Ok d → d ≡ nothing → object_unless_refused records r ≡ Some object
  stands_for schema r d e none =
      ap (object_unless_refused records) e ∙ ap (object_beside (current records)) none
      ∙ ap (option_map (λ (x : RecordView). x.attributes)) (ap current rest.alone ∙ current_is rest.only rest.current) ∙ ap Some rest.stands

  -- so it has no steps, and stands for its object
  at_rest : (schema : SchemaView) → schema_in block.addr.type_name ms ≡ Some schema → instance_object schema block key env ≡ instance_object schema block key seen
      → IsFine (by_decision records (decision.decision schema block.lifecycle records (instance_object schema block key env)))
      → (by_decision records (decision.decision schema block.lifecycle records (instance_object schema block key env)) ≡ Ok [])
      × (object_unless_refused records (decision.decision schema block.lifecycle records (instance_object schema block key env)) ≡ Some object)
  at_rest schema has same fine =
      let r = decision.decision schema block.lifecycle records (instance_object schema block key env) in
      let d = by_decision-is records r fine.0 fine.1 in
      let none = nothing_decided_at schema d.0 has same d.1 in (
        ap (by_decision records) (d.1 ∙ ap Ok none) ∙ ap Ok (steps_none records rest.only rest.alone rest.current),
        stands_for schema r d.0 d.1 none,
      )

-- ---- the members of a block at rest

-- a member has no steps, and its instance stands for an object
abbrev IsStill : List Meaning → List ResourceView → ℕ → BlockView → Environment → (InstanceKeyView → Tree) → InstanceToPlanView → Type 0
IsStill ms resources n block env objects m =
    (member_outcome (schema_in block.addr.type_name ms) block env m ≡ Ok []) × (decided_object ms resources n block env m.key ≡ Some (objects m.key)) × (m.is_declared ≡ true)

module _ (ms : List Meaning) (resources : List ResourceView) (n : ℕ) (block : BlockView) (ks : List InstanceKeyView) (env seen : Environment) (objects : InstanceKeyView → Tree) (agree : AgreeOn env seen (block_refers block)) where
  member_still : (key : InstanceKeyView) → is_among ks key ≡ true → IsResting ms block key seen (objects key) (records_of key (records_at block.addr resources))
      → (found : Option SchemaView) → schema_in block.addr.type_name ms ≡ found
      → IsFine (member_outcome found block env (member ks (records_at block.addr resources) key))
      → (member_outcome found block env (member ks (records_at block.addr resources) key) ≡ Ok [])
      × (option_and_then (λ schema. object_of schema block (records_of key (records_at block.addr resources)) env key) found ≡ Some (objects key))
  member_still key among rest None has fine = let no : ◌≡◌ {A = OutcomeView} (Err _) (Ok fine.0) = fine.1 in absurd (cc)
  member_still key among rest (Some schema) has fine =
      let records = records_of key (records_at block.addr resources) in
      let m = member ks (records_at block.addr resources) key in
      let same = instances_local expressions_local schema block key env seen agree in
      let outcome = λ (b : Bool). if b then declared_outcome schema block env m else removal_outcome schema (Some block.lifecycle) m in
      let declared : IsFine (declared_outcome schema block env m) = (fine.0, sym (ap outcome among) ∙ fine.1) in
      let still = at_rest ms block key env seen (objects key) records rest schema has same declared in
      (ap outcome among ∙ still.0, still.1)

  members_still : ((key : InstanceKeyView) → is_among ks key ≡ true → IsResting ms block key seen (objects key) (records_of key (records_at block.addr resources)))
      → AllByRecursion (λ x. is_among ks x.id.key ≡ true) (records_at block.addr resources)
      → AllByRecursion (λ m. IsFine (member_outcome (schema_in block.addr.type_name ms) block env m)) (members ks (records_at block.addr resources))
      → AllByRecursion (IsStill ms resources n block env objects) (members ks (records_at block.addr resources))
  members_still rest declared fine =
      members_hold (IsStill ms resources n block env objects) ks (records_at block.addr resources) declared
      (λ key among.
      let own = instance_holds (λ m. IsFine (member_outcome (schema_in block.addr.type_name ms) block env m)) ks (records_at block.addr resources) key fine among in
      let still = member_still key among (rest key among) (schema_in block.addr.type_name ms) refl own in
      (still.0, still.1, among))

-- a resource with such members can stand
all_go : (schema : Option SchemaView) (lifecycle : LifecycleView) (ms : List InstanceToPlanView) → AllByRecursion (λ m. m.is_declared ≡ true) ms → list_all (stays_or_goes schema lifecycle) ms ≡ true
all_go schema lifecycle [] h = refl
all_go schema lifecycle (m ∷ ms) h = and-both (stays_or_goes schema lifecycle m) _ (or_first m.is_declared _ h.0) (all_go schema lifecycle ms h.1)

-- and no actions
no_actions : (of : OfView) (becomes : InstanceToPlanView → OutcomeView) (i : ℕ) (ms : List InstanceToPlanView) → AllByRecursion (λ m. becomes m ≡ Ok []) ms → member_actions of becomes i ms ≡ []
no_actions of becomes i [] h = refl
no_actions of becomes i (m ∷ ms) h = rw h.0 (no_actions of becomes (i + 1) ms h.1)

parts_of : {A : Type 0} (P Q : A → Type 0) (xs : List A) → ((x : A) → P x → Q x) → AllByRecursion P xs → AllByRecursion Q xs
parts_of P Q [] f h = tt
parts_of P Q (x ∷ xs) f h = (f x h.0, parts_of P Q xs f h.1)

-- ---- all names

pub chosen : {A : Type 0} (b : Bool) (x y : A) → b ≡ true → cond b x y ≡ x
chosen true x y h = refl
chosen false x y h = absurd (cc)

pub all_there : (resolved_names : ℕ → ResolvedView) (ns : List ℕ) → AllByRecursion (λ a. is_some (resolved_names a) ≡ true) ns → all_stand (seen_by resolved_names ns) ≡ true
all_there resolved_names [] h = refl
all_there resolved_names (n ∷ ns) h = and-both (is_some (resolved_names n)) (all_stand (seen_by resolved_names ns)) h.0 (all_there resolved_names ns h.1)

-- each member of a block is decided, where all that the block refers to stands for what it does in the apply
abbrev pub AreLookedAt : List Meaning → Entries → List NameView → (ℕ → InstanceKeysView) → List ResourceView → (ℕ → ResolvedView) → (ℕ → ResolvedView) → Type 0
AreLookedAt ms variables names shapes resources resolved_names others =
    (n : ℕ) (block : BlockView) → meant_at names n ≡ Some (a_block block) → AllByRecursion (λ a. (resolved_names a ≡ others a) × (is_some (resolved_names a) ≡ true)) (directly_before names n)
    → AllByRecursion (λ m. IsFine (member_outcome (schema_in block.addr.type_name ms) block (environment variables names resolved_names) m)) (members (instance_keys (shapes n)) (records_at block.addr resources))

module _ (ms : List Meaning) (variables : Entries) (names : List NameView) (shapes : ℕ → InstanceKeysView) (objects : ℕ → InstanceKeyView → Tree) (resources : List ResourceView)
    (ranked : Ranked (directly_before names)) (still : AreAtRest ms variables names shapes objects resources)
    (resolved_names others : ℕ → ResolvedView) (solves : AreResolvedNames (deciding ms resources shapes) variables names resolved_names) (stands : AreResolvedNames (applying shapes objects) variables names others)
    (looked_at : AreLookedAt ms variables names shapes resources resolved_names others) where
  abbrev IsSame : ℕ → Type 0
  IsSame n = (resolved_names n ≡ others n) × (is_some (resolved_names n) ≡ true)

  pub block_still : (n : ℕ) (block : BlockView) → meant_at names n ≡ Some (a_block block) → AllByRecursion IsSame (directly_before names n)
      → AllByRecursion (IsStill ms resources n block (environment variables names resolved_names) (objects n)) (block_members (shapes n) block resources)
  block_still n block meant before =
      let alike = all_by_weaker IsSame (λ a. resolved_names a ≡ others a) (directly_before names n) (λ a h. h.0) before in
      let refers : AllByRecursion (λ a. resolved_names a ≡ others a) (directly_before names n) = alike in
      let agree : AgreeOn (environment variables names resolved_names) (environment variables names others) (refers_at (meant_at names n)) = agree_on variables names resolved_names others (refers_at (meant_at names n)) refers in
      let own : AgreeOn (environment variables names resolved_names) (environment variables names others) (block_refers block) =
      subst (λ (m : Option Meant). AgreeOn (environment variables names resolved_names) (environment variables names others) (refers_at m)) meant agree in
      members_still ms resources n block (instance_keys (shapes n)) (environment variables names resolved_names) (environment variables names others) (objects n) own
      (λ key among. still.rest others stands n block key meant among) (still.declared n block meant) (looked_at n block meant before)

  same_meant : (n : ℕ) (m : Meant) → meant_at names n ≡ Some m → AllByRecursion IsSame (directly_before names n)
      → (stands_at (deciding ms resources shapes) n (Some m) (environment variables names resolved_names) ≡ stands_at (applying shapes objects) n (Some m) (environment variables names others))
      × (is_some (stands_at (applying shapes objects) n (Some m) (environment variables names others)) ≡ true)
  same_meant n (a_local e) meant before =
      let alike = all_by_weaker IsSame (λ a. resolved_names a ≡ others a) (directly_before names n) (λ a h. h.0) before in
      let agree : AgreeOn (environment variables names resolved_names) (environment variables names others) (refers_at (meant_at names n)) = agree_on variables names resolved_names others (refers_at (meant_at names n)) alike in
      let own = subst (λ (m : Option Meant). AgreeOn (environment variables names resolved_names) (environment variables names others) (refers_at m)) meant agree in
      (ap Some (expressions_local (environment variables names resolved_names) (environment variables names others) e own), refl)
  same_meant n (a_block block) meant before =
      let each = block_still n block meant before in
      let records = records_at block.addr resources in
      let ks = instance_keys (shapes n) in
      let env = environment variables names resolved_names in
      let go : all_can_go ms resources (shapes n) block ≡ true = all_go (schema_in block.addr.type_name ms) block.lifecycle (members ks records)
      (parts_of (IsStill ms resources n block env (objects n)) (λ m. m.is_declared ≡ true) (members ks records) (λ m h. h.2) each) in (
        ap (λ (b : Bool). together (if b then Some (shapes n) else None) (decided_object ms resources n block env)) go
            ∙ together_same (decided_object ms resources n block env) (λ key. Some (objects n key)) (shapes n)
            (λ key among. (instance_holds (IsStill ms resources n block env (objects n)) ks records key each among).1),
        together_there (shapes n) (objects n),
      )

  same_at : (n : ℕ) → n < length names → AllByRecursion IsSame (directly_before names n) → IsSame n
  same_at n h before =
      let m = meant_there names n h in
      let seen = all_there resolved_names (directly_before names n) (all_by_weaker IsSame (λ a. is_some (resolved_names a) ≡ true) (directly_before names n) (λ a g. g.1) before) in
      let env = environment variables names resolved_names in
      let alone : resolved_names n ≡ stands_at (deciding ms resources shapes) n (meant_at names n) env =
      all_seen expressions_local (deciding ms resources shapes) variables names resolved_names (stage_local ms resources shapes) solves n h
      ∙ chosen (all_stand (seen_by resolved_names (directly_before names n))) (stands_at (deciding ms resources shapes) n (meant_at names n) env) None seen in
      let applied : stands_at (applying shapes objects) n (meant_at names n) (environment variables names others) ≡ others n =
      next_is shapes objects variables names ranked others others stands n h (λ local. itself (directly_before names n)) in
      let both = same_meant n m.0 m.1 before in
      let is = ap (λ (o : Option Meant). stands_at (deciding ms resources shapes) n o env) m.1 in
      let too = ap (λ (o : Option Meant). stands_at (applying shapes objects) n o (environment variables names others)) m.1 in
      (alone ∙ is ∙ both.0 ∙ sym too ∙ applied, ap is_some (alone ∙ is ∙ both.0) ∙ both.1)
    where
      itself : (ns : List ℕ) → AllByRecursion (λ a. others a ≡ others a) ns
      itself [] = tt
      itself (a ∷ ns) = (refl, itself ns)

  -- each name stands for what it does in the apply
  pub all_same : (n : ℕ) → n < length names → IsSame n
  all_same n h = along (length names) (directly_before names) IsSame ranked (names_stay names) same_at n h

  pub before_same : (n : ℕ) → n < length names → AllByRecursion IsSame (directly_before names n)
  before_same n h = within (directly_before names n) (names_stay names n h)
    where
      within : (ns : List ℕ) → AllByRecursion (λ a. a < length names) ns → AllByRecursion IsSame ns
      within [] g = tt
      within (a ∷ ns) g = (all_same a g.0, within ns g.1)

  meant_none : (n : ℕ) (m : Meant) → meant_at names n ≡ Some m → meant_actions ms resources variables names shapes resolved_names n m ≡ []
  meant_none n (a_local e) meant = refl
  meant_none n (a_block block) meant = by_test (all_stand (seen_by resolved_names (directly_before names n)))
    where
      by_test : (b : Bool) → cond b (member_actions (of_at ms n block.addr) (member_outcome (schema_in block.addr.type_name ms) block (environment variables names resolved_names)) 0 (block_members (shapes n) block resources)) [] ≡ []
      by_test false = refl
      by_test true =
          let each = block_still n block meant (before_same n (meant_within names n (a_block block) meant)) in
          no_actions (of_at ms n block.addr) (member_outcome (schema_in block.addr.type_name ms) block (environment variables names resolved_names)) 0 (block_members (shapes n) block resources)
          (parts_of (IsStill ms resources n block (environment variables names resolved_names) (objects n)) (λ m. member_outcome (schema_in block.addr.type_name ms) block (environment variables names resolved_names) m ≡ Ok []) (block_members (shapes n) block resources) (λ m h. h.0) each)

  pub place_none : (n : ℕ) (o : Option ResourceRefView) → slice_get (numbered names resources) n ≡ o → place_actions ms resources variables names shapes resolved_names n o ≡ []
  place_none n None e = refl
  place_none n (Some (a_name name)) e = meant_none n name.meant (at_name names resources n name e)
  place_none n (Some (an_orphan r)) e = absurd (no_orphan names resources still.blocks n r e)

pub nothing_at_rest : NothingIsPlannedAtRest
nothing_at_rest ms variables names outputs shapes objects resources actions ranked still planned =
    let resolved_names = solution-exists (length names) (directly_before names) (rule (deciding ms resources shapes) variables names) ranked in
    let others = solution-exists (length names) (directly_before names) (rule (applying shapes objects) variables names) ranked in
    actions_are ms variables names outputs shapes resources actions planned resolved_names.0 resolved_names.1 ranked
    ∙ flat_none (λ n. place_actions ms resources variables names shapes resolved_names.0 n (slice_get (numbered names resources) n)) planned.places
    (λ n. place_none ms variables names shapes objects resources ranked still resolved_names.0 others.0 resolved_names.1 others.1
    (λ n block meant before. block_fine ms variables names outputs shapes resources actions planned resolved_names.0 resolved_names.1 ranked n block meant
    (all_there resolved_names.0 (directly_before names n) (all_by_weaker (λ a. (resolved_names.0 a ≡ others.0 a) × (is_some (resolved_names.0 a) ≡ true)) (λ a. is_some (resolved_names.0 a) ≡ true) (directly_before names n) (λ a h. h.1) before)))
    n (slice_get (numbered names resources) n) refl)
