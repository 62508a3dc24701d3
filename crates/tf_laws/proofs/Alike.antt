-- A report on one of two plans that are the same is a report on the other.
use Rattle.std.proofs.Common.{◌≡◌, ◌∙◌, ◌<◌, ◌++◌, ℕ, Bool, true, false, if◌then◌else◌, List, [], ◌∷◌, Option, Some, None, MatchBool, filter, fold, length, map, refl, sym, ap, subst}
use Rattle.std.proofs.lemmas.Bool.{ltb-true}
use Rattle.std.specs.List.{AllByRecursion, flat_map, range_with_len}
use Rattle.std.specs.Prelude.{nat_lt}
use Rattle.tf_plan_data.specs.Action.{ActionView}
use Rattle.tf_walk_buffers.specs.Dependencies.{address_of, dependencies, with_address}
use Rattle.tf_walk_buffers.specs.Head.{AreHeads, Head, IsHeadOf, IsKeyFor, Target, an_instance, an_object, key_in, target_with}
use Rattle.tf_config_address.specs.ResourceAddr.{ResourceAddrView}
use Rattle.tf_config_address.specs.ObjectId.{InstanceKeyView}
use Rattle.tf_config_data.specs.Config.{BlockView}
use Rattle.tf_config_data.specs.Names.{Meant, NameView, a_block, a_local, directly_before, addr_pair, meant_at, place_of}
use Rattle.tf_laws.proofs.Declared.{has_stands}
use Rattle.tf_laws.proofs.Renewals.{block_place}
use Rattle.tf_expand_keys.specs.InstanceKeys.{InstanceKeysView}
use Rattle.tf_expand_keys.specs.Stages.{applying}
use Rattle.tf_expand_keys.specs.Resolved.{AreResolvedNames, ResolvedView, all_stand, environment, result_in, stands_at, together, where_all}
use Rattle.tf_expr_eval.specs.Environment.{Environment}
use Rattle.tf_graph.specs.Solutions.{seen_by}
use Rattle.tf_laws.specs.Plans.{AreOne, AreOrderly}
use Rattle.tf_state_next.specs.Events.{EventsView, MetadataUpdateView, ends_in, given_in}
use Rattle.tf_state_next.specs.StateAfter.{IsStateAfter}
use Rattle.tf_walk_action.specs.Outcome.{AreOutcomes, AreRequests, ActionResultView, Requests}
use Rattle.tf_walk_action.specs.declared.excuse.Excuse.{Excuse}
use Rattle.tf_walk_outputs.specs.Outputs as outputs
use Rattle.tf_walk_outputs.specs.Outputs.{AreOutputsDone, IsEvaluated, IsMeant, OutputResultView, outputs_after}
use Rattle.tf_walk_outputs.specs.Settled.{names_are_settled}
use Rattle.tf_plan_planner.proofs.Blocks.{names-apart}
use Rattle.tf_plan_planner.proofs.Tied.{block_found}
use Rattle.tf_plan_data.specs.Fits.{IsDeclared, deposed_key, is_apply}
use Rattle.tf_plan_data.specs.Plan.{PlanView, plan_names}
use Rattle.tf_provider_protocol.specs.Meaning.{Meaning}
use Rattle.tf_walk_report.specs.Events.{events}
use Rattle.tf_walk_buffers.specs.MetadataUpdates.{metadata_update_of_record, metadata_updates, metadata_updates_at, metadata_updates_of, stays}
use Rattle.tf_walk_report.specs.Report.{IsReported, IsStateOf, IsTold, objects_after}
use Rattle.tf_walk_report.specs.declared.report.Report.{Report}
use Rattle.tf_plan_order.proofs.Standing.{blocks-first, resources-apart}
use Rattle.tf_plan_order.specs.ResourceLaws as resources_laws
use Rattle.tf_plan_order.specs.ResourceIndex.{a_name, numbered, place_in}
use Rattle.tf_state_next.specs.After.{object_at}
use Rattle.tf_state_next.specs.Ends.{RecordInputView}
use Rattle.tf_state_data.specs.Record.{RecordView}
use Rattle.tf_state_data.specs.Resource.{ResourceView}
use Rattle.tf_state_data.specs.State.{StateView}
use Rattle.tf_expr_syntax.specs.ExprTree as expr
use Rattle.tf_expr_syntax.specs.TemplateNames.{Pair}
use Rattle.tf_value_data.specs.Tree.{Entries, Tree}

-- a plan, with these instances and by this table of what needs what
abbrev by : PlanView → (ℕ → InstanceKeysView) → (ℕ → ℕ → Bool) → PlanView
by p shapes needs = record p { shapes = shapes; needs = needs }

same_plan : (p q : PlanView) → AreOne p q → by p q.shapes q.needs ≡ q
same_plan p q h i = record {
  prior = h.prior i;
  config = h.config i;
  variables = h.variables i;
  needs = q.needs;
  shapes = q.shapes;
  late = λ n. h.late n i;
  actions = h.actions i;
  order = h.order i;
}

-- ---- what names stand for

stands_same : (shapes others : ℕ → InstanceKeysView) (objects : ℕ → InstanceKeyView → Tree) (n : ℕ) (m : Option Meant) (env : Environment) → shapes n ≡ others n
    → stands_at (applying shapes objects) n m env ≡ stands_at (applying others objects) n m env
stands_same shapes others objects n None env h = refl
stands_same shapes others objects n (Some (a_local e)) env h = refl
stands_same shapes others objects n (Some (a_block block)) env h = ap (λ (shape : InstanceKeysView). together (Some shape) (λ key. Some (objects n key))) h

standings_too : (variables : Entries) (names : List NameView) (shapes others : ℕ → InstanceKeysView) (objects : ℕ → InstanceKeyView → Tree) (resolved_names : ℕ → ResolvedView) → ((n : ℕ) → n < length names → shapes n ≡ others n)
    → AreResolvedNames (applying shapes objects) variables names resolved_names → AreResolvedNames (applying others objects) variables names resolved_names
standings_too variables names shapes others objects resolved_names alike solves k below =
    solves k below
    ∙ ap (where_all (all_stand (seen_by resolved_names (directly_before names k))))
    (stands_same shapes others objects k (meant_at names k) (environment variables names (result_in (seen_by resolved_names (directly_before names k)))) (alike k below))

-- ---- outputs

module _ (variables : Entries) (names : List NameView) (shapes others : ℕ → InstanceKeysView) (objects : ℕ → InstanceKeyView → Tree) (alike : (n : ℕ) → n < length names → shapes n ≡ others n) where
  meant_too : (e : expr.Tree) (d : OutputResultView) → IsMeant variables names others objects e d → IsMeant variables names shapes objects e d
  meant_too e d h = record {
    resolved_names = h.resolved_names;
    are_standings = standings_too variables names others shapes objects h.resolved_names (λ n below. sym (alike n below)) h.are_standings;
    means = λ s solves. h.means s (standings_too variables names shapes others objects s alike solves);
  }

  evaluated_too : (e : expr.Tree) (d : OutputResultView) → IsEvaluated variables names others objects e d → IsEvaluated variables names shapes objects e d
  evaluated_too e outputs.not_evaluated h = h
  evaluated_too e outputs.excused h = h
  evaluated_too e (outputs.valued t) h = meant_too e (outputs.valued t) h
  evaluated_too e (outputs.faulted why) h = meant_too e (outputs.faulted why) h

  done_too : (b : Bool) (e : expr.Tree) (d : OutputResultView) → MatchBool b (IsEvaluated variables names others objects e d) (d ≡ outputs.not_evaluated)
      → MatchBool b (IsEvaluated variables names shapes objects e d) (d ≡ outputs.not_evaluated)
  done_too true e d h = evaluated_too e d h
  done_too false e d h = h

  all_done_too : (settled : ℕ → Bool) (es : expr.Entries) (ds : List OutputResultView) → AreOutputsDone variables names others objects settled es ds → AreOutputsDone variables names shapes objects settled es ds
  all_done_too settled expr.no_entries [] h = h
  all_done_too settled expr.no_entries (d ∷ ds) h = h
  all_done_too settled (expr.entry name e es) [] h = h
  all_done_too settled (expr.entry name e es) (d ∷ ds) h = (done_too (names_are_settled names settled e) e d h.0, all_done_too settled es ds h.1)

-- ---- what records are given

needs_given : (names : List NameView) (needs others : ℕ → ℕ → Bool) (n : ℕ) → ((m : ℕ) → needs n m ≡ others n m) → dependencies needs names n ≡ dependencies others names n
needs_given names needs others n h i = fold (λ found m. with_address (address_of (meant_at names m)) found) [] (filter (λ m. h m i) (range_with_len 0 (length names)))

-- what the records of a resource are given, by its dependencies
abbrev given_by : PlanView → ActionView → Option (List ℕ) → List (List ℕ) → RecordInputView
given_by p a deposed ds = record { key = a.key; schema_version = a.version; dependencies = ds; create_before_destroy = p.late a.resource; deposed_key = deposed }

chosen : (b : Bool) (x y : RecordInputView) (z : Target) → (b ≡ true → x ≡ y) → (if b then an_instance x else z) ≡ (if b then an_instance y else z)
chosen true x y z h = ap (λ (g : RecordInputView). an_instance g) (h refl)
chosen false x y z h = refl

either : (b : Bool) (xs ys : List MetadataUpdateView) → (b ≡ true → xs ≡ ys) → (if b then xs else []) ≡ (if b then ys else [])
either true xs ys h = h refl
either false xs ys h = refl

flat_same : (f g : ResourceView → List MetadataUpdateView) (rs : List ResourceView) → ((r : ResourceView) → f r ≡ g r) → flat_map f rs ≡ flat_map g rs
flat_same f g [] h = refl
flat_same f g (r ∷ rs) h = let first = h r in let rest = flat_same f g rs h in λ i. first i ++ rest i

module _ (p : PlanView) (shapes : ℕ → InstanceKeysView) (needs : ℕ → ℕ → Bool) where
  abbrev GivesAlike : ActionView → Type 0
  GivesAlike a = is_apply a.step ≡ true → dependencies p.needs (plan_names p) a.resource ≡ dependencies needs (plan_names p) a.resource

  target_same : (a : ActionView) (k : Option (List ℕ)) → GivesAlike a → target_with p a k ≡ target_with (by p shapes needs) a k
  target_same a k h =
      chosen (is_apply a.step) (given_by p a k (dependencies p.needs (plan_names p) a.resource)) (given_by p a k (dependencies needs (plan_names p) a.resource)) (an_object (object_at a.key (deposed_key a.step)))
      (λ e. ap (given_by p a k) (h e))

  key_too : (a : ActionView) (k : Option (List ℕ)) → IsKeyFor (by p shapes needs) a k → IsKeyFor p a k
  key_too a None h = h
  key_too a (Some key) h = h

  head_too : (a : ActionView) (x : Head) → GivesAlike a → IsHeadOf (by p shapes needs) a x → IsHeadOf p a x
  head_too a x alike h = record {
    place = h.place;
    op = h.op;
    addr = h.addr;
    target = record { same = h.target.same ∙ sym (target_same a (key_in x.target) alike); key = key_too a (key_in x.target) h.target.key };
  }

  heads_too : (actions : List ActionView) (xs : List Head) → AllByRecursion GivesAlike actions → AreHeads (by p shapes needs) actions xs → AreHeads p actions xs
  heads_too [] [] alike h = h
  heads_too [] (x ∷ xs) alike h = h
  heads_too (a ∷ actions) [] alike h = h
  heads_too (a ∷ actions) (x ∷ xs) alike h = (head_too a x alike.0 h.0, heads_too actions xs alike.1 h.1)

  abbrev PlacesAlike : Type 0
  PlacesAlike =
      (addr : ResourceAddrView) (n : ℕ) → place_in (numbered (plan_names p) p.prior.resources) addr ≡ Some n → n < length (plan_names p)
      → dependencies p.needs (plan_names p) n ≡ dependencies needs (plan_names p) n

  renewals_there : PlacesAlike → (r : ResourceView) (o : Option ℕ) → place_in (numbered (plan_names p) p.prior.resources) r.addr ≡ o → metadata_updates_at p r o ≡ metadata_updates_at (by p shapes needs) r o
  renewals_there alike r None e = refl
  renewals_there alike r (Some n) e =
      either (nat_lt n (length (plan_names p))) (map (metadata_update_of_record p r.addr n) (filter (stays p n) r.records)) (map (metadata_update_of_record (by p shapes needs) r.addr n) (filter (stays p n) r.records))
      (λ b. ap
      (λ (ds : List (List ℕ)). map (λ (x : RecordView). record {
        addr = r.addr;
        given = record { key = x.id.key; schema_version = x.schema_version; dependencies = ds; create_before_destroy = p.late n; deposed_key = None };
      }) (filter (stays p n) r.records))
      (alike r.addr n e (ltb-true n (length (plan_names p)) b)))

  renewals_same : PlacesAlike → metadata_updates p ≡ metadata_updates (by p shapes needs)
  renewals_same alike =
      flat_same (metadata_updates_of p) (metadata_updates_of (by p shapes needs)) p.prior.resources (λ r. renewals_there alike r (place_in (numbered (plan_names p) p.prior.resources) r.addr) refl)

  state_too : (ms : List Meaning) (done : List ActionResultView) (entries : Entries) (s : StateView) → AllByRecursion GivesAlike p.actions → PlacesAlike → IsStateOf ms (by p shapes needs) done entries s → IsStateOf ms p done entries s
  state_too ms done entries s each alike h =
      let same : events ms (by p shapes needs) h.heads done ≡ events ms p h.heads done = ap (λ (rs : List MetadataUpdateView). record (events ms p h.heads done) { metadata_updates = rs }) (sym (renewals_same alike)) in
      record {
        heads = h.heads;
        are_heads = heads_too p.actions h.heads each h.are_heads;
        after = subst (λ (e : EventsView). IsStateAfter p.prior (given_in e) (ends_in e) entries s) same h.after;
      }

-- ---- reports

module _ (ms : List Meaning) (p : PlanView) (shapes : ℕ → InstanceKeysView) (needs : ℕ → ℕ → Bool) (alike : (n : ℕ) → n < length (plan_names p) → p.shapes n ≡ shapes n)
    (named : (name : Pair) (n m : ℕ) → place_of (plan_names p) name ≡ Some n → p.needs n m ≡ needs n m) (orderly : AreOrderly p.config p.prior) (declared : AllByRecursion (IsDeclared (plan_names p)) p.actions) where
  apart : resources_laws.AreApart (map a_name (plan_names p))
  apart = names-apart p.config orderly.blocks

  block_gives : (n : ℕ) (block : BlockView) → meant_at (plan_names p) n ≡ Some (a_block block) → dependencies p.needs (plan_names p) n ≡ dependencies needs (plan_names p) n
  block_gives n block meant = needs_given (plan_names p) p.needs needs n (λ m. named (addr_pair block.addr) n m (block_found p.config orderly.own_names apart n block meant))

  each_gives : (actions : List ActionView) → AllByRecursion (IsDeclared (plan_names p)) actions → AllByRecursion (GivesAlike p shapes needs) actions
  each_gives [] h = tt
  each_gives (a ∷ actions) h = (λ e. let is = h.0 e in block_gives a.resource is.block is.stands, each_gives actions h.1)

  places_give : PlacesAlike p shapes needs
  places_give addr n place below =
      let has = (blocks-first (plan_names p) p.prior.resources addr n place).0 below in
      let block = has_stands (plan_names p) addr has in
      let same : n ≡ block.0 =
      block_place (plan_names p) p.prior.resources (resources-apart (plan_names p) p.prior.resources apart orderly.resources) addr n block.0 block.1 place block.2 block.3 in
      block_gives n block.1 (ap (meant_at (plan_names p)) same ∙ block.2)

  requests_too : (requests : Requests) → AreRequests (by p shapes needs) requests → AreRequests p requests
  requests_too requests are objects a schema resolved_names block solves meant =
      are objects a schema resolved_names block (standings_too p.variables (plan_names p) p.shapes shapes objects resolved_names alike solves) meant

  outcomes_too : (requests : Requests) (excuses : List Excuse) (done : List ActionResultView) → AreOutcomes ms requests (by p shapes needs) excuses done → AreOutcomes ms requests p excuses done
  outcomes_too requests excuses done h = record { all = h.all; solves = h.solves }

  told_too : (done : List ActionResultView) (ends : List OutputResultView) (report : Report) → IsTold ms (by p shapes needs) done ends report → IsTold ms p done ends report
  told_too done ends report h = record {
    lawful = h.lawful;
    outcomes = h.outcomes;
    outputs_done = (h.outputs_done.0, h.outputs_done.1, all_done_too p.variables (plan_names p) p.shapes shapes (objects_after p done) alike h.outputs_done.0 p.config.outputs ends h.outputs_done.2);
    state = state_too p shapes needs ms done (outputs_after p.prior.outputs p.config.outputs ends) _ (each_gives p.actions declared) places_give h.state;
    valid = h.valid;
    diagnostics_told = h.diagnostics_told;
    good = h.good;
  }

  reported_by : (report : Report) → IsReported ms (by p shapes needs) report → IsReported ms p report
  reported_by report h = record {
    requests = h.requests;
    are_requests = requests_too h.requests h.are_requests;
    done = h.done;
    outputs = h.outputs;
    is_report = record {
      solved = outcomes_too h.requests report.excused.items h.done h.is_report.solved;
      asked = h.is_report.asked;
      told = told_too h.done h.outputs report h.is_report.told;
    };
  }

pub reported_too : (ms : List Meaning) (p q : PlanView) (report : Report) → AreOne p q → AreOrderly p.config p.prior → AllByRecursion (IsDeclared (plan_names p)) p.actions → IsReported ms q report → IsReported ms p report
reported_too ms p q report one orderly declared h =
    reported_by ms p q.shapes q.needs one.shapes one.needs orderly declared report (subst (λ (r : PlanView). IsReported ms r report) (sym (same_plan p q one)) h)
