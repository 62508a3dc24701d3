-- What actions are about: of one instance, and of one resource, no two are about the same.
use Rattle.std.proofs.Common.{◌≡◌, ◌∙◌, ◌+◌, ◌++◌, ℕ, List, [], ◌∷◌, Ok, Err, map, refl, sym, ap, subst, arith}
use Rattle.std.proofs.lemmas.List.{map-append}
use Rattle.std.specs.List.{flat_map}
use Rattle.std.specs.Prelude.{Contains}
use Rattle.tf_plan_data.specs.Action.{StepView}
use Rattle.tf_config_address.specs.ResourceAddr.{ResourceAddrView}
use Rattle.tf_config_address.specs.ObjectId.{InstanceKeyView}
use Rattle.tf_plan_decision.specs.Deciding.{OfView, action}
use Rattle.tf_plan_decision.specs.Outcome.{OutcomeView}
use Rattle.tf_plan_order.specs.Members.{InstanceToPlanView, all_keys, member, members}
use Rattle.tf_plan_planner.proofs.Distinct.{AreDistinct, distinct-flat, distinct-told, in_flat_map, in_map}
use Rattle.tf_plan_planner.proofs.Listing.{member_actions, outcome_actions}
use Rattle.tf_plan_planner.proofs.Objects.{keys-distinct}
use Rattle.tf_plan_planner.proofs.Steps.{Sign, sign}
use Rattle.tf_plan_data.specs.Fits.{AboutView, about, is_apply, deposed_key}
use Rattle.tf_state_data.specs.Record.{RecordView}

-- what a step of an instance is about
abbrev pub about_step : ResourceAddrView → InstanceKeyView → StepView → AboutView
about_step addr key s = record { addr = addr; key = key; applies = is_apply s; deposed = deposed_key s }

abbrev pub outcome_abouts : ResourceAddrView → InstanceKeyView → OutcomeView → List AboutView
outcome_abouts addr key (Ok steps) = map (about_step addr key) steps
outcome_abouts addr key (Err why) = []

-- the steps of an outcome, and what tells them apart
abbrev pub outcome_signs : OutcomeView → List Sign
outcome_signs (Ok steps) = map sign steps
outcome_signs (Err why) = []

-- ---- one instance

pub outcome-distinct : (addr : ResourceAddrView) (key : InstanceKeyView) (o : OutcomeView) → AreDistinct (outcome_signs o) → AreDistinct (outcome_abouts addr key o)
outcome-distinct addr key (Ok steps) d =
    distinct-told (about_step addr key) sign steps (λ s t c e same. (λ i. ((same i).applies, (same i).deposed))) d
outcome-distinct addr key (Err why) d = tt

outcome-about : (addr : ResourceAddrView) (key : InstanceKeyView) (o : OutcomeView) (b : AboutView) → Contains (outcome_abouts addr key o) b → (b.addr ≡ addr) × (b.key ≡ key)
outcome-about addr key (Ok steps) b c = let s = in_map (about_step addr key) steps b c in (sym (ap (λ (x : AboutView). x.addr) s.2), sym (ap (λ (x : AboutView). x.key) s.2))
outcome-about addr key (Err why) b c = absurd (omega (arith, c.1))

-- ---- one resource

map-about : (of : OfView) (i : ℕ) (key : InstanceKeyView) (steps : List StepView) → map about (map (action of i key) steps) ≡ map (about_step of.addr key) steps
map-about of i key [] = refl
map-about of i key (s ∷ steps) = ap (λ xs. about_step of.addr key s ∷ xs) (map-about of i key steps)

about-outcome : (of : OfView) (i : ℕ) (key : InstanceKeyView) (o : OutcomeView) → map about (outcome_actions of i key o) ≡ outcome_abouts of.addr key o
about-outcome of i key (Ok steps) = map-about of i key steps
about-outcome of i key (Err why) = refl

-- what the actions of members are about, one after another
about-members : (of : OfView) (becomes : InstanceToPlanView → OutcomeView) (i : ℕ) (ms : List InstanceToPlanView)
    → map about (member_actions of becomes i ms) ≡ flat_map (λ m. outcome_abouts of.addr m.key (becomes m)) ms
about-members of becomes i [] = refl
about-members of becomes i (m ∷ ms) =
    map-append about (outcome_actions of i m.key (becomes m)) (member_actions of becomes (i + 1) ms)
    ∙ ap (λ xs. xs ++ map about (member_actions of becomes (i + 1) ms)) (about-outcome of i m.key (becomes m))
    ∙ ap (λ xs. outcome_abouts of.addr m.key (becomes m) ++ xs) (about-members of becomes (i + 1) ms)

flat-mapped : {A B C : Type 0} (g : B → List C) (h : A → B) (xs : List A) → flat_map g (map h xs) ≡ flat_map (λ x. g (h x)) xs
flat-mapped g h [] = refl
flat-mapped g h (x ∷ xs) = ap (λ ys. g (h x) ++ ys) (flat-mapped g h xs)

-- no two actions of a resource are about the same, where no two of an instance are
pub resource-distinct : (of : OfView) (becomes : InstanceToPlanView → OutcomeView) (keys : List InstanceKeyView) (records : List RecordView)
    → ((key : InstanceKeyView) → AreDistinct (outcome_signs (becomes (member keys records key)))) → AreDistinct (map about (member_actions of becomes 0 (members keys records)))
resource-distinct of becomes keys records each =
    let ks : List InstanceKeyView = all_keys keys records in
    let g = λ (key : InstanceKeyView). outcome_abouts of.addr key (becomes (member keys records key)) in
    let same = about-members of becomes 0 (members keys records) ∙ flat-mapped (λ (m : InstanceToPlanView). outcome_abouts of.addr m.key (becomes m)) (member keys records) ks in
    subst AreDistinct (sym same)
    (distinct-flat g ks (keys-distinct keys records) (λ key c. outcome-distinct of.addr key (becomes (member keys records key)) (each key))
    (λ j k b cj ck bj bk.
    sym (outcome-about of.addr j (becomes (member keys records j)) b bj).1 ∙ (outcome-about of.addr k (becomes (member keys records k)) b bk).1))

-- all of them are about it
pub resource-about : (of : OfView) (becomes : InstanceToPlanView → OutcomeView) (i : ℕ) (ms : List InstanceToPlanView) (b : AboutView) → Contains (map about (member_actions of becomes i ms)) b → b.addr ≡ of.addr
resource-about of becomes i ms b c =
    let there = subst (λ xs. Contains xs b) (about-members of becomes i ms) c in
    let m = in_flat_map (λ (m : InstanceToPlanView). outcome_abouts of.addr m.key (becomes m)) ms b there in
    (outcome-about of.addr m.0.key (becomes m.0) b m.2).0
