-- What is collected, member after member and place after place, is the actions and the refusals of the instances.
use Rattle.std.proofs.Common.{◌≡◌, ◌++◌, ◌+◌, ℕ, List, [], ◌∷◌, map, Some, None, Option, Ok, Err, append_assoc, append-nil, refl, sym, ap, ◌∙◌}
use Rattle.std.proofs.lemmas.List.Concat.{flat_map-append}
use Rattle.std.specs.List.{enumerate_from, flat_map}
use Rattle.std.specs.Prelude.{fold, slice_get}
use Rattle.tf_config_address.specs.ObjectId.{InstanceKeyView}
use Rattle.tf_config_data.specs.Names.{NameView}
use Rattle.tf_plan_decision.specs.Collecting.{with_members, with_outcome, with_row}
use Rattle.tf_plan_decision.specs.Deciding.{DecidedView, InstanceOutcomeView, OfView, action, decisions_on, instance_actions, instance_outcomes, instance_refusals, steps_in}
use Rattle.tf_plan_decision.specs.Outcome.{OutcomeView}
use Rattle.tf_plan_decision.specs.Rows.{followed_by, gathered, nothing_decided, row, row_at}
use Rattle.tf_plan_decision.specs.Whole.{instances, instances_at}
use Rattle.tf_expand_keys.specs.InstanceKeys.{InstanceKeysView}
use Rattle.tf_expand_keys.specs.Resolved.{ResolvedView}
use Rattle.tf_plan_order.specs.Members.{InstanceToPlanView}
use Rattle.tf_plan_order.specs.ResourceIndex.{ResourceRefView, a_name, an_orphan, numbered}
use Rattle.tf_provider_protocol.specs.Meaning.{Meaning}
use Rattle.tf_state_data.specs.Resource.{ResourceView}
use Rattle.tf_value_data.specs.Tree.{Entries}

nothing_followed : (d : DecidedView) → followed_by d nothing_decided ≡ d
nothing_followed d = (λ j. record { actions = append-nil d.actions j; refusals = append-nil d.refusals j })

followed_twice : (a b c : DecidedView) → followed_by (followed_by a b) c ≡ followed_by a (followed_by b c)
followed_twice a b c = (λ j. record { actions = append_assoc a.actions b.actions c.actions j; refusals = append_assoc a.refusals b.refusals c.refusals j })

-- ---- the members of a resource

-- a member with its number and its outcome
abbrev pub numbered_outcome : OfView → (InstanceToPlanView → OutcomeView) → ℕ × InstanceToPlanView → InstanceOutcomeView
numbered_outcome of becomes m = record { of = of; instance = m.0; key = m.1.key; outcome = becomes m.1 }

-- the actions and the refusal of one instance
abbrev given_by : OfView → ℕ → InstanceKeyView → OutcomeView → DecidedView
given_by of i key o = record { actions = map (action of i key) (steps_in o); refusals = instance_refusals (record { of = of; instance = i; key = key; outcome = o }) }

outcome_collected : (of : OfView) (i : ℕ) (key : InstanceKeyView) (o : OutcomeView) (d : DecidedView) → followed_by d (given_by of i key o) ≡ with_outcome of i key o d
outcome_collected of i key (Ok steps) d = (λ j. record { actions = d.actions ++ map (action of i key) steps; refusals = append-nil d.refusals j })
outcome_collected of i key (Err why) d = (λ j. record { actions = append-nil d.actions j; refusals = d.refusals ++ record { addr = of.addr; key = key; why = why } ∷ [] })

members_from : (of : OfView) (becomes : InstanceToPlanView → OutcomeView) (i : ℕ) (ms : List InstanceToPlanView) (d : DecidedView)
    → with_members of becomes i ms d ≡ followed_by d (decisions_on (map (numbered_outcome of becomes) (enumerate_from i ms)))
members_from of becomes i [] d = sym (nothing_followed d)
members_from of becomes i (m ∷ ms) d =
    let rest : DecidedView = decisions_on (map (numbered_outcome of becomes) (enumerate_from (i + 1) ms)) in
    members_from of becomes (i + 1) ms (with_outcome of i m.key (becomes m) d)
    ∙ ap (λ (e : DecidedView). followed_by e rest) (sym (outcome_collected of i m.key (becomes m) d))
    ∙ followed_twice d (given_by of i m.key (becomes m)) rest

-- what is collected of the members of a resource
pub members_collected : (of : OfView) (becomes : InstanceToPlanView → OutcomeView) (ms : List InstanceToPlanView) (d : DecidedView)
    → with_members of becomes 0 ms d ≡ followed_by d (decisions_on (instance_outcomes of becomes ms))
members_collected of becomes ms d = members_from of becomes 0 ms d

-- ---- places

module _ (ms : List Meaning) (rows : ℕ → DecidedView) where
  row_collected : (n : ℕ) (o : Option ResourceRefView) (d : DecidedView) → with_row ms rows n o d ≡ followed_by d (row_at ms rows n o)
  row_collected n None d = sym (nothing_followed d)
  row_collected n (Some (a_name name)) d = refl
  row_collected n (Some (an_orphan r)) d = refl

  -- what is collected of places, one after another
  abbrev pub collected : List ResourceRefView → List ℕ → DecidedView
  collected all order = fold (λ d n. with_row ms rows n (slice_get all n) d) nothing_decided order

  rows_collected : (all : List ResourceRefView) (order : List ℕ) (d : DecidedView) → fold (λ e n. with_row ms rows n (slice_get all n) e) d order ≡ followed_by d (gathered ms rows all order)
  rows_collected all [] d = sym (nothing_followed d)
  rows_collected all (n ∷ order) d =
      rows_collected all order (with_row ms rows n (slice_get all n) d)
      ∙ ap (λ (e : DecidedView). followed_by e (gathered ms rows all order)) (row_collected n (slice_get all n) d)
      ∙ followed_twice d (row_at ms rows n (slice_get all n)) (gathered ms rows all order)

  pub collected_is : (all : List ResourceRefView) (order : List ℕ) → collected all order ≡ gathered ms rows all order
  collected_is all order = rows_collected all order nothing_decided

-- ---- all instances

pub flat_flat : {A B C : Type 0} (f : B → List C) (g : A → List B) (xs : List A) → flat_map f (flat_map g xs) ≡ flat_map (λ x. flat_map f (g x)) xs
flat_flat f g [] = refl
flat_flat f g (x ∷ xs) = flat_map-append f (g x) (flat_map g xs) ∙ ap (λ ys. flat_map f (g x) ++ ys) (flat_flat f g xs)

module _ (ms : List Meaning) (resources : List ResourceView) (variables : Entries) (names : List NameView) (shapes : ℕ → InstanceKeysView) (resolved_names : ℕ → ResolvedView)
    (rows : ℕ → DecidedView) (right : (n : ℕ) (name : NameView) → slice_get (numbered names resources) n ≡ Some (a_name name) → rows n ≡ row ms resources variables names shapes resolved_names n (Some name.meant)) where
  abbrev at_place : ℕ → List InstanceOutcomeView
  at_place n = instances_at ms resources variables names shapes resolved_names n (slice_get (numbered names resources) n)

  placed : (n : ℕ) (o : Option ResourceRefView) → slice_get (numbered names resources) n ≡ o → row_at ms rows n o ≡ decisions_on (instances_at ms resources variables names shapes resolved_names n o)
  placed n None e = refl
  placed n (Some (a_name name)) e = right n name e
  placed n (Some (an_orphan r)) e = refl

  same_actions : (order : List ℕ) → flat_map (λ n. (row_at ms rows n (slice_get (numbered names resources) n)).actions) order ≡ flat_map (λ n. flat_map instance_actions (at_place n)) order
  same_actions order = (λ i. flat_map (λ n. (placed n (slice_get (numbered names resources) n) refl i).actions) order)

  same_refusals : (order : List ℕ) → flat_map (λ n. (row_at ms rows n (slice_get (numbered names resources) n)).refusals) order ≡ flat_map (λ n. flat_map instance_refusals (at_place n)) order
  same_refusals order = (λ i. flat_map (λ n. (placed n (slice_get (numbered names resources) n) refl i).refusals) order)

  -- What is gathered, where each name's row is right, is the actions and the refusals of all instances.
  pub gathered_is : (order : List ℕ) → gathered ms rows (numbered names resources) order ≡ decisions_on (instances ms resources variables names shapes resolved_names order)
  gathered_is order =
      let actions = same_actions order ∙ sym (flat_flat instance_actions at_place order) in
      let refusals = same_refusals order ∙ sym (flat_flat instance_refusals at_place order) in
      (λ i. record { actions = actions i; refusals = refusals i })
