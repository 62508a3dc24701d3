-- The first action that is seen of an instance.
use Rattle.std.proofs.Common.{◌≡◌, ◌<◌, ◌≤◌, ◌+◌, ℕ, zero, suc, Bool, true, false, List, [], ◌∷◌, None, length, drop, get_or, if◌then◌else◌, refl, ap, sym, ◌∙◌, add-one, arith}
use Rattle.std.proofs.Math.Seq.{drop-cons}
use Rattle.std.proofs.lemmas.List.{drop_all}
use Rattle.std.specs.Prelude.{slice_get}
use Rattle.tf_plan_data.specs.Action.{ActionView}
use Rattle.tf_config_address.specs.ObjectId.{InstanceKeyView}
use Rattle.tf_config_data.specs.Names.{NameView, meant_at}
use Rattle.tf_graph.specs.Solutions.{seen_by}
use Rattle.tf_state_data.specs.State.{StateView}
use Rattle.tf_value_data.specs.Tree.{Tree, null}
use Rattle.tf_walk_action.specs.ActionResult.{ActionResultView}
use Rattle.tf_walk_action.specs.Objects.{is_of, object_of, objects_seen, prior_object}

module _ (names : List NameView) (prior : StateView) (actions : List ActionView) (results : ℕ → ActionResultView) (seen : List ℕ) (i place : ℕ) (key : InstanceKeyView) where
  -- what the actions from one on give
  abbrev pub object_from : ℕ → Tree
  object_from k = objects_seen names prior actions (seen_by results (drop k seen)) place key

  pub objects-from : i < length seen
      → object_from i ≡ (if is_of (slice_get actions (get_or seen i 0)) place key then object_of (results (get_or seen i 0)) else object_from (i + 1))
  objects-from h = rw (add-one, drop-cons seen i 0) refl

  -- the action gives its object, if it is of the instance
  pub object-here : i < length seen → is_of (slice_get actions (get_or seen i 0)) place key ≡ true → object_from i ≡ object_of (results (get_or seen i 0))
  object-here h here = objects-from h ∙ ap (λ (b : Bool). if b then object_of (results (get_or seen i 0)) else object_from (i + 1)) here

  -- and else nothing
  pub object-later : i < length seen → is_of (slice_get actions (get_or seen i 0)) place key ≡ false → object_from i ≡ object_from (i + 1)
  object-later h other = objects-from h ∙ ap (λ (b : Bool). if b then object_of (results (get_or seen i 0)) else object_from (i + 1)) other

  -- past the last action there is the prior object
  pub object-none : length seen ≤ i → prior_object prior key (meant_at names place) ≡ object_from i
  object-none h = rw drop_all refl

-- nothing stands past the last name
meant-past : (names : List NameView) (n : ℕ) → length names ≤ n → meant_at names n ≡ None
meant-past [] n h = refl
meant-past (x ∷ xs) zero h = absurd (omega (arith, h))
meant-past (x ∷ xs) (suc n) h = meant-past xs n (omega (arith, h))

-- so there is no object there
pub prior-past : (prior : StateView) (key : InstanceKeyView) (names : List NameView) (n : ℕ) → length names ≤ n → null ≡ prior_object prior key (meant_at names n)
prior-past prior key names n h = sym (ap (prior_object prior key) (meant-past names n h))
