-- What the steps of actions ask.
use Rattle.std.proofs.Common.{◌≡◌, ◌∙◌, ℕ, true, false, List, Some, None, Result, Ok, Err, refl, sym, ap, subst}
use Rattle.tf_plan_data.specs.Action.{ActionView, StepView, create, update, replacement, replaced, destroyed, deposed_destroyed}
use Rattle.tf_laws.specs.AskingLaws.{planned_object}
use Rattle.tf_plan_object.specs.Instance.{InstanceFaultView}
use Rattle.tf_plan_object.proofs.Keeping.{updates_named}
use Rattle.tf_plan_object.specs.Kept.{kept_object}
use Rattle.tf_walk_action.specs.Asked.{asked_by_step, create_of, destroy_of, op_of, update_of}
use Rattle.tf_plan_data.specs.Address.{address_text}
use Rattle.tf_plan_data.specs.Fits.{deposed_key, is_apply}
use Rattle.tf_provider_protocol.specs.Meaning.{Asked}
use Rattle.tf_provider_protocol.specs.Schema.{SchemaView}
use Rattle.tf_provider_protocol.specs.Verdict.{has_attributes}
use Rattle.tf_value_data.specs.Tree.{Tree}
use Rattle.tf_laws.specs.Requests.{object_before}

-- what is asked is about the action's instance, by its step
pub record IsOwn (a : ActionView) (step : StepView) (asked : Asked) : Type 0 where
  pub op : asked.op ≡ op_of step
  pub address : asked.address ≡ address_text a.addr a.key
  pub type_name : asked.type_name ≡ a.addr.type_name
  pub deposed : asked.deposed ≡ deposed_key step
  pub prior : asked.prior ≡ object_before step

same_own : (a : ActionView) (step : StepView) (r asked : Asked) → IsOwn a step r → ◌≡◌ {A = Result Asked InstanceFaultView} (Ok r) (Ok asked) → IsOwn a step asked
same_own a step r asked own e = let same : r ≡ asked = (cc) in subst (IsOwn a step) same own

pub asks_own : (ignored : List (List ℕ)) (schema : SchemaView) (a : ActionView) (made : Result Tree InstanceFaultView) (step : StepView) (asked : Asked) → asked_by_step ignored schema a made step ≡ Ok asked → IsOwn a step asked
asks_own ignored schema a (Ok t) (create u) asked e =
    same_own a (create u) (create_of a t) asked (record { op = refl; address = refl; type_name = refl; deposed = refl; prior = refl }) e
asks_own ignored schema a (Ok t) (update prior u names) asked e =
    same_own a (update prior u names) (update_of a prior (kept_object schema ignored prior t)) asked (record { op = refl; address = refl; type_name = refl; deposed = refl; prior = refl }) e
asks_own ignored schema a (Ok t) (replacement u names) asked e =
    same_own a (replacement u names) (create_of a t) asked (record { op = refl; address = refl; type_name = refl; deposed = refl; prior = refl }) e
asks_own ignored schema a (Err why) (create u) asked e = absurd (cc)
asks_own ignored schema a (Err why) (update prior u names) asked e = absurd (cc)
asks_own ignored schema a (Err why) (replacement u names) asked e = absurd (cc)
asks_own ignored schema a made (replaced prior) asked e =
    same_own a (replaced prior) (destroy_of a None prior) asked (record { op = refl; address = refl; type_name = refl; deposed = refl; prior = refl }) e
asks_own ignored schema a made (destroyed prior) asked e =
    same_own a (destroyed prior) (destroy_of a None prior) asked (record { op = refl; address = refl; type_name = refl; deposed = refl; prior = refl }) e
asks_own ignored schema a made (deposed_destroyed key prior) asked e =
    same_own a (deposed_destroyed key prior) (destroy_of a (Some key) prior) asked (record { op = refl; address = refl; type_name = refl; deposed = refl; prior = refl }) e

object_none : (r asked : Asked) → r.object ≡ None → ◌≡◌ {A = Result Asked InstanceFaultView} (Ok r) (Ok asked) → asked.object ≡ None
object_none r asked none e = let same : r ≡ asked = (cc) in sym (ap (λ (x : Asked). x.object) same) ∙ none

-- a destroy is planned with no object, and asks for none
pub destroys_none : (ignored : List (List ℕ)) (schema : SchemaView) (a : ActionView) (made : Result Tree InstanceFaultView) (step : StepView) (asked : Asked) → is_apply step ≡ false → asked_by_step ignored schema a made step ≡ Ok asked
    → (planned_object step ≡ None) × (asked.object ≡ None)
destroys_none ignored schema a made (replaced prior) asked h e = (refl, object_none (destroy_of a None prior) asked refl e)
destroys_none ignored schema a made (destroyed prior) asked h e = (refl, object_none (destroy_of a None prior) asked refl e)
destroys_none ignored schema a made (deposed_destroyed key prior) asked h e = (refl, object_none (destroy_of a (Some key) prior) asked refl e)
destroys_none ignored schema a made (create t) asked h e = absurd (cc)
destroys_none ignored schema a made (update prior t names) asked h e = absurd (cc)
destroys_none ignored schema a made (replacement t names) asked h e = absurd (cc)

-- where the block makes an object, something is asked
pub asks_some : (ignored : List (List ℕ)) (schema : SchemaView) (a : ActionView) (t : Tree) (step : StepView) → (asked : Asked) × (asked_by_step ignored schema a (Ok t) step ≡ Ok asked)
asks_some ignored schema a t (create u) = (create_of a t, refl)
asks_some ignored schema a t (update prior u names) = (update_of a prior (kept_object schema ignored prior t), refl)
asks_some ignored schema a t (replacement u names) = (create_of a t, refl)
asks_some ignored schema a t (replaced prior) = (destroy_of a None prior, refl)
asks_some ignored schema a t (destroyed prior) = (destroy_of a None prior, refl)
asks_some ignored schema a t (deposed_destroyed key prior) = (destroy_of a (Some key) prior, refl)

-- an object is planned where one is made or changed
pub planned_applies : (step : StepView) (t : Tree) → planned_object step ≡ Some t → is_apply step ≡ true
planned_applies (create u) t e = refl
planned_applies (update prior u names) t e = refl
planned_applies (replacement u names) t e = refl
planned_applies (replaced prior) t e = absurd (cc)
planned_applies (destroyed prior) t e = absurd (cc)
planned_applies (deposed_destroyed key prior) t e = absurd (cc)

same_named : (schema : SchemaView) (r asked : Asked) (t u : Tree) → r.object ≡ Some t → has_attributes schema t ≡ true → ◌≡◌ {A = Result Asked InstanceFaultView} (Ok r) (Ok asked) → asked.object ≡ Some u → has_attributes schema u ≡ true
same_named schema r asked t u own named e object =
    let same : r ≡ asked = (cc) in
    let both : Some t ≡ Some u = sym own ∙ ap (λ (x : Asked). x.object) same ∙ object in
    let is : t ≡ u = (cc) in
    subst (λ (v : Tree). has_attributes schema v ≡ true) is named

-- what is asked for has the schema's attributes where what the block makes has
pub asks_named : (ignored : List (List ℕ)) (schema : SchemaView) (a : ActionView) (t u : Tree) (step : StepView) (asked : Asked) → has_attributes schema t ≡ true → asked_by_step ignored schema a (Ok t) step ≡ Ok asked
    → asked.object ≡ Some u → has_attributes schema u ≡ true
asks_named ignored schema a t u (create v) asked named e object = same_named schema (create_of a t) asked t u refl named e object
asks_named ignored schema a t u (update prior v names) asked named e object =
    same_named schema (update_of a prior (kept_object schema ignored prior t)) asked (kept_object schema ignored prior t) u refl (updates_named schema ignored prior t named) e object
asks_named ignored schema a t u (replacement v names) asked named e object = same_named schema (create_of a t) asked t u refl named e object
asks_named ignored schema a t u (replaced prior) asked named e object = let no = object_none (destroy_of a None prior) asked refl e in absurd (cc)
asks_named ignored schema a t u (destroyed prior) asked named e object = let no = object_none (destroy_of a None prior) asked refl e in absurd (cc)
asks_named ignored schema a t u (deposed_destroyed key prior) asked named e object = let no = object_none (destroy_of a (Some key) prior) asked refl e in absurd (cc)
