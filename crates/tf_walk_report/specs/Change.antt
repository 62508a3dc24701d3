-- What an action changes of what is known, by its result.
use Rattle.std.specs.Option.{option_map_or}
use Rattle.std.specs.List.{filter_map}
use Rattle.std.specs.Prelude.{◌<◌, ◌^◌, List, [], ◌∷◌, Option, Some, None, ⊤}
use Rattle.tf_config_address.specs.ResourceAddr.{ResourceAddrView}
use Rattle.tf_state_next.specs.Events.{ApplyView, DestroyView}
use Rattle.tf_walk_action.specs.Outcome.{ActionResultView, called}
use Rattle.tf_provider_protocol.specs.Meaning.{Asked, Answer, Meaning, schema_in}
use Rattle.tf_provider_protocol.specs.Schema.{SchemaView}
use Rattle.tf_provider_protocol.specs.declared.request.Op.{Op}
use Rattle.tf_provider_protocol.specs.declared.request.Op.TheVariants.{Create, Update, Destroy}
use Rattle.tf_provider_protocol.specs.declared.verdict.Verdict.{Verdict}
use Rattle.tf_state.specs.Valid.{IsAttributes}
use Rattle.tf_state_next.specs.Ends.{SavedView, LeftView, gone, changed, unchanged, ApplyResultView, unwanted, unplanned, nothing, saved, as_applied}
use Rattle.tf_state_next.specs.Saved.{saved_by_create, saved_by_update, left_by_destroy}
use Rattle.tf_walk_buffers.specs.Head.{Head, Target, an_instance, an_object}

-- What a call saves: a create saves as creates do, also one that replaces an object, and an update as updates do.
abbrev pub saved_by : Op → SchemaView → Asked → Option Answer → Verdict → Option SavedView
saved_by Create schema asked answer v = saved_by_create schema asked answer v
saved_by Update schema asked answer v = saved_by_update schema answer v
saved_by Destroy schema asked answer v = None

-- The outcome of a create or an update: only one that was called saves anything.
abbrev pub applied_of_done : List Meaning → Op → ActionResultView → ApplyResultView
applied_of_done ms op (called asked answer v) = as_applied (option_map_or (λ schema. saved_by op schema asked answer v) (schema_in asked.type_name ms) None)
applied_of_done ms op _ = nothing

-- What a destroy left: if no provider was called, what is known of the object stays.
abbrev pub left_of_done : List Meaning → ActionResultView → LeftView
left_of_done ms (called asked answer v) = option_map_or (λ schema. left_by_destroy schema answer v) (schema_in asked.type_name ms) unchanged
left_of_done ms _ = unchanged

-- What an action changes: the current object of an instance, or an object that it destroyed.
pub data ChangeView : Type 0 where
  an_apply : ApplyView → ChangeView
  a_destroy : DestroyView → ChangeView

-- the change of an action with a target, by its outcome as a create or an update, or as a destroy
abbrev pub change_by : ResourceAddrView → Target → ApplyResultView → LeftView → ChangeView
change_by addr (an_instance given) applied left = an_apply (record { addr = addr; given = given; applied = applied })
change_by addr (an_object id) applied left = a_destroy (record { addr = addr; id = id; left = left })

-- an action that wasn't called saved nothing, and left what is known as it was
abbrev pub unchanged_at : Head → ChangeView
unchanged_at h = change_by h.addr h.target nothing unchanged

-- what a call changes, by the schema of its type, the request, the answer and the verdict on it
abbrev pub changed_by_call : Head → SchemaView → Asked → Option Answer → Verdict → ChangeView
changed_by_call h schema asked answer v = change_by h.addr h.target (as_applied (saved_by h.op schema asked answer v)) (left_by_destroy schema answer v)

-- what an action changes, by its result
abbrev pub change_at : List Meaning → Head → ActionResultView → ChangeView
change_at ms h d = change_by h.addr h.target (applied_of_done ms h.op d) (left_of_done ms d)

-- what some actions change, in their order
abbrev pub changes_in : List Meaning → List Head → List ActionResultView → List ChangeView
changes_in ms (h ∷ heads) (d ∷ done) = change_at ms h d ∷ changes_in ms heads done
changes_in ms _ _ = []

abbrev pub apply_in : ChangeView → Option ApplyView
apply_in (an_apply a) = Some a
apply_in (a_destroy d) = None

abbrev pub destroy_in : ChangeView → Option DestroyView
destroy_in (an_apply a) = None
destroy_in (a_destroy d) = Some d

-- the outcomes of creates and updates
abbrev pub applies_in : List ChangeView → List ApplyView
applies_in changes = filter_map apply_in changes

-- the outcomes of destroys
abbrev pub destroys_in : List ChangeView → List DestroyView
destroys_in changes = filter_map destroy_in changes

-- what was saved has attributes that a text can hold
abbrev pub MayBeSaved : ApplyResultView → Type 0
MayBeSaved (saved s) = IsAttributes s.0
MayBeSaved nothing = ⊤
MayBeSaved unplanned = ⊤
MayBeSaved unwanted = ⊤

-- what was left has attributes that a text can hold
abbrev pub MayBeLeft : LeftView → Type 0
MayBeLeft (changed t) = IsAttributes t
MayBeLeft gone = ⊤
MayBeLeft unchanged = ⊤

-- what is known after a change has attributes and a version that a text can hold
abbrev pub MayBeStored : ChangeView → Type 0
MayBeStored (an_apply a) = MayBeSaved a.applied × (a.given.schema_version < 2 ^ 32)
MayBeStored (a_destroy d) = MayBeLeft d.left
