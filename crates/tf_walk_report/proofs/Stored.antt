-- What a call changes may be stored.
use Rattle.std.proofs.Common.{◌≡◌, Bool, true, false, not, refl, sym, ap, subst}
use Rattle.std.specs.Option.{option_map_or}
use Rattle.std.specs.Prelude.{Option, Some, None, IfSome, IsSome, option_map, option_and_then, if◌then◌else◌}
use Rattle.tf_provider_protocol.specs.Meaning.{Asked, Answer, object, gone, failed}
use Rattle.tf_provider_protocol.specs.Schema.{SchemaView}
use Rattle.tf_provider_protocol.specs.Verdict.{verdict_on, well_formed, contradiction, is_destroy}
use Rattle.tf_provider_protocol.specs.declared.request.Op.{Op}
use Rattle.tf_provider_protocol.specs.declared.request.Op.TheVariants.{Create, Update, Destroy}
use Rattle.tf_provider_protocol.specs.declared.verdict.Verdict.{Verdict}
use Rattle.tf_provider_protocol.specs.declared.verdict.Verdict.TheVariants as verdict
use Rattle.tf_state.specs.Valid.{IsAttributes}
use Rattle.tf_state_next.specs.Ends.{as_applied, changed, unchanged}
use Rattle.tf_state_next.specs.Saved.{as_saved, formed_in, left_by_destroy, object_replied, object_there}
use Rattle.tf_value_data.specs.Nulls.{with_nulls}
use Rattle.tf_state_data.specs.declared.object.Object.{Object}
use Rattle.tf_walk_action.specs.Storable.{has_stored_attributes}
use Rattle.tf_value_data.specs.Tree.{Tree, tree_of}
use Rattle.tf_walk_report.specs.Change.{MayBeLeft, MayBeSaved, saved_by}

-- a verdict by which a reply is saved
abbrev saves_reply : Verdict → Bool
saves_reply verdict.Good = true
saves_reply (verdict.Contradicted place) = true
saves_reply _ = false

formed_at : (formed destroys : Bool) (t : Tree) (v : Verdict) → saves_reply (if destroys then verdict.Malformed else (if not formed then verdict.Malformed else v)) ≡ true
    → Some t ≡ (if formed then Some t else None)
formed_at true destroys t v e = refl
formed_at false true t v e = absurd (cc)
formed_at false false t v e = absurd (cc)

-- a reply that is saved is well formed
replied_formed : (r : Asked) (a : Option Answer) (s : SchemaView) → saves_reply (verdict_on r a s) ≡ true → object_replied a ≡ formed_in s a
replied_formed r None s e = refl
replied_formed r (Some (object t)) s e =
    formed_at (well_formed s t) (is_destroy r.op) t (option_map_or verdict.Contradicted (option_and_then (λ u. contradiction s u t) r.object) verdict.Good) e
replied_formed r (Some gone) s e = refl
replied_formed r (Some (failed m t)) s e = absurd (cc)

there_stored : (s : SchemaView) (a : Option Answer) → IfSome (formed_in s a) IsAttributes → IfSome (object_there s a) IsAttributes
there_stored s None f = tt
there_stored s (Some (object t)) f = tt
there_stored s (Some gone) f = tt
there_stored s (Some (failed m None)) f = tt
there_stored s (Some (failed m (Some t))) f = f

as_saved-stored : (b : Bool) (o : Option Tree) → IfSome o IsAttributes → MayBeSaved (as_applied (as_saved b o))
as_saved-stored b None h = tt
as_saved-stored b (Some t) h = h

reply_stored : (b : Bool) (r : Asked) (a : Option Answer) (s : SchemaView) → saves_reply (verdict_on r a s) ≡ true → IfSome (formed_in s a) IsAttributes → MayBeSaved (as_applied (as_saved b (object_replied a)))
reply_stored b r a s e f = as_saved-stored b (object_replied a) (subst (λ (o : Option Tree). IfSome o IsAttributes) (sym (replied_formed r a s e)) f)

-- what a create or an update saves may be stored, where the object in the reply and the one that a create asked for may be
pub saved-stored : (op : Op) (s : SchemaView) (r : Asked) (a : Option Answer) (v : Verdict) → v ≡ verdict_on r a s → IfSome (formed_in s a) IsAttributes → (op ≡ Create → v ≡ verdict.Malformed → IfSome (option_map with_nulls r.object) IsAttributes)
    → MayBeSaved (as_applied (saved_by op s r a v))
saved-stored Create s r a verdict.Good e f n = reply_stored false r a s (ap saves_reply (sym e)) f
saved-stored Create s r a (verdict.Contradicted place) e f n = reply_stored true r a s (ap saves_reply (sym e)) f
saved-stored Create s r a verdict.Malformed e f n = as_saved-stored true (option_map with_nulls r.object) (n refl refl)
saved-stored Create s r a verdict.Failed e f n = as_saved-stored true (object_there s a) (there_stored s a f)
saved-stored Create s r a verdict.Excused e f n = tt
saved-stored Update s r a verdict.Good e f n = reply_stored false r a s (ap saves_reply (sym e)) f
saved-stored Update s r a (verdict.Contradicted place) e f n = reply_stored false r a s (ap saves_reply (sym e)) f
saved-stored Update s r a verdict.Malformed e f n = tt
saved-stored Update s r a verdict.Failed e f n = as_saved-stored false (object_there s a) (there_stored s a f)
saved-stored Update s r a verdict.Excused e f n = tt
saved-stored Destroy s r a v e f n = tt

left_by : (o : Option Tree) → IfSome o IsAttributes → MayBeLeft (option_map_or changed o unchanged)
left_by None h = tt
left_by (Some t) h = h

-- what a destroy leaves may be stored, where the object in the reply may be
pub left-stored : (s : SchemaView) (a : Option Answer) (v : Verdict) → IfSome (formed_in s a) IsAttributes → MayBeLeft (left_by_destroy s a v)
left-stored s a verdict.Good f = tt
left-stored s a (verdict.Contradicted place) f = tt
left-stored s a verdict.Malformed f = tt
left-stored s a verdict.Failed f = left_by (object_there s a) (there_stored s a f)
left-stored s a verdict.Excused f = tt

-- ---- objects as the code has them

pub stored_of : (o : Option Object) (t : Option Tree) → option_map (λ x. tree_of x.value) o ≡ t → IfSome o (λ x. IsAttributes (tree_of x.value)) → IfSome t IsAttributes
stored_of None t e h = subst (λ (x : Option Tree). IfSome x IsAttributes) e tt
stored_of (Some o) t e h = subst (λ (x : Option Tree). IfSome x IsAttributes) e h

pub tested_stored : (o : Option Object) → IfSome o (λ x. has_stored_attributes (tree_of x.value) ≡ true → IsAttributes (tree_of x.value)) → IfSome (option_map (λ x. tree_of x.value) o) (λ t. has_stored_attributes t ≡ true)
    → IfSome (option_map (λ x. tree_of x.value) o) IsAttributes
tested_stored None h k = tt
tested_stored (Some o) h k = h k

-- where an object was asked for, there is one in which null stands for what isn't known
pub there_of : (o : Option Object) (t : Option Tree) → option_map (λ x. tree_of x.value) o ≡ option_map with_nulls t → IsSome t → IsSome o
there_of (Some o) t e h = search
there_of None None e h = h
there_of None (Some t) e h = absurd (cc)
