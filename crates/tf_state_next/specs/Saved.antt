-- What an action saves of an object, and what it leaves of one, by the reply and its verdict.
use Rattle.std.specs.Prelude.{Bool, true, false, if◌then◌else◌, Option, Some, None, option_map}
use Rattle.std.specs.Option.{option_map_or}
use Rattle.tf_provider_protocol.specs.Meaning.{Asked, Answer, object, failed}
use Rattle.tf_provider_protocol.specs.Schema.{SchemaView}
use Rattle.tf_provider_protocol.specs.Verdict.{well_formed}
use Rattle.tf_provider_protocol.specs.declared.verdict.Verdict.{Verdict}
use Rattle.tf_provider_protocol.specs.declared.verdict.Verdict.TheVariants as verdict
use Rattle.tf_state_next.specs.Ends.{SavedView, LeftView, gone, changed, unchanged}
use Rattle.tf_value_data.specs.Nulls.{with_nulls}
use Rattle.tf_value_data.specs.Tree.{Tree}

-- the object that a provider returned
abbrev pub object_replied : Option Answer → Option Tree
object_replied (Some (object t)) = Some t
object_replied _ = None

-- an object, if it is well formed
abbrev pub if_formed : SchemaView → Tree → Option Tree
if_formed schema t = if well_formed schema t then Some t else None

-- the object that exists in spite of a failure, if it is well formed
abbrev pub object_there : SchemaView → Option Answer → Option Tree
object_there schema (Some (failed message (Some t))) = if_formed schema t
object_there schema _ = None

-- the object in an answer, returned or existing in spite of a failure, if it is well formed
abbrev pub formed_in : SchemaView → Option Answer → Option Tree
formed_in schema (Some (object t)) = if_formed schema t
formed_in schema (Some (failed message (Some t))) = if_formed schema t
formed_in schema _ = None

-- an object that is saved as tainted, or not
abbrev pub as_saved : Bool → Option Tree → Option SavedView
as_saved tainted = option_map (λ t. (t, tainted))

-- What a create saves. A good reply saves its object. A reply that contradicts the plan saves its object as tainted. A
-- malformed reply saves the requested object as tainted, with null for each unknown part. A failure saves an object
-- that exists and is well formed, as tainted. Otherwise nothing is saved.
abbrev pub saved_by_create : SchemaView → Asked → Option Answer → Verdict → Option SavedView
saved_by_create schema asked answer verdict.Good = as_saved false (object_replied answer)
saved_by_create schema asked answer (verdict.Contradicted place) = as_saved true (object_replied answer)
saved_by_create schema asked answer verdict.Malformed = as_saved true (option_map with_nulls asked.object)
saved_by_create schema asked answer verdict.Failed = as_saved true (object_there schema answer)
saved_by_create schema asked answer verdict.Excused = None

-- What an update saves, never as tainted. A reply that is good or contradicts the plan saves its object. A failure
-- saves an object that exists and is well formed. Otherwise nothing is saved.
abbrev pub saved_by_update : SchemaView → Option Answer → Verdict → Option SavedView
saved_by_update schema answer verdict.Good = as_saved false (object_replied answer)
saved_by_update schema answer (verdict.Contradicted place) = as_saved false (object_replied answer)
saved_by_update schema answer verdict.Failed = as_saved false (object_there schema answer)
saved_by_update schema answer verdict.Malformed = None
saved_by_update schema answer verdict.Excused = None

-- What a destroy leaves. If it is good, nothing. After a failure, an object that exists and is well formed. Otherwise
-- what is known of the object stays.
abbrev pub left_by_destroy : SchemaView → Option Answer → Verdict → LeftView
left_by_destroy schema answer verdict.Good = gone
left_by_destroy schema answer verdict.Failed = option_map_or changed (object_there schema answer) unchanged
left_by_destroy schema answer _ = unchanged
