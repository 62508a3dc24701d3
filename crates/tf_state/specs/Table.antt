-- The table of the format: what each property must be in a tree that says a state, a resource or a record, and which
-- texts say a state.
use Rattle.std.specs.Prelude.{◌≡◌, ◌↔◌, ℕ, ◌^◌, ◌<◌, ◌≤◌, ◌⊎◌, IsUtf8, length, Bool, true, false, if◌then◌else◌, List, [], ◌∷◌, Option, Some, None, codes, ⊤}
use Rattle.std.specs.Cmp.Lexicographic.{slice_cmp}
use Rattle.std.specs.List.{Contains}
use Rattle.std.specs.List.Sorted.{IsPermutation, IsStrictlySortedBy}
use Rattle.std.specs.Option.{option_or}
use Rattle.std.specs.Ordering.{nat_cmp}
use Rattle.std.specs.Str.{bytes_eq}
use Rattle.std.specs.declared.cmp.Ordering.{Ordering}
use Rattle.serde_json.specs.Data.{Data, null, boolean, number as json_number, unsigned, string, array, object, Items, no_items, item, Members, no_members, member}
use Rattle.serde_json.specs.Find.{get}
use Rattle.serde_json.specs.Read.{read}
use Rattle.tf_config_address.specs.Name.{is_name}
use Rattle.tf_value_json.specs.Json.{IsJson}
use Rattle.tf_value_data.specs.Measure.{IsWithinLimits}
use Rattle.tf_value_data.specs.Sets.{has_no_set}
use Rattle.tf_value_data.specs.Tree.{Tree, map, Entries, no_entries, entry, get as value_at}
use Rattle.tf_config_address.specs.ObjectId.{InstanceKeyView, single, number, name}
use Rattle.tf_state.specs.Arrangement.{record_cmp, resource_cmp, with_records}
use Rattle.tf_state_data.specs.Record.{RecordView}
use Rattle.tf_state_data.specs.Resource.{ResourceView}
use Rattle.tf_state_data.specs.State.{StateView}
use Rattle.tf_state.specs.Words.{is_address, is_deposed_key, is_shaped}
use Rattle.tf_state.specs.declared.fault.StateFault.{StateFault}
use Rattle.tf_state.specs.declared.fault.StateFault.TheVariants.{BadState, Limit, OutOfMemory}
use Rattle.tf_state.specs.declared.shape.Shape.TheVariants as shapes

-- ---- lists and tables

-- each item of an array says the element at the same index of a list
abbrev pub EachSays : {A : Type 0} → (Data → A → Type 0) → Items → List A → Type 0
EachSays Says no_items [] = ⊤
EachSays Says (item d ds) (x ∷ xs) = Says d x × EachSays Says ds xs
EachSays Says _ _ = ⊥

-- the second list has the elements of the first in ascending order, without duplicates
abbrev pub IsArranged : {A : Type 0} → (A → A → Ordering) → List A → List A → Type 0
IsArranged cmp xs ys = IsPermutation xs ys × IsStrictlySortedBy cmp ys

-- two lists have the same elements
abbrev pub HoldTheSame : {A : Type 0} → List A → List A → Type 0
HoldTheSame {A} xs ys = (x : A) → Contains xs x ↔ Contains ys x

-- the names of a table
abbrev pub names_of : Entries → List (List ℕ)
names_of no_entries = []
names_of (entry k t es) = k ∷ names_of es

-- the value of the last member with a name
abbrev pub last_member : List ℕ → Members → Option Data
last_member k no_members = None
last_member k (member l d ms) = option_or (last_member k ms) (if bytes_eq k l then Some d else None)

-- each member says some value
abbrev pub EachMemberSays : (Data → Tree → Type 0) → Members → Type 0
EachMemberSays Says no_members = ⊤
EachMemberSays Says (member k d ms) = ((t : Tree) × Says d t) × EachMemberSays Says ms

-- an absent part says no value, and a part that is there says the value
abbrev pub SaysPart : (Data → Tree → Type 0) → Option Data → Option Tree → Type 0
SaysPart Says None None = ⊤
SaysPart Says (Some d) (Some t) = Says d t
SaysPart Says _ _ = ⊥

-- An object says a table: its members' names, strictly in byte order, each with the value that its member says. A
-- tree that a text is read as has no name twice. In other trees the last member of a name counts, and each member has
-- to say a value.
pub record SaysTable (Says : Data → Tree → Type 0) (ms : Members) (es : Entries) : Type 0 where
  pub each : EachMemberSays Says ms
  pub order : IsStrictlySortedBy (slice_cmp nat_cmp) (names_of es)
  pub values : (k : List ℕ) → SaysPart Says (last_member k ms) (value_at k es)

-- a value without sets, within the limits of weight and depth, whose JSON form the tree is
abbrev pub SaysValue : Data → Tree → Type 0
SaysValue d t = IsJson t d × IsWithinLimits t × (has_no_set t ≡ true)

-- ---- the values of properties

abbrev pub SaysText : Option Data → List ℕ → Type 0
SaysText o s = o ≡ Some (string s)

-- a whole number of 0 or more below a bound
abbrev pub SaysNumber : ℕ → Option Data → ℕ → Type 0
SaysNumber bound o n = (o ≡ Some (json_number (unsigned n))) × (n < bound)

abbrev pub SaysName : Option Data → List ℕ → Type 0
SaysName o s = SaysText o s × (is_name s ≡ true)

-- a text; the default if it is absent
abbrev pub SaysTextOr : List ℕ → Option Data → List ℕ → Type 0
SaysTextOr default None s = s ≡ default
SaysTextOr default (Some (string t)) s = s ≡ t
SaysTextOr default _ s = ⊥

-- a number below a bound; 0 if it is absent
abbrev pub SaysNumberOrZero : ℕ → Option Data → ℕ → Type 0
SaysNumberOrZero bound None n = n ≡ 0
SaysNumberOrZero bound (Some (json_number (unsigned m))) n = (n ≡ m) × (m < bound)
SaysNumberOrZero bound _ n = ⊥

-- no key, a number below 2^63, or a text
abbrev pub SaysKey : Option Data → InstanceKeyView → Type 0
SaysKey None k = k ≡ single
SaysKey (Some (json_number (unsigned n))) k = (k ≡ number n) × (n < 2 ^ 63)
SaysKey (Some (string s)) k = k ≡ name s
SaysKey _ k = ⊥

-- nothing, or eight lower-case hex digits
abbrev pub SaysDeposed : Option Data → Option (List ℕ) → Type 0
SaysDeposed None p = p ≡ None
SaysDeposed (Some (string s)) p = (p ≡ Some s) × (is_deposed_key s ≡ true)
SaysDeposed _ p = ⊥

-- an object, each member of which is a value
abbrev pub SaysAttributes : Option Data → Tree → Type 0
SaysAttributes (Some (object ms)) t = (es : Entries) × (t ≡ map es) × SaysTable SaysValue ms es
SaysAttributes _ t = ⊥

-- nothing, or `tainted`
abbrev pub SaysStatus : Option Data → Bool → Type 0
SaysStatus None b = b ≡ false
SaysStatus (Some (string s)) b = (b ≡ true) × (s ≡ codes "tainted")
SaysStatus _ b = ⊥

-- nothing, or a truth value
abbrev pub SaysFlag : Option Data → Bool → Type 0
SaysFlag None b = b ≡ false
SaysFlag (Some (boolean c)) b = b ≡ c
SaysFlag _ b = ⊥

-- a text that is an address
abbrev pub SaysAddress : Data → List ℕ → Type 0
SaysAddress d s = (d ≡ string s) × (is_address s ≡ true)

-- nothing, or an array of exactly these addresses; the list is strictly in byte order
abbrev pub SaysDependencies : Option Data → List (List ℕ) → Type 0
SaysDependencies None ts = ts ≡ []
SaysDependencies (Some (array ds)) ts = (said : List (List ℕ)) × EachSays SaysAddress ds said × HoldTheSame said ts × IsStrictlySortedBy (slice_cmp nat_cmp) ts
SaysDependencies _ ts = ⊥

-- nothing, or an empty array
abbrev pub SaysNothingSensitive : Option Data → Type 0
SaysNothingSensitive None = ⊤
SaysNothingSensitive (Some (array no_items)) = ⊤
SaysNothingSensitive _ = ⊥

-- nothing, or null
abbrev pub SaysNoChecks : Option Data → Type 0
SaysNoChecks None = ⊤
SaysNoChecks (Some null) = ⊤
SaysNoChecks _ = ⊥

-- ---- the objects

-- the object of a record
pub record SaysRecord (d : Data) (r : RecordView) : Type 0 where
  pub only : is_shaped shapes.Record d ≡ true
  pub sensitive_attributes : SaysNothingSensitive (get (codes "sensitive_attributes") d)
  pub index_key : SaysKey (get (codes "index_key") d) r.id.key
  pub deposed : SaysDeposed (get (codes "deposed") d) r.id.deposed
  pub attributes : SaysAttributes (get (codes "attributes") d) r.attributes
  pub schema_version : SaysNumberOrZero (2 ^ 32) (get (codes "schema_version") d) r.schema_version
  pub status : SaysStatus (get (codes "status") d) r.tainted
  pub dependencies : SaysDependencies (get (codes "dependencies") d) r.dependencies
  pub create_before_destroy : SaysFlag (get (codes "create_before_destroy") d) r.create_before_destroy

-- an array of records; the list is in the order of their ids, no two with the same one
abbrev pub SaysInstances : Option Data → List RecordView → Type 0
SaysInstances (Some (array ds)) rs = (said : List RecordView) × EachSays SaysRecord ds said × IsArranged record_cmp said rs
SaysInstances _ rs = ⊥

-- the object of a resource
pub record SaysResource (d : Data) (r : ResourceView) : Type 0 where
  pub only : is_shaped shapes.Resource d ≡ true
  pub mode : SaysText (get (codes "mode") d) (codes "managed")
  pub type_name : SaysName (get (codes "type") d) r.addr.type_name
  pub name : SaysName (get (codes "name") d) r.addr.name
  pub provider : SaysText (get (codes "provider") d) r.provider
  pub instances : SaysInstances (get (codes "instances") d) r.records

-- nothing, or an array of resources; the list is in the order of their addresses, no two at the same one, and leaves
-- out those without records
abbrev pub SaysResources : Option Data → List ResourceView → Type 0
SaysResources None rs = rs ≡ []
SaysResources (Some (array ds)) rs = (said all : List ResourceView) × EachSays SaysResource ds said × IsArranged resource_cmp said all × (rs ≡ with_records all)
SaysResources _ rs = ⊥

-- the object of an output: its value counts, and its type may be anything
pub record SaysOutput (d : Data) (t : Tree) : Type 0 where
  pub only : is_shaped shapes.Output d ≡ true
  pub value : SaysPart SaysValue (get (codes "value") d) (Some t)

-- nothing, or an object, each member of which is an output
abbrev pub SaysOutputs : Option Data → Entries → Type 0
SaysOutputs None es = es ≡ no_entries
SaysOutputs (Some (object ms)) es = SaysTable SaysOutput ms es
SaysOutputs _ es = ⊥

-- the object of a state
pub record SaysState (d : Data) (s : StateView) : Type 0 where
  pub only : is_shaped shapes.State d ≡ true
  pub version : get (codes "version") d ≡ Some (json_number (unsigned 4))
  pub check_results : SaysNoChecks (get (codes "check_results") d)
  pub serial : SaysNumber (2 ^ 32) (get (codes "serial") d) s.serial
  pub lineage : SaysText (get (codes "lineage") d) s.lineage
  pub terraform_version : SaysTextOr (codes "1.0.0") (get (codes "terraform_version") d) s.terraform_version
  pub outputs : SaysOutputs (get (codes "outputs") d) s.outputs
  pub resources : SaysResources (get (codes "resources") d) s.resources

-- ---- texts

-- The bytes are the text of a state: they are UTF-8, and their JSON tree says the state.
abbrev pub Reads : List ℕ → StateView → Type 0
Reads bytes s = (d : Data) × IsUtf8 bytes × (read bytes ≡ Some d) × SaysState d s

-- how many resources with records a state may have
abbrev pub max_resources : ℕ
max_resources = 4000

-- the serial after which there is no other
abbrev pub last_serial : ℕ
last_serial = 4294967295

-- A state can be planned from if it has at most the greatest number of resources, and a serial that another follows.
abbrev pub IsPlannable : StateView → Type 0
IsPlannable s = (length s.resources ≤ max_resources) × (s.serial < last_serial)

abbrev pub IsBeyond : StateView → Type 0
IsBeyond s = (max_resources < length s.resources) ⊎ (last_serial ≤ s.serial)

-- Why a text isn't read: it is no state's; or it is that of a state that can't be planned from; or memory ran out.
abbrev pub IsUnread : List ℕ → StateFault → Type 0
IsUnread bytes BadState = (s : StateView) → ¬ Reads bytes s
IsUnread bytes Limit = (s : StateView) × Reads bytes s × IsBeyond s
IsUnread bytes OutOfMemory = Unit {0}
