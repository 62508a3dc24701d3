-- The table of the format as functions: each returns what a part is read as, or `None` if the format refuses it. They
-- say the same as the table (`Table`), and the functions that read are proved to return their results. Private to
-- this crate: no other crate refers to them.
use Rattle.std.specs.Prelude.{◌≡◌, ℕ, ◌^◌, Bool, true, false, ◌&&◌, ◌==◌, nat_lt, nat_le, if◌then◌else◌, List, [], ◌∷◌, Option, Some, None, option_map, option_and_then, codes, IsUtf8}
use Rattle.std.specs.Cmp.Lexicographic.{slice_cmp}
use Rattle.std.specs.Ordering.{nat_cmp, match_ordering}
use Rattle.std.specs.Str.{bytes_eq}
use Rattle.std.specs.declared.cmp.Ordering.{Ordering}
use Rattle.serde_json.specs.Data.{Data, null, boolean, number as json_number, unsigned, string, array, object, Items, no_items, item, Members, no_members, member}
use Rattle.serde_json.specs.Find.{get}
use Rattle.serde_json.specs.Read.{read}
use Rattle.tf_config_address.specs.Name.{is_name}
use Rattle.tf_value_json.specs.Json.{tree_from}
use Rattle.tf_value_data.specs.Known.{known}
use Rattle.tf_value_data.specs.Measure.{weight, depth, max_weight, max_depth}
use Rattle.tf_value_data.specs.Tree.{Tree, map, Entries, no_entries, put}
use Rattle.tf_config_address.specs.ObjectId.{InstanceKeyView, single, number, name, ObjectIdView}
use Rattle.tf_state_data.specs.Record.{RecordView}
use Rattle.tf_state_data.specs.Resource.{ResourceView}
use Rattle.tf_state_data.specs.State.{StateView}
use Rattle.tf_state.specs.Arrangement.{record_cmp, resource_cmp, with_records}
use Rattle.tf_state.specs.Words.{is_shaped, is_deposed_key, is_address}
use Rattle.tf_state.specs.declared.fault.StateFault.{StateFault}
use Rattle.tf_state.specs.declared.fault.StateFault.TheVariants.{BadState, Limit, OutOfMemory}
use Rattle.tf_state.specs.declared.shape.Shape.TheVariants as shapes

-- ---- lists in order

-- the list with one more element, in order; `None` if an equal one is in it already
abbrev pub put_new : {A : Type 0} → (A → A → Ordering) → A → List A → Option (List A)
put_new cmp a [] = Some (a ∷ [])
put_new cmp a (b ∷ bs) = match_ordering (cmp a b) (Some (a ∷ b ∷ bs)) None (option_map (λ cs. b ∷ cs) (put_new cmp a bs))

-- the elements that items are read as, added to those found, without duplicates; `None` if an item can't be read
abbrev pub gather : {A : Type 0} → (Data → Option A) → (A → A → Ordering) → Items → List A → Option (List A)
gather read_one cmp no_items found = Some found
gather read_one cmp (item d ds) found = option_and_then (λ x. option_and_then (gather read_one cmp ds) (put_new cmp x found)) (read_one d)

-- the texts with one more, in byte order, each once
abbrev pub put_text : List ℕ → List (List ℕ) → List (List ℕ)
put_text s [] = s ∷ []
put_text s (t ∷ ts) = match_ordering (slice_cmp nat_cmp s t) (s ∷ t ∷ ts) (t ∷ ts) (t ∷ put_text s ts)

-- ---- values

-- a value is within the limits of weight and depth
abbrev pub is_within : Tree → Bool
is_within t = nat_le (weight t) max_weight && nat_le (depth t) max_depth

-- a value: its numbers are whole, and it is within the limits
abbrev pub value_in : Data → Option Tree
value_in d = if known (tree_from d) && is_within (tree_from d) then Some (tree_from d) else None

-- the values that members are read as, added to those that were found
abbrev pub values_in : (Data → Option Tree) → Members → Entries → Option Entries
values_in read_one no_members found = Some found
values_in read_one (member k d ms) found = option_and_then (λ t. values_in read_one ms (put k t found)) (read_one d)

-- ---- properties of a record

-- a number below a bound; 0 if it is absent
abbrev pub below_or_zero : ℕ → Option Data → Option ℕ
below_or_zero bound None = Some 0
below_or_zero bound (Some (json_number (unsigned n))) = if nat_lt n bound then Some n else None
below_or_zero bound (Some _) = None

-- a key is absent, a whole number of 0 or more below 2^63, or a text
abbrev pub key_in : Option Data → Option InstanceKeyView
key_in None = Some single
key_in (Some (json_number (unsigned n))) = if nat_lt n (2 ^ 63) then Some (number n) else None
key_in (Some (string s)) = Some (name s)
key_in (Some _) = None

-- a deposed key is absent, or eight lower-case hex digits
abbrev pub deposed_in : Option Data → Option (Option (List ℕ))
deposed_in None = Some None
deposed_in (Some (string s)) = if is_deposed_key s then Some (Some s) else None
deposed_in (Some _) = None

-- the attributes are an object of values
abbrev pub attributes_in : Option Data → Option Tree
attributes_in (Some (object ms)) = option_map map (values_in value_in ms no_entries)
attributes_in _ = None

-- a status is absent, or `tainted`
abbrev pub tainted_in : Option Data → Option Bool
tainted_in None = Some false
tainted_in (Some (string s)) = if bytes_eq s (codes "tainted") then Some true else None
tainted_in (Some _) = None

-- the flag is absent, or a truth value
abbrev pub flag_in : Option Data → Option Bool
flag_in None = Some false
flag_in (Some (boolean b)) = Some b
flag_in (Some _) = None

-- an address is a text
abbrev pub address_in : Data → Option (List ℕ)
address_in (string s) = if is_address s then Some s else None
address_in _ = None

-- the addresses in the items, added to those found
abbrev pub addresses_in : Items → List (List ℕ) → Option (List (List ℕ))
addresses_in no_items found = Some found
addresses_in (item d ds) found = option_and_then (λ s. addresses_in ds (put_text s found)) (address_in d)

-- dependencies are absent, or an array of addresses
abbrev pub dependencies_in : Option Data → Option (List (List ℕ))
dependencies_in None = Some []
dependencies_in (Some (array ds)) = addresses_in ds []
dependencies_in (Some _) = None

-- sensitive attributes are absent, or an empty array
abbrev pub is_unsensitive : Option Data → Bool
is_unsensitive None = true
is_unsensitive (Some (array no_items)) = true
is_unsensitive (Some _) = false

-- ---- records

-- the id of a record
abbrev pub id_in : Data → Option ObjectIdView
id_in d =
    option_and_then (λ k. option_map (λ p. record { key = k; deposed = p }) (deposed_in (get (codes "deposed") d))) (key_in (get (codes "index_key") d))

-- a record's object has only properties of a record, and nothing sensitive
abbrev pub is_record : Data → Bool
is_record d = is_shaped shapes.Record d && is_unsensitive (get (codes "sensitive_attributes") d)

-- a record with a given id
abbrev pub record_at : ObjectIdView → Data → Option RecordView
record_at id d =
    option_and_then
    (λ attributes. option_and_then (λ version. option_and_then (λ tainted. option_and_then (λ dependencies. option_map
    (λ flag. record { id = id; attributes = attributes; schema_version = version; tainted = tainted; dependencies = dependencies; create_before_destroy = flag }) (flag_in (get (codes "create_before_destroy") d)))
    (dependencies_in (get (codes "dependencies") d))) (tainted_in (get (codes "status") d))) (below_or_zero (2 ^ 32) (get (codes "schema_version") d))) (attributes_in (get (codes "attributes") d))

-- a record
abbrev pub record_in : Data → Option RecordView
record_in d = if is_record d then option_and_then (λ id. record_at id d) (id_in d) else None

-- the records in the items, added to those found, without duplicates
abbrev pub records_in : Items → List RecordView → Option (List RecordView)
records_in = gather record_in record_cmp

-- the records of a resource are an array
abbrev pub instances_in : Option Data → Option (List RecordView)
instances_in (Some (array ds)) = records_in ds []
instances_in _ = None

-- ---- resources

-- a text
abbrev pub text_in : Option Data → Option (List ℕ)
text_in (Some (string s)) = Some s
text_in _ = None

-- a text that is a name
abbrev pub name_in : Option Data → Option (List ℕ)
name_in (Some (string s)) = if is_name s then Some s else None
name_in _ = None

-- the mode of a resource that the engine manages
abbrev pub is_managed : Option Data → Bool
is_managed (Some (string s)) = bytes_eq s (codes "managed")
is_managed _ = false

-- a resource
abbrev pub resource_in : Data → Option ResourceView
resource_in d =
    if is_shaped shapes.Resource d && is_managed (get (codes "mode") d)
    then option_and_then
    (λ type_name. option_and_then (λ its_name. option_and_then (λ provider. option_map
    (λ records. record { addr = record { type_name = type_name; name = its_name }; provider = provider; records = records }) (instances_in (get (codes "instances") d)))
    (text_in (get (codes "provider") d))) (name_in (get (codes "name") d))) (name_in (get (codes "type") d))
    else None

-- the resources in the items, added to those found, without duplicates
abbrev pub resources_in : Items → List ResourceView → Option (List ResourceView)
resources_in = gather resource_in resource_cmp

-- resources are absent, or an array
abbrev pub all_resources_in : Option Data → Option (List ResourceView)
all_resources_in None = Some []
all_resources_in (Some (array ds)) = option_map with_records (resources_in ds [])
all_resources_in (Some _) = None

-- ---- outputs

-- the value of an output, whatever its type says
abbrev pub required_value : Option Data → Option Tree
required_value None = None
required_value (Some d) = value_in d

abbrev pub output_in : Data → Option Tree
output_in d = if is_shaped shapes.Output d then required_value (get (codes "value") d) else None

-- outputs are absent, or an object
abbrev pub outputs_in : Option Data → Option Entries
outputs_in None = Some no_entries
outputs_in (Some (object ms)) = values_in output_in ms no_entries
outputs_in (Some _) = None

-- ---- states

-- the version of the format
abbrev pub is_version : Option Data → Bool
is_version (Some (json_number (unsigned n))) = n == 4
is_version _ = false

-- the results of checks are absent, or null
abbrev pub is_unchecked : Option Data → Bool
is_unchecked None = true
is_unchecked (Some null) = true
is_unchecked (Some _) = false

-- a number below a bound
abbrev pub below : ℕ → Option Data → Option ℕ
below bound (Some (json_number (unsigned n))) = if nat_lt n bound then Some n else None
below bound _ = None

-- a text; the default if it is absent
abbrev pub text_or : List ℕ → Option Data → Option (List ℕ)
text_or default None = Some default
text_or default (Some (string s)) = Some s
text_or default (Some _) = None

-- a state's object has only properties of a state, the one version of the format, and no results of checks
abbrev pub is_state : Data → Bool
is_state d = is_shaped shapes.State d && (is_version (get (codes "version") d) && is_unchecked (get (codes "check_results") d))

-- a state
abbrev pub state_in : Data → Option StateView
state_in d =
    if is_state d
    then option_and_then
    (λ serial. option_and_then (λ lineage. option_and_then (λ version. option_and_then (λ outputs. option_map
    (λ resources. record { serial = serial; lineage = lineage; terraform_version = version; outputs = outputs; resources = resources }) (all_resources_in (get (codes "resources") d)))
    (outputs_in (get (codes "outputs") d))) (text_or (codes "1.0.0") (get (codes "terraform_version") d))) (text_in (get (codes "lineage") d))) (below (2 ^ 32) (get (codes "serial") d))
    else None

-- ---- refusals

-- A part is refused if it is read as nothing. Memory may run out for any part.
abbrev pub IsRefused : {A : Type 0} → Option A → StateFault → Type 0
IsRefused o BadState = o ≡ None
IsRefused o Limit = ⊥
IsRefused o OutOfMemory = Unit {0}

-- Why bytes are no JSON tree: they aren't UTF-8, or no JSON; or memory ran out.
abbrev pub IsNoJson : List ℕ → StateFault → Type 0
IsNoJson bytes BadState = (d : Data) → ¬ (IsUtf8 bytes × (read bytes ≡ Some d))
IsNoJson bytes Limit = ⊥
IsNoJson bytes OutOfMemory = Unit {0}
