-- The JSON tree of a valid state is plain, and nests no deeper than a reader goes.
use Rattle.std.proofs.Common.{ℕ, ◌^◌, ◌*◌, ◌<◌, ◌≤◌, Bool, true, false, List, [], ◌∷◌, Option, Some, None, option_map, codes, map as each, arith}
use Rattle.std.specs.List.{AllByRecursion}
use Rattle.std.specs.Prelude.{⊤}
use Rattle.serde_json.specs.Data.{Data, object, string, array, number as json_number, unsigned, Members, no_members, put, depth, items_depth, members_depth}
use Rattle.serde_json.specs.View.{items_of}
use Rattle.tf_value_json.specs.Plain.{IsPlain, ArePlain, ArePlainMembers, AreAbove}
use Rattle.tf_value_json.proofs.Puts.{plain-put, depth-put}
use Rattle.tf_value_json.specs.Json.{value_data, items_data, entries_data, texts_data}
use Rattle.tf_value_data.specs.Measure as measure
use Rattle.tf_value_data.specs.Tree.{Tree, null, boolean as truth, whole, text, list, map, set, unknown, Items, no_items, item, Entries, no_entries, entry}
use Rattle.tf_config_address.specs.ObjectId.{InstanceKeyView, single, number, name}
use Rattle.tf_state_data.specs.Record.{RecordView}
use Rattle.tf_state_data.specs.Resource.{ResourceView}
use Rattle.tf_state_data.specs.State.{StateView}
use Rattle.tf_state.specs.Text.{put_some, key_data, status_data, flag_data, dependencies_data, record_data, resource_data, output_data, outputs_data, state_data}
use Rattle.tf_state.specs.Arrangement.{is_some_record, with_records}
use Rattle.tf_state.specs.Types.{type_data, item_types, entry_types}
use Rattle.tf_state.proofs.Orders.{all-filter}
use Rattle.tf_state.proofs.ShownTables.{AreSaved, shown}
use Rattle.tf_state.specs.Valid.{IsAttributes, IsKey, IsRecord, IsResource, IsPresent, IsValid}

-- ---- types

types_above : (k : List ℕ) (es : Entries) → AreAbove k (entries_data es) → AreAbove k (entry_types es)
types_above k no_entries h = tt
types_above k (entry l t es) h = (h.0, types_above k es h.1)

mutual
  type-plain : (t : Tree) → IsPlain (value_data t) → IsPlain (type_data t)
  type-plain null h = tt
  type-plain (truth b) h = tt
  type-plain (whole z) h = tt
  type-plain (text s) h = tt
  type-plain (list ts) h = (tt, (item_types-plain ts h, tt))
  type-plain (map es) h = (tt, (entry_types-plain es h, tt))
  type-plain (set ss) h = (tt, (tt, tt))
  type-plain unknown h = tt

  item_types-plain : (ts : Items) → ArePlain (items_data ts) → ArePlain (item_types ts)
  item_types-plain no_items h = tt
  item_types-plain (item t ts) h = (type-plain t h.0, item_types-plain ts h.1)

  entry_types-plain : (es : Entries) → ArePlainMembers (entries_data es) → ArePlainMembers (entry_types es)
  entry_types-plain no_entries h = tt
  entry_types-plain (entry k t es) h = (types_above k es h.0, type-plain t h.1, entry_types-plain es h.2)

-- members that are plain, as a record, so that they are found from the fact
record ArePut (ms : Members) : Type 0 where
  fact : ArePlainMembers ms

nothing_put : ArePut no_members
nothing_put = record { fact = tt }

and_put : (k : List ℕ) (d : Data) (ms : Members) → IsPlain d → ArePut ms → ArePut (put k d ms)
and_put k d ms p h = record { fact = plain-put k d ms p h.fact }

outputs_above : (k : List ℕ) (es : Entries) → AreAbove k (entries_data es) → AreAbove k (outputs_data es)
outputs_above k no_entries h = tt
outputs_above k (entry l t es) h = (h.0, outputs_above k es h.1)

output-plain : (t : Tree) → IsPlain (value_data t) → IsPlain (output_data t)
output-plain t h =
    plain-put (codes "type") (type_data t) (put (codes "value") (value_data t) no_members) (type-plain t h) (plain-put (codes "value") (value_data t) no_members h tt)

outputs-plain : (es : Entries) → ArePlainMembers (entries_data es) → ArePlainMembers (outputs_data es)
outputs-plain no_entries h = tt
outputs-plain (entry k t es) h = (outputs_above k es h.0, output-plain t h.1, outputs-plain es h.2)

-- ---- records

abbrev MayBePlain : Option Data → Type 0
MayBePlain None = ⊤
MayBePlain (Some d) = IsPlain d

plain_some : (k : List ℕ) (o : Option Data) (ms : Members) → MayBePlain o → ArePlainMembers ms → ArePlainMembers (put_some k o ms)
plain_some k None ms p h = h
plain_some k (Some d) ms p h = plain-put k d ms p h

key-plain : (k : InstanceKeyView) → IsKey k → MayBePlain (key_data k)
key-plain single h = tt
key-plain (number n) h = let fits : n < 2 ^ 64 = omega arith in fits
key-plain (name s) h = tt

status-plain : (b : Bool) → MayBePlain (status_data b)
status-plain true = tt
status-plain false = tt

flag-plain : (b : Bool) → MayBePlain (flag_data b)
flag-plain true = tt
flag-plain false = tt

deposed-plain : (o : Option (List ℕ)) → MayBePlain (option_map string o)
deposed-plain None = tt
deposed-plain (Some s) = tt

texts-plain : (ts : List (List ℕ)) → ArePlain (items_of (each string ts))
texts-plain [] = tt
texts-plain (t ∷ ts) = (tt, texts-plain ts)

dependencies-plain : (ts : List (List ℕ)) → MayBePlain (dependencies_data ts)
dependencies-plain [] = tt
dependencies-plain (t ∷ ts) = texts-plain (t ∷ ts)

attributes-plain : (t : Tree) → IsAttributes t → IsPlain (value_data t)
attributes-plain (map es) h = (shown es h).0
attributes-plain _ h = absurd (assumption)

record-plain : (r : RecordView) → IsRecord r → IsPlain (record_data r)
record-plain r h =
    let version : r.schema_version < 2 ^ 64 = let small = h.version in omega arith in
    plain-put (codes "attributes") _ _ (attributes-plain r.attributes h.attributes) (plain-put (codes "schema_version") (json_number (unsigned r.schema_version)) _ version
    (plain_some (codes "create_before_destroy") (flag_data r.create_before_destroy) _ (flag-plain r.create_before_destroy) (plain_some (codes "dependencies") (dependencies_data r.dependencies) _ (dependencies-plain r.dependencies)
    (plain_some (codes "deposed") (option_map string r.id.deposed) _ (deposed-plain r.id.deposed) (plain_some (codes "index_key") (key_data r.id.key) _ (key-plain r.id.key h.key)
    (plain_some (codes "status") (status_data r.tainted) no_members (status-plain r.tainted) tt))))))

records-plain : (rs : List RecordView) → AllByRecursion IsRecord rs → ArePlain (items_of (each record_data rs))
records-plain [] h = tt
records-plain (r ∷ rs) h = (record-plain r h.0, records-plain rs h.1)

resource-plain : (r : ResourceView) → IsResource r → IsPlain (resource_data r)
resource-plain r h =
    (and_put (codes "instances") (array (items_of (each record_data r.records))) _ (records-plain r.records h.records.0) (and_put (codes "mode") (string (codes "managed")) _ tt
    (and_put (codes "name") (string r.addr.name) _ tt (and_put (codes "provider") (string r.provider) _ tt (and_put (codes "type") (string r.addr.type_name) _ tt nothing_put))))).fact

-- those with records are so still
kept-present : (rs : List ResourceView) → AllByRecursion IsPresent rs → AllByRecursion IsPresent (with_records rs)
kept-present rs h = all-filter IsPresent (λ r. is_some_record r.records) rs h

resources-plain : (rs : List ResourceView) → AllByRecursion IsPresent rs → ArePlain (items_of (each resource_data rs))
resources-plain [] h = tt
resources-plain (r ∷ rs) h = (resource-plain r h.0.0, resources-plain rs h.1)

pub state-plain : (s : StateView) → IsValid s → IsPlain (state_data s)
state-plain s h =
    let serial : s.serial < 2 ^ 64 = let small = h.serial in omega arith in
    let four : 4 < 2 ^ 64 = omega arith in
    (and_put (codes "lineage") (string s.lineage) _ tt (and_put (codes "outputs") (object (outputs_data s.outputs)) _ (outputs-plain s.outputs (shown s.outputs h.outputs).0)
    (and_put (codes "resources") (array (items_of (each resource_data (with_records s.resources)))) _ (resources-plain (with_records s.resources) (kept-present s.resources h.resources.0)) (and_put (codes "serial") (json_number (unsigned s.serial)) _ serial
    (and_put (codes "terraform_version") (string s.terraform_version) _ tt (and_put (codes "version") (json_number (unsigned 4)) _ four nothing_put)))))).fact

-- ---- depth

set-depth : (ss : List (List ℕ)) → items_depth (texts_data ss) ≤ 0
set-depth [] = omega arith
set-depth (s ∷ ss) = omega (arith, set-depth ss)

-- a value's form nests as deep as the value, and its type twice as deep at most
mutual
  value-depth : (t : Tree) → (depth (value_data t) ≤ measure.depth t) × (depth (type_data t) ≤ 2 * measure.depth t)
  value-depth (list ts) = let p = items-depth ts in (omega (arith, p.0), omega (arith, p.1))
  value-depth (map es) = let p = entries-depth es in (omega (arith, p.0), omega (arith, p.1))
  value-depth (set ss) = (omega (arith, set-depth ss), omega arith)
  value-depth _ = (omega arith, omega arith)

  items-depth : (ts : Items) → (items_depth (items_data ts) ≤ measure.depth_of_items ts) × (items_depth (item_types ts) ≤ 2 * measure.depth_of_items ts)
  items-depth no_items = (omega arith, omega arith)
  items-depth (item t ts) = let p = value-depth t in let q = items-depth ts in (omega (arith, p.0, q.0), omega (arith, p.1, q.1))

  entries-depth : (es : Entries) → (members_depth (entries_data es) ≤ measure.depth_of_entries es) × (members_depth (entry_types es) ≤ 2 * measure.depth_of_entries es)
  entries-depth no_entries = (omega arith, omega arith)
  entries-depth (entry k t es) = let p = value-depth t in let q = entries-depth es in (omega (arith, p.0, q.0), omega (arith, p.1, q.1))

saved-depth : (es : Entries) → AreSaved es → members_depth (entries_data es) ≤ 32
saved-depth no_entries h = omega arith
saved-depth (entry k t es) h =
    let within : measure.depth t ≤ 32 = h.0.2.1 in omega (arith, (value-depth t).0, within, saved-depth es h.1)

output-depth : (t : Tree) → measure.depth t ≤ 32 → depth (output_data t) ≤ 65
output-depth t h =
    let type_shallow : depth (type_data t) ≤ 64 = omega (arith, (value-depth t).1) in
    let value_shallow : depth (value_data t) ≤ 64 = omega (arith, (value-depth t).0) in
    let nothing : members_depth no_members ≤ 64 = omega arith in
    omega (arith, depth-put (codes "type") (type_data t) (put (codes "value") (value_data t) no_members) 64 type_shallow (depth-put (codes "value") (value_data t) no_members 64 value_shallow nothing))

outputs-depth : (es : Entries) → AreSaved es → members_depth (outputs_data es) ≤ 65
outputs-depth no_entries h = omega arith
outputs-depth (entry k t es) h =
    let within : measure.depth t ≤ 32 = h.0.2.1 in omega (arith, output-depth t within, outputs-depth es h.1)

abbrev AtMost : ℕ → Option Data → Type 0
AtMost n None = ⊤
AtMost n (Some d) = depth d ≤ n

depth_some : (k : List ℕ) (o : Option Data) (ms : Members) (n : ℕ) → AtMost n o → members_depth ms ≤ n → members_depth (put_some k o ms) ≤ n
depth_some k None ms n p h = h
depth_some k (Some d) ms n p h = depth-put k d ms n p h

key-depth : (k : InstanceKeyView) → AtMost 33 (key_data k)
key-depth single = tt
key-depth (number n) = omega arith
key-depth (name s) = omega arith

status-depth : (b : Bool) → AtMost 33 (status_data b)
status-depth true = omega arith
status-depth false = tt

flag-depth : (b : Bool) → AtMost 33 (flag_data b)
flag-depth true = omega arith
flag-depth false = tt

deposed-depth : (o : Option (List ℕ)) → AtMost 33 (option_map string o)
deposed-depth None = tt
deposed-depth (Some s) = omega arith

texts-depth : (ts : List (List ℕ)) → items_depth (items_of (each string ts)) ≤ 0
texts-depth [] = omega arith
texts-depth (t ∷ ts) = omega (arith, texts-depth ts)

dependencies-depth : (ts : List (List ℕ)) → AtMost 33 (dependencies_data ts)
dependencies-depth [] = tt
dependencies-depth (t ∷ ts) = omega (arith, texts-depth (t ∷ ts))

attributes-depth : (t : Tree) → IsAttributes t → depth (value_data t) ≤ 33
attributes-depth (map es) h = omega (arith, saved-depth es (shown es h).1)
attributes-depth _ h = absurd (assumption)

record-depth : (r : RecordView) → IsRecord r → depth (record_data r) ≤ 34
record-depth r h =
    let nothing : members_depth no_members ≤ 33 = omega arith in
    let flat : depth (json_number (unsigned r.schema_version)) ≤ 33 = omega arith in
    let all = depth-put (codes "attributes") _ _ 33 (attributes-depth r.attributes h.attributes) (depth-put (codes "schema_version") (json_number (unsigned r.schema_version)) _ 33 flat
    (depth_some (codes "create_before_destroy") (flag_data r.create_before_destroy) _ 33 (flag-depth r.create_before_destroy) (depth_some (codes "dependencies") (dependencies_data r.dependencies) _ 33 (dependencies-depth r.dependencies)
    (depth_some (codes "deposed") (option_map string r.id.deposed) _ 33 (deposed-depth r.id.deposed) (depth_some (codes "index_key") (key_data r.id.key) _ 33 (key-depth r.id.key)
    (depth_some (codes "status") (status_data r.tainted) no_members 33 (status-depth r.tainted) nothing)))))) in
    omega (arith, all)

records-depth : (rs : List RecordView) → AllByRecursion IsRecord rs → items_depth (items_of (each record_data rs)) ≤ 34
records-depth [] h = omega arith
records-depth (r ∷ rs) h = omega (arith, record-depth r h.0, records-depth rs h.1)

resource-depth : (r : ResourceView) → IsResource r → depth (resource_data r) ≤ 36
resource-depth r h =
    let many : depth (array (items_of (each record_data r.records))) ≤ 35 = omega (arith, records-depth r.records h.records.0) in
    omega (arith, many)

resources-depth : (rs : List ResourceView) → AllByRecursion IsPresent rs → items_depth (items_of (each resource_data rs)) ≤ 36
resources-depth [] h = omega arith
resources-depth (r ∷ rs) h = omega (arith, resource-depth r h.0.0, resources-depth rs h.1)

pub state-depth : (s : StateView) → IsValid s → depth (state_data s) ≤ 127
state-depth s h =
    let outputs : depth (object (outputs_data s.outputs)) ≤ 66 = omega (arith, outputs-depth s.outputs (shown s.outputs h.outputs).1) in
    let resources : depth (array (items_of (each resource_data (with_records s.resources)))) ≤ 66 = omega (arith, resources-depth (with_records s.resources) (kept-present s.resources h.resources.0)) in
    omega (arith, outputs, resources)
