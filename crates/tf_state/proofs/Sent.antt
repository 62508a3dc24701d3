-- What is sent member by member is sent whole.
use Rattle.std.proofs.Common.{◌≡◌, ◌+◌, ℕ, Bool, true, false, cond, List, ◌∷◌, Option, Some, None, option_map, map as each, codes, refl, sym, ap, ◌∙◌, subst, arith}
use Rattle.std.specs.Cmp.Lexicographic.{slice_cmp}
use Rattle.std.specs.Ordering.{nat_cmp, match_ordering}
use Rattle.std.specs.declared.cmp.Ordering.TheVariants.{Less, Greater}
use Rattle.serde.specs.Event.{Log, Logs, map_begins, map_ends, field_key}
use Rattle.serde.specs.declared.name.Case.TheVariants.{AsIs}
use Rattle.serde_json.specs.Data.{Data, number as json_number, unsigned, string, array, object, Members, no_members, member, put}
use Rattle.serde_json.specs.Events.{SendsValue, SendsItems, SendsMembers, members_len}
use Rattle.serde_json.specs.View.{items_of}
use Rattle.tf_value_json.specs.Plain.{AreAbove}
use Rattle.tf_state_data.specs.Record.{RecordView}
use Rattle.tf_state_data.specs.Resource.{ResourceView}
use Rattle.tf_state_data.specs.State.{StateView}
use Rattle.tf_state.specs.Arrangement.{is_some_record, with_records}
use Rattle.tf_state.specs.Sending.{SendsSome, SendsWhere, one_if_some, member_count}
use Rattle.tf_state.specs.Text.{put_some, dependencies_data, flag_data, key_data, outputs_data, record_data, resource_data, state_data, status_data}
use Rattle.tf_value_json.specs.Json.{value_data}

-- the members with one more before them, where there is a value for it
abbrev some_member : List ℕ → Option Data → Members → Members
some_member key None ms = ms
some_member key (Some d) ms = member key d ms

sends_some : (key : List ℕ) (o : Option Data) (ms : Members) (a b c : Log) → SendsSome key o a b → SendsMembers ms b c → SendsMembers (some_member key o ms) a c
sends_some key None ms a b c h more = subst (λ l. SendsMembers ms l c) h more
sends_some key (Some d) ms a b c h more = (h.0, b, h.1, h.2, more)

some_len : (key : List ℕ) (o : Option Data) (ms : Members) → members_len (some_member key o ms) ≡ one_if_some o + members_len ms
some_len key None ms = omega (arith)
some_len key (Some d) ms = omega (arith)

-- ---- puts in the order of keys

some_above : (k l : List ℕ) (o : Option Data) (ms : Members) → slice_cmp nat_cmp k l ≡ Less → AreAbove k ms → AreAbove k (some_member l o ms)
some_above k l None ms e h = h
some_above k l (Some d) ms e h = (e, h)

put_first : (k : List ℕ) (d : Data) (ms : Members) → AreAbove k ms → put k d ms ≡ member k d ms
put_first k d no_members h = refl
put_first k d (member l e ms) h = ap (λ o. match_ordering o (member k d (member l e ms)) (member l d ms) (member l e (put k d ms))) h.0

put_some_first : (k : List ℕ) (o : Option Data) (ms : Members) → AreAbove k ms → put_some k o ms ≡ some_member k o ms
put_some_first k None ms h = refl
put_some_first k (Some d) ms h = put_first k d ms h

put_past : (k l : List ℕ) (d : Data) (o : Option Data) (ms : Members) → slice_cmp nat_cmp k l ≡ Greater → put k d (some_member l o ms) ≡ some_member l o (put k d ms)
put_past k l d None ms e = refl
put_past k l d (Some v) ms e = ap (λ c. match_ordering c (member k d (member l v ms)) (member l d ms) (member l v (put k d ms))) e

-- ---- a record's members in the order of their keys

abbrev status_part : Option Data → Members
status_part st = some_member (codes "status") st no_members

abbrev key_part : Option Data → Option Data → Members
key_part kk st = some_member (codes "index_key") kk (status_part st)

abbrev deposed_part : Option Data → Option Data → Option Data → Members
deposed_part dp kk st = some_member (codes "deposed") dp (key_part kk st)

abbrev dependencies_part : Option Data → Option Data → Option Data → Option Data → Members
dependencies_part dd dp kk st = some_member (codes "dependencies") dd (deposed_part dp kk st)

-- each key is above one that is below all of them
status_above : (k : List ℕ) (st : Option Data) → slice_cmp nat_cmp k (codes "status") ≡ Less → AreAbove k (status_part st)
status_above k st e = some_above k (codes "status") st no_members e tt

key_above : (k : List ℕ) (kk st : Option Data) → slice_cmp nat_cmp k (codes "index_key") ≡ Less → slice_cmp nat_cmp k (codes "status") ≡ Less → AreAbove k (key_part kk st)
key_above k kk st e f = some_above k (codes "index_key") kk (status_part st) e (status_above k st f)

deposed_above : (k : List ℕ) (dp kk st : Option Data) → slice_cmp nat_cmp k (codes "deposed") ≡ Less → slice_cmp nat_cmp k (codes "index_key") ≡ Less → slice_cmp nat_cmp k (codes "status") ≡ Less
    → AreAbove k (deposed_part dp kk st)
deposed_above k dp kk st e f g = some_above k (codes "deposed") dp (key_part kk st) e (key_above k kk st f g)

-- the members that may be missing, all but the version of the schema
optional_in_order : (f dd dp kk st : Option Data)
    → put_some (codes "create_before_destroy") f (put_some (codes "dependencies") dd (put_some (codes "deposed") dp (put_some (codes "index_key") kk (put_some (codes "status") st no_members))))
    ≡ some_member (codes "create_before_destroy") f (dependencies_part dd dp kk st)
optional_in_order f dd dp kk st =
    let flag = codes "create_before_destroy" in
    let stored = codes "dependencies" in
    let gone = codes "deposed" in
    let key = codes "index_key" in
    let status = put_some_first (codes "status") st no_members tt in
    let keys = ap (put_some key kk) status ∙ put_some_first key kk (status_part st) (status_above key st refl) in
    let deposed = ap (put_some gone dp) keys ∙ put_some_first gone dp (key_part kk st) (key_above gone kk st refl refl) in
    let dependencies = ap (put_some stored dd) deposed ∙ put_some_first stored dd (deposed_part dp kk st) (deposed_above stored dp kk st refl refl refl) in
    ap (put_some flag f) dependencies ∙ put_some_first flag f (dependencies_part dd dp kk st) (some_above flag stored dd (deposed_part dp kk st) refl (deposed_above flag dp kk st refl refl refl))

abbrev versioned : Data → Option Data → Members
versioned v st = member (codes "schema_version") v (status_part st)

-- the version of the schema stands between the key and the status
version_in_order : (v : Data) (f dd dp kk st : Option Data)
    → put (codes "schema_version") v (some_member (codes "create_before_destroy") f (dependencies_part dd dp kk st))
    ≡ some_member (codes "create_before_destroy") f (some_member (codes "dependencies") dd (some_member (codes "deposed") dp (some_member (codes "index_key") kk (versioned v st))))
version_in_order v f dd dp kk st =
    let word = codes "schema_version" in
    let flag = codes "create_before_destroy" in
    let stored = codes "dependencies" in
    let gone = codes "deposed" in
    let key = codes "index_key" in
    put_past word flag v f (dependencies_part dd dp kk st) refl
    ∙ ap (some_member flag f)
    (put_past word stored v dd (deposed_part dp kk st) refl
    ∙ ap (some_member stored dd)
    (put_past word gone v dp (key_part kk st) refl
    ∙ ap (some_member gone dp) (put_past word key v kk (status_part st) refl ∙ ap (some_member key kk) (put_first word v (status_part st) (status_above word st refl)))))

abbrev in_order : Data → Data → Option Data → Option Data → Option Data → Option Data → Option Data → Members
in_order a v f dd dp kk st =
    member (codes "attributes") a (some_member (codes "create_before_destroy") f (some_member (codes "dependencies") dd (some_member (codes "deposed") dp (some_member (codes "index_key") kk (versioned v st)))))

attributes_first : (a v : Data) (f dd dp kk st : Option Data) → AreAbove (codes "attributes") (some_member (codes "create_before_destroy") f (some_member (codes "dependencies") dd (some_member (codes "deposed") dp (some_member (codes "index_key") kk (versioned v st)))))
attributes_first a v f dd dp kk st =
    let k = codes "attributes" in
    some_above k (codes "create_before_destroy") f _ refl (some_above k (codes "dependencies") dd _ refl (some_above k (codes "deposed") dp _ refl (some_above k (codes "index_key") kk _ refl (refl, status_above k st refl))))

-- all members stand in order
all_in_order : (a v : Data) (f dd dp kk st : Option Data)
    → object (put (codes "attributes") a (put (codes "schema_version") v (put_some (codes "create_before_destroy") f (put_some (codes "dependencies") dd (put_some (codes "deposed") dp (put_some (codes "index_key") kk (put_some (codes "status") st no_members)))))))
    ≡ object (in_order a v f dd dp kk st)
all_in_order a v f dd dp kk st =
    ap (λ ms. object (put (codes "attributes") a ms)) (ap (put (codes "schema_version") v) (optional_in_order f dd dp kk st) ∙ version_in_order v f dd dp kk st)
    ∙ ap object (put_first (codes "attributes") a _ (attributes_first a v f dd dp kk st))

abbrev record_members : RecordView → Members
record_members r =
    in_order (value_data r.attributes) (json_number (unsigned r.schema_version)) (flag_data r.create_before_destroy) (dependencies_data r.dependencies) (option_map string r.id.deposed) (key_data r.id.key) (status_data r.tainted)

record_in_order : (r : RecordView) → record_data r ≡ object (record_members r)
record_in_order r =
    all_in_order (value_data r.attributes) (json_number (unsigned r.schema_version)) (flag_data r.create_before_destroy) (dependencies_data r.dependencies) (option_map string r.id.deposed) (key_data r.id.key) (status_data r.tainted)

counted : (a v : Data) (f dd dp kk st : Option Data) → members_len (in_order a v f dd dp kk st) ≡ 2 + one_if_some f + one_if_some dd + one_if_some dp + one_if_some kk + one_if_some st
counted a v f dd dp kk st =
    let e1 = some_len (codes "create_before_destroy") f (some_member (codes "dependencies") dd (some_member (codes "deposed") dp (some_member (codes "index_key") kk (versioned v st)))) in
    let e2 = some_len (codes "dependencies") dd (some_member (codes "deposed") dp (some_member (codes "index_key") kk (versioned v st))) in
    let e3 = some_len (codes "deposed") dp (some_member (codes "index_key") kk (versioned v st)) in
    let e4 = some_len (codes "index_key") kk (versioned v st) in
    let e5 = some_len (codes "status") st no_members in
    omega (arith, e1, e2, e3, e4, e5)

-- What is sent of a record, part after part, is the record.
pub record_sent : (r : RecordView) (n m : ℕ) (l0 l1 l2 l3 l4 l5 l6 l7 l8 l9 l10 l11 : Log) → n ≡ member_count r → m ≡ r.schema_version → Logs l0 l1 (map_begins (Some n)) → Logs l1 l2 (field_key (codes "attributes") AsIs) → SendsValue (value_data r.attributes) l2 l3
    → SendsSome (codes "create_before_destroy") (flag_data r.create_before_destroy) l3 l4 → SendsSome (codes "dependencies") (dependencies_data r.dependencies) l4 l5
    → SendsSome (codes "deposed") (option_map string r.id.deposed) l5 l6 → SendsSome (codes "index_key") (key_data r.id.key) l6 l7
    → Logs l7 l8 (field_key (codes "schema_version") AsIs) → SendsValue (json_number (unsigned m)) l8 l9 → SendsSome (codes "status") (status_data r.tainted) l9 l10 → Logs l10 l11 map_ends → SendsValue (record_data r) l0 l11
record_sent r n m l0 l1 l2 l3 l4 l5 l6 l7 l8 l9 l10 l11 is held begun attributes_key attributes flag dependencies deposed key version_key version status ended =
    let v = json_number (unsigned r.schema_version) in
    let f = flag_data r.create_before_destroy in
    let dd = dependencies_data r.dependencies in
    let dp = option_map string r.id.deposed in
    let kk = key_data r.id.key in
    let st = status_data r.tainted in
    let rest : SendsMembers (status_part st) l9 l11 = sends_some (codes "status") st no_members l9 l10 l11 status ended in
    let from_version : SendsMembers (versioned v st) l7 l11 = (l8, l9, version_key, subst (λ k. SendsValue (json_number (unsigned k)) l8 l9) held version, rest) in
    let from_key = sends_some (codes "index_key") kk (versioned v st) l6 l7 l11 key from_version in
    let from_deposed = sends_some (codes "deposed") dp _ l5 l6 l11 deposed from_key in
    let from_dependencies = sends_some (codes "dependencies") dd _ l4 l5 l11 dependencies from_deposed in
    let from_flag = sends_some (codes "create_before_destroy") f _ l3 l4 l11 flag from_dependencies in
    let count : n ≡ members_len (record_members r) = is ∙ sym (counted (value_data r.attributes) v f dd dp kk st) in
    subst (λ d. SendsValue d l0 l11) (sym (record_in_order r)) (l1, subst (λ k. Logs l0 l1 (map_begins (Some k))) count begun, (l2, l3, attributes_key, attributes, from_flag))

-- ---- resources and states

abbrev Sends : List ℕ → Data → Log → Log → Type 0
Sends key d old new = (named : Log) × Logs old named (field_key key AsIs) × SendsValue d named new

-- a text that is another is sent as that
pub text_sent : (key s t : List ℕ) (a b c : Log) → s ≡ t → Logs a b (field_key key AsIs) → SendsValue (string s) b c → Sends key (string t) a c
text_sent key s t a b c e named sent = (b, named, subst (λ u. SendsValue (string u) b c) e sent)

pub number_sent : (key : List ℕ) (m n : ℕ) (a b c : Log) → m ≡ n → Logs a b (field_key key AsIs) → SendsValue (json_number (unsigned m)) b c → Sends key (json_number (unsigned n)) a c
number_sent key m n a b c e named sent = (b, named, subst (λ k. SendsValue (json_number (unsigned k)) b c) e sent)

resource_in_order : (a b c d e : Data) → put (codes "instances") a (put (codes "mode") b (put (codes "name") c (put (codes "provider") d (put (codes "type") e no_members))))
    ≡ member (codes "instances") a (member (codes "mode") b (member (codes "name") c (member (codes "provider") d (member (codes "type") e no_members))))
resource_in_order a b c d e = refl

-- What is sent of a resource, member after member, is the resource.
pub resource_sent : (r : ResourceView) (l0 l1 l2 l3 l4 l5 l6 l7 : Log) → Logs l0 l1 (map_begins (Some 5)) → Sends (codes "instances") (array (items_of (each record_data r.records))) l1 l2 → Sends (codes "mode") (string (codes "managed")) l2 l3
    → Sends (codes "name") (string r.addr.name) l3 l4 → Sends (codes "provider") (string r.provider) l4 l5 → Sends (codes "type") (string r.addr.type_name) l5 l6 → Logs l6 l7 map_ends → SendsValue (resource_data r) l0 l7
resource_sent r l0 l1 l2 l3 l4 l5 l6 l7 begun instances mode name provider type_name ended =
    let members : SendsMembers (member (codes "instances") (array (items_of (each record_data r.records))) (member (codes "mode") (string (codes "managed")) (member (codes "name") (string r.addr.name) (member (codes "provider") (string r.provider) (member (codes "type") (string r.addr.type_name) no_members))))) l1 l7 =
    (instances.0, l2, instances.1, instances.2, (mode.0, l3, mode.1, mode.2, (name.0, l4, name.1, name.2, (provider.0, l5, provider.1, provider.2, (type_name.0, l6, type_name.1, type_name.2, ended))))) in
    subst (λ ms. SendsValue (object ms) l0 l7) (sym (resource_in_order (array (items_of (each record_data r.records))) (string (codes "managed")) (string r.addr.name) (string r.provider) (string r.addr.type_name))) (l1, begun, members)

state_in_order : (a b c d e f : Data) → put (codes "lineage") a (put (codes "outputs") b (put (codes "resources") c (put (codes "serial") d (put (codes "terraform_version") e (put (codes "version") f no_members)))))
    ≡ member (codes "lineage") a (member (codes "outputs") b (member (codes "resources") c (member (codes "serial") d (member (codes "terraform_version") e (member (codes "version") f no_members)))))
state_in_order a b c d e f = refl

-- What is sent of a state, member after member, is the state.
pub state_sent : (s : StateView) (l0 l1 l2 l3 l4 l5 l6 l7 l8 : Log) → Logs l0 l1 (map_begins (Some 6)) → Sends (codes "lineage") (string s.lineage) l1 l2 → Sends (codes "outputs") (object (outputs_data s.outputs)) l2 l3
    → Sends (codes "resources") (array (items_of (each resource_data (with_records s.resources)))) l3 l4 → Sends (codes "serial") (json_number (unsigned s.serial)) l4 l5 → Sends (codes "terraform_version") (string s.terraform_version) l5 l6
    → Sends (codes "version") (json_number (unsigned 4)) l6 l7 → Logs l7 l8 map_ends → SendsValue (state_data s) l0 l8
state_sent s l0 l1 l2 l3 l4 l5 l6 l7 l8 begun lineage outputs resources serial version format ended =
    let members : SendsMembers (member (codes "lineage") (string s.lineage) (member (codes "outputs") (object (outputs_data s.outputs)) (member (codes "resources") (array (items_of (each resource_data (with_records s.resources)))) (member (codes "serial") (json_number (unsigned s.serial)) (member (codes "terraform_version") (string s.terraform_version) (member (codes "version") (json_number (unsigned 4)) no_members)))))) l1 l8 =
    (lineage.0, l2, lineage.1, lineage.2, (outputs.0, l3, outputs.1, outputs.2, (resources.0, l4, resources.1, resources.2, (serial.0, l5, serial.1, serial.2, (version.0, l6, version.1, version.2, (format.0, l7, format.1, format.2, ended)))))) in
    subst (λ ms. SendsValue (object ms) l0 l8) (sym (state_in_order (string s.lineage) (object (outputs_data s.outputs)) (array (items_of (each resource_data (with_records s.resources)))) (json_number (unsigned s.serial)) (string s.terraform_version) (json_number (unsigned 4)))) (l1, begun, members)

-- ---- resources with records

present_at : (b : Bool) (r : ResourceView) (rest : List ResourceView) (x y z : Log) → SendsWhere b (resource_data r) x y → SendsItems (items_of (each resource_data rest)) y z
    → SendsItems (items_of (each resource_data (cond b (r ∷ rest) rest))) x z
present_at true r rest x y z h more = (y, h, more)
present_at false r rest x y z h more = subst (λ l. SendsItems (items_of (each resource_data rest)) l z) h more

-- a resource is sent before the others where it has records
pub present_sent : (r : ResourceView) (rs : List ResourceView) (x y z : Log) → SendsWhere (is_some_record r.records) (resource_data r) x y → SendsItems (items_of (each resource_data (with_records rs))) y z
    → SendsItems (items_of (each resource_data (with_records (r ∷ rs)))) x z
present_sent r rs x y z h more = present_at (is_some_record r.records) r (with_records rs) x y z h more
