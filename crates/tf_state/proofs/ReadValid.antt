-- What is read is valid.
use Rattle.std.proofs.Common.{◌≡◌, ℕ, ◌^◌, ◌<◌, Bool, true, false, ◌&&◌, cond, List, [], ◌∷◌, map as each, Option, Some, None, Ordering, Less, Equal, Greater, nat_cmp, codes, refl, sym, ap, ◌∙◌, subst, arith}
use Rattle.std.specs.Cmp.{IsTotalOrder}
use Rattle.std.specs.Cmp.Lexicographic.{slice_cmp}
use Rattle.std.specs.List.{AllByRecursion}
use Rattle.std.specs.List.Sorted.{IsStrictlySortedBy}
use Rattle.std.specs.Ordering.{match_ordering, ordering_reverse}
use Rattle.std.specs.Prelude.{option_and_then}
use Rattle.std.proofs.lemmas.Bool.{and_parts}
use Rattle.std.proofs.lemmas.Cmp.{nat_list_cmp_total}
use Rattle.serde_json.specs.Data as json
use Rattle.serde_json.specs.Find.{get}
use Rattle.tf_value_json.specs.Plain.{IsPlain, ArePlain, ArePlainMembers, IsSorted, IsAny, AreOrderly, AreOrderlyMembers}
use Rattle.tf_value_json.proofs.Puts.{plain-put}
use Rattle.tf_value_json.proofs.Sorted.{read_is_sorted, sorted-get}
use Rattle.tf_value_json.specs.Json.{IsJson, IsArray, IsObject, AreTexts, value_data, entries_data, tree_from}
use Rattle.tf_value_data.specs.Known.{known}
use Rattle.tf_value_data.specs.Tree.{Tree, null, boolean, whole, text, list, map, set, Items, no_items, item, Entries, no_entries, entry, put}
use Rattle.tf_value_json.proofs.Forms.{form_of, form-held, form-tree_from, tree_from-no_set, IsJson-one_form}
use Rattle.tf_value_data.proofs.Tables.{at_order}
use Rattle.tf_value_data.specs.Stored.{IsTable}
use Rattle.tf_state.specs.Laws.{ReadIsValid}
use Rattle.tf_config_address.specs.ResourceAddr.{addr_cmp}
use Rattle.tf_state_data.specs.Addresses.{AreByAddress}
use Rattle.tf_config_address.specs.ObjectId.{InstanceKeyView, object_id_cmp}
use Rattle.tf_state_data.specs.Record.{RecordView}
use Rattle.tf_state_data.specs.Resource.{ResourceView}
use Rattle.tf_state_data.specs.State.{StateView}
use Rattle.tf_config_address.proofs.Totals.{object_id_total, addr_total}
use Rattle.tf_state.specs.Arrangement.{is_some_record, with_records}
use Rattle.tf_state.specs.Reading.{gather, put_text, put_new, is_within, value_in, values_in, attributes_in, address_in, addresses_in, dependencies_in, record_in, instances_in, resource_in, resources_in, all_resources_in, outputs_in, output_in, required_value, state_in}
use Rattle.tf_state.specs.Table.{SaysKey, SaysDeposed, SaysNumberOrZero}
use Rattle.tf_state.specs.Valid.{IsAttributes, IsKey, IsDeposed, AreAddresses, IsRecord, AreRecords, IsResource, IsPresent, AreResources, IsValid}
use Rattle.tf_state.specs.Words.{is_address, is_shaped}
use Rattle.tf_state.specs.declared.shape.Shape.TheVariants as shapes
use Rattle.tf_state.proofs.ByTable.{instances_said, record_says, resource_says, resources_said, state_said, state_says}
use Rattle.tf_state.proofs.Contents.{attributes_said, dependencies_said, outputs_said}
use Rattle.tf_state.proofs.Orders.{nothing_ordered, order-filter, put_new-all, put_new-order}
use Rattle.tf_state.proofs.Properties.{inverted, guarded, mapped}
use Rattle.tf_state.proofs.ShownTables.{IsSaved, AreSaved, IsShown, integer-plain, shown_table}
use Rattle.tf_state.proofs.ValueForms.{within-limits}

-- ---- values

texts-plain : (ss : List (List ℕ)) (ds : json.Items) → AreTexts ss ds → ArePlain ds
texts-plain [] json.no_items h = tt
texts-plain (s ∷ ss) (json.item (json.string t) ds) h = (tt, texts-plain ss ds h.1)
texts-plain _ _ h = absurd (assumption)

mutual
  form-plain : (t : Tree) (d : json.Data) → IsJson t d → IsSorted d → IsPlain d
  form-plain null json.null h s = tt
  form-plain (boolean b) (json.boolean c) h s = tt
  form-plain (whole z) (json.number n) h s = subst (λ m. IsPlain (json.number m)) (sym h.1) (integer-plain z h.0)
  form-plain (text u) (json.string v) h s = tt
  form-plain (list ts) (json.array ds) h s = array-plain ts ds h s
  form-plain (map es) (json.object ms) h s = object-plain es ms h s
  form-plain (set ss) (json.array ds) h s = texts-plain ss ds h
  form-plain _ _ h s = absurd (assumption)

  array-plain : (ts : Items) (ds : json.Items) → IsArray ts ds → AreOrderly IsAny ds → ArePlain ds
  array-plain no_items json.no_items h s = tt
  array-plain (item t ts) (json.item d ds) h s = (form-plain t d h.0 s.0, array-plain ts ds h.1 s.1)
  array-plain _ _ h s = absurd (assumption)

  object-plain : (es : Entries) (ms : json.Members) → IsObject es ms → AreOrderlyMembers IsAny ms → ArePlainMembers ms
  object-plain no_entries json.no_members h s = tt
  object-plain (entry k t es) (json.member l d ms) h s = (s.0, form-plain t d h.1 s.1, object-plain es ms h.2 s.2)
  object-plain _ _ h s = absurd (assumption)

same : {A : Type 0} (a b : A) → Some a ≡ Some b → a ≡ b
same a b e = cc

abbrev IsFine : Tree → Type 0
IsFine t = IsSaved t × IsPlain (value_data t)

value-fine : (d : json.Data) (t : Tree) → IsSorted d → value_in d ≡ Some t → IsFine t
value-fine d t s e =
    let g = guarded (known (tree_from d) && is_within (tree_from d)) (Some (tree_from d)) t e in
    let parts = and_parts (known (tree_from d)) (is_within (tree_from d)) g.0 in
    let u = tree_from d in
    let form = form-tree_from d parts.0 in
    let held = form-held u d form in
    let shown : value_data u ≡ d = IsJson-one_form u (value_data u) d (form_of u held parts.0) form in
    subst IsFine (same u t g.1) ((held, parts.0, within-limits u parts.1, tree_from-no_set d), subst IsPlain (sym shown) (form-plain u d form s))

-- ---- tables

shown-put : (o : Ordering) (a b c : Entries) → entries_data (match_ordering o a b c) ≡ match_ordering o (entries_data a) (entries_data b) (entries_data c)
shown-put Less a b c = refl
shown-put Equal a b c = refl
shown-put Greater a b c = refl

entries_data-put : (k : List ℕ) (t : Tree) (es : Entries) → entries_data (put k t es) ≡ json.put k (value_data t) (entries_data es)
entries_data-put k t no_entries = refl
entries_data-put k t (entry l u es) = shown-put (slice_cmp nat_cmp k l) _ _ _ ∙ rw (entries_data-put k t es) refl

saved-put : (k : List ℕ) (t : Tree) (es : Entries) → IsSaved t → AreSaved es → AreSaved (put k t es)
saved-put k t no_entries p h = (p, tt)
saved-put k t (entry l u es) p h = at_order AreSaved (slice_cmp nat_cmp k l) (entry k t (entry l u es)) (entry l t es) (entry l u (put k t es)) (p, h) (p, h.1) (h.0, saved-put k t es p h.1)

table-put : (k : List ℕ) (t : Tree) (es : Entries) → IsFine t → IsShown es → IsShown (put k t es)
table-put k t es fine h =
    (subst ArePlainMembers (sym (entries_data-put k t es)) (plain-put k (value_data t) (entries_data es) fine.1 h.0), saved-put k t es fine.0 h.1)

table-read : (read_one : json.Data → Option Tree) → ((d : json.Data) (t : Tree) → IsSorted d → read_one d ≡ Some t → IsFine t) → (ms : json.Members) (found es : Entries) → AreOrderlyMembers IsAny ms → IsShown found → values_in read_one ms found ≡ Some es
    → IsShown es
table-read read_one fine json.no_members found es s h e = subst IsShown (same found es e) h
table-read read_one fine (json.member k d ms) found es s h e =
    let i = inverted (λ t. values_in read_one ms (put k t found)) (read_one d) es e in
    table-read read_one fine ms (put k i.0 found) es s.2 (table-put k i.0 found (fine d i.0 s.1 i.1) h) i.2

required-fine : (o : Option json.Data) (t : Tree) → ((e : json.Data) → o ≡ Some e → IsSorted e) → required_value o ≡ Some t → IsFine t
required-fine None t s e = absurd (cc)
required-fine (Some d) t s e = value-fine d t (s d refl) e

output-fine : (d : json.Data) (t : Tree) → IsSorted d → output_in d ≡ Some t → IsFine t
output-fine d t s e =
    let g = guarded (is_shaped shapes.Output d) (required_value (get (codes "value") d)) t e in required-fine (get (codes "value") d) t (λ f is. sorted-get (codes "value") d f s is) g.1

-- ---- items that are put in order

-- sorted items that are read as something with a property, put to others with it, leave all with it and in order
gathered : {A K : Type 0} (read_one : json.Data → Option A) (key : A → K) (cmp : K → K → Ordering) → IsTotalOrder cmp → (P : A → Type 0) → ((d : json.Data) (x : A) → IsSorted d → read_one d ≡ Some x → P x)
    → (ds : json.Items) (found xs : List A) → AreOrderly IsAny ds → AllByRecursion P found × IsStrictlySortedBy cmp (each key found) → gather read_one (λ a b. cmp (key a) (key b)) ds found ≡ Some xs
    → AllByRecursion P xs × IsStrictlySortedBy cmp (each key xs)
gathered read_one key cmp total P valid json.no_items found xs s h e = subst (λ ys. AllByRecursion P ys × IsStrictlySortedBy cmp (each key ys)) (same found xs e) h
gathered {A} read_one key cmp total P valid (json.item d ds) found xs s h e =
    let by = λ (a b : A). cmp (key a) (key b) in
    let i = inverted (λ x. option_and_then (gather read_one by ds) (put_new by x found)) (read_one d) xs e in
    let j = inverted (gather read_one by ds) (put_new by i.0 found) xs i.2 in
    let all = put_new-all by P i.0 found j.0 (valid d i.0 s.0 i.1) h.0 j.1 in
    gathered read_one key cmp total P valid ds j.0 xs s.1 (all, put_new-order key cmp total i.0 found j.0 h.1 j.1) j.2

-- ---- records

key-valid : (o : Option json.Data) (k : InstanceKeyView) → SaysKey o k → IsKey k
key-valid None k h = subst IsKey (sym h) tt
key-valid (Some (json.number (json.unsigned n))) k h = subst IsKey (sym h.0) h.1
key-valid (Some (json.string s)) k h = subst IsKey (sym h) tt
key-valid (Some _) k h = absurd (assumption)

deposed-valid : (o : Option json.Data) (p : Option (List ℕ)) → SaysDeposed o p → IsDeposed p
deposed-valid None p h = subst IsDeposed (sym h) tt
deposed-valid (Some (json.string s)) p h = subst IsDeposed (sym h.0) h.1
deposed-valid (Some _) p h = absurd (assumption)

attributes-valid : (o : Option json.Data) (t : Tree) → ((e : json.Data) → o ≡ Some e → IsSorted e) → attributes_in o ≡ Some t → IsAttributes t
attributes-valid (Some (json.object ms)) t s e =
    let m = mapped map (values_in value_in ms no_entries) t e in subst IsAttributes m.2 (shown_table m.0 (table-read value_in value-fine ms no_entries m.0 (s (json.object ms) refl) (tt, tt) m.1))
attributes-valid _ t s e = absurd (cc)

version-valid : (o : Option json.Data) (n : ℕ) → SaysNumberOrZero (2 ^ 32) o n → n < 2 ^ 32
version-valid None n h = omega arith
version-valid (Some (json.number (json.unsigned m))) n h = let e = h.0 in let l = h.1 in omega arith
version-valid (Some _) n h = absurd (assumption)

all_texts_at : (P : List ℕ → Type 0) (o : Ordering) (s t : List ℕ) (ts later : List (List ℕ)) → P s → AllByRecursion P (t ∷ ts) → AllByRecursion P later → AllByRecursion P (match_ordering o (s ∷ t ∷ ts) (t ∷ ts) (t ∷ later))
all_texts_at P Less s t ts later p h more = (p, h)
all_texts_at P Equal s t ts later p h more = h
all_texts_at P Greater s t ts later p h more = (h.0, more)

put_text-all : (P : List ℕ → Type 0) (s : List ℕ) (ts : List (List ℕ)) → P s → AllByRecursion P ts → AllByRecursion P (put_text s ts)
put_text-all P s [] p h = (p, tt)
put_text-all P s (t ∷ ts) p h = all_texts_at P (slice_cmp nat_cmp s t) s t ts (put_text s ts) p h (put_text-all P s ts p h.1)

texts_above : (s t : List ℕ) (ts : List (List ℕ)) → slice_cmp nat_cmp s t ≡ Less → AllByRecursion (λ u. slice_cmp nat_cmp u t ≡ Greater) ts → AllByRecursion (λ u. slice_cmp nat_cmp u s ≡ Greater) ts
texts_above s t [] below h = tt
texts_above s t (u ∷ ts) below h =
    let up : slice_cmp nat_cmp t u ≡ Less = nat_list_cmp_total.antisymm t u ∙ ap ordering_reverse h.0 in
    (nat_list_cmp_total.antisymm u s ∙ ap ordering_reverse (nat_list_cmp_total.trans s t u below up), texts_above s t ts below h.1)

addresses_at : (o : Ordering) (s t : List ℕ) (ts : List (List ℕ)) → slice_cmp nat_cmp s t ≡ o → is_address s ≡ true → AreAddresses (t ∷ ts) → AreAddresses (put_text s ts) → AreAddresses (match_ordering o (s ∷ t ∷ ts) (t ∷ ts) (t ∷ put_text s ts))
addresses_at Less s t ts is p h more = (p, (nat_list_cmp_total.antisymm t s ∙ ap ordering_reverse is, texts_above s t ts is h.1), h)
addresses_at Equal s t ts is p h more = h
addresses_at Greater s t ts is p h more = (h.0, put_text-all (λ u. slice_cmp nat_cmp u t ≡ Greater) s ts is h.1, more)

-- an address that is put among others leaves them in order
pub addresses-put : (s : List ℕ) (ts : List (List ℕ)) → is_address s ≡ true → AreAddresses ts → AreAddresses (put_text s ts)
addresses-put s [] p h = (p, tt, tt)
addresses-put s (t ∷ ts) p h = addresses_at (slice_cmp nat_cmp s t) s t ts refl p h (addresses-put s ts p h.2)

address-valid : (d : json.Data) (s : List ℕ) → address_in d ≡ Some s → is_address s ≡ true
address-valid (json.string t) s e = let g = guarded (is_address t) (Some t) s e in subst (λ u. is_address u ≡ true) (same t s g.1) g.0
address-valid _ s e = absurd (cc)

addresses-read : (ds : json.Items) (found ts : List (List ℕ)) → AreAddresses found → addresses_in ds found ≡ Some ts → AreAddresses ts
addresses-read json.no_items found ts h e = subst AreAddresses (same found ts e) h
addresses-read (json.item d ds) found ts h e =
    let i = inverted (λ s. addresses_in ds (put_text s found)) (address_in d) ts e in addresses-read ds (put_text i.0 found) ts (addresses-put i.0 found (address-valid d i.0 i.1) h) i.2

dependencies-valid : (o : Option json.Data) (ts : List (List ℕ)) → dependencies_in o ≡ Some ts → AreAddresses ts
dependencies-valid None ts e = subst AreAddresses (same [] ts e) tt
dependencies-valid (Some (json.array ds)) ts e = addresses-read ds [] ts tt e
dependencies-valid (Some _) ts e = absurd (cc)

record-valid : (d : json.Data) (r : RecordView) → IsSorted d → record_in d ≡ Some r → IsRecord r
record-valid d r s e =
    let says = record_says d r e in
    record {
      key = key-valid (get (codes "index_key") d) r.id.key says.index_key;
      deposed = deposed-valid (get (codes "deposed") d) r.id.deposed says.deposed;
      attributes = attributes-valid (get (codes "attributes") d) r.attributes (λ f is. sorted-get (codes "attributes") d f s is) (attributes_said (get (codes "attributes") d) r.attributes says.attributes);
      version = version-valid (get (codes "schema_version") d) r.schema_version says.schema_version;
      dependencies = dependencies-valid (get (codes "dependencies") d) r.dependencies (dependencies_said (get (codes "dependencies") d) r.dependencies says.dependencies);
    }

-- ---- resources

instances-valid : (o : Option json.Data) (rs : List RecordView) → ((e : json.Data) → o ≡ Some e → IsSorted e) → instances_in o ≡ Some rs → AreRecords rs
instances-valid (Some (json.array ds)) rs s e =
    gathered record_in (λ (r : RecordView). r.id) object_id_cmp object_id_total IsRecord record-valid ds [] rs (s (json.array ds) refl) (tt, nothing_ordered object_id_cmp) e
instances-valid _ rs s e = absurd (cc)

resource-valid : (d : json.Data) (r : ResourceView) → IsSorted d → resource_in d ≡ Some r → IsResource r
resource-valid d r s e =
    let says = resource_says d r e in
    record {
      type_name = says.type_name.1;
      name = says.name.1;
      records = instances-valid (get (codes "instances") d) r.records (λ f is. sorted-get (codes "instances") d f s is) (instances_said (get (codes "instances") d) r.records says.instances);
    }

-- resources, each of which may be one without records
abbrev AreParts : List ResourceView → Type 0
AreParts rs = AllByRecursion IsResource rs × AreByAddress rs

present_at : (b : Bool) (r : ResourceView) (rest : List ResourceView) → is_some_record r.records ≡ b → IsResource r → AllByRecursion IsPresent rest → AllByRecursion IsPresent (cond b (r ∷ rest) rest)
present_at true r rest some p more = ((p, some), more)
present_at false r rest some p more = more

with_records-present : (rs : List ResourceView) → AllByRecursion IsResource rs → AllByRecursion IsPresent (with_records rs)
with_records-present [] h = tt
with_records-present (r ∷ rs) h = present_at (is_some_record r.records) r (with_records rs) refl h.0 (with_records-present rs h.1)

with_records-valid : (rs : List ResourceView) → AreParts rs → AreResources (with_records rs)
with_records-valid rs h = (with_records-present rs h.0, order-filter (λ r. r.addr) addr_cmp (λ r. is_some_record r.records) rs h.1)

resources-valid : (o : Option json.Data) (rs : List ResourceView) → ((e : json.Data) → o ≡ Some e → IsSorted e) → all_resources_in o ≡ Some rs → AreResources rs
resources-valid None rs s e = subst AreResources (same [] rs e) (tt, nothing_ordered addr_cmp)
resources-valid (Some (json.array ds)) rs s e =
    let m = mapped with_records (resources_in ds []) rs e in
    subst AreResources m.2 (with_records-valid m.0 (gathered resource_in (λ (r : ResourceView). r.addr) addr_cmp addr_total IsResource resource-valid ds [] m.0 (s (json.array ds) refl) (tt, nothing_ordered addr_cmp) m.1))
resources-valid (Some _) rs s e = absurd (cc)

outputs-valid : (o : Option json.Data) (es : Entries) → ((e : json.Data) → o ≡ Some e → IsSorted e) → outputs_in o ≡ Some es → IsTable es
outputs-valid None es s e = subst IsTable (same no_entries es e) (shown_table no_entries (tt, tt))
outputs-valid (Some (json.object ms)) es s e = shown_table es (table-read output_in output-fine ms no_entries es (s (json.object ms) refl) (tt, tt) e)
outputs-valid (Some _) es s e = absurd (cc)

-- ---- states

state-valid : (d : json.Data) (s : StateView) → IsSorted d → state_in d ≡ Some s → IsValid s
state-valid d s sorted e =
    let says = state_says d s e in
    record {
      serial = says.serial.1;
      outputs = outputs-valid (get (codes "outputs") d) s.outputs (λ f is. sorted-get (codes "outputs") d f sorted is) (outputs_said (get (codes "outputs") d) s.outputs says.outputs);
      resources = resources-valid (get (codes "resources") d) s.resources (λ f is. sorted-get (codes "resources") d f sorted is) (resources_said (get (codes "resources") d) s.resources says.resources);
    }

pub read_is_valid : ReadIsValid
read_is_valid bytes s reads = state-valid reads.0 s (read_is_sorted bytes reads.0 reads.2) (state_said reads.0 s reads.3)
