-- No number of a state's text is a float.
use Rattle.std.proofs.Common.{◌≡◌, ℕ, pos, negsuc, ℤ, Bool, true, false, ◌||◌, List, [], ◌∷◌, codes, refl, map as each, Ordering, Less, Equal, Greater}
use Rattle.std.proofs.lemmas.Bool.{or_parts}
use Rattle.std.specs.Cmp.Lexicographic.{slice_cmp}
use Rattle.std.specs.Ordering.{nat_cmp, match_ordering}
use Rattle.serde_json.specs.Data as json
use Rattle.serde_json.specs.Find.{of_integer, is_float}
use Rattle.serde_json.specs.View.{items_of}
use Rattle.serde_json.specs.Written.{has_float, items_have_float, members_have_float}
use Rattle.tf_value_json.specs.Json.{value_data, items_data, entries_data, texts_data}
use Rattle.tf_value_data.specs.Tree.{Tree, whole as whole_number, list, map, set, Items, no_items, item, Entries, no_entries, entry}
use Rattle.std.specs.Prelude.{Option, Some, None, option_map}
use Rattle.tf_config_address.specs.ObjectId.{InstanceKeyView, single, number, name}
use Rattle.tf_state_data.specs.Record.{RecordView}
use Rattle.tf_state_data.specs.Resource.{ResourceView}
use Rattle.tf_state_data.specs.State.{StateView}
use Rattle.tf_state.specs.Text.{put_some, key_data, status_data, flag_data, dependencies_data, record_data, resource_data, output_data, outputs_data, state_data}
use Rattle.tf_state.specs.Arrangement.{with_records}
use Rattle.tf_state.specs.Types.{type_data, item_types, entry_types}

neither : (b c : Bool) → b ≡ false → c ≡ false → (b || c) ≡ false
neither b c e f = rw (e, f) refl

of_integer-whole : (z : ℤ) → is_float (of_integer z) ≡ false
of_integer-whole (pos n) = refl
of_integer-whole (negsuc n) = refl

texts_data-whole : (ss : List (List ℕ)) → items_have_float (texts_data ss) ≡ false
texts_data-whole [] = refl
texts_data-whole (s ∷ ss) = texts_data-whole ss

-- neither in a value's form nor in its type
mutual
  value-whole : (t : Tree) → (has_float (value_data t) ≡ false) × (has_float (type_data t) ≡ false)
  value-whole (whole_number z) = (of_integer-whole z, refl)
  value-whole (list ts) = let p = items-whole ts in (p.0, neither _ _ p.1 refl)
  value-whole (map es) = let p = entries-whole es in (p.0, neither _ _ p.1 refl)
  value-whole (set ss) = (texts_data-whole ss, refl)
  value-whole _ = (refl, refl)

  items-whole : (ts : Items) → (items_have_float (items_data ts) ≡ false) × (items_have_float (item_types ts) ≡ false)
  items-whole no_items = (refl, refl)
  items-whole (item t ts) = let p = value-whole t in let q = items-whole ts in (neither _ _ p.0 q.0, neither _ _ p.1 q.1)

  entries-whole : (es : Entries) → (members_have_float (entries_data es) ≡ false) × (members_have_float (entry_types es) ≡ false)
  entries-whole no_entries = (refl, refl)
  entries-whole (entry k t es) = let p = value-whole t in let q = entries-whole es in (neither _ _ p.0 q.0, neither _ _ p.1 q.1)

put_at : (o : Ordering) (a b c : json.Members) → members_have_float a ≡ false → members_have_float b ≡ false → members_have_float c ≡ false → members_have_float (match_ordering o a b c) ≡ false
put_at Less a b c e f g = e
put_at Equal a b c e f g = f
put_at Greater a b c e f g = g

-- no number in the value, or in the members, is a float
record IsWhole (d : json.Data) : Type 0 where
  fact : has_float d ≡ false

record AreWhole (ms : json.Members) : Type 0 where
  fact : members_have_float ms ≡ false

whole : (d : json.Data) → has_float d ≡ false → IsWhole d
whole d e = record { fact = e }

no_members-whole : AreWhole json.no_members
no_members-whole = record { fact = refl }

put_false : (k : List ℕ) (d : json.Data) (ms : json.Members) → has_float d ≡ false → members_have_float ms ≡ false → members_have_float (json.put k d ms) ≡ false
put_false k d json.no_members e f = neither _ _ e refl
put_false k d (json.member l x ms) e f =
    let parts = or_parts (has_float x) _ f in
    put_at (slice_cmp nat_cmp k l) (json.member k d (json.member l x ms)) (json.member l d ms) (json.member l x (json.put k d ms)) (neither _ _ e f) (neither _ _ e parts.1) (neither _ _ parts.0 (put_false k d ms e parts.1))

put-whole : (k : List ℕ) (d : json.Data) (ms : json.Members) → IsWhole d → AreWhole ms → AreWhole (json.put k d ms)
put-whole k d ms e f = record { fact = put_false k d ms e.fact f.fact }

-- nothing, or something without floats
abbrev MayBeWhole : Option json.Data → Type 0
MayBeWhole None = Unit {0}
MayBeWhole (Some d) = IsWhole d

put_some-whole : (k : List ℕ) (o : Option json.Data) (ms : json.Members) → MayBeWhole o → AreWhole ms → AreWhole (put_some k o ms)
put_some-whole k None ms e f = f
put_some-whole k (Some d) ms e f = put-whole k d ms e f

text-whole : (s : List ℕ) → IsWhole (json.string s)
text-whole s = whole (json.string s) refl

number-whole : (n : ℕ) → IsWhole (json.number (json.unsigned n))
number-whole n = whole (json.number (json.unsigned n)) refl

key_data-whole : (k : InstanceKeyView) → MayBeWhole (key_data k)
key_data-whole single = tt
key_data-whole (number n) = number-whole n
key_data-whole (name s) = text-whole s

status_data-whole : (b : Bool) → MayBeWhole (status_data b)
status_data-whole true = text-whole (codes "tainted")
status_data-whole false = tt

flag_data-whole : (b : Bool) → MayBeWhole (flag_data b)
flag_data-whole true = whole (json.boolean true) refl
flag_data-whole false = tt

deposed-whole : (o : Option (List ℕ)) → MayBeWhole (option_map json.string o)
deposed-whole None = tt
deposed-whole (Some s) = text-whole s

texts-whole : (ts : List (List ℕ)) → items_have_float (items_of (each json.string ts)) ≡ false
texts-whole [] = refl
texts-whole (t ∷ ts) = texts-whole ts

dependencies_data-whole : (ts : List (List ℕ)) → MayBeWhole (dependencies_data ts)
dependencies_data-whole [] = tt
dependencies_data-whole (t ∷ ts) = whole (json.array (items_of (each json.string (t ∷ ts)))) (texts-whole ts)

record_data-whole : (r : RecordView) → has_float (record_data r) ≡ false
record_data-whole r =
    let a = put_some-whole (codes "status") _ _ (status_data-whole r.tainted) no_members-whole in
    let b = put_some-whole (codes "index_key") _ _ (key_data-whole r.id.key) a in
    let c = put_some-whole (codes "deposed") _ _ (deposed-whole r.id.deposed) b in
    let d = put_some-whole (codes "dependencies") _ _ (dependencies_data-whole r.dependencies) c in
    let e = put_some-whole (codes "create_before_destroy") _ _ (flag_data-whole r.create_before_destroy) d in
    let f = put-whole (codes "schema_version") _ _ (number-whole r.schema_version) e in
    (put-whole (codes "attributes") _ _ (whole (value_data r.attributes) (value-whole r.attributes).0) f).fact

records-whole : (rs : List RecordView) → items_have_float (items_of (each record_data rs)) ≡ false
records-whole [] = refl
records-whole (r ∷ rs) = neither _ _ (record_data-whole r) (records-whole rs)

resource_data-whole : (r : ResourceView) → has_float (resource_data r) ≡ false
resource_data-whole r =
    (put-whole (codes "instances") _ _ (whole (json.array (items_of (each record_data r.records))) (records-whole r.records)) (put-whole (codes "mode") _ _ (text-whole (codes "managed"))
    (put-whole (codes "name") _ _ (text-whole r.addr.name) (put-whole (codes "provider") _ _ (text-whole r.provider) (put-whole (codes "type") _ _ (text-whole r.addr.type_name) no_members-whole))))).fact

resources-whole : (rs : List ResourceView) → items_have_float (items_of (each resource_data rs)) ≡ false
resources-whole [] = refl
resources-whole (r ∷ rs) = neither _ _ (resource_data-whole r) (resources-whole rs)

output_data-whole : (t : Tree) → has_float (output_data t) ≡ false
output_data-whole t =
    (put-whole (codes "type") _ _ (whole (type_data t) (value-whole t).1) (put-whole (codes "value") _ _ (whole (value_data t) (value-whole t).0) no_members-whole)).fact

outputs_data-whole : (es : Entries) → members_have_float (outputs_data es) ≡ false
outputs_data-whole no_entries = refl
outputs_data-whole (entry k t es) = neither _ _ (output_data-whole t) (outputs_data-whole es)

pub state_data-whole : (s : StateView) → has_float (state_data s) ≡ false
state_data-whole s =
    (put-whole (codes "lineage") _ _ (text-whole s.lineage) (put-whole (codes "outputs") _ _ (whole (json.object (outputs_data s.outputs)) (outputs_data-whole s.outputs))
    (put-whole (codes "resources") _ _ (whole (json.array (items_of (each resource_data (with_records s.resources)))) (resources-whole (with_records s.resources))) (put-whole (codes "serial") _ _ (number-whole s.serial)
    (put-whole (codes "terraform_version") _ _ (text-whole s.terraform_version) (put-whole (codes "version") _ _ (number-whole 4) no_members-whole)))))).fact
