-- A record that is written is read back.
use Rattle.std.proofs.Common.{◌≡◌, ℕ, ◌^◌, Bool, true, false, ◌&&◌, List, Option, Some, None, option_map, Ordering, Less, Equal, Greater, codes, nat_cmp, is_eq, refl, ◌∙◌}
use Rattle.std.specs.Cmp.Lexicographic.{slice_cmp}
use Rattle.std.specs.List.{list_any}
use Rattle.std.specs.Ordering.{match_ordering}
use Rattle.std.specs.Str.{bytes_eq}
use Rattle.serde_json.specs.Data.{Data, string, number as json_number, unsigned, Members, no_members, member, put}
use Rattle.serde_json.specs.Find.{get, get_member}
use Rattle.tf_value_json.proofs.Puts.{get-put, get-put_other}
use Rattle.tf_value_json.specs.Json.{value_data}
use Rattle.tf_state.specs.Reading.{record_in, record_at, id_in}
use Rattle.tf_state_data.specs.Record.{RecordView}
use Rattle.tf_state.specs.Text.{put_some, key_data, status_data, flag_data, dependencies_data, record_data}
use Rattle.tf_state.specs.Valid.{IsRecord}
use Rattle.tf_state.specs.Words.{has_only, is_shaped, properties_of}
use Rattle.tf_state.specs.declared.shape.Shape.TheVariants as shapes
use Rattle.tf_state.proofs.Back.{attributes-back, version-back, key-back, deposed-back, tainted-back, flag-back, dependencies-back}

-- ---- a property that may be there

-- what was put is found, where nothing stood before
found : (k : List ℕ) (o : Option Data) (ms : Members) → get_member k ms ≡ None → get_member k (put_some k o ms) ≡ o
found k None ms none = none
found k (Some d) ms none = get-put k d ms

other : (k l : List ℕ) (o : Option Data) (ms : Members) → is_eq (slice_cmp nat_cmp k l) ≡ false → get_member k (put_some l o ms) ≡ get_member k ms
other k l None ms apart = refl
other k l (Some d) ms apart = get-put_other k l d ms apart

both_hold : (a b : Bool) → a ≡ true → b ≡ true → (a && b) ≡ true
both_hold a b e f = rw (e, f) refl

first_holds : (a b : Bool) → (a && b) ≡ true → a ≡ true
first_holds true b e = refl
first_holds false b e = absurd (cc)

then_holds : (a b : Bool) → (a && b) ≡ true → b ≡ true
then_holds true b e = e
then_holds false b e = absurd (cc)

only_at : (o : Ordering) (words : List (List ℕ)) (k m : List ℕ) (d e : Data) (ms : Members) → list_any (bytes_eq k) words ≡ true → has_only words (member m e ms) ≡ true → has_only words (put k d ms) ≡ true
    → has_only words (match_ordering o (member k d (member m e ms)) (member m d ms) (member m e (put k d ms))) ≡ true
only_at Less words k m d e ms is h more = both_hold _ _ is h
only_at Equal words k m d e ms is h more = h
only_at Greater words k m d e ms is h more = both_hold _ _ (first_holds _ _ h) more

only_put : (words : List (List ℕ)) (k : List ℕ) (d : Data) (ms : Members) → list_any (bytes_eq k) words ≡ true → has_only words ms ≡ true → has_only words (put k d ms) ≡ true
only_put words k d no_members is h = both_hold _ _ is refl
only_put words k d (member m e ms) is h = only_at (slice_cmp nat_cmp k m) words k m d e ms is h (only_put words k d ms is (then_holds (list_any (bytes_eq m) words) _ h))

only : (words : List (List ℕ)) (k : List ℕ) (o : Option Data) (ms : Members) → list_any (bytes_eq k) words ≡ true → has_only words ms ≡ true → has_only words (put_some k o ms) ≡ true
only words k None ms is h = h
only words k (Some d) ms is h = only_put words k d ms is h

-- ---- the properties of a record

abbrev m1 : RecordView → Members
m1 r = put_some (codes "status") (status_data r.tainted) no_members

abbrev m2 : RecordView → Members
m2 r = put_some (codes "index_key") (key_data r.id.key) (m1 r)

abbrev m3 : RecordView → Members
m3 r = put_some (codes "deposed") (option_map string r.id.deposed) (m2 r)

abbrev m4 : RecordView → Members
m4 r = put_some (codes "dependencies") (dependencies_data r.dependencies) (m3 r)

abbrev m5 : RecordView → Members
m5 r = put_some (codes "create_before_destroy") (flag_data r.create_before_destroy) (m4 r)

abbrev m6 : RecordView → Members
m6 r = put (codes "schema_version") (json_number (unsigned r.schema_version)) (m5 r)

abbrev m7 : RecordView → Members
m7 r = put (codes "attributes") (value_data r.attributes) (m6 r)

-- a key that is none of the first four, five, .. is not there
none1 : (k : List ℕ) (r : RecordView) → is_eq (slice_cmp nat_cmp k (codes "status")) ≡ false → get_member k (m1 r) ≡ None
none1 k r a = other k (codes "status") (status_data r.tainted) no_members a

none2 : (k : List ℕ) (r : RecordView) → is_eq (slice_cmp nat_cmp k (codes "status")) ≡ false → is_eq (slice_cmp nat_cmp k (codes "index_key")) ≡ false → get_member k (m2 r) ≡ None
none2 k r a b = other k (codes "index_key") (key_data r.id.key) (m1 r) b ∙ none1 k r a

none3 : (k : List ℕ) (r : RecordView) → is_eq (slice_cmp nat_cmp k (codes "status")) ≡ false → is_eq (slice_cmp nat_cmp k (codes "index_key")) ≡ false → is_eq (slice_cmp nat_cmp k (codes "deposed")) ≡ false
    → get_member k (m3 r) ≡ None
none3 k r a b c = other k (codes "deposed") (option_map string r.id.deposed) (m2 r) c ∙ none2 k r a b

none4 : (k : List ℕ) (r : RecordView) → is_eq (slice_cmp nat_cmp k (codes "status")) ≡ false → is_eq (slice_cmp nat_cmp k (codes "index_key")) ≡ false → is_eq (slice_cmp nat_cmp k (codes "deposed")) ≡ false
    → is_eq (slice_cmp nat_cmp k (codes "dependencies")) ≡ false → get_member k (m4 r) ≡ None
none4 k r a b c d = other k (codes "dependencies") (dependencies_data r.dependencies) (m3 r) d ∙ none3 k r a b c

-- the two last puts leave the other keys
up6 : (k : List ℕ) (r : RecordView) → is_eq (slice_cmp nat_cmp k (codes "attributes")) ≡ false → is_eq (slice_cmp nat_cmp k (codes "schema_version")) ≡ false → get_member k (m7 r) ≡ get_member k (m5 r)
up6 k r a b = get-put_other k (codes "attributes") (value_data r.attributes) (m6 r) a ∙ get-put_other k (codes "schema_version") (json_number (unsigned r.schema_version)) (m5 r) b

up5 : (k : List ℕ) (r : RecordView) → is_eq (slice_cmp nat_cmp k (codes "create_before_destroy")) ≡ false → get_member k (m5 r) ≡ get_member k (m4 r)
up5 k r a = other k (codes "create_before_destroy") (flag_data r.create_before_destroy) (m4 r) a

up4 : (k : List ℕ) (r : RecordView) → is_eq (slice_cmp nat_cmp k (codes "dependencies")) ≡ false → get_member k (m4 r) ≡ get_member k (m3 r)
up4 k r a = other k (codes "dependencies") (dependencies_data r.dependencies) (m3 r) a

up3 : (k : List ℕ) (r : RecordView) → is_eq (slice_cmp nat_cmp k (codes "deposed")) ≡ false → get_member k (m3 r) ≡ get_member k (m2 r)
up3 k r a = other k (codes "deposed") (option_map string r.id.deposed) (m2 r) a

up2 : (k : List ℕ) (r : RecordView) → is_eq (slice_cmp nat_cmp k (codes "index_key")) ≡ false → get_member k (m2 r) ≡ get_member k (m1 r)
up2 k r a = other k (codes "index_key") (key_data r.id.key) (m1 r) a

the_attributes : (r : RecordView) → get (codes "attributes") (record_data r) ≡ Some (value_data r.attributes)
the_attributes r = get-put (codes "attributes") (value_data r.attributes) (m6 r)

the_version : (r : RecordView) → get (codes "schema_version") (record_data r) ≡ Some (json_number (unsigned r.schema_version))
the_version r =
    get-put_other (codes "schema_version") (codes "attributes") (value_data r.attributes) (m6 r) refl ∙ get-put (codes "schema_version") (json_number (unsigned r.schema_version)) (m5 r)

the_flag : (r : RecordView) → get (codes "create_before_destroy") (record_data r) ≡ flag_data r.create_before_destroy
the_flag r =
    let k = codes "create_before_destroy" in up6 k r refl refl ∙ found k (flag_data r.create_before_destroy) (m4 r) (none4 k r refl refl refl refl)

the_dependencies : (r : RecordView) → get (codes "dependencies") (record_data r) ≡ dependencies_data r.dependencies
the_dependencies r =
    let k = codes "dependencies" in up6 k r refl refl ∙ up5 k r refl ∙ found k (dependencies_data r.dependencies) (m3 r) (none3 k r refl refl refl)

the_deposed : (r : RecordView) → get (codes "deposed") (record_data r) ≡ option_map string r.id.deposed
the_deposed r =
    let k = codes "deposed" in up6 k r refl refl ∙ up5 k r refl ∙ up4 k r refl ∙ found k (option_map string r.id.deposed) (m2 r) (none2 k r refl refl)

the_key : (r : RecordView) → get (codes "index_key") (record_data r) ≡ key_data r.id.key
the_key r = let k = codes "index_key" in up6 k r refl refl ∙ up5 k r refl ∙ up4 k r refl ∙ up3 k r refl ∙ found k (key_data r.id.key) (m1 r) (none1 k r refl)

the_status : (r : RecordView) → get (codes "status") (record_data r) ≡ status_data r.tainted
the_status r =
    let k = codes "status" in up6 k r refl refl ∙ up5 k r refl ∙ up4 k r refl ∙ up3 k r refl ∙ up2 k r refl ∙ found k (status_data r.tainted) no_members refl

the_sensitive : (r : RecordView) → get (codes "sensitive_attributes") (record_data r) ≡ None
the_sensitive r = let k = codes "sensitive_attributes" in up6 k r refl refl ∙ up5 k r refl ∙ none4 k r refl refl refl refl

shaped : (r : RecordView) → is_shaped shapes.Record (record_data r) ≡ true
shaped r =
    let words = properties_of shapes.Record in
    only_put words (codes "attributes") (value_data r.attributes) (m6 r) refl (only_put words (codes "schema_version") (json_number (unsigned r.schema_version)) (m5 r) refl
    (only words (codes "create_before_destroy") (flag_data r.create_before_destroy) (m4 r) refl (only words (codes "dependencies") (dependencies_data r.dependencies) (m3 r) refl
    (only words (codes "deposed") (option_map string r.id.deposed) (m2 r) refl (only words (codes "index_key") (key_data r.id.key) (m1 r) refl (only words (codes "status") (status_data r.tainted) no_members refl refl))))))

-- ---- the record

id-back : (r : RecordView) → IsRecord r → id_in (record_data r) ≡ Some r.id
id-back r h = rw (the_key r, key-back r.id.key h.key, the_deposed r, deposed-back r.id.deposed h.deposed) refl

body-back : (r : RecordView) → IsRecord r → record_at r.id (record_data r) ≡ Some r
body-back r h =
    rw (the_attributes r, attributes-back r.attributes h.attributes, the_version r, version-back (2 ^ 32) r.schema_version h.version, the_status r, tainted-back r.tainted, the_dependencies r, dependencies-back r.dependencies h.dependencies, the_flag r, flag-back r.create_before_destroy)
    refl

pub record-back : (r : RecordView) → IsRecord r → record_in (record_data r) ≡ Some r
record-back r h = rw (shaped r, the_sensitive r, id-back r h) (body-back r h)
