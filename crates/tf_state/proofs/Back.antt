-- What is written is read back: values, tables, properties.
use Rattle.std.proofs.Common.{◌≡◌, ℕ, ◌^◌, ◌<◌, Bool, true, false, List, [], ◌∷◌, ◌++◌, Option, Some, None, option_map, Ordering, Greater, nat_cmp, map as each, refl, sym, ap, ◌∙◌, lt-ltb, append_assoc, append-nil}
use Rattle.std.specs.Cmp.Lexicographic.{slice_cmp}
use Rattle.std.specs.List.{AllByRecursion}
use Rattle.std.specs.Ordering.{ordering_reverse}
use Rattle.std.specs.Prelude.{option_and_then}
use Rattle.std.proofs.lemmas.Cmp.{nat_list_cmp_total}
use Rattle.serde_json.specs.Data.{Data, string, number as json_number, unsigned, Members, no_members, member}
use Rattle.serde_json.specs.View.{items_of}
use Rattle.tf_value_json.specs.Plain.{ArePlainMembers, AreAbove}
use Rattle.tf_value_json.specs.Json.{value_data, entries_data}
use Rattle.tf_value_data.specs.Tree.{Tree, map, Entries, no_entries, entry, put}
use Rattle.tf_value_json.proofs.Forms.{value_from-value_data}
use Rattle.tf_value_data.proofs.WithLists.{no_set-lists}
use Rattle.tf_config_address.specs.ObjectId.{InstanceKeyView, single, number, name}
use Rattle.tf_state.specs.Reading.{value_in, values_in, key_in, deposed_in, attributes_in, addresses_in, dependencies_in, tainted_in, flag_in, put_text, put_new, below, below_or_zero, output_in}
use Rattle.tf_state.specs.Text.{key_data, status_data, flag_data, dependencies_data, output_data, outputs_data}
use Rattle.tf_value_data.specs.Stored.{IsTable}
use Rattle.tf_state.proofs.ShownTables.{IsSaved, AreSaved, shown}
use Rattle.tf_state.specs.Valid.{IsAttributes, IsKey, IsDeposed, AreAddresses}
use Rattle.tf_state.proofs.ValueForms.{value_read}

-- ---- values

pub value-back : (t : Tree) → IsSaved t → value_in (value_data t) ≡ Some t
value-back t h = value_read (value_data t) t (value_from-value_data t h.0 h.1 ∙ ap Some (no_set-lists t h.3)) h.2

-- values by name, as members
abbrev pub members_for : (Tree → Data) → Entries → Members
members_for show no_entries = no_members
members_for show (entry k t es) = member k (show t) (members_for show es)

pub entries-members : (es : Entries) → entries_data es ≡ members_for value_data es
entries-members no_entries = refl
entries-members (entry k t es) = ap (member k (value_data t)) (entries-members es)

pub outputs-members : (es : Entries) → outputs_data es ≡ members_for output_data es
outputs-members no_entries = refl
outputs-members (entry k t es) = ap (member k (output_data t)) (outputs-members es)

-- entries put one after another
abbrev puts : Entries → Entries → Entries
puts no_entries found = found
puts (entry k t es) found = puts es (put k t found)

-- the keys of a table stand in order, whatever is shown of the values
abbrev KeysRise : Entries → Type 0
KeysRise no_entries = Unit {0}
KeysRise (entry k t es) = AreAbove k (entries_data es) × KeysRise es

keys_rise : (es : Entries) → ArePlainMembers (entries_data es) → KeysRise es
keys_rise no_entries h = tt
keys_rise (entry k t es) h = (h.0, keys_rise es h.2)

-- what is put behind the first entry leaves it first
puts-behind : (k : List ℕ) (t : Tree) (es found : Entries) → AreAbove k (entries_data es) → puts es (entry k t found) ≡ entry k t (puts es found)
puts-behind k t no_entries found h = refl
puts-behind k t (entry l u es) found h =
    let above : slice_cmp nat_cmp l k ≡ Greater = nat_list_cmp_total.antisymm l k ∙ ap ordering_reverse h.0 in
    rw above (puts-behind k t es (put l u found) h.1)

-- so a table is put together as it stands
puts-table : (es : Entries) → KeysRise es → puts es no_entries ≡ es
puts-table no_entries rise = refl
puts-table (entry k t es) rise = puts-behind k t es no_entries rise.0 ∙ ap (entry k t) (puts-table es rise.1)

-- each value is read back
abbrev pub AreBack : (Data → Option Tree) → (Tree → Data) → Entries → Type 0
AreBack read_one show no_entries = Unit {0}
AreBack read_one show (entry k t es) = (read_one (show t) ≡ Some t) × AreBack read_one show es

values_onto : (read_one : Data → Option Tree) (show : Tree → Data) (es found : Entries) → AreBack read_one show es → values_in read_one (members_for show es) found ≡ Some (puts es found)
values_onto read_one show no_entries found back = refl
values_onto read_one show (entry k t es) found back =
    ap (λ o. option_and_then (λ u. values_in read_one (members_for show es) (put k u found)) o) back.0 ∙ values_onto read_one show es (put k t found) back.1

pub values-back : (read_one : Data → Option Tree) (show : Tree → Data) (es : Entries) → AreBack read_one show es → ArePlainMembers (entries_data es) → values_in read_one (members_for show es) no_entries ≡ Some es
values-back read_one show es back plain = values_onto read_one show es no_entries back ∙ ap Some (puts-table es (keys_rise es plain))

saved-back : (es : Entries) → AreSaved es → AreBack value_in value_data es
saved-back no_entries h = tt
saved-back (entry k t es) h = (value-back t h.0, saved-back es h.1)

outputs_saved-back : (es : Entries) → AreSaved es → AreBack output_in output_data es
outputs_saved-back no_entries h = tt
outputs_saved-back (entry k t es) h = (value-back t h.0, outputs_saved-back es h.1)

pub table-back : (es : Entries) → IsTable es → values_in value_in (entries_data es) no_entries ≡ Some es
table-back es h =
    let all = shown es h in
    ap (λ ms. values_in value_in ms no_entries) (entries-members es) ∙ values-back value_in value_data es (saved-back es all.1) all.0

pub outputs-back : (es : Entries) → IsTable es → values_in output_in (outputs_data es) no_entries ≡ Some es
outputs-back es h =
    let all = shown es h in
    ap (λ ms. values_in output_in ms no_entries) (outputs-members es) ∙ values-back output_in output_data es (outputs_saved-back es all.1) all.0

-- ---- properties of a record

pub attributes-back : (t : Tree) → IsAttributes t → attributes_in (Some (value_data t)) ≡ Some t
attributes-back (map es) h = ap (option_map map) (table-back es h)
attributes-back _ h = absurd (assumption)

pub version-back : (bound n : ℕ) → n < bound → below_or_zero bound (Some (json_number (unsigned n))) ≡ Some n
version-back bound n h = rw (lt-ltb n bound h) refl

pub serial-back : (bound n : ℕ) → n < bound → below bound (Some (json_number (unsigned n))) ≡ Some n
serial-back bound n h = rw (lt-ltb n bound h) refl

pub key-back : (k : InstanceKeyView) → IsKey k → key_in (key_data k) ≡ Some k
key-back single h = refl
key-back (number n) h = rw (lt-ltb n (2 ^ 63) h) refl
key-back (name s) h = refl

pub deposed-back : (o : Option (List ℕ)) → IsDeposed o → deposed_in (option_map string o) ≡ Some o
deposed-back None h = refl
deposed-back (Some s) h = rw h refl

pub tainted-back : (b : Bool) → tainted_in (status_data b) ≡ Some b
tainted-back true = refl
tainted-back false = refl

pub flag-back : (b : Bool) → flag_in (flag_data b) ≡ Some b
flag-back true = refl
flag-back false = refl

-- ---- dependencies

put_text-last : (t : List ℕ) (found : List (List ℕ)) → AllByRecursion (λ u. slice_cmp nat_cmp t u ≡ Greater) found → put_text t found ≡ found ++ t ∷ []
put_text-last t [] h = refl
put_text-last t (u ∷ found) h = rw h.0 (ap (λ us. u ∷ us) (put_text-last t found h.1))

-- each of the later texts is above each of those found
abbrev AllAbove : List (List ℕ) → List (List ℕ) → Type 0
AllAbove found [] = Unit {0}
AllAbove found (t ∷ ts) = AllByRecursion (λ u. slice_cmp nat_cmp t u ≡ Greater) found × AllAbove found ts

all_push : {A : Type 0} (P : A → Type 0) (xs : List A) (x : A) → AllByRecursion P xs → P x → AllByRecursion P (xs ++ x ∷ [])
all_push P [] x h p = (p, tt)
all_push P (y ∷ xs) x h p = (h.0, all_push P xs x h.1 p)

AllAbove-push : (found : List (List ℕ)) (t : List ℕ) (ts : List (List ℕ)) → AllAbove found ts → AllByRecursion (λ u. slice_cmp nat_cmp u t ≡ Greater) ts → AllAbove (found ++ t ∷ []) ts
AllAbove-push found t [] h a = tt
AllAbove-push found t (u ∷ ts) h a = (all_push (λ v. slice_cmp nat_cmp u v ≡ Greater) found t h.0 a.0, AllAbove-push found t ts h.1 a.1)

AllAbove-nothing : (ts : List (List ℕ)) → AllAbove [] ts
AllAbove-nothing [] = tt
AllAbove-nothing (t ∷ ts) = (tt, AllAbove-nothing ts)

addresses_onto : (ts found : List (List ℕ)) → AreAddresses ts → AllAbove found ts → addresses_in (items_of (each string ts)) found ≡ Some (found ++ ts)
addresses_onto [] found h a = ap Some (sym (append-nil found))
addresses_onto (t ∷ ts) found h a =
    rw (h.0, put_text-last t found a.0) (addresses_onto ts (found ++ t ∷ []) h.2 (AllAbove-push found t ts a.1 h.1) ∙ ap Some (append_assoc found (t ∷ []) ts))

pub dependencies-back : (ts : List (List ℕ)) → AreAddresses ts → dependencies_in (dependencies_data ts) ≡ Some ts
dependencies-back [] h = refl
dependencies-back (t ∷ ts) h = addresses_onto (t ∷ ts) [] h (AllAbove-nothing (t ∷ ts))

-- ---- lists in order

pub put_new-last : {A : Type 0} (cmp : A → A → Ordering) (a : A) (found : List A) → AllByRecursion (λ b. cmp a b ≡ Greater) found → put_new cmp a found ≡ Some (found ++ a ∷ [])
put_new-last cmp a [] h = refl
put_new-last cmp a (b ∷ found) h = rw h.0 (ap (option_map (λ cs. b ∷ cs)) (put_new-last cmp a found h.1))

abbrev pub EachAbove : {A : Type 0} → (A → A → Ordering) → List A → List A → Type 0
EachAbove cmp found [] = Unit {0}
EachAbove cmp found (a ∷ later) = AllByRecursion (λ b. cmp a b ≡ Greater) found × EachAbove cmp found later

pub EachAbove-push : {A : Type 0} (cmp : A → A → Ordering) (found : List A) (a : A) (later : List A) → EachAbove cmp found later → AllByRecursion (λ b. cmp b a ≡ Greater) later → EachAbove cmp (found ++ a ∷ []) later
EachAbove-push cmp found a [] h e = tt
EachAbove-push cmp found a (b ∷ later) h e = (all_push (λ c. cmp b c ≡ Greater) found a h.0 e.0, EachAbove-push cmp found a later h.1 e.1)

pub EachAbove-nothing : {A : Type 0} (cmp : A → A → Ordering) (later : List A) → EachAbove cmp [] later
EachAbove-nothing cmp [] = tt
EachAbove-nothing cmp (a ∷ later) = (tt, EachAbove-nothing cmp later)
