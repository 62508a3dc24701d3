-- A state that is written is read back.
use Rattle.std.proofs.Common.{◌≡◌, ◌^◌, List, [], ◌∷◌, ◌++◌, Option, Some, Ordering, map as each, refl, sym, ap, ◌∙◌, append_assoc, append-nil}
use Rattle.std.specs.Cmp.{IsTotalOrder}
use Rattle.std.specs.List.{AllByRecursion}
use Rattle.std.specs.List.Sorted.{IsStrictlySortedBy}
use Rattle.std.specs.Prelude.{option_and_then}
use Rattle.std.proofs.lemmas.Map.Keys.{sorted_head, sorted_tail}
use Rattle.serde_json.specs.Data.{Data}
use Rattle.serde_json.specs.View.{items_of}
use Rattle.tf_state.specs.Arrangement.{record_cmp, resource_cmp, with_records}
use Rattle.tf_state.specs.Reading.{gather, record_in, records_in, resource_in, resources_in, state_in, put_new}
use Rattle.tf_config_address.specs.ResourceAddr.{addr_cmp}
use Rattle.tf_config_address.proofs.Totals.{object_id_total, addr_total}
use Rattle.tf_state_data.specs.Addresses.{AreByAddress}
use Rattle.tf_config_address.specs.ObjectId.{object_id_cmp}
use Rattle.tf_state_data.specs.Ids.{AreById}
use Rattle.tf_state_data.specs.Record.{RecordView}
use Rattle.tf_state_data.specs.Resource.{ResourceView}
use Rattle.tf_state_data.specs.State.{StateView}
use Rattle.tf_state.specs.Text.{record_data, resource_data, state_data}
use Rattle.tf_state.specs.Valid.{IsRecord, IsResource, IsPresent, IsValid}
use Rattle.tf_state.proofs.Back.{put_new-last, EachAbove, EachAbove-push, EachAbove-nothing, outputs-back, serial-back}
use Rattle.tf_state.proofs.Orders.{above}
use Rattle.tf_state.proofs.RecordBack.{record-back}

-- what is shown of elements in the order of their keys is read back, behind what was found
onto : {A K : Type 0} (read_one : Data → Option A) (show : A → Data) (key : A → K) (cmp : K → K → Ordering) → IsTotalOrder cmp → (P : A → Type 0) → ((x : A) → P x → read_one (show x) ≡ Some x)
    → (xs found : List A) → AllByRecursion P xs → IsStrictlySortedBy cmp (each key xs) → EachAbove (λ a b. cmp (key a) (key b)) found xs
    → gather read_one (λ a b. cmp (key a) (key b)) (items_of (each show xs)) found ≡ Some (found ++ xs)
onto read_one show key cmp total P back [] found h order a = ap Some (sym (append-nil found))
onto {A} read_one show key cmp total P back (x ∷ xs) found h order a =
    let by = λ (y z : A). cmp (key y) (key z) in
    let rest = gather read_one by (items_of (each show xs)) in
    ap (λ o. option_and_then (λ y. option_and_then rest (put_new by y found)) o) (back x h.0)
    ∙ ap (λ o. option_and_then rest o) (put_new-last by x found a.0)
    ∙ onto read_one show key cmp total P back xs (found ++ x ∷ []) h.1 (sorted_tail cmp (key x) (each key xs) order)
    (EachAbove-push by found x xs a.1 (above key cmp total x xs (sorted_head cmp (key x) (each key xs) order))) ∙ ap Some (append_assoc found (x ∷ []) xs)

records-back : (rs : List RecordView) → AllByRecursion IsRecord rs → AreById rs → records_in (items_of (each record_data rs)) [] ≡ Some rs
records-back rs h order = onto record_in record_data (λ (r : RecordView). r.id) object_id_cmp object_id_total IsRecord record-back rs [] h order (EachAbove-nothing record_cmp rs)

resource-back : (r : ResourceView) → IsResource r → resource_in (resource_data r) ≡ Some r
resource-back r h = rw (h.type_name, h.name, records-back r.records h.records.0 h.records.1) refl

resources-back : (rs : List ResourceView) → AllByRecursion IsPresent rs → AreByAddress rs → resources_in (items_of (each resource_data rs)) [] ≡ Some rs
resources-back rs h order =
    onto resource_in resource_data (λ (r : ResourceView). r.addr) addr_cmp addr_total IsPresent (λ r p. resource-back r p.0) rs [] h order (EachAbove-nothing resource_cmp rs)

all_with_records : (rs : List ResourceView) → AllByRecursion IsPresent rs → with_records rs ≡ rs
all_with_records [] h = refl
all_with_records (r ∷ rs) h = let some = h.0.1 in rw some (ap (λ qs. r ∷ qs) (all_with_records rs h.1))

-- the resources of a valid state all have records
all_written : (rs : List ResourceView) → AllByRecursion IsPresent rs → AreByAddress rs → resources_in (items_of (each resource_data (with_records rs))) [] ≡ Some rs
all_written rs h order = ap (λ qs. resources_in (items_of (each resource_data qs)) []) (all_with_records rs h) ∙ resources-back rs h order

pub state-back : (s : StateView) → IsValid s → state_in (state_data s) ≡ Some s
state-back s h =
    rw (serial-back (2 ^ 32) s.serial h.serial, outputs-back s.outputs h.outputs, all_written s.resources h.resources.0 h.resources.1, all_with_records s.resources h.resources.0)
    refl
