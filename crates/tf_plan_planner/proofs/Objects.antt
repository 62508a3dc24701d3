-- The objects of one instance are told apart by their deposed keys, and the instances of one resource by their keys.
use Rattle.std.proofs.Common.{◌≡◌, ◌∙◌, ◌&&◌, Bool, true, false, List, [], None, map, refl, sym, ap}
use Rattle.std.specs.Prelude.{Contains}
use Rattle.tf_config_address.proofs.Totals.{object_id_total}
use Rattle.tf_config_address.specs.ObjectId.{InstanceKeyView, ObjectIdView, object_id_cmp, instance_key_cmp}
use Rattle.tf_config_address.specs.Same.{object_id_Decides, same_instance_key}
use Rattle.tf_plan_order.proofs.Known.{nothing-sorted, sorted-with}
use Rattle.tf_plan_order.proofs.InstanceOrder.{key_total}
use Rattle.tf_plan_order.specs.Members.{all_keys, is_of, records_of, recorded_keys, with_keys}
use Rattle.tf_state_data.specs.Ids.{AreById}
use Rattle.tf_state_data.specs.Record.{RecordView}
use Rattle.tf_plan_planner.proofs.Distinct.{AreDistinct, distinct-filter, distinct-sorted, distinct-told, in_filter}

and_true : (b : Bool) → b ≡ true → (b && true) ≡ true
and_true true h = refl
and_true false h = h

-- instances are one where the test says so
pub one_key : (j k : InstanceKeyView) → same_instance_key j k ≡ true → j ≡ k
one_key j k h =
    let p : ObjectIdView = record { key = j; deposed = None } in
    let q : ObjectIdView = record { key = k; deposed = None } in
    ap (λ (id : ObjectIdView). id.key) ((object_id_Decides p q).0 (and_true (same_instance_key j k) h))

-- of an instance's objects no two are deposed by one key, and one at most is current
pub deposed-distinct : (key : InstanceKeyView) (records : List RecordView) → AreById records → AreDistinct (map (λ r. r.id.deposed) (records_of key records))
deposed-distinct key records sorted =
    let ids : AreDistinct (map (λ (r : RecordView). r.id) records) = distinct-sorted object_id_cmp object_id_total (map (λ r. r.id) records) sorted in
    let own : List RecordView = records_of key records in
    let owns = λ (r : RecordView) (c : Contains own r). one_key r.id.key key (in_filter (is_of key) records r c).1 in
    distinct-told (λ (r : RecordView). r.id.deposed) (λ (r : RecordView). r.id) own
    (λ r s c d e. (λ i. record { key = (owns r c ∙ sym (owns s d)) i; deposed = e i }))
    (distinct-filter (λ (r : RecordView). r.id) (is_of key) records ids)

-- the instances of a resource, each once
pub keys-distinct : (keys : List InstanceKeyView) (records : List RecordView) → AreDistinct (all_keys keys records)
keys-distinct keys records =
    distinct-sorted instance_key_cmp key_total (all_keys keys records) (sorted-with (with_keys [] keys) (recorded_keys records) (sorted-with [] keys nothing-sorted))
