-- When objects, records, resources and states are the same: if each of their parts is.
use Rattle.std.specs.Prelude.{◌≡◌, Bool, ◌&&◌, ◌==◌, bytes_eq}
use Rattle.std.specs.Bool.{Decides}
use Rattle.std.specs.Cmp.{IsPartialEquivalence, IsEquivalence, decided, on_equiv, partial_equiv_from_equiv, booleans_Decides, unsigned_Decides}
use Rattle.std.specs.Cmp.Lexicographic.{pointwise, pointwise_decides}
use Rattle.std.specs.Ordering.{on}
use Rattle.std.proofs.lemmas.Bool.Decides.{Decides-and, Decides-like}
use Rattle.std.proofs.lemmas.Slice.Eq.{bytes_eq-Decides}
use Rattle.tf_config_address.specs.Same.{same_addr, addr_Decides, same_object_id, object_id_Decides}
use Rattle.tf_state_data.specs.Record.{RecordView, record_of}
use Rattle.tf_state_data.specs.Resource.{ResourceView, resource_of}
use Rattle.tf_state_data.specs.State.{StateView, state_of}
use Rattle.tf_state_data.specs.declared.object.Object.{Object}
use Rattle.tf_value_data.specs.Equality.{same_Decides, same_entries_Decides}
use Rattle.tf_value_data.specs.Tree.{Tree, tree_of, same, same_entries}
use mathlib.Core.Bool.{beq}

-- the attributes of an object
abbrev pub attributes_of : Object → Tree
attributes_of o = tree_of o.value

-- records are the same if each part is
abbrev pub same_record : RecordView → RecordView → Bool
same_record r s =
    same_object_id r.id s.id && same r.attributes s.attributes && (r.schema_version == s.schema_version) && beq r.tainted s.tainted
    && pointwise bytes_eq r.dependencies s.dependencies && beq r.create_before_destroy s.create_before_destroy

-- resources are the same if their addresses, their providers and their records are
abbrev pub same_resource : ResourceView → ResourceView → Bool
same_resource r s = same_addr r.addr s.addr && bytes_eq r.provider s.provider && pointwise same_record r.records s.records

-- states are the same if each part is: serial, lineage, version, outputs and resources
abbrev pub same_state : StateView → StateView → Bool
same_state s t =
    (s.serial == t.serial) && bytes_eq s.lineage t.lineage && bytes_eq s.terraform_version t.terraform_version && same_entries s.outputs t.outputs
    && pointwise same_resource s.resources t.resources

-- `same_record` is equality of records
pub record_Decides : (r s : RecordView) → Decides (same_record r s) (r ≡ s)
record_Decides r s =
    let known = Decides-and _ _ (object_id_Decides r.id s.id) (same_Decides r.attributes s.attributes) in
    let followed = Decides-and _ _ known (unsigned_Decides r.schema_version s.schema_version) in
    let tainted = Decides-and _ _ followed (booleans_Decides r.tainted s.tainted) in
    let dependent = Decides-and _ _ tainted (pointwise_decides bytes_eq-Decides r.dependencies s.dependencies) in
    let all = Decides-and _ _ dependent (booleans_Decides r.create_before_destroy s.create_before_destroy) in
    Decides-like _
    (λ h i.
    record {
      id = h.0.0.0.0.0 i;
      attributes = h.0.0.0.0.1 i;
      schema_version = h.0.0.0.1 i;
      tainted = h.0.0.1 i;
      dependencies = h.0.1 i;
      create_before_destroy = h.1 i;
    })
    (λ e. (((((λ i. (e i).id, λ i. (e i).attributes), λ i. (e i).schema_version), λ i. (e i).tainted), λ i. (e i).dependencies), λ i. (e i).create_before_destroy)) all

-- `same_resource` is equality of resources
pub resource_Decides : (r s : ResourceView) → Decides (same_resource r s) (r ≡ s)
resource_Decides r s =
    let provided = Decides-and _ _ (addr_Decides r.addr s.addr) (bytes_eq-Decides r.provider s.provider) in
    let all = Decides-and _ _ provided (pointwise_decides record_Decides r.records s.records) in
    Decides-like _ (λ h i. record { addr = h.0.0 i; provider = h.0.1 i; records = h.1 i }) (λ e. ((λ i. (e i).addr, λ i. (e i).provider), λ i. (e i).records)) all

-- `same_state` is equality of states
pub state_Decides : (s t : StateView) → Decides (same_state s t) (s ≡ t)
state_Decides s t =
    let numbered = Decides-and _ _ (unsigned_Decides s.serial t.serial) (bytes_eq-Decides s.lineage t.lineage) in
    let named = Decides-and _ _ numbered (bytes_eq-Decides s.terraform_version t.terraform_version) in
    let shown = Decides-and _ _ named (same_entries_Decides s.outputs t.outputs) in
    let all = Decides-and _ _ shown (pointwise_decides resource_Decides s.resources t.resources) in
    Decides-like _
    (λ h i. record { serial = h.0.0.0.0 i; lineage = h.0.0.0.1 i; terraform_version = h.0.0.1 i; outputs = h.0.1 i; resources = h.1 i })
    (λ e. ((((λ i. (e i).serial, λ i. (e i).lineage), λ i. (e i).terraform_version), λ i. (e i).outputs), λ i. (e i).resources)) all

-- being the same is an equivalence of objects, of records, of resources and of states, as `Eq` asks
pub same_objects : IsEquivalence (on attributes_of same)
same_objects = on_equiv attributes_of (decided same same_Decides)

pub same_records : IsEquivalence (on record_of same_record)
same_records = on_equiv record_of (decided same_record record_Decides)

pub same_resources : IsEquivalence (on resource_of same_resource)
same_resources = on_equiv resource_of (decided same_resource resource_Decides)

pub same_states : IsEquivalence (on state_of same_state)
same_states = on_equiv state_of (decided same_state state_Decides)

-- and a partial one, as `PartialEq` asks
pub same_objects_part : IsPartialEquivalence (on attributes_of same)
same_objects_part = partial_equiv_from_equiv same_objects

pub same_records_part : IsPartialEquivalence (on record_of same_record)
same_records_part = partial_equiv_from_equiv same_records

pub same_resources_part : IsPartialEquivalence (on resource_of same_resource)
same_resources_part = partial_equiv_from_equiv same_resources

pub same_states_part : IsPartialEquivalence (on state_of same_state)
same_states_part = partial_equiv_from_equiv same_states
