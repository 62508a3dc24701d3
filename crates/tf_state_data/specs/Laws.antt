-- The only change of a put and a remove: the resource at the one address, or the record of the one object.
use Rattle.std.specs.Prelude.{◌≡◌, false, Some, None}
use Rattle.std.specs.Ordering.{is_eq}
pub use Rattle.tf_config_address.specs.ResourceAddr.{ResourceAddrView}
use Rattle.tf_config_address.specs.ResourceAddr.{addr_cmp}
pub use Rattle.tf_config_address.specs.ObjectId.{ObjectIdView}
use Rattle.tf_config_address.specs.ObjectId.{object_id_cmp}
pub use Rattle.tf_state_data.specs.Record.{RecordView}
pub use Rattle.tf_state_data.specs.Resource.{ResourceView}
use Rattle.tf_state_data.specs.Resource.{record_at, with_record, without_record}
pub use Rattle.tf_state_data.specs.State.{StateView}
use Rattle.tf_state_data.specs.State.{resource_at, with_resource, without_resource}

-- A resource that was put is found at its address. The other addresses keep what they had.
pub record PutChangesOneResource (new : ResourceView) (s : StateView) : Type 0 where
  pub there : resource_at new.addr (with_resource new s).resources ≡ Some new
  pub others : (addr : ResourceAddrView) → is_eq (addr_cmp addr new.addr) ≡ false → resource_at addr (with_resource new s).resources ≡ resource_at addr s.resources

-- A removed resource is gone from its address. The other addresses keep what they had.
pub record RemoveChangesOneResource (addr : ResourceAddrView) (s : StateView) : Type 0 where
  pub gone : resource_at addr (without_resource addr s).resources ≡ None
  pub others : (other : ResourceAddrView) → is_eq (addr_cmp other addr) ≡ false → resource_at other (without_resource addr s).resources ≡ resource_at other s.resources

-- A record that was put is found for its object. The other objects keep their records.
pub record PutChangesOneRecord (new : RecordView) (r : ResourceView) : Type 0 where
  pub there : record_at new.id (with_record new r).records ≡ Some new
  pub others : (id : ObjectIdView) → is_eq (object_id_cmp id new.id) ≡ false → record_at id (with_record new r).records ≡ record_at id r.records

-- A removed record is gone. The other objects keep their records.
pub record RemoveChangesOneRecord (id : ObjectIdView) (r : ResourceView) : Type 0 where
  pub gone : record_at id (without_record id r).records ≡ None
  pub others : (other : ObjectIdView) → is_eq (object_id_cmp other id) ≡ false → record_at other (without_record id r).records ≡ record_at other r.records
