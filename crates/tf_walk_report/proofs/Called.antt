-- What a called action changes, where the schema of its type is known.
use Rattle.tf_config_address.specs.ResourceAddr.{ResourceAddrView}
use Rattle.tf_state_next.specs.Ends.{ApplyResultView, LeftView}
use Rattle.tf_walk_report.specs.Change.{MayBeLeft, MayBeSaved, MayBeStored, change_by}
use Rattle.tf_walk_buffers.specs.Head.{Target, an_instance, an_object, HasVersion}

-- a change may be stored where what was saved and what was left may be
pub change-stored : (addr : ResourceAddrView) (t : Target) (applied : ApplyResultView) (left : LeftView) → MayBeSaved applied → MayBeLeft left → HasVersion t → MayBeStored (change_by addr t applied left)
change-stored addr (an_instance given) applied left a l v = (a, v)
change-stored addr (an_object id) applied left a l v = l
