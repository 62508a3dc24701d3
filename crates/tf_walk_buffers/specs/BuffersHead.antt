-- What buffers are for.
use Rattle.std.specs.Prelude.{string_bytes}
use Rattle.tf_config_address.specs.ResourceAddr.{addr_of}
use Rattle.tf_config_address.specs.ObjectId.{object_id_of}
use Rattle.tf_state_next.specs.Ends.{record_input_of}
use Rattle.tf_walk_buffers.specs.Head.{Head, Target, an_instance, an_object}
use Rattle.tf_walk_buffers.specs.declared.buffers.ActionBuffers.{ActionBuffers}
use Rattle.tf_walk_buffers.specs.declared.buffers.Target.{Target as Aim}
use Rattle.tf_walk_buffers.specs.declared.buffers.Target.TheVariants as rust

-- the target of an action
abbrev pub target_of : Aim → Target
target_of (rust.Instance given) = an_instance (record_input_of given)
target_of (rust.Object id) = an_object (object_id_of id)

-- what is known of the action that the buffers are for
abbrev pub buffers_head : ActionBuffers → Head
buffers_head r = record { place = string_bytes r.place; op = r.op; addr = addr_of r.addr.now; target = target_of r.target }
