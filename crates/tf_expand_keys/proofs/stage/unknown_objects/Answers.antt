use Rattle.std.proofs.Common.{ap, arith}
use Rattle.tf_expand_keys.specs.Views.{shape_of}
use Rattle.tf_expand_keys.proofs.Unknowns.{shape_too_many}
use Rattle.tf_expand_keys.proofs.stage.unknown_objects.Goals as goal

pub returns-in-Many : goal.returns-in-Many
returns-in-Many c = shape_too_many (shape_of c.args.shape.now) c.in-Many.count (ap shape_of c.in-Many.is) (omega (arith, c.if-count-ge-TOO_MANY.true))
