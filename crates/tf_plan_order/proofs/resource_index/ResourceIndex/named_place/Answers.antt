use Rattle.std.proofs.Common.{None, ◌≡◌, false, refl, arith}
use Rattle.std.specs.List.{list_any}
use Rattle.std.proofs.lemmas.Str.Pattern.{split_parts}
use Rattle.tf_plan_order.proofs.Naming.{no_dot}
use Rattle.tf_plan_order.specs.Dependencies.{is_dot}
use Rattle.tf_plan_order.proofs.resource_index.ResourceIndex.named_place.Goals as goal

pub returns-in-None : goal.returns-in-None
returns-in-None c =
    let none : list_any is_dot c.args.text.now ≡ false = no_dot c.args.text.now (split_parts 46 c.args.text.now None c.in-None.ensures.cases (omega arith)) in
    rw none refl
