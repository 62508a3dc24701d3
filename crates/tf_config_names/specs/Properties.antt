-- The properties of a block's body as plain data.
use Rattle.std.specs.Prelude.{ℕ, List, map}
use Rattle.tf_config_address.specs.ResourceAddr.{addr_of}
use Rattle.tf_expr_syntax.specs.ExprTree.{tree_of}
use Rattle.tf_config_names.specs.KnownNames.{PropertyView, an_expression, the_resources}
use Rattle.tf_config_names.specs.declared.properties.Property.{Property}
use Rattle.tf_config_names.specs.declared.properties.PropertyValue.{PropertyValue}
use Rattle.tf_config_names.specs.declared.properties.PropertyValue.TheVariants.{Expression, Resources}

abbrev pub value_view : PropertyValue → PropertyView
value_view (Expression context expr) = an_expression context (tree_of expr.now)
value_view (Resources addrs) = the_resources (map addr_of addrs.now)

abbrev pub property_view : Property → List ℕ × PropertyView
property_view p = (p.name.now, value_view p.value)
