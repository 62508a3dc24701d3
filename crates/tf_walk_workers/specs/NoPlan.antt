-- A plan without actions.
use Rattle.std.specs.Prelude.{[], false}
use Rattle.atomic_table.specs.Seated.{TableId}
use Rattle.tf_expand_keys.specs.InstanceKeys as shape
use Rattle.tf_plan_data.specs.Plan.{PlanView}
use Rattle.tf_state_data.specs.State.{empty_state}
use Rattle.tf_expr_syntax.specs.ExprTree as expr
use Rattle.tf_value_data.specs.Tree.{no_entries}

abbrev pub no_plan : PlanView
no_plan =
    record {
      prior = empty_state [];
      config = record { variables = []; locals = expr.no_entries; outputs = expr.no_entries; blocks = [] };
      variables = no_entries;
      needs = λ a b. false;
      shapes = λ n. shape.one;
      late = λ n. false;
      actions = [];
      order = record { nodes = 0; edges = [] };
    }

-- the table of no tally
abbrev pub no_table : TableId
no_table = record { words = 0; slots = 0; views_name = 0; atom = 0; block = 0; offset = 0; slot_names = [] }
