-- The text that draws the order of a plan.
use Rattle.std.specs.Prelude.{◌≡◌, ℕ, suc, Bool, List, [], ◌∷◌, ◌++◌, codes, decimal}
use Rattle.std.specs.List.{flat_map}
use Rattle.tf_plan_data.specs.Action.{ActionView, StepView, create, update, replacement, replaced, destroyed, deposed_destroyed}
use Rattle.tf_plan_data.specs.Address.{address_text}
use Rattle.tf_plan_data.specs.Plan.{PlanView}
use Rattle.tf_plan_text.specs.Text.{replace_symbol}
use Rattle.tf_plan_text.specs.Reduction.{IsReduction, LeadsAlike, NoneFollows}
use Rattle.tf_plan_text.specs.Quoted.{escaped}

-- The label of a step about an instance with an address: the symbol and the address as in the plan's text. That text
-- has one line for the two halves of a replace, but here each label says which half it is.
abbrev pub label : Bool → List ℕ → StepView → List ℕ
label late address (create asked) = codes "+ " ++ address
label late address (update prior asked names) = codes "~ " ++ address
label late address (replacement asked names) = replace_symbol late ++ address ++ codes " (create)"
label late address (replaced prior) = replace_symbol late ++ address ++ codes " (destroy)"
label late address (destroyed prior) = codes "- " ++ address
label late address (deposed_destroyed key prior) = codes "- " ++ address ++ codes " (deposed " ++ key ++ codes ")"

-- the label of an action's node, by which resources are late
abbrev pub node_label : (ℕ → Bool) → ActionView → List ℕ
node_label late a = label (late a.resource) (address_text a.addr a.key) a.step

-- the name of an action's node, which is the action's place in the plan, and the text before its label
abbrev pub node_opening : ℕ → List ℕ
node_opening place = codes "    " ++ decimal place ++ codes " [label = \""

-- the line of an action
abbrev pub node_line : (ℕ → Bool) → ℕ → ActionView → List ℕ
node_line late place a = node_opening place ++ (escaped (node_label late a) ++ codes "\"]\n")

-- the lines of actions, the first of which has this place
abbrev pub node_lines : (ℕ → Bool) → ℕ → List ActionView → List ℕ
node_lines late place [] = []
node_lines late place (a ∷ others) = node_line late place a ++ node_lines late (suc place) others

-- the line of an edge, which says that the first action is carried out before the second
abbrev pub edge_line : ℕ × ℕ → List ℕ
edge_line e = codes "    " ++ decimal e.0 ++ codes " -> " ++ decimal e.1 ++ codes "\n"

-- a node for each action, in the plan's order, and then the edges
abbrev pub graph_text : (ℕ → Bool) → List ActionView → List (ℕ × ℕ) → List ℕ
graph_text late actions edges =
    codes "digraph plan {\n    rankdir = LR\n    node [shape = box]\n" ++ node_lines late 0 actions ++ flat_map edge_line edges ++ codes "}\n"

-- The text draws a plan: its actions, and exactly those pairs of its order that don't follow from others. The closure
-- of the drawn edges is that of the order, and no drawn edge follows from the others.
pub record IsDrawn (plan : PlanView) (text : List ℕ) : Type 0 where
  pub edges : List (ℕ × ℕ)
  pub reduction : IsReduction plan.order edges
  pub alike : LeadsAlike plan.order edges
  pub free : NoneFollows edges
  pub shown : text ≡ graph_text plan.late plan.actions edges
