-- The text of a plan.
use Rattle.std.specs.Prelude.{ℕ, Bool, true, false, if◌then◌else◌, List, [], ◌∷◌, ◌++◌, codes, decimal, count_by, Option, Some, None}
use Rattle.std.specs.List.{flat_map}
use Rattle.tf_plan_data.specs.Action.{ActionView, StepView, create, update, replacement, replaced, destroyed, deposed_destroyed}
use Rattle.tf_value_data.specs.Tree as tree
use Rattle.tf_value_data.specs.Tree.{part_at}
use Rattle.tf_plan_data.specs.Address.{address_text}
use Rattle.tf_plan_text.specs.Shown.{shown}

-- four spaces, the name, ` = ` and the value
abbrev pub value_line : List ℕ → tree.Tree → List ℕ
value_line name t = codes "    " ++ name ++ codes " = " ++ shown t ++ 10 ∷ []

-- the line of a new object's attribute; an attribute that is null has no line
abbrev pub attribute_line : List ℕ → tree.Tree → List ℕ
attribute_line name tree.null = []
attribute_line name t = value_line name t

abbrev pub attribute_lines : tree.Entries → List ℕ
attribute_lines tree.no_entries = []
attribute_lines (tree.entry name t es) = attribute_line name t ++ attribute_lines es

-- the attributes of a new object
abbrev pub object_lines : tree.Tree → List ℕ
object_lines (tree.map es) = attribute_lines es
object_lines _ = []

abbrev pub line_if_there : List ℕ → Option tree.Tree → List ℕ
line_if_there name None = []
line_if_there name (Some t) = value_line name t

-- the line of an attribute that is changed, with its new value, even null
abbrev pub changed_line : tree.Tree → List ℕ → List ℕ
changed_line asked name = line_if_there name (part_at name asked)

-- the symbol before the address of an object that is replaced: `+/-` if it is destroyed after the new one is created
abbrev pub replace_symbol : Bool → List ℕ
replace_symbol late = if late then codes "+/- " else codes "-/+ "

-- The lines of a step about an instance with an address: a symbol and the address, followed by the attributes of the
-- new object, or those that are changed. The two steps of a replace share the lines of one.
abbrev pub step_lines : Bool → List ℕ → StepView → List ℕ
step_lines late address (create asked) = codes "+ " ++ address ++ 10 ∷ object_lines asked
step_lines late address (update prior asked names) = codes "~ " ++ address ++ 10 ∷ flat_map (changed_line asked) names
step_lines late address (replacement asked names) = replace_symbol late ++ address ++ 10 ∷ object_lines asked
step_lines late address (replaced prior) = []
step_lines late address (destroyed prior) = codes "- " ++ address ++ 10 ∷ []
step_lines late address (deposed_destroyed key prior) = codes "- " ++ address ++ codes " (deposed " ++ key ++ codes ")\n"

-- the lines of an action, by which resources are late
abbrev pub action_lines : (ℕ → Bool) → ActionView → List ℕ
action_lines late a = step_lines (late a.resource) (address_text a.addr a.key) a.step

-- a step creates an object, as a replacement too
abbrev pub adds : StepView → Bool
adds (create asked) = true
adds (replacement asked names) = true
adds _ = false

-- a step updates an object
abbrev pub changes : StepView → Bool
changes (update prior asked names) = true
changes _ = false

-- a step destroys an object, even one that is replaced
abbrev pub destroys : StepView → Bool
destroys (create asked) = false
destroys (update prior asked names) = false
destroys (replacement asked names) = false
destroys _ = true

-- how many actions have a step of a kind
abbrev pub count_of : (StepView → Bool) → List ActionView → ℕ
count_of kind actions = count_by (λ a. kind a.step) actions

abbrev pub summary_line : ℕ → ℕ → ℕ → List ℕ
summary_line add change destroy =
    codes "Plan: " ++ decimal add ++ codes " to add, " ++ decimal change ++ codes " to change, " ++ decimal destroy ++ codes " to destroy.\n"

-- the lines of each action, and how many objects are added, changed and destroyed; or `No changes.` if there are no
-- actions
abbrev pub plan_text : (ℕ → Bool) → List ActionView → List ℕ
plan_text late [] = codes "No changes.\n"
plan_text late (a ∷ others) =
    let actions = a ∷ others in
    flat_map (action_lines late) actions ++ summary_line (count_of adds actions) (count_of changes actions) (count_of destroys actions)
