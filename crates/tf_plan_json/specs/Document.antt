-- The document of a plan, in the shape of Terraform's plan representation. Members are in byte order of their names.
use Rattle.std.specs.Prelude.{◌≡◌, ℕ, true, false, ◌+◌, if◌then◌else◌, List, [], ◌∷◌, Option, Some, None, option_map, codes, map as each}
use Rattle.serde_json.specs.Data.{Data, null, boolean, string, array, object, item, no_items, Members, no_members, member}
use Rattle.serde_json.specs.View.{items_of}
use Rattle.tf_plan_changes.specs.Changes.{ChangeView, KindView, create_it, update_it, replace_it, replace_late, destroy_it, changes}
use Rattle.tf_plan_data.specs.Address.{address_text}
use Rattle.tf_plan_data.specs.Plan.{PlanView}
use Rattle.tf_plan_json.specs.Members.{some_member, members_by}
use Rattle.tf_plan_json.specs.Parts.{known_data, unknown_data}
use Rattle.tf_plan_json.specs.Prior.{prior_of}
use Rattle.tf_plan_json.specs.Reasons.{provider_source, reason_of}
use Rattle.tf_plan_outputs.specs.Changes as outputs
use Rattle.tf_plan_outputs.specs.Changes.{OutputActionView, OutputChangeView, AreOutputChanges, action_of, no_op}
use Rattle.tf_state.specs.Sending.{one_if_some}
use Rattle.tf_state.specs.Text.{key_data}
use Rattle.tf_value_data.specs.Known.{known}
use Rattle.tf_value_data.specs.Tree.{Tree, Entries}
use Rattle.tf_value_json.specs.Json.{value_data}
use Rattle.tf_value_json.specs.Text.{text_of}

-- ---- what is done to an object

-- an array of one text
abbrev pub path_data : List ℕ → Data
path_data name = array (item (string name) no_items)

-- What is done, in order: a replace has two actions, and a late one creates the new object first.
abbrev pub actions_data : KindView → Data
actions_data create_it = path_data (codes "create")
actions_data update_it = path_data (codes "update")
actions_data (replace_it names) = array (item (string (codes "delete")) (item (string (codes "create")) no_items))
actions_data (replace_late names) = array (item (string (codes "create")) (item (string (codes "delete")) no_items))
actions_data destroy_it = path_data (codes "delete")

-- the known part of an object, or null if there is no object
abbrev pub object_data : Option Tree → Data
object_data None = null
object_data (Some t) = known_data t

-- which parts of an object are unknown; nothing if it is known
abbrev pub marks_data : Tree → Data
marks_data t = if known t then object no_members else unknown_data t

abbrev pub after_unknown_data : Option Tree → Data
after_unknown_data None = object no_members
after_unknown_data (Some t) = marks_data t

-- the paths of attributes, if there are any
abbrev pub paths_of : List (List ℕ) → Option Data
paths_of [] = None
paths_of (n ∷ names) = Some (array (items_of (each path_data (n ∷ names))))

-- the paths of the attributes whose changes force a replacement
abbrev pub paths_data : KindView → Option Data
paths_data (replace_it names) = paths_of names
paths_data (replace_late names) = paths_of names
paths_data _ = None

abbrev pub inner_members : ChangeView → Members
inner_members c =
    member (codes "actions") (actions_data c.kind) (member (codes "after") (object_data c.after) (member (codes "after_unknown") (after_unknown_data c.after) (member (codes "before") (object_data c.before)
    (some_member (codes "replace_paths") (paths_data c.kind) no_members))))

abbrev pub inner_data : ChangeView → Data
inner_data c = object (inner_members c)

abbrev pub inner_count : KindView → ℕ
inner_count kind = 4 + one_if_some (paths_data kind)

-- ---- a change

-- a change with the texts of its address and of its provider, and why it is made
abbrev pub entry_members : Option (List ℕ) → List ℕ → List ℕ → ChangeView → Members
entry_members reason address provider c =
    some_member (codes "action_reason") (option_map string reason) (member (codes "address") (string address) (member (codes "change") (inner_data c) (some_member (codes "deposed") (option_map string c.deposed)
    (some_member (codes "index") (key_data c.key) (member (codes "mode") (string (codes "managed")) (member (codes "name") (string c.addr.name) (member (codes "provider_name") (string provider) (member (codes "type") (string c.addr.type_name) no_members))))))))

abbrev pub entry_data : Option (List ℕ) → List ℕ → List ℕ → ChangeView → Data
entry_data reason address provider c = object (entry_members reason address provider c)

abbrev pub outer_count : Option (List ℕ) → ChangeView → ℕ
outer_count reason c = 6 + one_if_some (option_map string reason) + one_if_some (option_map string c.deposed) + one_if_some (key_data c.key)

abbrev pub change_data : PlanView → ChangeView → Data
change_data plan c = entry_data (reason_of plan.config c) (address_text c.addr c.key) (provider_source c.addr.type_name) c

-- ---- the changes of outputs

-- what is done to an output, in Terraform's words
abbrev pub output_actions_data : OutputActionView → Data
output_actions_data no_op = path_data (codes "no-op")
output_actions_data outputs.create_it = path_data (codes "create")
output_actions_data outputs.update_it = path_data (codes "update")
output_actions_data outputs.delete_it = path_data (codes "delete")

-- which parts of a value are unknown; `false` if it is known
abbrev pub output_marks_data : Tree → Data
output_marks_data t = if known t then boolean false else unknown_data t

abbrev pub output_unknown_data : Option Tree → Data
output_unknown_data None = boolean false
output_unknown_data (Some t) = output_marks_data t

-- a change of an output; neither of its values is sensitive
abbrev pub output_change_data : OutputChangeView → Data
output_change_data c =
    object (member (codes "actions") (output_actions_data (action_of c)) (member (codes "after") (object_data c.after) (member (codes "after_sensitive") (boolean false) (member (codes "after_unknown") (output_unknown_data c.after)
    (member (codes "before") (object_data c.before) (member (codes "before_sensitive") (boolean false) no_members))))))

-- the changes by the names of the outputs
abbrev pub output_members : List OutputChangeView → Members
output_members [] = no_members
output_members (c ∷ cs) = member c.name (output_change_data c) (output_members cs)

-- the changes, if there are any
abbrev pub output_changes_data : List OutputChangeView → Option Data
output_changes_data [] = None
output_changes_data (c ∷ cs) = Some (object (output_members (c ∷ cs)))

-- ---- the document

abbrev pub variable_data : Tree → Data
variable_data t = object (member (codes "value") (value_data t) no_members)

-- a document of variables, of changes of outputs and of a prior state if there are any, and of changes of objects
abbrev pub document_members : Entries → Option Data → Option Data → List Data → Members
document_members variables outputs prior made =
    member (codes "complete") (boolean true) (member (codes "errored") (boolean false) (member (codes "format_version") (string (codes "1.2")) (some_member (codes "output_changes") outputs (some_member (codes "prior_state") prior
    (member (codes "resource_changes") (array (items_of made)) (member (codes "terraform_version") (string (codes "1.0.0")) (member (codes "variables") (object (members_by variable_data variables)) no_members)))))))

abbrev pub document_data : Entries → Option Data → Option Data → List Data → Data
document_data variables outputs prior made = object (document_members variables outputs prior made)

abbrev pub document_count : Option Data → Option Data → ℕ
document_count outputs prior = 6 + one_if_some outputs + one_if_some prior

-- the document of a plan and the changes of its outputs: each of these, the state that the plan starts from, and each
-- change of an object once, in address order
abbrev pub plan_data : PlanView → List OutputChangeView → Data
plan_data plan outputs = document_data plan.variables (output_changes_data outputs) (prior_of plan.prior) (each (change_data plan) (changes plan.late plan.actions))

-- the one text of the document of a plan
pub record IsJsonText (plan : PlanView) (text : List ℕ) : Type 0 where
  pub outputs : List OutputChangeView
  pub planned : AreOutputChanges plan outputs
  pub prints : text ≡ text_of (plan_data plan outputs)
