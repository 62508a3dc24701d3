-- No number of the document is a float.
use Rattle.std.proofs.Common.{◌≡◌, ℕ, pos, negsuc, ℤ, Bool, true, false, ◌||◌, List, [], ◌∷◌, ◌++◌, Option, Some, None, option_map, codes, refl, map as each}
use Rattle.std.proofs.lemmas.Bool.{or_parts}
use Rattle.std.specs.List.{flat_map}
use Rattle.std.specs.Prelude.{if◌then◌else◌}
use Rattle.serde_json.specs.Data as json
use Rattle.serde_json.specs.Find.{of_integer, is_float}
use Rattle.serde_json.specs.View.{items_of}
use Rattle.serde_json.specs.Written.{has_float, items_have_float, members_have_float}
use Rattle.tf_config_address.specs.ObjectId.{InstanceKeyView, single, number, name}
use Rattle.tf_config_address.specs.ResourceAddr.{ResourceAddrView}
use Rattle.tf_plan_changes.specs.Changes.{ChangeView, KindView, create_it, update_it, replace_it, replace_late, destroy_it, changes}
use Rattle.tf_plan_data.specs.Address.{address_text}
use Rattle.tf_plan_data.specs.Plan.{PlanView}
use Rattle.tf_plan_json.specs.Document.{path_data, actions_data, object_data, after_unknown_data, paths_of, paths_data, inner_data, entry_data, change_data, output_actions_data, output_unknown_data, output_change_data, output_members, output_changes_data, variable_data, plan_data}
use Rattle.tf_plan_json.specs.Members.{some_member, members_by}
use Rattle.tf_plan_json.specs.Parts.{false_items, is_leaf, known_data, known_items, known_members, unknown_data, unknown_items, unknown_members}
use Rattle.tf_plan_json.specs.Prior.{is_something, module_data, objects_data, objects_of, output_data, outputs_data, prior_data, prior_of, record_data, stored_data}
use Rattle.tf_plan_json.specs.Reasons.{provider_source}
use Rattle.tf_plan_outputs.specs.Changes as outputs
use Rattle.tf_plan_outputs.specs.Changes.{OutputActionView, OutputChangeView, action_of, no_op}
use Rattle.tf_state.specs.Text.{dependencies_data, flag_data, key_data}
use Rattle.tf_state_data.specs.Record.{RecordView}
use Rattle.tf_state_data.specs.Resource.{ResourceView}
use Rattle.tf_state_data.specs.State.{StateView}
use Rattle.tf_value_data.specs.Known.{known}
use Rattle.tf_value_data.specs.Tree.{Tree, whole as whole_number, list, map, set, Items, no_items, item, Entries, no_entries, entry, is_unknown}
use Rattle.tf_value_json.specs.Json.{value_data, items_data, entries_data, texts_data}

neither : (b c : Bool) → b ≡ false → c ≡ false → (b || c) ≡ false
neither b c e f = rw (e, f) refl

of_integer-whole : (z : ℤ) → is_float (of_integer z) ≡ false
of_integer-whole (pos n) = refl
of_integer-whole (negsuc n) = refl

texts_data-whole : (ss : List (List ℕ)) → items_have_float (texts_data ss) ≡ false
texts_data-whole [] = refl
texts_data-whole (s ∷ ss) = texts_data-whole ss

mutual
  value-whole : (t : Tree) → has_float (value_data t) ≡ false
  value-whole (whole_number z) = of_integer-whole z
  value-whole (list ts) = items-whole ts
  value-whole (map es) = entries-whole es
  value-whole (set ss) = texts_data-whole ss
  value-whole _ = refl

  items-whole : (ts : Items) → items_have_float (items_data ts) ≡ false
  items-whole no_items = refl
  items-whole (item t ts) = neither _ _ (value-whole t) (items-whole ts)

  entries-whole : (es : Entries) → members_have_float (entries_data es) ≡ false
  entries-whole no_entries = refl
  entries-whole (entry k t es) = neither _ _ (value-whole t) (entries-whole es)

-- the members without one, or with it
either-whole : (test : Bool) (k : List ℕ) (d : json.Data) (ms : json.Members) → has_float d ≡ false → members_have_float ms ≡ false → members_have_float (if test then ms else json.member k d ms) ≡ false
either-whole true k d ms e f = f
either-whole false k d ms e f = neither _ _ e f

mutual
  known-whole : (t : Tree) → has_float (known_data t) ≡ false
  known-whole (whole_number z) = of_integer-whole z
  known-whole (list ts) = known_items-whole ts
  known-whole (map es) = known_members-whole es
  known-whole (set ss) = texts_data-whole ss
  known-whole _ = refl

  known_items-whole : (ts : Items) → items_have_float (known_items ts) ≡ false
  known_items-whole no_items = refl
  known_items-whole (item t ts) = neither _ _ (known-whole t) (known_items-whole ts)

  known_members-whole : (es : Entries) → members_have_float (known_members es) ≡ false
  known_members-whole no_entries = refl
  known_members-whole (entry k t es) = either-whole (is_unknown t) k (known_data t) (known_members es) (known-whole t) (known_members-whole es)

false_items-whole : (ss : List (List ℕ)) → items_have_float (false_items ss) ≡ false
false_items-whole [] = refl
false_items-whole (s ∷ ss) = false_items-whole ss

mutual
  unknown-whole : (t : Tree) → has_float (unknown_data t) ≡ false
  unknown-whole (list ts) = unknown_items-whole ts
  unknown-whole (map es) = unknown_members-whole es
  unknown-whole (set ss) = false_items-whole ss
  unknown-whole _ = refl

  unknown_items-whole : (ts : Items) → items_have_float (unknown_items ts) ≡ false
  unknown_items-whole no_items = refl
  unknown_items-whole (item t ts) = neither _ _ (unknown-whole t) (unknown_items-whole ts)

  unknown_members-whole : (es : Entries) → members_have_float (unknown_members es) ≡ false
  unknown_members-whole no_entries = refl
  unknown_members-whole (entry k t es) = either-whole (is_leaf t) k (unknown_data t) (unknown_members es) (unknown-whole t) (unknown_members-whole es)

-- nothing, or something without floats
abbrev MayBeWhole : Option json.Data → Type 0
MayBeWhole None = Unit {0}
MayBeWhole (Some d) = has_float d ≡ false

some-whole : (k : List ℕ) (o : Option json.Data) (ms : json.Members) → MayBeWhole o → members_have_float ms ≡ false → members_have_float (some_member k o ms) ≡ false
some-whole k None ms e f = f
some-whole k (Some d) ms e f = neither _ _ e f

text-whole : (o : Option (List ℕ)) → MayBeWhole (option_map json.string o)
text-whole None = tt
text-whole (Some s) = refl

key-whole : (k : InstanceKeyView) → MayBeWhole (key_data k)
key-whole single = tt
key-whole (number n) = refl
key-whole (name s) = refl

paths_items-whole : (names : List (List ℕ)) → items_have_float (items_of (each path_data names)) ≡ false
paths_items-whole [] = refl
paths_items-whole (n ∷ names) = paths_items-whole names

paths_of-whole : (names : List (List ℕ)) → MayBeWhole (paths_of names)
paths_of-whole [] = tt
paths_of-whole (n ∷ names) = paths_items-whole names

paths-whole : (k : KindView) → MayBeWhole (paths_data k)
paths-whole (replace_it names) = paths_of-whole names
paths-whole (replace_late names) = paths_of-whole names
paths-whole _ = tt

actions-whole : (k : KindView) → has_float (actions_data k) ≡ false
actions-whole create_it = refl
actions-whole update_it = refl
actions-whole (replace_it names) = refl
actions-whole (replace_late names) = refl
actions-whole destroy_it = refl

object-whole : (o : Option Tree) → has_float (object_data o) ≡ false
object-whole None = refl
object-whole (Some t) = known-whole t

marks_if-whole : (test : Bool) (d : json.Data) → has_float d ≡ false → has_float (if test then json.object json.no_members else d) ≡ false
marks_if-whole true d e = refl
marks_if-whole false d e = e

after_unknown-whole : (o : Option Tree) → has_float (after_unknown_data o) ≡ false
after_unknown-whole None = refl
after_unknown-whole (Some t) = marks_if-whole (known t) (unknown_data t) (unknown-whole t)

inner-whole : (c : ChangeView) → has_float (inner_data c) ≡ false
inner-whole c =
    neither _ _ (actions-whole c.kind) (neither _ _ (object-whole c.after) (neither _ _ (after_unknown-whole c.after) (neither _ _ (object-whole c.before)
    (some-whole (codes "replace_paths") (paths_data c.kind) json.no_members (paths-whole c.kind) refl))))

entry-whole : (reason : Option (List ℕ)) (address provider : List ℕ) (c : ChangeView) → has_float (entry_data reason address provider c) ≡ false
entry-whole reason address provider c =
    some-whole (codes "action_reason") (option_map json.string reason) _ (text-whole reason)
    (neither _ _ refl (neither _ _ (inner-whole c) (some-whole (codes "deposed") (option_map json.string c.deposed) _ (text-whole c.deposed) (some-whole (codes "index") (key_data c.key) _ (key-whole c.key) refl))))

changes-whole : (plan : PlanView) (cs : List ChangeView) → items_have_float (items_of (each (change_data plan) cs)) ≡ false
changes-whole plan [] = refl
changes-whole plan (c ∷ cs) = neither _ _ (entry-whole _ _ _ c) (changes-whole plan cs)

members_by-whole : (form : Tree → json.Data) → ((t : Tree) → has_float (form t) ≡ false) → (es : Entries) → members_have_float (members_by form es) ≡ false
members_by-whole form each_whole no_entries = refl
members_by-whole form each_whole (entry k t es) = neither _ _ (each_whole t) (members_by-whole form each_whole es)

variable-whole : (t : Tree) → has_float (variable_data t) ≡ false
variable-whole t = neither _ _ (value-whole t) refl

-- ---- the prior state

flag-whole : (b : Bool) → MayBeWhole (flag_data b)
flag-whole true = refl
flag-whole false = tt

strings-whole : (ss : List (List ℕ)) → items_have_float (items_of (each json.string ss)) ≡ false
strings-whole [] = refl
strings-whole (s ∷ ss) = strings-whole ss

dependencies-whole : (ss : List (List ℕ)) → MayBeWhole (dependencies_data ss)
dependencies-whole [] = tt
dependencies-whole (s ∷ ss) = strings-whole ss

stored-whole : (address provider : List ℕ) (addr : ResourceAddrView) (r : RecordView) → has_float (stored_data address provider addr r) ≡ false
stored-whole address provider addr r =
    let typed = some-whole (codes "tainted") (flag_data r.tainted) (json.member (codes "type") (json.string addr.type_name) (json.member (codes "values") (value_data r.attributes) json.no_members)) (flag-whole r.tainted) (neither _ _ (value-whole r.attributes) refl) in
    neither _ _ refl
    (some-whole (codes "depends_on") (dependencies_data r.dependencies) _ (dependencies-whole r.dependencies)
    (some-whole (codes "deposed_key") (option_map json.string r.id.deposed) _ (text-whole r.id.deposed) (some-whole (codes "index") (key_data r.id.key) _ (key-whole r.id.key) typed)))

-- no item is a float
abbrev AreWhole : List json.Data → Type 0
AreWhole ds = items_have_float (items_of ds) ≡ false

both-whole : (ds es : List json.Data) → AreWhole ds → AreWhole es → AreWhole (ds ++ es)
both-whole [] es f g = g
both-whole (d ∷ ds) es f g = let h = or_parts (has_float d) (items_have_float (items_of ds)) f in neither _ _ h.0 (both-whole ds es h.1 g)

records-whole : (addr : ResourceAddrView) (rs : List RecordView) → AreWhole (each (record_data addr) rs)
records-whole addr [] = refl
records-whole addr (r ∷ rs) = neither _ _ (stored-whole (address_text addr r.id.key) (provider_source addr.type_name) addr r) (records-whole addr rs)

resources-whole : (rs : List ResourceView) → AreWhole (flat_map objects_of rs)
resources-whole [] = refl
resources-whole (r ∷ rs) = both-whole (objects_of r) (flat_map objects_of rs) (records-whole r.addr r.records) (resources-whole rs)

output-whole : (t : Tree) → has_float (output_data t) ≡ false
output-whole t = neither _ _ refl (neither _ _ (value-whole t) refl)

outputs-whole : (es : Entries) → MayBeWhole (outputs_data es)
outputs-whole no_entries = tt
outputs-whole (entry k t es) = members_by-whole output_data output-whole (entry k t es)

objects-whole : (ds : List json.Data) → AreWhole ds → MayBeWhole (objects_data ds)
objects-whole [] e = tt
objects-whole (d ∷ ds) e = e

prior_data-whole : (outputs : Entries) (ds : List json.Data) → AreWhole ds → has_float (prior_data outputs ds) ≡ false
prior_data-whole outputs ds e =
    let root : has_float (module_data ds) ≡ false = some-whole (codes "resources") (objects_data ds) json.no_members (objects-whole ds e) refl in
    let values = some-whole (codes "outputs") (outputs_data outputs) (json.member (codes "root_module") (module_data ds) json.no_members) (outputs-whole outputs) (neither _ _ root refl) in
    neither _ _ refl (neither _ _ refl (neither _ _ values refl))

some_if-whole : (test : Bool) (d : json.Data) → has_float d ≡ false → MayBeWhole (if test then Some d else None)
some_if-whole true d e = e
some_if-whole false d e = tt

prior-whole : (s : StateView) → MayBeWhole (prior_of s)
prior-whole s = let ds = flat_map objects_of s.resources in some_if-whole (is_something s.outputs ds) (prior_data s.outputs ds) (prior_data-whole s.outputs ds (resources-whole s.resources))

-- ---- the changes of outputs

output_actions-whole : (a : OutputActionView) → has_float (output_actions_data a) ≡ false
output_actions-whole no_op = refl
output_actions-whole outputs.create_it = refl
output_actions-whole outputs.update_it = refl
output_actions-whole outputs.delete_it = refl

false_if-whole : (test : Bool) (d : json.Data) → has_float d ≡ false → has_float (if test then json.boolean false else d) ≡ false
false_if-whole true d e = refl
false_if-whole false d e = e

output_unknown-whole : (o : Option Tree) → has_float (output_unknown_data o) ≡ false
output_unknown-whole None = refl
output_unknown-whole (Some t) = false_if-whole (known t) (unknown_data t) (unknown-whole t)

output_change-whole : (c : OutputChangeView) → has_float (output_change_data c) ≡ false
output_change-whole c =
    neither _ _ (output_actions-whole (action_of c)) (neither _ _ (object-whole c.after) (neither _ _ refl (neither _ _ (output_unknown-whole c.after) (neither _ _ (object-whole c.before) refl))))

output_members-whole : (cs : List OutputChangeView) → members_have_float (output_members cs) ≡ false
output_members-whole [] = refl
output_members-whole (c ∷ cs) = neither _ _ (output_change-whole c) (output_members-whole cs)

output_changes-whole : (cs : List OutputChangeView) → MayBeWhole (output_changes_data cs)
output_changes-whole [] = tt
output_changes-whole (c ∷ cs) = output_members-whole (c ∷ cs)

-- ---- the document

pub plan-whole : (plan : PlanView) (cs : List OutputChangeView) → has_float (plan_data plan cs) ≡ false
plan-whole plan cs =
    neither _ _ refl (neither _ _ refl (neither _ _ refl (some-whole (codes "output_changes") (output_changes_data cs) _ (output_changes-whole cs) (some-whole (codes "prior_state") (prior_of plan.prior) _ (prior-whole plan.prior)
    (neither _ _ (changes-whole plan (changes plan.late plan.actions)) (neither _ _ refl (neither _ _ (members_by-whole variable_data variable-whole plan.variables) refl)))))))
