-- The text of a plan with old and new values.
use Rattle.std.specs.Prelude.{ℕ, Bool, true, false, ◌==◌, if◌then◌else◌, ◌+◌, List, [], ◌∷◌, ◌++◌, codes, decimal, Option, Some, None}
use Rattle.std.specs.List.{flat_map, list_any}
use Rattle.std.specs.Str.{bytes_eq}
use Rattle.tf_plan_changes.specs.Changes.{ChangeView, KindView, create_it, update_it, replace_it, replace_late, destroy_it, changes}
use Rattle.tf_plan_data.specs.Action.{ActionView}
use Rattle.tf_plan_data.specs.Address.{address_text}
use Rattle.tf_plan_data.specs.Plan.{PlanView}
use Rattle.tf_plan_diff.specs.Safe.{line}
use Rattle.tf_plan_diff.specs.Symbols.{symbol}
use Rattle.tf_plan_diff.specs.declared.headings.Colours.{Colours}
use Rattle.tf_plan_text.specs.Shown.{shown}
use Rattle.tf_plan_text.specs.Text.{adds, changes as updates, destroys, count_of, summary_line}
use Rattle.tf_value_data.specs.Tree as tree
use Rattle.tf_value_data.specs.Tree.{part_at, same}

-- ---- one attribute

abbrev pub shown_new : List ℕ → tree.Tree → List ℕ
shown_new name t = codes "    " ++ name ++ codes " = " ++ shown t

abbrev pub shown_gone : List ℕ → tree.Tree → List ℕ
shown_gone name t = shown_new name t ++ codes " -> null"

-- the remark behind an attribute whose change forces a replacement
abbrev pub forced : List (List ℕ) → List ℕ → List ℕ
forced names name = if list_any (bytes_eq name) names then codes " # forces replacement" else []

abbrev pub shown_change : List (List ℕ) → List ℕ → tree.Tree → tree.Tree → List ℕ
shown_change names name old new = shown_new name old ++ codes " -> " ++ shown new ++ forced names name

-- the line of a new object's attribute; an attribute that is null has no line
abbrev pub new_line : List ℕ → tree.Tree → List ℕ
new_line name tree.null = []
new_line name t = line (shown_new name t)

-- the line of an attribute of an object that is destroyed
abbrev pub gone_line : List ℕ → tree.Tree → List ℕ
gone_line name tree.null = []
gone_line name t = line (shown_gone name t)

-- the line of an attribute that changes; one that doesn't has no line
abbrev pub changed_line : List (List ℕ) → List ℕ → tree.Tree → tree.Tree → List ℕ
changed_line names name old new = if same old new then [] else line (shown_change names name old new)

-- ---- an object

abbrev pub new_lines : tree.Entries → List ℕ
new_lines tree.no_entries = []
new_lines (tree.entry name t es) = new_line name t ++ new_lines es

abbrev pub new_object : tree.Tree → List ℕ
new_object (tree.map es) = new_lines es
new_object _ = []

abbrev pub gone_lines : tree.Entries → List ℕ
gone_lines tree.no_entries = []
gone_lines (tree.entry name t es) = gone_line name t ++ gone_lines es

abbrev pub gone_object : tree.Tree → List ℕ
gone_object (tree.map es) = gone_lines es
gone_object _ = []

abbrev pub or_null : Option tree.Tree → tree.Tree
or_null None = tree.null
or_null (Some t) = t

-- the value that an attribute had, or null
abbrev pub old_at : Option tree.Tree → List ℕ → tree.Tree
old_at None name = tree.null
old_at (Some before) name = or_null (part_at name before)

-- the attributes of the new object that changed, those in the list with the remark
abbrev pub changed_lines : List (List ℕ) → Option tree.Tree → tree.Entries → List ℕ
changed_lines names before tree.no_entries = []
changed_lines names before (tree.entry name t es) = changed_line names name (old_at before name) t ++ changed_lines names before es

-- an attribute isn't null and doesn't change
abbrev pub is_hidden : tree.Tree → tree.Tree → Bool
is_hidden old tree.null = false
is_hidden old new = same old new

abbrev pub hidden_count : Option tree.Tree → tree.Entries → ℕ
hidden_count before tree.no_entries = 0
hidden_count before (tree.entry name t es) = (if is_hidden (old_at before name) t then 1 else 0) + hidden_count before es

abbrev pub hidden_words : ℕ → List ℕ
hidden_words n = codes "    # (" ++ decimal n ++ codes " unchanged attributes hidden)"

-- how many attributes aren't shown, if there are any
abbrev pub hidden_line : ℕ → List ℕ
hidden_line n = if n == 0 then [] else (if n == 1 then line (codes "    # (1 unchanged attribute hidden)") else line (hidden_words n))

-- the attributes that change from one object to another
abbrev pub between : List (List ℕ) → Option tree.Tree → tree.Tree → List ℕ
between names before (tree.map es) = changed_lines names before es ++ hidden_line (hidden_count before es)
between names before _ = []

abbrev pub if_some : (tree.Tree → List ℕ) → Option tree.Tree → List ℕ
if_some f None = []
if_some f (Some t) = f t

abbrev pub attributes_of : KindView → Option tree.Tree → Option tree.Tree → List ℕ
attributes_of create_it before after = if_some new_object after
attributes_of update_it before after = if_some (between [] before) after
attributes_of (replace_it names) before after = if_some (between names before) after
attributes_of (replace_late names) before after = if_some (between names before) after
attributes_of destroy_it before after = if_some gone_object before

-- ---- a change

-- an object is replaced because it is tainted
abbrev pub is_tainted : KindView → Bool
is_tainted (replace_it []) = true
is_tainted (replace_late []) = true
is_tainted _ = false

abbrev pub taint_words : List ℕ → List ℕ
taint_words address = codes "# " ++ address ++ codes " is tainted, so it is replaced"

-- the line above the change of a tainted object
abbrev pub taint_note : KindView → List ℕ → List ℕ
taint_note kind address = if is_tainted kind then line (taint_words address) else []

-- what is behind the symbol: the address, and the key of the object if it is deposed
abbrev pub address_words : List ℕ → Option (List ℕ) → List ℕ
address_words address None = codes " " ++ address
address_words address (Some key) = codes " " ++ address ++ codes " (deposed " ++ key ++ codes ")"

-- the lines above the attributes of a change
abbrev pub heading : Colours → ChangeView → List ℕ
heading colours c =
    let address = address_text c.addr c.key in
    taint_note c.kind address ++ (symbol colours c.kind ++ line (address_words address c.deposed))

abbrev pub change_lines : Colours → ChangeView → List ℕ
change_lines colours c = heading colours c ++ attributes_of c.kind c.before c.after

-- the lines of each change, and the last line of the plan's text
abbrev pub lines_of : Colours → (ℕ → Bool) → List ActionView → List ℕ
lines_of colours late [] = codes "No changes.\n"
lines_of colours late (a ∷ others) =
    let actions = a ∷ others in
    flat_map (change_lines colours) (changes late actions) ++ summary_line (count_of adds actions) (count_of updates actions) (count_of destroys actions)

abbrev pub diff_text : Colours → PlanView → List ℕ
diff_text colours plan = lines_of colours plan.late plan.actions
