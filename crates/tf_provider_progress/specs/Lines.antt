-- The progress lines of a call.
use Rattle.std.specs.Prelude.{ℕ, Bool, true, false, if◌then◌else◌, ◌&&◌, ◌/◌, ◌%◌, List, [], ◌∷◌, ◌++◌, length, codes, decimal, nat_lt, not, Option, Some, None}
use Rattle.std.specs.List.{list_all}
use Rattle.tf_provider_protocol.specs.Meaning.{Answer, Asked, object, gone}
use Rattle.tf_provider_protocol.specs.declared.request.Op.{Op}
use Rattle.tf_provider_protocol.specs.declared.request.Op.TheVariants as op
use Rattle.tf_value_data.specs.Tree as tree
use Rattle.tf_value_data.specs.Tree.{part_at}

abbrev pub deposed_suffix : Option (List ℕ) → List ℕ
deposed_suffix None = []
deposed_suffix (Some key) = codes " (deposed " ++ key ++ codes ")"

-- the address, and the key of a deposed object, as in the plan's text
abbrev pub name : Asked → List ℕ
name a = a.address ++ deposed_suffix a.deposed

abbrev pub begin_word : Op → List ℕ
begin_word op.Create = codes ": Creating..."
begin_word op.Update = codes ": Modifying..."
begin_word op.Destroy = codes ": Destroying..."

abbrev pub end_word : Op → List ℕ
end_word op.Create = codes ": Creation"
end_word op.Update = codes ": Modifications"
end_word op.Destroy = codes ": Destruction"

-- a character that a terminal shows unchanged: an ASCII character that is no control character
abbrev pub is_printable : ℕ → Bool
is_printable b = not (nat_lt b 32) && nat_lt b 127

-- at most 80 printable characters
abbrev pub is_plain : List ℕ → Bool
is_plain bytes = not (nat_lt 80 (length bytes)) && list_all is_printable bytes

-- the id, if it is plain: another one would break the line, or control the terminal
abbrev pub in_brackets : List ℕ → List ℕ
in_brackets id = if is_plain id then codes " [id=" ++ id ++ codes "]" else []

abbrev pub id_text : Option tree.Tree → List ℕ
id_text (Some (tree.text id)) = in_brackets id
id_text _ = []

-- an object's attribute `id`, if it is a text
abbrev pub id_of : tree.Tree → List ℕ
id_of t = id_text (part_at (codes "id") t)

-- the same in the line of a call that is still running: `id=ID, `
abbrev pub in_still : List ℕ → List ℕ
in_still id = if is_plain id then codes "id=" ++ id ++ codes ", " else []

abbrev pub still_id_text : Option tree.Tree → List ℕ
still_id_text (Some (tree.text id)) = in_still id
still_id_text _ = []

abbrev pub still_id_of : tree.Tree → List ℕ
still_id_of t = still_id_text (part_at (codes "id") t)

abbrev pub still_id : Option tree.Tree → List ℕ
still_id None = []
still_id (Some t) = still_id_of t

abbrev pub id_suffix : Option tree.Tree → List ℕ
id_suffix None = []
id_suffix (Some t) = id_of t

-- `ADDRESS: Creating...`, with the id of the prior object
abbrev pub begun_line : Asked → List ℕ
begun_line a = name a ++ begin_word a.op ++ id_suffix a.prior ++ 10 ∷ []

-- seconds as in `5s`, `1m5s` and `2h1m5s`
abbrev pub duration : ℕ → List ℕ
duration s =
    if nat_lt s 60 then decimal (s % 60) ++ codes "s"
    else (if nat_lt s 3600 then decimal (s / 60 % 60) ++ codes "m" ++ decimal (s % 60) ++ codes "s"
    else decimal (s / 3600) ++ codes "h" ++ decimal (s / 60 % 60) ++ codes "m" ++ decimal (s % 60) ++ codes "s")

-- how long the call took, if the clock could be read
abbrev pub after : Option ℕ → List ℕ
after None = []
after (Some seconds) = codes " after " ++ duration seconds

abbrev pub still_word : Op → List ℕ
still_word op.Create = codes ": Still creating... ["
still_word op.Update = codes ": Still modifying... ["
still_word op.Destroy = codes ": Still destroying... ["

-- the beginning of the line of a call that is still running, up to its time
abbrev pub still_head : Asked → List ℕ
still_head a = name a ++ still_word a.op ++ still_id a.prior

-- `ADDRESS: Still creating... [10s elapsed]`, by its beginning
abbrev pub still_line : List ℕ → ℕ → List ℕ
still_line head seconds = head ++ duration seconds ++ codes " elapsed]\n"

-- how many calls are done, are running and failed, in the status line
abbrev pub status_counts : ℕ → ℕ → ℕ → List ℕ
status_counts done running failed = decimal done ++ codes " done, " ++ decimal running ++ codes " running, " ++ decimal failed ++ codes " failed"

abbrev pub for_seconds : Option ℕ → List ℕ
for_seconds None = []
for_seconds (Some seconds) = codes ", " ++ duration seconds

-- the oldest call that is running, with its seconds if the clock could be read
abbrev pub oldest : List ℕ → Option ℕ → List ℕ
oldest call seconds = codes ". Oldest: " ++ call ++ for_seconds seconds

-- The answer is what was asked for: an object for a create or an update, and no object for a destroy. Whether the
-- object is the promised one is reported later, with the diagnostics.
abbrev pub ended_well : Op → Option Answer → Bool
ended_well op.Create (Some (object t)) = true
ended_well op.Update (Some (object t)) = true
ended_well op.Destroy (Some gone) = true
ended_well _ _ = false

-- the object in the answer of a call that ended well
abbrev pub object_after : Bool → Option Answer → Option tree.Tree
object_after true (Some (object t)) = Some t
object_after _ _ = None

-- `ADDRESS: Creation complete after 0s [id=ID]`, or `ADDRESS: Creation errored after 0s`
abbrev pub ended_line : Asked → Option Answer → Option ℕ → List ℕ
ended_line a answer seconds =
    let is_well = ended_well a.op answer in
    name a ++ end_word a.op ++ (if is_well then codes " complete" else codes " errored") ++ after seconds ++ id_suffix (object_after is_well answer) ++ 10 ∷ []
