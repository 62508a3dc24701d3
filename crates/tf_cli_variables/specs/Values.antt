-- The values that a source gives, and why it gives none.
use Rattle.std.specs.Prelude.{◌≡◌, ◌<◌, ◌≤◌, ◌==◌, ℕ, Bool, false, if◌then◌else◌, List, length, Option, Some, None, MatchOption, MatchResult, Result, String, codes, option_and_then, string_bytes, IsUtf8}
use Rattle.std.specs.Borrow.{Bor}
use Rattle.std.specs.List.{after_first, before_first, position_or_len}
use Rattle.std.specs.Str.{bytes_eq}
use Rattle.std.specs.declared.alloc.Global.{Global}
use Rattle.std.specs.BTreeMap.{BTreeMap}
use Rattle.serde_json.specs.Data.{Data, string, object, Members, no_members, member}
use Rattle.serde_json.specs.Find.{get}
use Rattle.serde_json.specs.Read.{read}
use Rattle.serde_json.specs.View.{members_view}
use Rattle.serde_json.specs.declared.value.Value.{Value}
use Rattle.tf_cli_variables.specs.declared.source.Cause.{Cause}
use Rattle.tf_cli_variables.specs.declared.source.Cause.TheVariants.{NotAFile, NoEqualsSign, Undeclared, NotJson}
use Rattle.tf_cli_variables.specs.declared.source.Source.{Source}
use Rattle.tf_cli_variables.specs.declared.source.Source.TheVariants.{File, Assignment}

abbrev pub Text : Type 0
Text = List ℕ

-- the bytes are UTF-8, and are this tree as `serde_json` reads it
abbrev pub IsTree : Text → Data → Type 0
IsTree bytes tree = IsUtf8 bytes × (read bytes ≡ Some tree)

-- the largest size of a variables file, in bytes
abbrev pub max_bytes : ℕ
max_bytes = 4194304

-- A file gives the members of its object, if it isn't too long.
abbrev pub IsFile : Text → Members → Type 0
IsFile bytes values = (length bytes ≤ max_bytes) × IsTree bytes (object values)

-- the place of the first `=` in a text, or its length
abbrev pub place_of_equals : Text → ℕ
place_of_equals text = position_or_len (λ c. c == 61) text

-- a text has an `=`
abbrev pub HasEquals : Text → Type 0
HasEquals text = place_of_equals text < length text

-- of `NAME=VALUE`, NAME
abbrev pub name_in : Text → Text
name_in text = before_first (λ c. c == 61) text

-- of `NAME=VALUE`, VALUE
abbrev pub value_in : Text → Text
value_in text = after_first (λ c. c == 61) text

-- the block of a variable in a configuration, if that declares the variable
abbrev pub block_of : Text → Data → Option Data
block_of name config = option_and_then (get name) (get (codes "variable") config)

-- a `type` is `string`
abbrev pub is_string_type : Option Data → Bool
is_string_type (Some (string text)) = bytes_eq text (codes "string")
is_string_type _ = false

-- a variable's block has `"type": "string"`
abbrev pub is_string : Data → Bool
is_string block = is_string_type (get (codes "type") block)

-- The value that a text gives to a variable with this block: the text itself if the type is `string`, or else the value of
-- the text as JSON, if it is JSON.
abbrev pub value_from : Data → Text → Option Data
value_from block text = if is_string block then Some (string text) else read text

-- An assignment of a declared name gives that name its value.
abbrev pub IsAssigned : Data → Text → Members → Type 0
IsAssigned config text values =
    HasEquals text × (block : Data) × (block_of (name_in text) config ≡ Some block)
    × (value : Data) × (value_from block (value_in text) ≡ Some value) × (values ≡ member (name_in text) value no_members)

-- the values that a source gives, by name
abbrev pub GivesValues : Data → Source → Members → Type 0
GivesValues config (File bytes) values = IsFile bytes.items values
GivesValues config (Assignment text) values = IsAssigned config (string_bytes text) values

-- why a file gives none
abbrev pub IsBadFile : Text → Cause → Type 0
IsBadFile bytes NotAFile = (values : Members) → ¬ IsFile bytes values
IsBadFile bytes _ = ⊥

-- why an assignment gives none
abbrev pub IsBadAssignment : Data → Text → Cause → Type 0
IsBadAssignment config text NoEqualsSign = ¬ HasEquals text
IsBadAssignment config text Undeclared = HasEquals text × (block_of (name_in text) config ≡ None)
IsBadAssignment config text NotJson =
    HasEquals text × (block : Data) × (block_of (name_in text) config ≡ Some block) × (value_from block (value_in text) ≡ None)
IsBadAssignment config text NotAFile = ⊥

-- why a source gives none
abbrev pub IsBadSource : Data → Source → Cause → Type 0
IsBadSource config (File bytes) cause = IsBadFile bytes.items cause
IsBadSource config (Assignment text) cause = IsBadAssignment config (string_bytes text) cause

-- ---- what functions find

-- the values of a map
abbrev pub Found : Type 0
Found = Result (BTreeMap (String Global) Value) Cause

-- the values of a file, or why it gives none
abbrev pub FindsInFile : Text → Found → Type 0
FindsInFile bytes found = MatchResult found (λ values. IsFile bytes (members_view values.entries)) (IsBadFile bytes)

-- the value of an assignment, or why it gives none
abbrev pub FindsAssigned : Data → Text → Found → Type 0
FindsAssigned config text found =
    MatchResult found (λ values. IsAssigned config text (members_view values.entries)) (IsBadAssignment config text)

-- the values of a source, or why it gives none
abbrev pub FindsValues : Data → Source → Found → Type 0
FindsValues config source found =
    MatchResult found (λ values. GivesValues config source (members_view values.entries)) (IsBadSource config source)

-- the two parts of a text with an `=`
abbrev pub IsSplit : Text → Option (Bor Text × Bor Text) → Type 0
IsSplit text parts =
    MatchOption parts (place_of_equals text ≡ length text)
    (λ p. HasEquals text × (p.0.now ≡ name_in text) × (p.1.now ≡ value_in text))
