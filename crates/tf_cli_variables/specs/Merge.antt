-- The values of several sources, merged.
use Rattle.std.specs.Prelude.{◌≡◌, ◌≤◌, ℕ, false, if◌then◌else◌, List, [], ◌∷◌, take, Option, Some, None, MatchOption, IsUtf8}
use Rattle.std.specs.List.{slice_get}
use Rattle.std.specs.Str.{bytes_eq}
use Rattle.serde_json.specs.Data.{Data, object, depth, Members, no_members, member, put}
use Rattle.serde_json.specs.Find.{get_member}
use Rattle.serde_json.specs.Read.{max_depth, read}
use Rattle.serde_json.specs.Written.{compact_text, has_float}
use Rattle.tf_cli_variables.specs.Values.{GivesValues, IsBadSource, IsTree, Text}
use Rattle.tf_cli_variables.specs.declared.source.Cause.{Cause}
use Rattle.tf_cli_variables.specs.declared.source.MergeFault.{MergeFault}
use Rattle.tf_cli_variables.specs.declared.source.MergeFault.TheVariants.{OutOfMemory, Configuration, BadSource}
use Rattle.tf_cli_variables.specs.declared.source.Source.{Source}

-- each source gives the values at its place
abbrev pub EachGives : Data → List Source → List Members → Type 0
EachGives config [] [] = Unit {0}
EachGives config (source ∷ sources) (values ∷ given) = GivesValues config source values × EachGives config sources given
EachGives config _ _ = ⊥

-- a value, or another one if there is none
abbrev pub or_value : Option Data → Option Data → Option Data
or_value (Some value) other = Some value
or_value None other = other

-- the value of a name, of its last member if it has several (an object that was read has one)
abbrev pub member_value : Text → Members → Option Data
member_value name no_members = None
member_value name (member other value values) = or_value (member_value name values) (if bytes_eq name other then Some value else None)

-- the value of a name in the last of these that have it
abbrev pub last_value : Text → List Members → Option Data
last_value name [] = None
last_value name (values ∷ later) = or_value (last_value name later) (member_value name values)

-- values, with each of the given ones at its name
abbrev pub put_each : Members → Members → Members
put_each no_members values = values
put_each (member name value given) values = put_each given (put name value values)

-- values, with the given ones of each in turn
abbrev pub put_all : List Members → Members → Members
put_all [] values = values
put_all (first ∷ later) values = put_all later (put_each first values)

-- The text is this value, on one line, as `serde_json` reads and prints it. (It reads no value that is nested deeper than
-- `max_depth`.)
pub record IsTextOf (bytes : Text) (value : Data) : Type 0 where
  pub utf8 : IsUtf8 bytes
  pub reads : depth value ≤ max_depth → read bytes ≡ Some value
  pub prints : has_float value ≡ false → bytes ≡ compact_text value

-- The merged values: each name has the value of the last source that has it. An object has each name once, in byte order.
pub record AreMerged (given : List Members) (values : Members) : Type 0 where
  pub last : (name : Text) → get_member name values ≡ last_value name given
  pub once : values ≡ put_all given no_members

-- the values of sources, with those of later ones in place of earlier ones
abbrev pub AreValues : Data → List Source → Members → Type 0
AreValues config sources values = (given : List Members) × EachGives config sources given × (values ≡ put_all given no_members)

-- The text is that of an object with the merged values of the sources.
abbrev pub IsMerge : Text → List Source → Text → Type 0
IsMerge config sources bytes =
    (tree : Data) × IsTree config tree × (given : List Members) × EachGives tree sources given
    × (values : Members) × AreMerged given values × IsTextOf bytes (object values)

-- The configuration isn't JSON.
abbrev pub IsNotJson : Text → Type 0
IsNotJson config = (tree : Data) → ¬ IsTree config tree

-- This source is the first one that gives no values, for this cause.
abbrev pub IsBadAt : Data → List Source → ℕ → Cause → Type 0
IsBadAt config sources position cause =
    ((given : List Members) × EachGives config (take position sources) given)
    × MatchOption (slice_get sources position) ⊥ (λ source. IsBadSource config source cause)

-- This source is the first one that gives no values, for this cause, by the configuration of this text.
abbrev pub IsFirstBad : Text → List Source → ℕ → Cause → Type 0
IsFirstBad config sources position cause = (tree : Data) × IsTree config tree × IsBadAt tree sources position cause

-- why sources aren't merged; memory may run out for any
abbrev pub IsUnmerged : Text → List Source → MergeFault → Type 0
IsUnmerged config sources OutOfMemory = Unit {0}
IsUnmerged config sources Configuration = IsNotJson config
IsUnmerged config sources (BadSource position cause) = IsFirstBad config sources position cause

-- a source gives no values, or memory ran out
abbrev pub HasBadSource : Data → List Source → MergeFault → Type 0
HasBadSource config sources OutOfMemory = Unit {0}
HasBadSource config sources Configuration = ⊥
HasBadSource config sources (BadSource position cause) = IsBadAt config sources position cause

-- why a configuration isn't read
abbrev pub IsUnread : Text → MergeFault → Type 0
IsUnread config OutOfMemory = Unit {0}
IsUnread config Configuration = IsNotJson config
IsUnread config (BadSource position cause) = ⊥
