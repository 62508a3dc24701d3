-- The options, as read from what `clap` finds in the words.
use Rattle.std.specs.Prelude.{◌≡◌, ℕ, Bool, true, false, if◌then◌else◌, List, [], ◌∷◌, map, Option, Some, None, MatchOption, codes, option_and_then, option_map, unwrap_or, string_bytes}
use Rattle.std.specs.Str.{bytes_eq}
use Rattle.std.specs.Str.Parse.{digits_value, without_leading_plus}
use Rattle.clap.specs.Words.{IsUnsignedIn, Row, Text, all_of, first_of, one_of}
use Rattle.tf_cli_options.specs.declared.words.GraphForm.{GraphForm}
use Rattle.tf_cli_options.specs.declared.words.GraphForm.TheVariants.{Dot}
use Rattle.tf_cli_options.specs.declared.words.Options.{Options}
use Rattle.tf_cli_options.specs.declared.words.VariableSource.{VariableSource}
use Rattle.tf_cli_options.specs.declared.words.VariableSource.TheVariants.{File, Assignment}

-- the given value of an option, or its default
abbrev pub given_or : Text → Text → List Row → Text
given_or name default rows = unwrap_or (first_of name rows) default

-- The number of workers: if a text is given that is the decimal form of a number of 1 to 64, that number. (Any other
-- text is refused.) If no text is given, 10.
abbrev pub IsWorkers : Option Text → ℕ → Type 0
IsWorkers given n = MatchOption given (n ≡ 10) (λ text. IsUnsignedIn 1 64 text → n ≡ digits_value 10 (without_leading_plus text))

-- The number of calls: if a text is given that is the decimal form of a number of 0 to 2,000, that number. (Any other
-- text is refused.) If no text is given, no number.
abbrev pub IsStop : Option Text → Option ℕ → Type 0
IsStop given calls = MatchOption given (calls ≡ None) (λ text. IsUnsignedIn 0 2000 text → calls ≡ Some (digits_value 10 (without_leading_plus text)))

-- the form that a word names
abbrev pub form_named : Text → Option GraphForm
form_named name = if bytes_eq name (codes "dot") then Some Dot else None

-- A flag is set if the text is `true`, and not set if it is `false` or there is no text.
abbrev pub IsFlag : Option Text → Bool → Type 0
IsFlag given set = MatchOption given (set ≡ false) (λ text. (text ≡ codes "true" → set ≡ true) × (text ≡ codes "false" → set ≡ false))

-- the files among sources of values, in order
abbrev pub files_in : List VariableSource → List Text
files_in [] = []
files_in (File name ∷ sources) = string_bytes name ∷ files_in sources
files_in (Assignment text ∷ sources) = files_in sources

-- the assignments among sources of values, in order
abbrev pub assignments_in : List VariableSource → List Text
assignments_in [] = []
assignments_in (File name ∷ sources) = assignments_in sources
assignments_in (Assignment text ∷ sources) = string_bytes text ∷ assignments_in sources

-- the files that are given of variables' values
abbrev pub files_given : List Row → List Text
files_given rows = unwrap_or (all_of (codes "vars") rows) []

-- the assignments that are given
abbrev pub assignments_given : List Row → List Text
assignments_given rows = unwrap_or (all_of (codes "var") rows) []

-- the folders that are given of providers outside the program
abbrev pub providers_given : List Row → List Text
providers_given rows = unwrap_or (all_of (codes "provider") rows) []

-- Each option has its given value, or its default. The sources of variables' values, and the files of a stop and of calls in flight
-- have no default.
pub record Reads (o : Options) (rows : List Row) : Type 0 where
  pub config : string_bytes o.config ≡ given_or (codes "config") (codes "main.tf.json") rows
  pub files : files_in o.variables.items ≡ files_given rows
  pub assignments : assignments_in o.variables.items ≡ assignments_given rows
  pub state : string_bytes o.state ≡ given_or (codes "state") (codes "terraform.tfstate") rows
  pub lineage : string_bytes o.lineage ≡ given_or (codes "lineage") (codes "00000000-0000-0000-0000-000000000000") rows
  pub parallelism : IsWorkers (one_of (codes "parallelism") rows) o.parallelism
  pub stop_after : IsStop (one_of (codes "stop-after") rows) o.stop_after
  pub graph : o.graph ≡ option_and_then form_named (first_of (codes "graph") rows)
  pub json : IsFlag (one_of (codes "json") rows) o.json
  pub detailed_exitcode : IsFlag (one_of (codes "detailed-exitcode") rows) o.detailed_exitcode
  pub progress : IsFlag (one_of (codes "progress") rows) o.progress
  pub auto_approve : IsFlag (one_of (codes "auto-approve") rows) o.auto_approve
  pub stop_file : option_map (λ s. string_bytes s) o.stop_file ≡ first_of (codes "stop-file") rows
  pub in_flight : option_map (λ s. string_bytes s) o.in_flight ≡ first_of (codes "in-flight") rows
  pub explain : IsFlag (one_of (codes "explain") rows) o.explain
  pub diff : IsFlag (one_of (codes "diff") rows) o.diff
  pub providers : map (λ t. string_bytes t) o.providers.items ≡ providers_given rows
