-- The command line of the programs, as `clap` reads it.
use Rattle.std.specs.Prelude.{◌≡◌, true, [], ◌∷◌, List, map, Some, codes}
use Rattle.std.specs.Borrow.{Bor}
use Rattle.clap.specs.Simple.{on_top}
use Rattle.clap.specs.Words.{App, Rule, Text, new_app, new_rule, with_rule}
use Rattle.clap.specs.declared.builder.action.ArgAction.TheVariants.{Append, SetTrue}
use Rattle.clap.specs.declared.builder.value_parser.ValueParser.TheVariants as vp
use Rattle.tf_cli_options.specs.declared.words.Program.{Program}
use Rattle.tf_cli_options.specs.declared.words.Program.TheVariants.{Plan, Apply}

-- an option `--NAME VALUE`, which may be omitted
abbrev pub option_rule : Text → Rule
option_rule name = record (new_rule name) { long = Some name; value_names = 1 }

-- an option `--NAME VALUE`, with a default if it is omitted
abbrev pub default_rule : Text → Text → Rule
default_rule name default = record (option_rule name) { defaults = default ∷ [] }

-- the number of workers: a whole number of 1 to 64, by default 10
abbrev pub workers_rule : Rule
workers_rule = record (default_rule (codes "parallelism") (codes "10")) { parser = Some (vp.Unsigned 1 64) }

-- after how many calls to stop: a whole number of 0 to 2,000, or nothing
abbrev pub stop_rule : Rule
stop_rule = record (option_rule (codes "stop-after")) { parser = Some (vp.Unsigned 0 2000) }

-- The words that name the forms of a graph, borrowed.
abbrev pub Forms : Type 0
Forms = Bor (List (Bor Text))

-- there is one form, DOT
abbrev pub AreForms : Forms → Type 0
AreForms forms = map (λ form. form.now) forms.now ≡ codes "dot" ∷ []

-- the form in which the order is printed in place of the plan's text: one of these words, or nothing
abbrev pub graph_rule : Forms → Rule
graph_rule forms = record (option_rule (codes "graph")) { parser = Some (vp.Names forms) }

-- a flag `--NAME`
abbrev pub flag_rule : Text → Rule
flag_rule name = record (new_rule name) { long = Some name; action = Some SetTrue }

-- an option `--NAME VALUE`, which may be given several times
abbrev pub repeated_rule : Text → Rule
repeated_rule name = record (option_rule name) { action = Some Append }

-- a command that has a version
abbrev pub with_version : App → App
with_version a = on_top (λ s. record s { has_version = true }) a

-- The options of both programs, which have a version: the file of the configuration, the files with variables' values, the values of single variables,
-- the file of the state, the lineage of a new state, the number of workers, after how many calls to stop, whether errors are
-- explained, whether a plan is printed with the old values, whether JSON is printed, and the folders of providers outside the program.
unfoldable pub shared_app : App
shared_app =
    with_rule (with_rule (with_rule (with_rule (with_rule (with_rule (with_rule (with_rule (with_rule (with_rule (with_rule (with_version (new_app (codes "bixundor")))
    (default_rule (codes "config") (codes "main.tf.json")))
    (repeated_rule (codes "vars")))
    (repeated_rule (codes "var")))
    (default_rule (codes "state") (codes "terraform.tfstate")))
    (default_rule (codes "lineage") (codes "00000000-0000-0000-0000-000000000000")))
    workers_rule)
    stop_rule)
    (flag_rule (codes "explain")))
    (flag_rule (codes "diff")))
    (flag_rule (codes "json")))
    (repeated_rule (codes "provider"))

-- `plan` also draws a graph, and says by its status whether there are changes
abbrev pub plan_app : Forms → App
plan_app forms = with_rule (with_rule shared_app (graph_rule forms)) (flag_rule (codes "detailed-exitcode"))

-- `apply` also prints progress, may be kept from asking for approval, stops once a file exists, and reads the results of calls that
-- were in flight
abbrev pub apply_app : App
apply_app = with_rule (with_rule (with_rule (with_rule shared_app (flag_rule (codes "progress"))) (flag_rule (codes "auto-approve"))) (option_rule (codes "stop-file"))) (option_rule (codes "in-flight"))

-- the command line of a program
abbrev pub options_app : Program → Forms → App
options_app Plan forms = plan_app forms
options_app Apply forms = apply_app
