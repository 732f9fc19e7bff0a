-- The command as clap reads it: its options, in the order of its help, and what their values may be.
use Rattle.std.specs.Prelude.{◌≡◌, ℕ, true, List, [], ◌∷◌, Some, codes, map}
use Rattle.std.specs.Borrow.{Bor}
use Rattle.clap.specs.Words.{App, Kinds, Row, Rule, Text, fault_of, matches_of, new_app, new_rule, with_rule}
use Rattle.clap.specs.Simple.{on_top}
use Rattle.clap.specs.declared.builder.action.ArgAction.TheVariants.{SetTrue}
use Rattle.clap.specs.declared.builder.value_parser.ValueParser.TheVariants as values
use Rattle.sm_base.specs.declared.limits.TheConstants.{CONNECTION_WORKERS_LIMIT, ROTATION_WORKERS_LIMIT}

-- an option of this name that takes one value
abbrev pub option_rule : Text → Rule
option_rule name = record (new_rule name) { long = Some name; value_names = 1 }

-- an option with its value where it is not given
abbrev pub with_default : Text → Rule → Rule
with_default value rule = record rule { defaults = value ∷ [] }

-- an option whose value is a number from low to high
abbrev pub number_from : ℕ → ℕ → Text → Rule
number_from low high name = record (option_rule name) { parser = Some (values.Unsigned low high) }

-- a list of names, and where each lies in memory
abbrev pub Names : Type 0
Names = Bor (List (Bor Text))

abbrev pub mode_rule : Names → Rule
mode_rule names =
    with_default (codes "exec") (record (option_rule (codes "mode")) { parser = Some (values.Names names) })

abbrev pub mode_names : List Text
mode_names = codes "exec" ∷ codes "serve" ∷ codes "check" ∷ codes "drill" ∷ codes "agent" ∷ codes "ship"
    ∷ codes "follow" ∷ []

abbrev pub AreModeNames : Names → Type 0
AreModeNames names = map (λ name. name.now) names.now ≡ mode_names

-- the rule of `--mode`, wherever the names lie
abbrev pub IsModeRule : Rule → Type 0
IsModeRule rule = (names : Names) × AreModeNames names × (rule ≡ mode_rule names)

abbrev pub data_rule : Rule
data_rule = option_rule (codes "data")

abbrev pub people_rule : Rule
people_rule = option_rule (codes "people")

abbrev pub listen_rule : Rule
listen_rule = with_default (codes "127.0.0.1:7777") (option_rule (codes "listen"))

abbrev pub rotator_rule : Rule
rotator_rule = with_default (codes "local") (option_rule (codes "rotator"))

abbrev pub connections_rule : Rule
connections_rule = with_default (codes "4") (number_from 1 CONNECTION_WORKERS_LIMIT (codes "connections"))

abbrev pub workers_rule : Rule
workers_rule = with_default (codes "2") (number_from 0 ROTATION_WORKERS_LIMIT (codes "workers"))

abbrev pub number_rule : Rule
number_rule = number_from 0 18446744073709551615 (codes "number")

abbrev pub region_rule : Rule
region_rule = with_default (codes "us-east-1") (option_rule (codes "region"))

-- a flag: a word without a value
abbrev pub log_rule : Rule
log_rule = record (new_rule (codes "log")) { long = Some (codes "log"); action = Some SetTrue }

-- the command without its options: its words stand without the program's name, and it has a version
abbrev pub bare_app : App
bare_app = on_top (λ s. record s { no_binary_name = true; has_version = true }) (new_app (codes "secretsd"))

-- the command, with the names of the modes where they lie
abbrev pub app_at : Names → App
app_at names = with_rule (with_rule (with_rule (with_rule (with_rule (with_rule (with_rule (with_rule (with_rule
    (with_rule bare_app (mode_rule names)) data_rule) people_rule) listen_rule) rotator_rule) connections_rule)
    workers_rule) number_rule) region_rule) log_rule

-- the command, wherever the names lie
abbrev pub IsApp : App → Type 0
IsApp app = (names : Names) × AreModeNames names × (app ≡ app_at names)

-- the names, where nothing is said of where they lie
abbrev pub placeless_names : Names
placeless_names = record { ref_ptr = (0, 0); now = map (λ name. record { ref_ptr = (0, 0); now = name }) mode_names }

-- the command
abbrev pub app : App
app = app_at placeless_names

-- what is wrong with the words, by kinds: nothing where they are taken
unfoldable pub faults : List Text → Kinds
faults words = fault_of app words

-- what the words give, a row for each option that is given or has a default
unfoldable pub found : List Text → List Row
found words = matches_of app words
