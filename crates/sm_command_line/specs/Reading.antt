-- What the words ask for.
use Rattle.std.specs.Prelude.{ℕ, Bool, false, ◌≤◌, ◌^◌, ◌&&◌, if◌then◌else◌, nat_lt, List, [], ◌∷◌, Option, Some, None, unwrap_or}
use Rattle.std.specs.Prelude.{option_and_then, Result, Ok, Err, codes}
use Rattle.std.specs.Str.{bytes_eq}
use Rattle.std.specs.Str.Parse.{digits_value, without_leading_plus}
use Rattle.clap.specs.Words.{Kinds, Row, Text, first_of, one_of}
use Rattle.clap.specs.ValueTests.{is_numeral}
use Rattle.sm_base.specs.declared.limits.TheConstants.{CONNECTION_WORKERS_LIMIT, ROTATION_WORKERS_LIMIT}
use Rattle.sm_command_line.specs.declared.settings.Mode.{Mode}
use Rattle.sm_command_line.specs.declared.settings.Mode.TheVariants.{Exec, Serve, Check, Drill, Agent, Ship, Follow}
use Rattle.sm_command_line.specs.declared.settings.Settings.{Settings}
use Rattle.sm_command_line.specs.declared.settings.WordsRefused.{WordsRefused}
use Rattle.sm_command_line.specs.declared.settings.WordsRefused.TheVariants.{Refused, Memory}
use Rattle.sm_command_line.specs.Command.{faults, found}

abbrev pub mode_named : Text → Mode
mode_named name = if bytes_eq name (codes "serve") then Serve else (if bytes_eq name (codes "check") then Check
    else (if bytes_eq name (codes "drill") then Drill else (if bytes_eq name (codes "agent") then Agent
    else (if bytes_eq name (codes "ship") then Ship else (if bytes_eq name (codes "follow") then Follow else Exec)))))

abbrev pub mode_of : Option Text → Mode
mode_of None = Exec
mode_of (Some name) = mode_named name

-- the number that a text spells, where it has at most so many bits
abbrev pub number_in : ℕ → Text → Option ℕ
number_in bits text =
    let digits = without_leading_plus text in
    if is_numeral digits && nat_lt (digits_value 10 digits) (2 ^ bits) then Some (digits_value 10 digits) else None

abbrev pub number_of : ℕ → Text → List Row → Option ℕ
number_of bits name rows = option_and_then (number_in bits) (one_of name rows)

-- a flag's value where it stands among the words
abbrev pub is_set : Option Text → Bool
is_set None = false
is_set (Some value) = bytes_eq value (codes "true")

-- each option's value, or what stands for it
abbrev pub settings_in : List Row → Settings
settings_in rows = record {
  mode = mode_of (first_of (codes "mode") rows);
  folder = first_of (codes "data") rows;
  people = first_of (codes "people") rows;
  listen = unwrap_or (first_of (codes "listen") rows) (codes "127.0.0.1:7777");
  rotator = unwrap_or (first_of (codes "rotator") rows) (codes "local");
  connections = unwrap_or (number_of 32 (codes "connections") rows) 4;
  workers = unwrap_or (number_of 32 (codes "workers") rows) 2;
  number = number_of 64 (codes "number") rows;
  region = unwrap_or (first_of (codes "region") rows) (codes "us-east-1");
  log = is_set (first_of (codes "log") rows);
}

abbrev pub settings_if : Kinds → List Row → Option Settings
settings_if [] rows = Some (settings_in rows)
settings_if (kind ∷ kinds) rows = None

-- what the words ask for; nothing where something is wrong with them
abbrev pub settings_of : List Text → Option Settings
settings_of words = settings_if (faults words) (found words)

-- as many connections and workers as a server may have
abbrev pub IsInBounds : Settings → Type 0
IsInBounds settings =
    (1 ≤ settings.connections) × (settings.connections ≤ CONNECTION_WORKERS_LIMIT)
    × (settings.workers ≤ ROTATION_WORKERS_LIMIT)

-- an answer, where it is not lack of memory
abbrev pub told : Result Settings WordsRefused → Option (Option Settings)
told (Ok settings) = Some (Some settings)
told (Err Refused) = Some None
told (Err Memory) = None
